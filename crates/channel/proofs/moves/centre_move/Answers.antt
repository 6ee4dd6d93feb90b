-- `moves::centre_move` meets its contract: the tile is open, and fewer than the limit pass. Assumes nothing.
use mathlib.Core.Path.{sym, ◌∙◌}
use native.Mathlib.Omega.{arith}
use Rattle.model.specs.Record.{job_of}
use Rattle.channel.specs.Map.Numbers.{is-dart}
use Rattle.channel.specs.Map.Moving.{centre-shut, centre-open, grid-of}
use Rattle.channel.proofs.moves.centre_move.Goals as goal

pub through_centre-requires : goal.through_centre-requires
through_centre-requires c =
    omega (arith, grid-of _ _ _ c.open_at.ensures c.if-open_at.true)

pub centre_most-requires : goal.centre_most-requires
centre_most-requires c = omega (arith, grid-of _ _ _ c.open_at.ensures c.if-open_at.true)

pub returns-then-open_at : goal.returns-then-open_at
returns-then-open_at c =
    centre-open (job_of c.args.job.now) c.args.loads.now c.args.d (is-dart c.requires.2) c.requires.3
    (sym c.open_at.ensures ∙ c.if-open_at.true) _ _
    c.through_centre.ensures.0 c.centre_most.ensures.0

pub returns : goal.returns
returns c =
    centre-shut (job_of c.args.job.now) c.args.loads.now c.args.d (is-dart c.requires.2) c.requires.3 (sym c.open_at.ensures ∙ c.if-open_at.false)
