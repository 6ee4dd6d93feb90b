-- `moves::missing_move` meets its contract: the pin is missing, and fewer than the limit pass. Assumes nothing.
use mathlib.Core.Path.{sym, ◌∙◌}
use native.Mathlib.Omega.{arith}
use Rattle.model.specs.Record.{job_of}
use Rattle.channel.specs.Map.Numbers.{is-dart}
use Rattle.channel.specs.Map.Moving.{missing-shut, missing-open, grid-of}
use Rattle.channel.proofs.moves.missing_move.Goals as goal

pub through_missing-requires : goal.through_missing-requires
through_missing-requires c =
    omega (arith, grid-of _ _ _ c.missing_at.ensures c.if-missing_at.true)

pub returns-then-missing_at : goal.returns-then-missing_at
returns-then-missing_at c =
    missing-open (job_of c.args.job.now) c.args.loads.now c.args.d (is-dart c.requires.2) c.requires.3
    (sym c.missing_at.ensures ∙ c.if-missing_at.true) _ _
    c.through_missing.ensures.0 c.missing_most.ensures.0

pub returns : goal.returns
returns c =
    missing-shut (job_of c.args.job.now) c.args.loads.now c.args.d (is-dart c.requires.2) c.requires.3 (sym c.missing_at.ensures ∙ c.if-missing_at.false)
