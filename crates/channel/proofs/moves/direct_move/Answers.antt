-- `moves::direct_move` meets its contract: a wire the other way, or room. Assumes nothing.
use mathlib.Core.Logic.{inr}
use Rattle.model.specs.Record.{job_of}
use Rattle.channel.specs.Map.Numbers.{is-dart}
use Rattle.channel.specs.Map.Moving.{plain_back, plain-room}
use Rattle.channel.proofs.moves.direct_move.Goals as goal

pub returns-then-load_against-gt0 : goal.returns-then-load_against-gt0
returns-then-load_against-gt0 c =
    plain_back (job_of c.args.job.now) c.args.loads.now c.args.d (is-dart c.requires.2) (inr (inr c.requires.3)) _ c.load_against.ensures.0
    c.if-load_against-gt0.true

pub returns : goal.returns
returns c =
    plain-room (job_of c.args.job.now) c.args.loads.now c.args.d (is-dart c.requires.2) (inr (inr c.requires.3)) _ _ _
    c.load_against.ensures.0
    c.if-load_against-gt0.false c.load_along.ensures.0 c.direct_limit.ensures
