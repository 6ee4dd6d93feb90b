-- `moves::into_move` meets its contract: the dart is free, and no wire goes the other way. Assumes nothing.
use Rattle.model.specs.Record.{job_of}
use Rattle.channel.specs.Map.Numbers.{is-dart}
use Rattle.channel.specs.Map.Moving.{into-shut, into-open}
use Rattle.channel.proofs.moves.into_move.Goals as goal

pub returns-then-pin_free : goal.returns-then-pin_free
returns-then-pin_free c =
    into-open (job_of c.args.job.now) c.args.loads.now c.args.d (is-dart c.requires.2) c.requires.3 _ _ c.pin_free.ensures
    c.if-pin_free.true
    c.load_against.ensures.0

pub returns : goal.returns
returns c =
    into-shut (job_of c.args.job.now) c.args.loads.now c.args.d (is-dart c.requires.2) c.requires.3 _ c.pin_free.ensures c.if-pin_free.false
