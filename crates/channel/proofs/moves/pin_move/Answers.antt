-- `moves::pin_move` meets its contract, by the mark of the pin. Assumes nothing.
use Prim.Native.Nat.{◌%◌}
use native.Mathlib.Omega.{arith}
use Rattle.model.specs.Record.{job_of}
use Rattle.channel.specs.Map.Numbers.{is-dart}
use Rattle.channel.specs.Map.Codes.{seven-kind}
use Rattle.channel.specs.Map.Moving.{chosen-moves, missing-moves, idle-moves}
use Rattle.channel.proofs.moves.pin_move.Goals as goal

pub leg_way-requires : goal.leg_way-requires
leg_way-requires c =
    omega (arith, seven-kind (c.args.d % 64) (omega arith) c.requires.3)

pub returns-then-m-eq1 : goal.returns-then-m-eq1
returns-then-m-eq1 c =
    chosen-moves (job_of c.args.job.now) c.args.loads.now c.args.d (is-dart c.requires.2) c.requires.3 _ _ _ c.leg_mark-m.ensures
    c.if-m-eq1.true c.load_along.ensures.0 c.leg_way.ensures

pub leg_way-requires-then-m-eq2 : goal.leg_way-requires-then-m-eq2
leg_way-requires-then-m-eq2 c =
    omega (arith, seven-kind (c.args.d % 64) (omega arith) c.requires.3)

pub returns-then-m-eq2 : goal.returns-then-m-eq2
returns-then-m-eq2 c =
    missing-moves (job_of c.args.job.now) c.args.loads.now c.args.d (is-dart c.requires.2) c.requires.3 _ _ _
    c.leg_mark-m.ensures
    c.if-m-eq2.true c.load_against.ensures.0 c.leg_way-then-m-eq2.ensures

pub returns : goal.returns
returns c =
    idle-moves (job_of c.args.job.now) c.args.loads.now c.args.d (is-dart c.requires.2) c.requires.3 _ c.leg_mark-m.ensures
    c.if-m-eq1.false c.if-m-eq2.false
