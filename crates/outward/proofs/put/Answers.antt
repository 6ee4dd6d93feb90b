-- `put` meets its contract: the bytes of the part are one wire each. Assumes nothing.
use native.Mathlib.Omega.{arith}
use Rattle.outward.specs.Outward.{put-filled}
use Rattle.outward.proofs.put.Goals as goal

pub returns : goal.returns
returns c =
    put-filled c.args.old.now c.args.a c.args.b c.args.forth c.one_wire.result c.fill.new.self (c.fill.ensures.after (λ y e. e)) c.one_wire.ensures (omega arith)
    (omega arith)
