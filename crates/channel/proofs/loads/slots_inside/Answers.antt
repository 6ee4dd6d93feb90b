-- `loads::slots_inside` meets its contract: by the two words of the spot's kind, or from what an entry's slot 4 carries. Assumes nothing.
use mathlib.Core.Path.{ap, ◌∙◌}
use mathlib.Core.Bool.{Bool}
use Prim.Native.Nat.{◌%◌}
use native.Mathlib.Omega.{arith}
use lib.Dec.{ltb}
use Rattle.sums.specs.Counting.{when}
use Rattle.channel.specs.Map.Laden.{load-test, entry-slots}
use Rattle.channel.specs.Map.Packed.{slot-words, entry-kind}
use Rattle.channel.proofs.loads.slots_inside.Goals as goal

pub slots_by-requires : goal.slots_by-requires
slots_by-requires c = let (l, h, m) = c.requires in (l, h, m, slot-words (omega arith) c.in-1.is tt)

pub slots_by-requires-in-2 : goal.slots_by-requires-in-2
slots_by-requires-in-2 c = let (l, h, m) = c.requires in (l, h, m, slot-words (omega arith) c.in-2.is tt)

pub slots_by-requires-in-3 : goal.slots_by-requires-in-3
slots_by-requires-in-3 c = let (l, h, m) = c.requires in (l, h, m, slot-words (omega arith) c.in-3.is tt)

pub slots_by-requires-in-4 : goal.slots_by-requires-in-4
slots_by-requires-in-4 c = let (l, h, m) = c.requires in (l, h, m, slot-words (omega arith) c.in-4.is tt)

pub slots_by-requires-in-5 : goal.slots_by-requires-in-5
slots_by-requires-in-5 c = let (l, h, m) = c.requires in (l, h, m, slot-words (omega arith) c.in-5.is tt)

pub slots_by-requires-in-7 : goal.slots_by-requires-in-7
slots_by-requires-in-7 c = let (l, h, m) = c.requires in (l, h, m, slot-words (omega arith) c.in-7.is tt)

pub returns-in_default : goal.returns-in_default
returns-in_default c =
    let u = c.args.u in
    let e = entry-slots c.args.rec.now u (entry-kind (u % 8) (omega arith) c.in_default.in_default-own.rest) in
    let b = ap (λ (b : Bool). when b 1) (load-test c.carried.result ∙ ap (ltb 0) c.carried.ensures.0) in
    omega (arith, c.bit.ensures.0)
