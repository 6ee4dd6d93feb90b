-- `loads::slots_by` meets its contract: each slot by its part of the words. Assumes nothing.
use mathlib.Core.Path.{◌∙◌}
use Prim.Native.Nat.{◌%◌}
use native.Mathlib.Omega.{arith}
use Rattle.channel.specs.Map.Laden.{four-link, fifth-link, slot-test}
use Rattle.channel.specs.Map.LoadedSlots.{from-five}
use Rattle.channel.proofs.loads.slots_by.Goals as goal

pub loaded_at-requires : goal.loaded_at-requires
loaded_at-requires c = let (l, h, m, p) = c.requires in let (b, n) = four-link p (omega arith) 0 (omega arith) in (l, omega arith, λ e. n (omega arith), h, m)

pub loaded_at-requires-2 : goal.loaded_at-requires-2
loaded_at-requires-2 c = let (l, h, m, p) = c.requires in let (b, n) = four-link p (omega arith) 1 (omega arith) in (l, b, n, h, m)

pub loaded_at-requires-3 : goal.loaded_at-requires-3
loaded_at-requires-3 c = let (l, h, m, p) = c.requires in let (b, n) = four-link p (omega arith) 2 (omega arith) in (l, b, n, h, m)

pub loaded_at-requires-4 : goal.loaded_at-requires-4
loaded_at-requires-4 c = let (l, h, m, p) = c.requires in let (b, n) = four-link p (omega arith) 3 (omega arith) in (l, b, n, h, m)

pub loaded_at-requires-5 : goal.loaded_at-requires-5
loaded_at-requires-5 c = let (l, h, m, p) = c.requires in let (b, n) = fifth-link p (omega arith) in (l, b, n, h, m)

pub returns : goal.returns
returns c =
    let p = c.requires.3 in
    let e0 = c.bit-a.ensures.0 ∙ slot-test c.args.rec.now c.args.u 0 (c.args.w % 65536) _ (omega arith) (omega (arith, p.four 0 (omega arith))) c.loaded_at.ensures in
    let e1 = c.bit-b.ensures.0 ∙ slot-test c.args.rec.now c.args.u 1 _ _ (omega arith) (p.four 1 (omega arith)) c.loaded_at-2.ensures in
    let e2 = c.bit-c.ensures.0 ∙ slot-test c.args.rec.now c.args.u 2 _ _ (omega arith) (p.four 2 (omega arith)) c.loaded_at-3.ensures in
    let e3 = c.bit-d.ensures.0 ∙ slot-test c.args.rec.now c.args.u 3 _ _ (omega arith) (p.four 3 (omega arith)) c.loaded_at-4.ensures in
    let e4 = c.bit-e.ensures.0 ∙ slot-test c.args.rec.now c.args.u 4 _ _ (omega arith) p.fifth c.loaded_at-5.ensures in
    omega (arith, from-five c.args.rec.now c.args.u)
