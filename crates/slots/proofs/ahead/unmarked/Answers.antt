-- `ahead::unmarked` meets its contract: four bits and four more. Assumes nothing.
use mathlib.Core.Path.{refl, ap}
use Prim.Native.Nat.{ℕ, ◌/◌}
use native.Mathlib.Omega.{arith}
use Rattle.channel.specs.Map.{rev}
use Rattle.channel.specs.Map.Bools.{between}
use Rattle.slots.specs.Ahead.{unset, eight-bits, bits-near}
use Rattle.slots.proofs.ahead.unmarked.Goals as goal

pub returns-then-u : goal.returns-then-u
returns-then-u c =
    eight-bits c.four_from.ensures c.four_from-then-u.ensures (λ j l. refl)
    (λ j l. ap (λ (d : ℕ). unset c.args.marks.now (rev d / 8)) (omega arith))

pub returns : goal.returns
returns c =
    let (m, h) = between c.args.u 336 12800 c.if-u.false in
    bits-near c.args.marks.now c.args.u m h c.kind_near.ensures
