-- `slots::from_place` meets its contract: what slots 0 and 4 stand on is known where they are wanted. Assumes nothing.
use mathlib.Core.Path.{refl, sym, subst}
use mathlib.Core.Bool.{◌||◌}
use Prim.Native.Nat.{ℕ, ◌+◌, ◌*◌}
use native.Mathlib.Omega.{arith}
use lib.Dec.{T, eqb}
use Rattle.channel.specs.Map.Kinds.{slot-code}
use Rattle.slots.proofs.slots.from_place.Goals as goal

pub wanted_limit-across-requires : goal.wanted_limit-across-requires
wanted_limit-across-requires c =
    let (z, _, l, m, g, h) = c.requires in
    (z, omega arith, slot-code c.args.u g h (8 * c.args.u) 0 (omega arith) (omega arith))

pub wanted_free-pin-requires : goal.wanted_free-pin-requires
wanted_free-pin-requires c =
    let (z, _, l, m, g, h) = c.requires in
    (z, omega arith, subst (λ (n : ℕ). T (eqb n 6 || eqb n 7)) (sym (slot-code c.args.u g h (8 * c.args.u + 4) 4 (omega arith) refl)) tt)

pub corner_limit-half-requires : goal.corner_limit-half-requires
corner_limit-half-requires c =
    let (z, _, l, m, g, h) = c.requires in
    (z, omega arith, slot-code c.args.u g h (8 * c.args.u + 1) 1 (omega arith) refl)

pub centre_free-centre-requires : goal.centre_free-centre-requires
centre_free-centre-requires c =
    let (z, _, l, m, g, h) = c.requires in
    (z, omega arith, subst (λ (n : ℕ). T (eqb n 3 || eqb n 4)) (sym (slot-code c.args.u g h (8 * c.args.u + 2) 2 (omega arith) refl)) tt)
