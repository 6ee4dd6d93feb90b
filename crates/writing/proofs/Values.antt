-- The values that a job in range has in its groups: each below 100, and the count of a side by whether its tile writes it. Assumes nothing.
use mathlib.Core.Path.{◌≡◌}
use mathlib.Core.Logic.{◌⊎◌, inl, inr}
use mathlib.Core.Bool.{Bool, true, false, ◌&&◌}
use Prim.Native.Nat.{ℕ, ◌*◌, ◌≤◌, ◌<◌}
use native.Mathlib.Omega.{arith}
use lib.Dec.{T, eqb, leb, leb→le}
use Rattle.sums.specs.Counting.{when}
use Rattle.sums.specs.Tests.{and_left, and_right}
use Rattle.model.specs.Job.{Job, Proper, is_tile, is_chosen, is_missing, is_closed, is_own_d, in_range}
use Rattle.model.specs.Text.{Group, chosen_pins, missing_pins, closed_tiles, own_ds, laid_sides, value_at}
use Rattle.model.proofs.Own.{own_range, own-or-none}
use Rattle.model.proofs.Sides.{value-most}

at_most : (b : Bool) (n : ℕ) → when b n ≤ n
at_most true n = omega arith
at_most false n = omega arith

caps-most : (K : Job) → Proper K → K.O ≤ 8
caps-most K p =
    let a : Bool = in_range 1 8 K.O in
    let b : Bool = in_range K.O (2 * K.O) K.D && in_range 0 16 K.E in
    leb→le K.O 8 (and_right (leb 1 K.O) (leb K.O 8) (and_left a b p.caps))

pub value-small : (K : Job) → Proper K → (g : Group) (r c d : ℕ) → value_at K g r c d < 100
value-small K p chosen_pins r c d = omega (arith, at_most (eqb d 0 && is_chosen K r c) 1)
value-small K p missing_pins r c d = omega (arith, at_most (eqb d 0 && is_missing K r c) 2)
value-small K p closed_tiles r c d = omega (arith, at_most (eqb d 0 && is_closed K r c) 1)
value-small K p own_ds r c d = own-small (own-or-none K p.added r c)
  where
    own-small : (K.added.own_d r c ≡ 0) ⊎ T (is_own_d K (K.added.own_d r c)) → value_at K own_ds r c d < 100
    own-small (inl e) = omega (arith, at_most (eqb d 0 && is_tile K r c) (K.added.own_d r c))
    own-small (inr t) = omega (arith, at_most (eqb d 0 && is_tile K r c) (K.added.own_d r c), (own_range K (K.added.own_d r c) t).1, caps-most K p)
value-small K p laid_sides r c d = omega (arith, caps-most K p, leb→le (value_at K laid_sides r c d) K.O (value-most K p r c d))
