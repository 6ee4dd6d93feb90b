-- Document 02, K1: the capacities of every accepted call are in range. O wires need no more than p between the pads, and 2×p×p is more than p×p, so O is at
-- most k. Assumes nothing.
use mathlib.Core.Bool.{◌&&◌}
use mathlib.Core.Logic.{◌⊎◌, inl, inr}
use Prim.Native.Nat.{ℕ, ◌+◌, ◌*◌, ◌≤◌, ◌<◌}
use native.Mathlib.Nat.{mul-le-mul}
use native.Mathlib.Omega.{arith}
use lib.Dec.{T, leb, leb→le, le→leb}
use Rattle.sums.specs.Tests.{below_or, and_right, and_both}
use Rattle.model.specs.Job.{in_range, caps_fit, caps_admitted}
use Rattle.rules.specs.declared.Figures.{Figures}
use Rattle.std.specs.Prelude.{Ok}
use Rattle.rules.specs.Rules.{across, Passes, Given, Answered, given}

range-both : (least most n : ℕ) → least ≤ n → n ≤ most → T (in_range least most n)
range-both least most n l m = and_both (leb least n) (leb n most) (le→leb least n l) (le→leb n most m)

module _ (p d w s : ℕ) (f : Figures) where
  abbrev O : ℕ
  O = f.orthogonal

  abbrev k : ℕ
  k = f.count

  abbrev D : ℕ
  D = f.diagonal

  orthogonal-passes : d + s ≤ p → Given p d w s f → Passes p d w s O
  orthogonal-passes l g =
      let h : across d w s O ≤ p = omega (arith, g.orthogonal.whole) in
      omega (arith, mul-le-mul h h)

  orthogonal-most : d + s ≤ p → Given p d w s f → O ≤ k
  orthogonal-most l g = by (below_or k O)
    where
      by : (k < O) ⊎ (O ≤ k) → O ≤ k
      by (inl h) = absurd (g.count.most O h (orthogonal-passes l g))
      by (inr h) = h

  pub capacities-order : Answered p d w s (Ok f) → (O ≤ k) × (O ≤ D) × (D ≤ 2 * O)
  capacities-order (given _ t l r g) =
      let h : O ≤ k = orthogonal-most l g in
      (h, omega (arith, g.diagonal), omega (arith, g.diagonal))

  -- a new job may have them, with every E up to D
  pub capacities-fit : Answered p d w s (Ok f) → (E : ℕ) → E ≤ D → T (caps_admitted O D E)
  capacities-fit a E e =
      let (h, l, m) = capacities-order a in
      let o : O ≤ 8 = leb→le O 8 (and_right (leb 1 O) (leb O 8) (in-range a)) in
      and_both (caps_fit O D E) (leb E D)
      (and_both (in_range 1 8 O) (in_range O (2 * O) D && in_range 0 16 E) (in-range a)
      (and_both (in_range O (2 * O) D) (in_range 0 16 E) (range-both O (2 * O) D l m) (range-both 0 16 E (omega arith) (omega arith))))
      (le→leb E D e)
    where
      in-range : Answered p d w s (Ok f) → T (in_range 1 8 O)
      in-range (given _ t l r g) = r
