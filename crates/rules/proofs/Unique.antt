-- Document 02, K1: four numbers have one answer at most. Assumes nothing.
use mathlib.Core.Path.{◌≡◌, refl, sym, ◌∙◌}
use mathlib.Core.Logic.{◌⊎◌, inl, inr}
use Prim.Native.Nat.{ℕ, ◌+◌, ◌*◌, ◌≤◌, ◌<◌}
use native.Mathlib.Nat.{mul-le-mul_right, add-mul}
use native.Mathlib.Omega.{arith}
use Rattle.sums.specs.Tests.{below_or}
use Rattle.rules.specs.declared.Figures.{Figures}
use Rattle.rules.specs.Rules.{Answer, Divided, across, Largest, Given, Answered, beyond, under, outside, given}

-- the two are equal where neither is less
by_order : {a b : ℕ} → (a < b → ⊥) → (b < a → ⊥) → a ≡ b
by_order {a} {b} f g = by (below_or a b) (below_or b a)
  where
    by : (a < b) ⊎ (b ≤ a) → (b < a) ⊎ (a ≤ b) → a ≡ b
    by (inl l) k = absurd (f l)
    by (inr l) (inl k) = absurd (g k)
    by (inr l) (inr k) = omega arith

-- ---- quotient and remainder

less-not : {n m q r q' r' : ℕ} → Divided n m q r → Divided n m q' r' → q < q' → ⊥
less-not {n} {m} {q} {r} {q'} x y l =
    let k : q + 1 ≤ q' = omega arith in
    omega (arith, x.whole, x.below, y.whole, mul-le-mul_right m k, add-mul q 1 m)

pub quotient-once : {n m q r q' r' : ℕ} → Divided n m q r → Divided n m q' r' → q ≡ q'
quotient-once x y = by_order (less-not x y) (less-not y x)

remainder-once : {n m q r q' r' : ℕ} → Divided n m q r → Divided n m q' r' → r ≡ r'
remainder-once {n} {m} {q} {r} {q'} {r'} x y =
    let h : q * m + r' ≡ n = rw (quotient-once x y) y.whole in
    omega (arith, x.whole, h)

-- ---- the answer

module _ (p d w s : ℕ) where
  largest-once : {k n : ℕ} → Largest p d w s k → Largest p d w s n → k ≡ n
  largest-once x y = by_order (λ l. x.most _ l y.passes) (λ l. y.most _ l x.passes)

  given-once : {f g : Figures} → Given p d w s f → Given p d w s g → f ≡ g
  given-once {f} {g} x y =
      let o : f.orthogonal ≡ g.orthogonal = quotient-once x.orthogonal y.orthogonal in
      let r : f.remainder ≡ g.remainder = remainder-once x.orthogonal y.orthogonal in
      let k : f.count ≡ g.count = largest-once x.count y.count in
      let e : across d w s f.count * across d w s f.count + g.left ≡ 2 * p * p = rw k y.left in
      let l : f.left ≡ g.left = omega (arith, x.left, e) in
      let m : f.diagonal ≡ g.diagonal = x.diagonal ∙ (cc) ∙ sym y.diagonal in
      λ i. record { orthogonal = o i; remainder = r i; count = k i; left = l i; diagonal = m i }

  pub answered-once : {a b : Answer} → Answered p d w s a → Answered p d w s b → a ≡ b
  answered-once (beyond n) (beyond m) = refl
  answered-once (beyond n) (under t l) = absurd (n t)
  answered-once (beyond n) (outside o r t l q h) = absurd (n t)
  answered-once (beyond n) (given f t l h g) = absurd (n t)
  answered-once (under t l) (beyond n) = absurd (n t)
  answered-once (under t l) (under u k) = refl
  answered-once (under t l) (outside o r u k q h) = refl
  answered-once (under t l) (given f u k h g) = absurd (omega arith)
  answered-once (outside o r t l q h) (beyond n) = absurd (n t)
  answered-once (outside o r t l q h) (under u k) = refl
  answered-once (outside o r t l q h) (outside o' r' u k q' h') = refl
  answered-once (outside o r t l q h) (given f u k i g) = absurd (h (rw (quotient-once q g.orthogonal) i))
  answered-once (given f t l i g) (beyond n) = absurd (n t)
  answered-once (given f t l i g) (under u k) = absurd (omega arith)
  answered-once (given f t l i g) (outside o r u k q h) = absurd (h (rw (quotient-once q g.orthogonal) i))
  answered-once (given f t l i g) (given f' u k i' g') = rw (given-once g g')
