-- The slots of a spot that are still to be tried, as the bits of a number: the moves that lead to spots with no mark as the spot is taken up. Assumes
-- nothing.
use Rattle.std.specs.Prelude.{◌≡◌, refl, Bool, List, ltb}
use Rattle.std.proofs.Common.{sym, ◌∙◌, div-le_self, arith, ltb-true, ltb-false, pow-add}
use Rattle.std.proofs.Math.Path.{ap}
use Rattle.std.proofs.Math.Bool.{true, false}
use Prim.Native.Nat.{ℕ, min, ◌+◌, ◌-◌, ◌*◌, ◌/◌, ◌%◌, ◌^◌, ◌≤◌, ◌<◌}
use Rattle.std.proofs.Math.Nat.{pow-le-pow_right, div-eq_of_lt, zero-div, div-div-eq-div-mul}
use Rattle.std.proofs.Math.Dec.{T}
use Rattle.std.proofs.Math.ListN.{get_or}
use Rattle.sums.specs.Counting.{when}
use Rattle.sums.specs.Lowest.{Lowest}
use Rattle.model.specs.Job.{Job}
use Rattle.channel.specs.Map.{rev, moves}
use Rattle.slots.specs.Ahead.{Bits, unset, marked}
use Rattle.augment.specs.Steps.{Grown}

-- 1 where slot k of u is a move to a spot with no mark
unfoldable pub goes_on : Job → List ℕ → List ℕ → ℕ → ℕ → ℕ
goes_on J rec t u k = min (unset t (rev (8 * u + k) / 8)) (when (moves J rec (8 * u + k)) 1)

module _ (J : Job) (rec t : List ℕ) (u : ℕ) where
  -- the moves among the slots that lead to spots with no mark
  pub bits-onward : {w r : ℕ} → Bits 8 (λ k. unset t (rev (8 * u + k) / 8)) w → Bits 8 (λ k. min (w / 2 ^ k % 2) (when (moves J rec (8 * u + k)) 1)) r
      → Bits 8 (goes_on J rec t u) r
  unfolding goes_on
  bits-onward p q = record { small = q.small; each = λ k l. q.each k l ∙ ap (λ (x : ℕ). min x (when (moves J rec (8 * u + k)) 1)) (p.each k l) }

module _ (J : Job) (rec t : List ℕ) (u k : ℕ) where
  -- no such slot: its move leads to a marked spot
  pub off-marked : goes_on J rec t u k ≡ 0 → T (moves J rec (8 * u + k)) → get_or t (rev (8 * u + k) / 8) 0 ≡ 1
  unfolding goes_on
  off-marked z m = by (moves J rec (8 * u + k)) m z
    where
      by : (b : Bool) → T b → min (unset t (rev (8 * u + k) / 8)) (when b 1) ≡ 0 → get_or t (rev (8 * u + k) / 8) 0 ≡ 1
      by true m z = marked t (rev (8 * u + k) / 8) (omega arith)
      by false m z = absurd m

  pub on-moves : goes_on J rec t u k ≡ 1 → T (moves J rec (8 * u + k))
  unfolding goes_on
  on-moves e = by (moves J rec (8 * u + k)) e
    where
      by : (b : Bool) → min (unset t (rev (8 * u + k) / 8)) (when b 1) ≡ 1 → T b
      by true e = tt
      by false e = absurd (omega arith)

-- ---- what is left of the bits

-- k slots are passed, and the bits of r above them are left
pub record Rest (r k left : ℕ) : Type 0 where
  pub bits : left ≡ r / 2 ^ k

pub rest_all : (r : ℕ) → Rest r 0 r
rest_all r = record { bits = omega arith }

module _ {f : ℕ → ℕ} {r k left : ℕ} (b : Bits 8 f r) (s : Rest r k left) where
  pub left-small : left < 256
  left-small = omega (arith, s.bits, b.small, div-le_self r (2 ^ k))

  beyond : (i : ℕ) → left / 2 ^ i ≡ r / 2 ^ (k + i)
  beyond i = ap (λ (x : ℕ). x / 2 ^ i) s.bits ∙ div-div-eq-div-mul r (2 ^ k) (2 ^ i) ∙ ap (λ (x : ℕ). r / x) (sym (pow-add 2 k i))

  off : (j : ℕ) → k ≤ j → j < 8 → left / 2 ^ (j - k) % 2 ≡ 0 → f j ≡ 0
  off j l m e =
      let q : k + (j - k) ≡ j = omega arith in
      sym (b.each j m) ∙ ap (λ (x : ℕ). r / 2 ^ x % 2) (sym q) ∙ ap (λ (x : ℕ). x % 2) (sym (beyond (j - k))) ∙ e

  -- no bit is left
  pub none_left : left ≡ 0 → (j : ℕ) → k ≤ j → j < 8 → f j ≡ 0
  none_left z j l m = off j l m (ap (λ (x : ℕ). x / 2 ^ (j - k) % 2) z ∙ ap (λ (x : ℕ). x % 2) (zero-div (2 ^ (j - k))))

  module _ {i : ℕ} (w : Lowest left i) where
    -- the next bit is one of the eight
    pub next-slot : k + i < 8
    next-slot = by (ltb (k + i) 8) refl
      where
        by : (a : Bool) → ltb (k + i) 8 ≡ a → k + i < 8
        by true e = ltb-true (k + i) 8 e
        by false e =
            let p : 2 ^ 8 ≤ 2 ^ (k + i) = pow-le-pow_right {n = 2} (omega arith) (ltb-false (k + i) 8 e) in
            let z : left / 2 ^ i ≡ 0 = beyond i ∙ div-eq_of_lt (omega (arith, b.small)) in
            absurd (omega (arith, w.here))

    pub next-on : f (k + i) ≡ 1
    next-on = sym (b.each (k + i) next-slot) ∙ ap (λ (x : ℕ). x % 2) (sym (beyond i)) ∙ w.here

    pub passed-off : (j : ℕ) → k ≤ j → j < k + i → f j ≡ 0
    passed-off j l m = off j l (omega (arith, next-slot)) (w.under (j - k) (omega arith))

    pub rest_more : Rest r (k + i + 1) (left / 2 ^ (i + 1))
    rest_more = record { bits = beyond (i + 1) ∙ ap (λ (x : ℕ). r / 2 ^ x) (omega arith) }

-- slots by which the search does not go on are tried
pub grown-past : {J : Job} {rec : List ℕ} {u k k' h : ℕ} {t q f w : List ℕ} {n : ℕ} {t' q' f' w' : List ℕ} {n' : ℕ} → Grown J rec u k h t q f w n t' q' f' w' n'
    → ((j : ℕ) → k ≤ j → j < k' → goes_on J rec t u j ≡ 0) → Grown J rec u k' h t q f w n t' q' f' w' n'
grown-past {J} {rec} {u} {k} {k'} {t = t} {t' = t'} g z =
    record { room = g.room; count = g.count; up = g.up; keep = g.keep; marks = g.marks; early = g.early; done = λ j l m. by j l m (ltb j k) refl; spread = g.spread }
  where
    by : (j : ℕ) → j < k' → T (moves J rec (8 * u + j)) → (a : Bool) → ltb j k ≡ a → get_or t' (rev (8 * u + j) / 8) 0 ≡ 1
    by j l m true e = g.done j (ltb-true j k e) m
    by j l m false e = g.marks (rev (8 * u + j) / 8) (off-marked J rec t u j (z j (ltb-false j k e) l) m)
