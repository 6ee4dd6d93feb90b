-- Marks, a byte for each spot: a spot is marked where its byte is 1. How many are not marked, and a list after a store. Assumes nothing.
use Rattle.std.specs.Prelude.{◌≡◌, refl, ◌≢◌, ◌⊎◌, Bool, true, false, not, ◌&&◌, List, ℕ, ◌+◌, ◌≤◌, ◌<◌, T, eqb, ltb, length, get_or, set}
use Rattle.std.proofs.Common.{sym, ap, ◌∙◌, inl, inr, ⊎_elim, arith, below_more, eq-eqb, ne_eqb, ltb→lt, lt→ltb, eqb→eq, get_or-set_same, get_or-set_other}
use Rattle.std.proofs.Math.Decide.{ℕ_discrete}
use Rattle.sums.specs.Counting.{when, sum}
use Rattle.sums.specs.Tests.{and_left, and_right, and_both, so}
use Rattle.sums.specs.Sums.{when-same, when-other, sum-cong, sum-add, sum-pick, sum-le, sum_ones}
use Rattle.channel.specs.Map.{spots}

pub marked : List ℕ → ℕ → Bool
marked t u = ltb u spots && eqb (get_or t u 0) 1

pub is-marked : (t : List ℕ) (u : ℕ) → u < spots → get_or t u 0 ≡ 1 → T (marked t u)
unfolding marked
is-marked t u l e = and_both (ltb u spots) (eqb (get_or t u 0) 1) (lt→ltb u spots l) (so (eq-eqb (get_or t u 0) 1 e))

pub marked-spot : (t : List ℕ) (u : ℕ) → T (marked t u) → u < spots
unfolding marked
marked-spot t u m = ltb→lt u spots (and_left (ltb u spots) (eqb (get_or t u 0) 1) m)

pub marked-byte : (t : List ℕ) (u : ℕ) → T (marked t u) → get_or t u 0 ≡ 1
unfolding marked
marked-byte t u m = eqb→eq (get_or t u 0) 1 (and_right (ltb u spots) (eqb (get_or t u 0) 1) m)

-- ---- a list after a store

pub same_or : (a b : ℕ) → (a ≡ b) ⊎ (a ≢ b)
same_or a b = by (ℕ_discrete a b)
  where
    by : Dec (a ≡ b) → (a ≡ b) ⊎ (a ≢ b)
    by (yes p) = inl p
    by (no p) = inr p

-- what stands at x after a store at v
pub after : (t : List ℕ) (v a x : ℕ) → v < length t → ((x ≡ v) × (get_or (set t v a) x 0 ≡ a)) ⊎ ((x ≢ v) × (get_or (set t v a) x 0 ≡ get_or t x 0))
after t v a x l = ⊎_elim (λ e. inl (e, rw e (get_or-set_same t v a 0 l))) (λ n. inr (n, get_or-set_other t v x a 0 n)) (same_or x v)

-- ---- how many are not marked

-- 1 for a byte that is no mark
abbrev blank : ℕ → ℕ
blank a = when (not (eqb a 1)) 1

abbrev pub unmarked : List ℕ → ℕ
unmarked t = sum spots (λ u. blank (get_or t u 0))

blank-le : (a : ℕ) → blank a ≤ 1
blank-le a = by (eqb a 1)
  where
    by : (b : Bool) → when (not b) 1 ≤ 1
    by true = omega arith
    by false = omega arith

pub unmarked-le : (t : List ℕ) → unmarked t ≤ spots
unmarked-le t = omega (arith, sum-le spots (λ u. blank (get_or t u 0)) (λ u. 1) (λ u l. blank-le (get_or t u 0)), sum_ones spots)

-- one mark more
pub mark-less : (t : List ℕ) (v : ℕ) → v < spots → v < length t → get_or t v 0 ≢ 1 → unmarked (set t v 1) + 1 ≡ unmarked t
mark-less t v lv lt n =
    omega (
      arith,
      sum-add spots (λ u. blank (get_or (set t v 1) u 0)) (λ u. when (eqb v u) 1),
      sum-cong spots (λ u. blank (get_or (set t v 1) u 0) + when (eqb v u) 1) (λ u. blank (get_or t u 0)) (λ u l. at u),
      sum-pick spots v (λ u. 1) lv,
    )
  where
    at : (u : ℕ) → blank (get_or (set t v 1) u 0) + when (eqb v u) 1 ≡ blank (get_or t u 0)
    at u = ⊎_elim
        (λ w. omega (
          arith,
          ap blank w.1,
          ap (λ (b : Bool). when (not b) 1) (ne_eqb (get_or t u 0) 1 (rw w.0 n)),
          when-same v u 1 (sym w.0),
        ))
        (λ w. omega (arith, ap blank w.1, when-other v u 1 (λ e. w.0 (sym e))))
        (after t v 1 u lt)

-- ---- taking marks back

-- each of the first n spots of q has a byte
pub record Listed (t q : List ℕ) (n : ℕ) : Type 0 where
  pub count : n ≤ length q
  pub byte : (i : ℕ) → i < n → get_or q i 0 < length t

-- the first n spots of q are not marked, and the other bytes are as they were
pub record Unmarked (q : List ℕ) (n : ℕ) (t t' : List ℕ) : Type 0 where
  pub gone : (i : ℕ) → i < n → get_or t' (get_or q i 0) 0 ≡ 0
  pub same : (x : ℕ) → ((i : ℕ) → i < n → get_or q i 0 ≢ x) → get_or t' x 0 ≡ get_or t x 0

pub unmarked-none : (q t : List ℕ) → Unmarked q 0 t t
unmarked-none q t = record { gone = λ i l. absurd (omega arith); same = λ x n. refl }

pub unmarked-more : {q : List ℕ} {n : ℕ} {t t' : List ℕ} → get_or q n 0 < length t' → Unmarked q n t t' → Unmarked q (n + 1) t (set t' (get_or q n 0) 0)
unmarked-more {q} {n} {t} {t'} l u =
    let v = get_or q n 0 in
    record {
      gone = below_more (λ i. get_or (set t' v 0) (get_or q i 0) 0 ≡ 0) n
          (λ i h. ⊎_elim (λ w. w.1) (λ w. w.1 ∙ u.gone i h) (after t' v 0 (get_or q i 0) l)) (get_or-set_same t' v 0 0 l);
      same = λ x m. get_or-set_other t' v x 0 0 (λ e. m n (omega arith) (sym e)) ∙ u.same x (λ i h. m i (omega arith));
    }
