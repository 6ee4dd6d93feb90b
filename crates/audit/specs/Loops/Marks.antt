-- Counting the spots that are not seen, and reading a list after a store. Assumes nothing.
use Rattle.std.specs.Prelude.{◌≡◌, refl, ◌≢◌, ◌⊎◌, Bool, true, false, List, ℕ, zero, suc, ◌+◌, ◌≤◌, ◌<◌, eqb, length, get_or, set}
use Rattle.std.proofs.Common.{sym, ap, ◌∙◌, inl, inr, ⊎_elim, arith, get_or-set_same, get_or-set_other, below_more}
use Rattle.std.proofs.Math.Decide.{ℕ_discrete}
use Rattle.sums.specs.Counting.{when, sum}
use Rattle.sums.specs.Sums.{when-same, when-other, sum-cong, sum-add, sum-pick}
use Rattle.channel.specs.Map.{spots}
use Rattle.audit.specs.Loops.Dfs.{unseen, Kept, Forgotten}

pub same_or : (a b : ℕ) → (a ≡ b) ⊎ (a ≢ b)
same_or a b = by (ℕ_discrete a b)
  where
    by : Dec (a ≡ b) → (a ≡ b) ⊎ (a ≢ b)
    by (yes p) = inl p
    by (no p) = inr p

-- what stands at x after a store at v
pub after : (t : List ℕ) (v a x : ℕ) → v < length t → ((x ≡ v) × (get_or (set t v a) x 0 ≡ a)) ⊎ ((x ≢ v) × (get_or (set t v a) x 0 ≡ get_or t x 0))
after t v a x l = ⊎_elim (λ e. inl (e, rw e (get_or-set_same t v a 0 l))) (λ n. inr (n, get_or-set_other t v x a 0 n)) (same_or x v)

-- ---- how many are not seen

-- 1 for a mark that is 0
abbrev blank : ℕ → ℕ
blank a = when (eqb a 0) 1

blank-le : (a : ℕ) → blank a ≤ 1
blank-le a = by (eqb a 0)
  where
    by : (b : Bool) → when b 1 ≤ 1
    by true = omega arith
    by false = omega arith

pub blanks-le : (n : ℕ) (t : List ℕ) → sum n (λ u. blank (get_or t u 0)) ≤ n
unfolding sum
blanks-le zero t = omega arith
blanks-le (suc n) t = omega (arith, blanks-le n t, blank-le (get_or t n 0))

module _ (t : List ℕ) (v : ℕ) (lv : v < spots) (lt : v < length t) where
  -- a store changes the count by what was there and what is
  blank-set : (a : ℕ) → unseen (set t v a) + blank (get_or t v 0) ≡ unseen t + blank a
  blank-set a =
      omega (
        arith,
        sum-add spots (λ u. blank (get_or (set t v a) u 0)) (λ u. when (eqb v u) (blank (get_or t v 0))),
        sum-add spots (λ u. blank (get_or t u 0)) (λ u. when (eqb v u) (blank a)),
        sum-cong spots (λ u. blank (get_or (set t v a) u 0) + when (eqb v u) (blank (get_or t v 0)))
            (λ u. blank (get_or t u 0) + when (eqb v u) (blank a)) (λ u l. at u),
        sum-pick spots v (λ u. blank (get_or t v 0)) lv,
        sum-pick spots v (λ u. blank a) lv,
      )
    where
      at : (u : ℕ) → blank (get_or (set t v a) u 0) + when (eqb v u) (blank (get_or t v 0)) ≡ blank (get_or t u 0) + when (eqb v u) (blank a)
      at u = ⊎_elim
          (λ w. omega (
            arith,
            ap blank w.1,
            ap (λ (x : ℕ). blank (get_or t x 0)) w.0,
            when-same v u (blank (get_or t v 0)) (sym w.0),
            when-same v u (blank a) (sym w.0),
          ))
          (λ w. omega (
            arith,
            ap blank w.1,
            when-other v u (blank (get_or t v 0)) (λ e. w.0 (sym e)),
            when-other v u (blank a) (λ e. w.0 (sym e)),
          ))
          (after t v a u lt)

  -- a mark where none was
  pub unseen-less : (a : ℕ) → get_or t v 0 ≡ 0 → unseen (set t v (suc a)) + 1 ≡ unseen t
  unseen-less a e = omega (arith, blank-set (suc a), ap blank e, when-other (suc a) 0 1 (λ x. omega arith))

  -- another mark where one was
  pub unseen_same : (a : ℕ) → get_or t v 0 ≡ 1 → unseen (set t v (suc a)) ≡ unseen t
  unseen_same a e = omega (arith, blank-set (suc a), ap blank e, when-other (suc a) 0 1 (λ x. omega arith))

-- a mark keeps what was seen
pub kept_set : (fin : List ℕ) (v a : ℕ) → v < length fin → Kept fin (set fin v (suc a))
kept_set fin v a l u n e = ⊎_elim (λ w. omega (arith, w.1)) (λ w. n (sym w.1 ∙ e)) (after fin v (suc a) u l)

-- ---- forgetting

pub forgot_none : (st fin : List ℕ) → Forgotten st 0 fin fin
forgot_none st fin = record { gone = λ i l. absurd (omega arith); each = λ u. inr refl; same = λ u n. refl; count = omega arith }

pub forgot-more : {st fin fin' : List ℕ} {n : ℕ} → get_or st n 0 < spots → get_or st n 0 < length fin' → Forgotten st n fin fin'
    → Forgotten st (n + 1) fin (set fin' (get_or st n 0) 0)
forgot-more {st} {fin} {fin'} {n} lv lt f =
    let v = get_or st n 0 in
    record {
      gone = below_more (λ i. get_or (set fin' v 0) (get_or st i 0) 0 ≡ 0) n
          (λ i h. ⊎_elim (λ w. w.1) (λ w. w.1 ∙ f.gone i h) (after fin' v 0 (get_or st i 0) lt)) (get_or-set_same fin' v 0 0 lt);
      each = λ u. ⊎_elim (λ w. inl w.1) (λ w. ⊎_elim (λ e. inl (w.1 ∙ e)) (λ e. inr (w.1 ∙ e)) (f.each u)) (after fin' v 0 u lt);
      same = λ u m. get_or-set_other fin' v u 0 0 (λ e. m n (omega arith) (sym e)) ∙ f.same u (λ i h. m i (omega arith));
      count = omega (arith, f.count, blank-set fin' v lv lt 0, blank-le 0);
    }
