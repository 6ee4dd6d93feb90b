-- The bytes of a record that nothing uses yet, those behind the header's five numbers, and when all of them are 0. The definitions are shut. Assumes nothing.
use Rattle.std.specs.Prelude.{◌≡◌, ◌⊎◌, Bool, true, ◌&&◌, List, ltb}
use Rattle.std.proofs.Math.Path.{refl, sym, subst}
use Rattle.std.proofs.Common.{ap, ◌∙◌, inl, inr, eq-eqb, ltb→lt}
use Prim.Native.Nat.{ℕ, ◌+◌, ◌-◌, ◌*◌, ◌/◌, ◌%◌, ◌≤◌, ◌<◌}
use Rattle.std.proofs.Math.Numerals.{add-one}
use native.Mathlib.Omega.{arith}
use Rattle.std.proofs.Math.Dec.{T, eqb, eqb→eq}
use Rattle.std.proofs.Math.ListN.{get_or}
use Rattle.sums.specs.Counting.{when, sum}
use Rattle.sums.specs.Sums.{when-none, sum-none, sum-tight}
use Rattle.sums.specs.Tests.{below_or, and_left, and_right, and_both, so, both_ways}
use Rattle.model.specs.Job.{AddedFits}
use Rattle.model.specs.Record.{added_of, job_of, Unused}
use Rattle.model.proofs.Added.{Unset, fits-unset}
use Rattle.model.proofs.JobBytes.{seen-get}

module _ (rec : List ℕ) where
  -- n bytes from `start` on are 0
  pub is_clear : ℕ → ℕ → Bool
  is_clear start n = eqb (sum n (λ i. get_or rec (start + i) 0)) 0

  pub unused_clear : Bool
  unused_clear = is_clear 5 763

  -- as a program reads them, byte by byte
  pub clear_none : (start : ℕ) → true ≡ is_clear start 0
  unfolding is_clear sum
  clear_none start = refl

  pub clear-more : (start n : ℕ) → (is_clear start n && eqb (get_or rec (start + n) 0) 0) ≡ is_clear start (n + 1)
  unfolding is_clear sum
  clear-more start n = rw add-one (by (sum n (λ i. get_or rec (start + i) 0)) (get_or rec (start + n) 0))
    where
      by : (a b : ℕ) → (eqb a 0 && eqb b 0) ≡ eqb (a + b) 0
      by a b =
          both_ways (eqb a 0 && eqb b 0) (eqb (a + b) 0)
          (λ t. so (eq-eqb (a + b) 0 (omega (arith, eqb→eq a 0 (and_left (eqb a 0) (eqb b 0) t), eqb→eq b 0 (and_right (eqb a 0) (eqb b 0) t)))))
          (λ t. and_both (eqb a 0) (eqb b 0) (so (eq-eqb a 0 (omega (arith, eqb→eq (a + b) 0 t)))) (so (eq-eqb b 0 (omega (arith, eqb→eq (a + b) 0 t)))))

  pub unused-is : is_clear 5 763 ≡ unused_clear
  unfolding unused_clear
  unused-is = refl

  clear_at : (start n : ℕ) → T (is_clear start n) → (i : ℕ) → start ≤ i → i < start + n → get_or rec i 0 ≡ 0
  unfolding is_clear
  clear_at start n t i l m =
      let z : sum n (λ i. get_or rec (start + i) 0) ≡ 0 = eqb→eq _ 0 t in
      let e : start + (i - start) ≡ i = omega arith in
      subst (λ (j : ℕ). get_or rec j 0 ≡ 0) e
      (sum-zero n (λ i. get_or rec (start + i) 0) z (i - start) (omega arith))
    where
      sum-zero : (n : ℕ) (g : ℕ → ℕ) → sum n g ≡ 0 → (i : ℕ) → i < n → g i ≡ 0
      sum-zero n g z i l = sym (sum-tight n (λ j. 0) g (λ j h. omega arith) (omega (arith, sum-none n (λ j. 0) (λ j h. refl))) i l)

  clear-so : (start n : ℕ) → ((i : ℕ) → start ≤ i → i < start + n → get_or rec i 0 ≡ 0) → T (is_clear start n)
  unfolding is_clear
  clear-so start n f =
      let z : sum n (λ i. get_or rec (start + i) 0) ≡ 0 = sum-none n (λ i. get_or rec (start + i) 0) (λ i l. f (start + i) (omega arith) (omega arith)) in
      subst (λ (x : ℕ). T (eqb x 0)) (sym z) tt

  module _ (t : T unused_clear) where
    pub header-clear : (i : ℕ) → 5 ≤ i → i < 768 → get_or rec i 0 ≡ 0
    unfolding unused_clear
    header-clear = clear_at 5 763 t

  -- ---- what requests add: but for counts and own diagonals all is 0 yet

  module _ (t : T unused_clear) where
    seen-clear : (p k : ℕ) → when (ltb p 4 && ltb k 4) (get_or rec (6 + 4 * p + k) 0) ≡ 0
    seen-clear p k =
        when-none (ltb p 4 && ltb k 4) _
        (λ u.
        header-clear t (6 + 4 * p + k) (omega arith)
        (omega (arith, ltb→lt p 4 (and_left (ltb p 4) (ltb k 4) u), ltb→lt k 4 (and_right (ltb p 4) (ltb k 4) u))))

    pub none-set : Unset (job_of rec).added
    unfolding job_of added_of
    none-set = record { upward = header-clear t 5 (omega arith) (omega arith); seen = seen-clear }

  module _ (f : AddedFits (job_of rec)) (u : Unused rec) where
    unset : Unset (job_of rec).added
    unset = fits-unset (job_of rec) f

    upward-none : get_or rec 5 0 ≡ 0
    unfolding job_of added_of
    upward-none = unset.upward

    header-none : (i : ℕ) → 5 ≤ i → i < 768 → get_or rec i 0 ≡ 0
    header-none i l h = by (below_or i 6) (below_or i 22)
      where
        by : (i < 6) ⊎ (6 ≤ i) → (i < 22) ⊎ (22 ≤ i) → get_or rec i 0 ≡ 0
        by (inl m) s = let k : i ≡ 5 = omega arith in ap (λ (n : ℕ). get_or rec n 0) k ∙ upward-none
        by (inr m) (inl s) =
            let j : ℕ = i - 6 in
            let k : i ≡ 6 + j = omega arith in
            ap (λ (n : ℕ). get_or rec n 0) k ∙ (sym (seen-get rec j (omega arith)) ∙ unset.seen (j / 4) (j % 4))
        by (inr m) (inr s) = u.header i s h

    pub unused-pass : T unused_clear
    unfolding unused_clear
    unused-pass = clear-so 5 763 header-none
