-- `all` over the numbers below a bound is `below` of the test, and `find` gives the first that fails. Assumes nothing.
use Rattle.std.specs.Prelude.{◌≡◌, refl, Bool, true, false, not, ◌&&◌, Option, Some, None, List, ℕ, zero, suc, ◌+◌, ◌-◌, ◌≤◌, ◌<◌, T}
use Rattle.std.proofs.Common.{sym, ap, subst, ◌∙◌, arith}
use Rattle.std.specs.List.{list_all, range_with_len, FoldsTo}
use Rattle.std.specs.Option.{MatchOption}
use Rattle.std.specs.Fn.{Called}
use Rattle.std.specs.Iterator.{YieldsThen}
use Rattle.std.proofs.iter.Yields.{nat_range_steps}
use Rattle.std.proofs.lemmas.Iterator.{YieldsList-from_range}
use Rattle.std.proofs.lemmas.Iterator.Search.{all_from_yields_List}
use Rattle.std.specs.declared.ops.Range.{Range}
use denote.Param.Members.{Mut}
use Rattle.sums.specs.Tests.{below, so}
use Rattle.sheets.specs.First.{First}

and-true : (b : Bool) → b && true ≡ b
and-true true = refl
and-true false = refl

and_assoc : (a b c : Bool) → a && (b && c) ≡ (a && b) && c
and_assoc true b c = refl
and_assoc false b c = refl

-- those below a, and the n from a on
all_from : (p : ℕ → Bool) (n a : ℕ) → below a p && list_all p (range_with_len a n) ≡ below (n + a) p
unfolding below
all_from p zero a = let e : a ≡ 0 + a = omega arith in and-true (below a p) ∙ ap (λ (k : ℕ). below k p) e
all_from p (suc n) a =
    let d : a + 1 ≡ suc a = omega arith in
    let e : n + suc a ≡ suc n + a = omega arith in
    ap (λ (k : ℕ). below a p && (p a && list_all p (range_with_len k n))) d
    ∙ (and_assoc (below a p) (p a) (list_all p (range_with_len (suc a) n)) ∙ (all_from p n (suc a) ∙ ap (λ (k : ℕ). below k p) e))

pub all-below : {F : Type 0} {g : Mut F (ℕ × Unit {0}) Bool} {s : Range ℕ} (p : ℕ → Bool) (n : ℕ) → s ≡ record { start = 0; end = n } → (u : Range ℕ) (f : F) (r : Bool)
    → (xs : List ℕ) × (o : Option ℕ) × (j : F) × YieldsThen nat_range_steps s xs o u × FoldsTo (λ p x q. Called g p (x, tt) true q) f xs j
    × MatchOption o (r ≡ true) (λ x. (r ≡ false) × ((h : F) × Called g j (x, tt) false h))
    → ((x : ℕ) (b : Bool) (q : F) → Called g f (x, tt) b q → (q ≡ f) × (b ≡ p x)) → r ≡ below n p
unfolding below
all-below p n e u f r ran law =
    let k : n - 0 ≡ n = omega arith in
    let m : n + 0 ≡ n = omega arith in
    all_from_yields_List p u f r ran (YieldsList-from_range 0 n n e k) law ∙ (all_from p n 0 ∙ ap (λ (x : ℕ). below x p) m)

-- the first number that fails, as `find` gives it
pub first-found : (p : ℕ → Bool) (n : ℕ) (r : Option ℕ)
    → MatchOption r ((k : ℕ) → 0 ≤ k → k < n → p k ≡ true) (λ i. (0 ≤ i) × (i < n) × (p i ≡ false) × ((k : ℕ) → 0 ≤ k → k < i → p k ≡ true))
    → MatchOption r (First p n n) (λ i. (i < n) × First p n i)
first-found p n None f = record { most = omega arith; before = λ j l. so (f j (omega arith) l); here = λ l. absurd (omega arith) }
first-found p n (Some i) (z, l, t, f) = (l, record { most = omega arith; before = λ j m. so (f j (omega arith) m); here = λ m. subst (λ (b : Bool). T (not b)) (sym t) tt })
