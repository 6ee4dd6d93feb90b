-- Lists made entry by entry: equal entries make equal lists, empty ones an empty list, and what one entry gains with nothing behind it the list gains at
-- its end. Assumes nothing.
use Rattle.std.specs.Prelude.{◌≡◌, refl, List, [], ◌++◌, ℕ, zero, suc, ◌<◌, Bool, true, false, eqb}
use Rattle.std.proofs.Common.{sym, ap, ap₂, ◌∙◌, append_assoc, append-nil, not-suc-le-zero, arith}
use Rattle.sums.specs.Counting.{each}
use Rattle.sums.specs.Tests.{Same, same, other, same?}

pub each-cong : {A : Type 0} (n : ℕ) (f g : ℕ → List A) → ((i : ℕ) → i < n → f i ≡ g i) → each n f ≡ each n g
unfolding each
each-cong zero f g e = refl
each-cong (suc n) f g e = ap₂ ◌++◌ (each-cong n f g (λ i l. e i (omega arith))) (e n (omega arith))

pub each_none : {A : Type 0} (n : ℕ) (f : ℕ → List A) → ((i : ℕ) → i < n → f i ≡ []) → each n f ≡ []
unfolding each
each_none zero f e = refl
each_none (suc n) f e = ap₂ ◌++◌ (each_none n f (λ i l. e i (omega arith))) (e n (omega arith))

-- entry a gains l at its end, and all behind it are empty
pub each-gain : {A : Type 0} (n a : ℕ) (f g : ℕ → List A) (l : List A) → a < n → ((i : ℕ) → i < a → g i ≡ f i) → g a ≡ f a ++ l
    → ((i : ℕ) → a < i → i < n → (f i ≡ []) × (g i ≡ [])) → each n g ≡ each n f ++ l
unfolding each
each-gain zero a f g l k before at behind = absurd (not-suc-le-zero k)
each-gain {A} (suc n) a f g l k before at behind = by (eqb a n) (same? a n) (λ m. each-gain n a f g l m before at (λ i p q. behind i p (omega arith)))
  where
    by : (b : Bool) → Same a n b → (a < n → each n g ≡ each n f ++ l) → each n g ++ g n ≡ (each n f ++ f n) ++ l
    by true (same e) r =
        ap₂ ◌++◌ (each-cong n g f (λ i m. before i (omega arith))) (ap g (sym e) ∙ (at ∙ ap (λ (i : ℕ). f i ++ l) e)) ∙ sym (append_assoc (each n f) (f n) l)
    by false (other e) r =
        let (x, y) = behind n (omega arith) (omega arith) in
        rw (x, y) (append-nil (each n g) ∙ (r (omega arith) ∙ ap (λ (m : List A). m ++ l) (sym (append-nil (each n f)))))
