-- Lists after a store. Assumes nothing.
use Rattle.std.specs.Prelude.{◌≡◌, ◌≢◌, Bool, true, false, List, ℕ, ◌<◌, eqb, length, get_or, set}
use Rattle.std.proofs.Common.{sym, ap, ◌∙◌, get_or-set_same, get_or-set_other}
use Rattle.sums.specs.Tests.{Same, same, other, same?}

-- after a store the list reads as h does, if h is what is stored there and what stood elsewhere
pub set_reads : {A : Type 0} (l : List A) (i : ℕ) (v z : A) (h : ℕ → A) → i < length l → v ≡ h i → (j : ℕ) → (j ≢ i → get_or l j z ≡ h j)
    → get_or (set l i v) j z ≡ h j
set_reads l i v z h k e j o = go (eqb j i) (same? j i)
  where
    go : (b : Bool) → Same j i b → get_or (set l i v) j z ≡ h j
    go true (same p) = ap (λ (x : ℕ). get_or (set l i v) x z) p ∙ get_or-set_same l i v z k ∙ e ∙ ap h (sym p)
    go false (other n) = get_or-set_other l i j v z n ∙ o n
