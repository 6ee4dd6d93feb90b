-- Laws of the entry of a list at an index. Assumes nothing.
use Rattle.std.specs.Prelude.{◌≡◌, refl, ℕ, zero, suc, ◌+◌, ◌≤◌, ◌<◌, length}
use Rattle.std.proofs.Common.{ap, ◌∙◌, sym, not-suc-le-zero, le_of_suc-le-suc, zero-add, suc-add, arith}
use mathlib.Core.List.{List, [], ◌∷◌, ◌++◌, Memᴰ}
use Rattle.std.proofs.Math.Option.{none, some, Option}
use Rattle.std.proofs.Math.ListN.{get_elem?}

pub entry_past : {A : Type 0} (l : List A) (n : ℕ) → length l ≤ n → get_elem? l n ≡ none
entry_past [] n h = refl
entry_past (x ∷ l) zero h = absurd (not-suc-le-zero h)
entry_past (x ∷ l) (suc n) h = entry_past l n (le_of_suc-le-suc h)

pub entry-left : {A : Type 0} (l m : List A) (i : ℕ) → i < length l → get_elem? (l ++ m) i ≡ get_elem? l i
entry-left [] m i h = absurd (not-suc-le-zero h)
entry-left (x ∷ l) m zero h = refl
entry-left (x ∷ l) m (suc i) h = entry-left l m i (le_of_suc-le-suc h)

pub entry-right : {A : Type 0} (l m : List A) (i : ℕ) → get_elem? (l ++ m) (length l + i) ≡ get_elem? m i
entry-right [] m i = ap (get_elem? m) (zero-add i)
entry-right (x ∷ l) m i = ap (get_elem? (x ∷ (l ++ m))) (suc-add (length l) i) ∙ entry-right l m i

-- what is in a list stands at an index
pub has-entry : {A : Type 0} {x : A} {l : List A} → Memᴰ x l → (i : ℕ) × (get_elem? l i ≡ some x)
has-entry (Memᴰ.head e) = (0, ap some (sym e))
has-entry (Memᴰ.tail m) = let (i, e) = has-entry m in (suc i, e)

pub none-some : {A : Type 0} (x : A) → ◌≡◌ {A = Option A} none (some x) → ⊥
none-some x e = let z : ◌≡◌ {A = ℕ} 0 1 = cc in omega arith

pub some_one : {A : Type 0} (x y : A) → ◌≡◌ {A = Option A} (some x) (some y) → x ≡ y
some_one x y e = cc

-- an index with an entry is below the length
pub entry-below : {A : Type 0} (l : List A) (k : ℕ) (x : A) → get_elem? l k ≡ some x → k < length l
entry-below [] k x e = absurd (none-some x e)
entry-below (y ∷ l) zero x e = omega arith
entry-below (y ∷ l) (suc k) x e = omega (arith, entry-below l k x e)

-- and one below the length has an entry
pub entry-there : {A : Type 0} (l : List A) (k : ℕ) → k < length l → (x : A) × (get_elem? l k ≡ some x)
entry-there [] k h = absurd (not-suc-le-zero h)
entry-there (y ∷ l) zero h = (y, refl)
entry-there (y ∷ l) (suc k) h = entry-there l k (omega arith)

pub entry-member : {A : Type 0} (l : List A) (k : ℕ) (x : A) → get_elem? l k ≡ some x → Memᴰ x l
entry-member [] k x e = absurd (none-some x e)
entry-member (y ∷ l) zero x e = let q : x ≡ y = cc in Memᴰ.head q
entry-member (y ∷ l) (suc k) x e = Memᴰ.tail (entry-member l k x e)
