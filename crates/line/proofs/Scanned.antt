-- Laws of words and numbers at an offset of a text. A word is told byte by byte; a number below 100 has one or two digits, and its first byte below the
-- digits ends it, so what follows a word or a number is what follows it in every reading. Assumes nothing.
use mathlib.Core.Path.{◌≡◌, refl, sym, ap, ◌∙◌}
use mathlib.Core.Logic.{◌≢◌}
use mathlib.Core.Bool.{Bool, true, false, not}
use mathlib.Core.List.{List, [], ◌∷◌, ◌++◌, append_assoc}
use Prim.Native.Nat.{ℕ, ◌+◌, ◌-◌, ◌/◌, ◌%◌, ◌≤◌, ◌<◌}
use native.Mathlib.Omega.{arith}
use lib.Dec.{T, leb, leb→le, nleb→lt}
use lib.ListN.{length, get_or, take, drop, take-append-drop, length-append, length-drop, get_or-append}
use lib.Seq.{drop-drop, drop-append_seam, length-take-le, get_or-take, get_or-drop, ext_get_or}
use Rattle.sums.specs.Counting.{only}
use Rattle.model.specs.Text.{decimal}
use Rattle.model.proofs.TextUnique.{digits, number-unique}
use Rattle.std.specs.Prelude.{Some, None}
use Rattle.line.specs.Scan.{WordAt, two}

-- ---- words

module _ (text : List ℕ) (at : ℕ) (word : List ℕ) where
  pub word-short : at ≤ length text → length text - at < length word → WordAt text at word None
  word-short l s X e = omega (arith, ap length e, length-drop at text, length-append word X)

  pub word_byte : (i : ℕ) → i < length word → get_or text (at + i) 0 ≢ get_or word i 0 → WordAt text at word None
  word_byte i l n X e = n (sym (get_or-drop at text i 0) ∙ (ap (λ (s : List ℕ). get_or s i 0) e ∙ get_or-append word X 0 i l))

  pub word-whole : at + length word ≤ length text → ((i : ℕ) → i < length word → get_or text (at + i) 0 ≡ get_or word i 0)
      → WordAt text at word (Some (at + length word))
  word-whole l h = (l, sym (take-append-drop (length word) (drop at text)) ∙ (λ i. front i ++ drop-drop (length word) at text i))
    where
      long : length word ≤ length (drop at text)
      long = omega (arith, length-drop at text)

      front : take (length word) (drop at text) ≡ word
      front =
          ext_get_or 0 _ word (length-take-le (length word) (drop at text) long)
          (λ i k. let m : i < length word = omega (arith, length-take-le (length word) (drop at text) long) in
          get_or-take (length word) (drop at text) i 0 m ∙ (get_or-drop at text i 0 ∙ h i m))

-- what follows a word
pub after-word : (word X Y : List ℕ) → word ++ X ≡ word ++ Y → X ≡ Y
after-word word X Y e = sym (drop-append_seam word X) ∙ (ap (drop (length word)) e ∙ drop-append_seam word Y)

-- ---- numbers

-- what follows a number
pub after-number : (n m x : ℕ) (X Y : List ℕ) → x < 48 → decimal n ++ (x ∷ X) ≡ decimal m ++ (x ∷ Y) → (n ≡ m) × (X ≡ Y)
after-number n m x X Y l e =
    let (p, q) = number-unique n m x x X Y l l (sym (flat n (x ∷ X)) ∙ (e ∙ flat m (x ∷ Y))) in
    (p, ap (drop 1) q)
  where
    flat : (k : ℕ) (Z : List ℕ) → decimal k ++ Z ≡ digits k Z
    flat k Z = append_assoc (only (leb 10 k) ((48 + k / 10) ∷ [])) ((48 + k % 10) ∷ []) Z

pub decimal-one : (n : ℕ) (X : List ℕ) → n < 10 → decimal n ++ X ≡ (48 + n) ∷ X
decimal-one n X l = by (leb 10 n) (leb→le 10 n)
  where
    by : (b : Bool) → (T b → 10 ≤ n) → (only b ((48 + n / 10) ∷ []) ++ ((48 + n % 10) ∷ [])) ++ X ≡ (48 + n) ∷ X
    by true h = absurd (omega (arith, h tt))
    by false h = ap (λ (k : ℕ). k ∷ X) (omega arith)

pub decimal-two : (n : ℕ) (X : List ℕ) → 10 ≤ n → decimal n ++ X ≡ (48 + n / 10) ∷ (48 + n % 10) ∷ X
decimal-two n X l = by (leb 10 n) (nleb→lt 10 n)
  where
    by : (b : Bool) → (T (not b) → n < 10) → (only b ((48 + n / 10) ∷ []) ++ ((48 + n % 10) ∷ [])) ++ X ≡ (48 + n / 10) ∷ (48 + n % 10) ∷ X
    by true h = refl
    by false h = absurd (omega (arith, h tt))

-- ---- two numbers

pub after_two : (a b x y end : ℕ) (X Y : List ℕ) → end < 48 → two a b end X ≡ two x y end Y → (a ≡ x) × (b ≡ y) × (X ≡ Y)
after_two a b x y end X Y l e =
    let (p, f) = after-number a x 32 (decimal b ++ (end ∷ X)) (decimal y ++ (end ∷ Y)) (omega arith) e in
    let (q, g) = after-number b y end X Y l f in
    (p, q, g)
