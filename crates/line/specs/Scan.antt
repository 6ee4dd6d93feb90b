-- What stands at an offset of a text: a word, a number below 100 with the byte that ends it, two numbers, the letter of a side. Each answer says what the
-- text is from there on, or that it is nothing of the kind. Assumes nothing.
use Rattle.std.specs.Prelude.{◌≡◌, ◌≢◌, List, ◌∷◌, ◌++◌, Option, Some, None, ℕ, ◌≤◌, ◌<◌, length, drop}
use Rattle.model.specs.Text.{decimal, side_letter}
use Rattle.line.specs.declared.scan.Read.{Read}

abbrev pub WordAt : List ℕ → ℕ → List ℕ → Option ℕ → Type 0
WordAt text at word (Some n) = (n ≤ length text) × (drop at text ≡ word ++ drop n text)
WordAt text at word None = (X : List ℕ) → drop at text ≢ word ++ X

abbrev pub NumberAt : List ℕ → ℕ → ℕ → Option (Read ℕ) → Type 0
NumberAt text at end (Some n) = (n.value < 100) × (n.next ≤ length text) × (drop at text ≡ decimal n.value ++ (end ∷ drop n.next text))
NumberAt text at end None = (n : ℕ) (X : List ℕ) → n < 100 → drop at text ≢ decimal n ++ (end ∷ X)

-- two numbers, a space between them and a byte after them
abbrev pub two : ℕ → ℕ → ℕ → List ℕ → List ℕ
two a b end X = decimal a ++ (32 ∷ (decimal b ++ (end ∷ X)))

abbrev pub TwoAt : List ℕ → ℕ → ℕ → Option (Read (ℕ × ℕ)) → Type 0
TwoAt text at end (Some n) =
    (n.value.0 < 100) × (n.value.1 < 100) × (n.next ≤ length text) × (drop at text ≡ two n.value.0 n.value.1 end (drop n.next text))
TwoAt text at end None = (a b : ℕ) (X : List ℕ) → a < 100 → b < 100 → drop at text ≢ two a b end X

-- the letter of a side, and a space after it
abbrev pub SideAt : List ℕ → ℕ → Option (Read ℕ) → Type 0
SideAt text at (Some d) = (d.value < 4) × (d.next ≤ length text) × (drop at text ≡ side_letter d.value ∷ 32 ∷ drop d.next text)
SideAt text at None = (d : ℕ) (X : List ℕ) → d < 4 → drop at text ≢ side_letter d ∷ 32 ∷ X
