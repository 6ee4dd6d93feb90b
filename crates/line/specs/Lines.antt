-- The line that begins at an offset of a text: its numbers, all below 100, and what follows it, or that no such line begins there. Assumes nothing.
use Rattle.std.specs.Prelude.{◌≡◌, ◌≢◌, List, [], ◌∷◌, ◌++◌, Option, Some, None, ℕ, ◌≤◌, ◌<◌, T, length, drop}
use Rattle.model.specs.Text.{decimal, Group, chosen_pins, missing_pins, closed_tiles, own_ds, laid_sides, side_letter, group_word, tail_of, says, Line as TextLine}
use Rattle.model.specs.Text.{array_line, group_line, end_line, line_bytes}
use Rattle.line.specs.declared.group.Group.{Group as CodeGroup}
use Rattle.line.specs.declared.scan.Read.{Read}
use Rattle.line.specs.declared.lines.Entry.{Entry}
use Rattle.line.specs.declared.lines.Line.{Line}
use Rattle.line.specs.declared.lines.Line.TheVariants.{Tells, End}
use Rattle.line.specs.declared.lines.Heading.{Heading}
use Rattle.line.specs.Groups.{text_group}

-- what a line of a group begins with: ( word, and a space
abbrev pub opening : Group → List ℕ
opening g = 40 ∷ group_word g ++ (32 ∷ [])

-- what a line of a group has behind its opening
abbrev pub behind : Group → ℕ → ℕ → ℕ → ℕ → List ℕ → List ℕ
behind g r c d v X = decimal r ++ (32 ∷ (decimal c ++ (tail_of g d v ++ (41 ∷ 10 ∷ X))))

-- the byte after the column: the parenthesis that ends the line, or the space before its tail
abbrev pub stop : Group → ℕ
stop chosen_pins = 41
stop missing_pins = 41
stop closed_tiles = 41
stop own_ds = 32
stop laid_sides = 32

-- what the line has behind that byte, up to what follows its parenthesis
abbrev pub after_stop : Group → ℕ → ℕ → List ℕ → List ℕ
after_stop chosen_pins d v X = X
after_stop missing_pins d v X = X
after_stop closed_tiles d v X = X
after_stop own_ds d v X = decimal v ++ (41 ∷ X)
after_stop laid_sides d v X = side_letter d ∷ 32 ∷ (decimal v ++ (41 ∷ X))

-- the side and the value that the line tells there
abbrev pub TailAt : List ℕ → ℕ → Group → Option (Read (ℕ × ℕ)) → Type 0
TailAt text at g (Some t) =
    T (says g t.value.0 t.value.1) × (t.value.1 < 100) × (t.next ≤ length text) × (drop at text ≡ after_stop g t.value.0 t.value.1 (drop t.next text))
TailAt text at g None = (d v : ℕ) (X : List ℕ) → T (says g d v) → v < 100 → drop at text ≢ after_stop g d v X

-- a side and a value that a line of its group tells, its numbers below 100
pub record Told (e : Entry) : Type 0 where
  pub tells : T (says (text_group e.group) e.side e.value)
  pub row : e.row < 100
  pub column : e.column < 100
  pub value : e.value < 100

abbrev pub entry_line : Entry → TextLine
entry_line e = group_line (text_group e.group) e.row e.column e.side e.value

-- a line of a group behind its opening
abbrev pub RestAt : List ℕ → ℕ → CodeGroup → Option (Read Entry) → Type 0
RestAt text at g (Some r) =
    (r.value.group ≡ g) × Told r.value × (r.next ≤ length text)
    × (drop at text ≡ behind (text_group r.value.group) r.value.row r.value.column r.value.side r.value.value (drop r.next text))
RestAt text at g None =
    (r c d v : ℕ) (X : List ℕ) → T (says (text_group g) d v) → r < 100 → c < 100 → v < 100 → drop at text ≢ behind (text_group g) r c d v X

-- the line is that one, and the next begins there
abbrev pub LineIs : List ℕ → ℕ → Line → ℕ → Type 0
LineIs text at (Tells e) next = Told e × (next ≤ length text) × (drop at text ≡ line_bytes (entry_line e) ++ drop next text)
LineIs text at End next = (next ≤ length text) × (drop at text ≡ line_bytes end_line ++ drop next text)

-- a line of a group, or the end line
abbrev pub LineAt : List ℕ → ℕ → Option (Read Line) → Type 0
LineAt text at (Some l) = LineIs text at l.value l.next
LineAt text at None =
    ((g : Group) (r c d v : ℕ) (X : List ℕ) → T (says g d v) → r < 100 → c < 100 → v < 100 → drop at text ≢ line_bytes (group_line g r c d v) ++ X)
    × ((X : List ℕ) → drop at text ≢ line_bytes end_line ++ X)

pub record Below100 (a b o d e : ℕ) : Type 0 where
  pub rows : a < 100
  pub columns : b < 100
  pub O : o < 100
  pub D : d < 100
  pub E : e < 100

-- the array line of a heading
abbrev pub heading_line : Heading → TextLine
heading_line h = array_line h.array.rows h.array.columns h.capacities.orthogonal h.capacities.diagonal h.capacities.extra

abbrev pub Small : Heading → Type 0
Small h = Below100 h.array.rows h.array.columns h.capacities.orthogonal h.capacities.diagonal h.capacities.extra

-- the array line at the start
abbrev pub ArrayAt : List ℕ → Option (Read Heading) → Type 0
ArrayAt text (Some h) = Small h.value × (h.next ≤ length text) × (text ≡ line_bytes (heading_line h.value) ++ drop h.next text)
ArrayAt text None = (a b o d e : ℕ) (X : List ℕ) → Below100 a b o d e → text ≢ line_bytes (array_line a b o d e) ++ X
