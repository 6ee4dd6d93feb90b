-- Document 01, "Job text": the lines, which of them may stand where, and what reading and writing give. Assumes nothing.
use Rattle.std.specs.Prelude.{◌≡◌, ◌≢◌, Bool, true, false, not, ◌&&◌, List, [], ◌∷◌, ◌++◌, ℕ, zero, suc, ◌+◌, ◌*◌, ◌/◌, ◌%◌, ◌≤◌, eqb, leb, ltb, length, get_or}
use Rattle.std.proofs.Math.Option.{Option, none, some}
use Rattle.sums.specs.Counting.{when, only, each}
use Rattle.model.specs.Job.{Job, array_fits, caps_admitted, fresh, marked, closed, side_of, laid_on, laid_by, with_own_d, is_pin, is_tile, is_own_d, is_chosen, is_missing, is_closed, Proper}

-- ---- lines

-- the groups: "Every group line names one pin or tile"
pub data Group : Type 0 where
  chosen_pins missing_pins closed_tiles own_ds laid_sides : Group

-- in their order: "the chosen pins, the missing pins, the closed tiles", and laid wires "after the closed tiles", tiles with their own D "between closed and laid"
abbrev pub groups : List Group
groups = chosen_pins ∷ missing_pins ∷ closed_tiles ∷ own_ds ∷ laid_sides ∷ []

-- "One form a line": the array, one pin or tile of a group with the value that it gets on a side, the end
pub data Line : Type 0 where
  array_line : (rows columns O D E : ℕ) → Line
  group_line : Group → (row column side value : ℕ) → Line
  end_line : Line

-- ---- the bytes of a line

-- "decimal, no leading zeros"; no number of a line that may stand has three digits
abbrev pub decimal : ℕ → List ℕ
decimal n = only (leb 10 n) ((48 + n / 10) ∷ []) ++ ((48 + n % 10) ∷ [])

-- "One space between parts"
abbrev pub numbers : List ℕ → List ℕ
numbers [] = []
numbers (n ∷ l) = 32 ∷ decimal n ++ numbers l

-- ( word numbers )
abbrev pub form : List ℕ → List ℕ → List ℕ
form word l = 40 ∷ word ++ (numbers l ++ (41 ∷ []))

-- array
abbrev pub array_word : List ℕ
array_word = 97 ∷ 114 ∷ 114 ∷ 97 ∷ 121 ∷ []

-- pins
abbrev pub pins_word : List ℕ
pins_word = 112 ∷ 105 ∷ 110 ∷ 115 ∷ []

-- caps
abbrev pub caps_word : List ℕ
caps_word = 99 ∷ 97 ∷ 112 ∷ 115 ∷ []

-- chosen, missing, closed, d, laid
abbrev pub group_word : Group → List ℕ
group_word chosen_pins = 99 ∷ 104 ∷ 111 ∷ 115 ∷ 101 ∷ 110 ∷ []
group_word missing_pins = 109 ∷ 105 ∷ 115 ∷ 115 ∷ 105 ∷ 110 ∷ 103 ∷ []
group_word closed_tiles = 99 ∷ 108 ∷ 111 ∷ 115 ∷ 101 ∷ 100 ∷ []
group_word own_ds = 100 ∷ []
group_word laid_sides = 108 ∷ 97 ∷ 105 ∷ 100 ∷ []

-- n, e, s, w by the side code
abbrev pub side_letter : ℕ → ℕ
side_letter d = get_or (110 ∷ 101 ∷ 115 ∷ 119 ∷ []) d 0

-- What a line has behind row and column to tell side and value: "`(d 0 0 3)`, row, column, value", "`(laid 0 0 n 1)`, row, column, side, count"
abbrev pub tail_of : Group → ℕ → ℕ → List ℕ
tail_of chosen_pins d v = []
tail_of missing_pins d v = []
tail_of closed_tiles d v = []
tail_of own_ds d v = numbers (v ∷ [])
tail_of laid_sides d v = 32 ∷ side_letter d ∷ numbers (v ∷ [])

-- The sides and values that a line tells: but for laid wires a line has no side, and where it has no tail its word alone says the mark or the state. "Zero counts
-- left out."
abbrev pub says : Group → ℕ → ℕ → Bool
says chosen_pins d v = eqb d 0 && eqb v 1
says missing_pins d v = eqb d 0 && eqb v 2
says closed_tiles d v = eqb d 0 && eqb v 1
says own_ds d v = eqb d 0 && ltb 0 v
says laid_sides d v = ltb d 4 && ltb 0 v

-- end
abbrev pub end_word : List ℕ
end_word = 101 ∷ 110 ∷ 100 ∷ []

-- "The array line gives rows, columns, then O, D, E. Every group line names one pin or tile, row before column."
abbrev pub form_of : Line → List ℕ
form_of (array_line rows columns O D E) =
    40 ∷ array_word ++ (32 ∷ form pins_word (rows ∷ columns ∷ []) ++ (32 ∷ form caps_word (O ∷ D ∷ E ∷ []) ++ (41 ∷ [])))
form_of (group_line g r c d v) = 40 ∷ group_word g ++ (numbers (r ∷ c ∷ []) ++ (tail_of g d v ++ (41 ∷ [])))
form_of end_line = form end_word []

-- "each ended by byte 10"
unfoldable pub line_bytes : Line → List ℕ
line_bytes l = form_of l ++ (10 ∷ [])

-- ---- which lines may stand where

-- how far the lines have come: none yet, the array, a line of a group, the end
pub data Stage : Type 0 where
  begin after_array finished : Stage
  within : Group → Stage

-- "the array, the chosen pins, the missing pins, the closed tiles, then the end", the tiles' own D and then laid wires after the closed tiles
abbrev pub rank : Stage → ℕ
rank begin = 0
rank after_array = 1
rank (within chosen_pins) = 2
rank (within missing_pins) = 3
rank (within closed_tiles) = 4
rank (within own_ds) = 5
rank (within laid_sides) = 6
rank finished = 7

-- the group of a rank
unfoldable pub group_of : ℕ → Group
group_of n =
    elim (eqb n 2) [
      | true ↦ chosen_pins
      | false ↦ elim (eqb n 3) [ true ↦ missing_pins | false ↦ elim (eqb n 4) [ true ↦ closed_tiles | false ↦ elim (eqb n 5) [ true ↦ own_ds | false ↦ laid_sides ] ] ]
    ]

-- the order within a group: by row, then column, then side; "order by tile and then n, e, s, w"
abbrev pub key_of : ℕ → ℕ → ℕ → ℕ
key_of r c d = 4 * (40 * r + c) + d

-- the stage, the least key that the group of the last line may still have, and the job so far
pub record Reader : Type 0 where
  pub stage : Stage
  pub from : ℕ
  pub job : Job

abbrev pub start : Reader
start = record { stage = begin; from = 0; job = fresh 0 0 0 0 0 }

abbrev pub asking : Bool → Reader → Option Reader
asking true R = some R
asking false R = none

-- "each group strictly rising by row and then column", the groups in their order, after the array
abbrev pub in_turn : Reader → Group → ℕ → ℕ → ℕ → Bool
in_turn R g r c d =
    leb (rank after_array) (rank R.stage)
    && (leb (rank R.stage) (rank (within g)) && leb (when (eqb (rank R.stage) (rank (within g))) R.from) (key_of r c d))

-- "An inner side is written as s or e of its northern or western tile": n by the first row alone, w by the first column alone
abbrev pub writes_side : ℕ → ℕ → ℕ → Bool
writes_side r c zero = eqb r 0
writes_side r c (suc zero) = true
writes_side r c (suc (suc zero)) = true
writes_side r c (suc (suc (suc d))) = eqb c 0

-- "A number out of range makes its line wrong." "No pin in two groups."
abbrev pub names : Job → Group → ℕ → ℕ → ℕ → ℕ → Bool
names J chosen_pins r c d v = is_pin J r c && says chosen_pins d v
names J missing_pins r c d v = (is_pin J r c && not (eqb (J.mark r c) 1)) && says missing_pins d v
names J closed_tiles r c d v = is_tile J r c && says closed_tiles d v
names J own_ds r c d v = (is_tile J r c && is_own_d J v) && says own_ds d v
names J laid_sides r c d v = (is_tile J r c && (writes_side r c d && leb v J.O)) && says laid_sides d v

-- the job with the value at the pin, the tile or the side
abbrev pub named : Job → Group → ℕ → ℕ → ℕ → ℕ → Job
named J chosen_pins r c d v = marked J r c v
named J missing_pins r c d v = marked J r c v
named J closed_tiles r c d v = closed J r c v
named J own_ds r c d v = with_own_d J r c v
named J laid_sides r c d v = laid_by J (side_of r c d) v

unfoldable pub admit : Reader → Line → Option Reader
admit R (array_line rows columns O D E) =
    asking (eqb (rank R.stage) (rank begin) && (array_fits rows columns && caps_admitted O D E))
    (record { stage = after_array; from = 0; job = fresh rows columns O D E })
admit R (group_line g r c d v) =
    asking (in_turn R g r c d && names R.job g r c d v) (record { stage = within g; from = key_of r c d + 1; job = named R.job g r c d v })
admit R end_line =
    asking (leb (rank after_array) (rank R.stage) && ltb (rank R.stage) (rank finished)) (record { stage = finished; from = 0; job = R.job })

-- ---- reading

pub data Verdict : Type 0 where
  reads : Job → Verdict
  wrong_at : ℕ → Verdict

-- the reader, the offset of its next line, and the text from there on
pub data Reads : Reader → ℕ → List ℕ → Verdict → Type 0 where
  ended : {R : Reader} {o : ℕ} {text : List ℕ} → R.stage ≡ finished → text ≡ [] → Reads R o text (reads R.job)
  line : {R : Reader} {o : ℕ} {text : List ℕ} {v : Verdict} (l : Line) (R' : Reader) (rest : List ℕ)
      → admit R l ≡ some R' → text ≡ line_bytes l ++ rest → Reads R' (o + length (line_bytes l)) rest v → Reads R o text v
  -- "the offset of the first line that may not stand there": nothing that may stand begins here
  wrong : {R : Reader} {o : ℕ} {text : List ℕ}
      → (R.stage ≡ finished → text ≢ []) → ((l : Line) (R' : Reader) (rest : List ℕ) → admit R l ≡ some R' → text ≢ line_bytes l ++ rest)
      → Reads R o text (wrong_at o)

abbrev pub Reading : List ℕ → Verdict → Type 0
Reading text v = Reads start 0 text v

-- ---- writing

-- f for each cell, by row and column
abbrev pub cells : Job → (ℕ → ℕ → List ℕ) → List ℕ
cells J f = each J.rows (λ r. each J.columns (λ c. f r c))

-- the value that the job has in a group, at a pin or tile and on a side: 0 for none, so that an own D is written "only where it differs from the job's"
abbrev pub value_at : Job → Group → ℕ → ℕ → ℕ → ℕ
value_at J chosen_pins r c d = when (eqb d 0 && is_chosen J r c) 1
value_at J missing_pins r c d = when (eqb d 0 && is_missing J r c) 2
value_at J closed_tiles r c d = when (eqb d 0 && is_closed J r c) 1
value_at J own_ds r c d = when (eqb d 0 && is_tile J r c) (J.added.own_d r c)
value_at J laid_sides r c d = when (ltb d 4 && (is_tile J r c && writes_side r c d)) (laid_on J (side_of r c d))

-- the line for a value, and none for 0
abbrev pub value_line : Group → ℕ → ℕ → ℕ → ℕ → List ℕ
value_line g r c d v = only (ltb 0 v) (line_bytes (group_line g r c d v))

abbrev pub group_text : Job → Group → List ℕ
group_text J g = cells J (λ r c. each 4 (λ d. value_line g r c d (value_at J g r c d)))

-- f for each group of a list, and then the rest
abbrev pub listed : (Group → List ℕ) → List Group → List ℕ → List ℕ
listed f [] rest = rest
listed f (g ∷ l) rest = f g ++ listed f l rest

unfoldable pub text_of : Job → List ℕ
text_of J =
    line_bytes (array_line J.rows J.columns J.O J.D J.E) ++ listed (group_text J) groups (line_bytes end_line)

-- Demand 2: "job text is read and written by its grammar, and each undoes the other for a job without wires."
pub record RoundTrip : Type 0 where
  -- K9: "The round trip covers E at most D."
  pub reads-written : (J : Job) → Proper J → J.E ≤ J.D → Reading (text_of J) (reads J)
  pub writes-read : (text : List ℕ) (J : Job) → Reading text (reads J) → text_of J ≡ text
