-- What is written of a job: the parts of its text, cell by cell, what a part put at an offset of an output leaves there, and the paper's answer for each
-- outcome of writing. Assumes nothing.
use Rattle.std.specs.Prelude.{◌≡◌, List, [], ◌∷◌, ◌++◌, Option, Some, None, ℕ, ◌+◌, ◌≤◌, length}
use Rattle.std.proofs.lemmas.List.Edits.{sets}
use Rattle.sums.specs.Counting.{each}
use Rattle.model.specs.Job.{Job, Proper}
use Rattle.model.specs.Record.{record_size, job_of}
use Rattle.model.specs.Text.{Group, decimal, array_line, line_bytes, value_at, value_line, group_text, group_of}
use Rattle.model.specs.Calls.{Answer, refused, wrote, After, after}
use Rattle.line.specs.Scan.{two}
use Rattle.line.specs.Lines.{opening, stop, after_stop}

-- ---- the parts of a text

-- a number and the byte that ends it
abbrev pub ended : ℕ → ℕ → List ℕ
ended n end = decimal n ++ (end ∷ [])

unfoldable pub array_text : Job → List ℕ
array_text J = line_bytes (array_line J.rows J.columns J.O J.D J.E)

-- a line of a group: what it begins with, two numbers and a byte, the rest of its tail, and the end of the line
abbrev pub line_parts : Group → ℕ → ℕ → ℕ → ℕ → List ℕ
line_parts g r c d v = opening g ++ (two r c (stop g) [] ++ (after_stop g d v [] ++ (10 ∷ [])))

-- what a group has on a side of a cell
unfoldable pub side_text : Job → Group → ℕ → ℕ → ℕ → List ℕ
side_text J g r c d = value_line g r c d (value_at J g r c d)

-- what it has at a cell, side by side
unfoldable pub cell_text : Job → Group → ℕ → ℕ → List ℕ
cell_text J g r c = each 4 (λ d. side_text J g r c d)

-- what it has in a row
unfoldable pub row_text : Job → Group → ℕ → List ℕ
row_text J g r = each J.columns (λ c. cell_text J g r c)

-- what the first n groups have
unfoldable pub groups_text : Job → ℕ → List ℕ
groups_text J n = each n (λ k. group_text J (group_of (2 + k)))

-- ---- writing

-- a record that is long enough, its job in range
pub record Sized (rec : List ℕ) : Type 0 where
  pub long : record_size ≤ length rec
  pub proper : Proper (job_of rec)

-- the output has room for `part` from an offset on
pub record Room (out : List ℕ) (at : ℕ) (part : List ℕ) : Type 0 where
  pub fits : at + length part ≤ length out

-- `part`, byte by byte from an offset on, and the offset past it
pub record Puts (out : List ℕ) (at : ℕ) (part : List ℕ) (out' : List ℕ) (next : ℕ) : Type 0 where
  pub bytes : out' ≡ sets out at part
  pub past : next ≡ at + length part

-- "7 output shorter than the text. Gives the length."
abbrev pub answer_of : Option ℕ → Answer
answer_of (Some n) = wrote n
answer_of None = refused 7

-- the answer, the record and the output afterwards
abbrev pub wrote_text : Option ℕ → List ℕ → List ℕ → After
wrote_text r rec out = after (answer_of r) rec [] out
