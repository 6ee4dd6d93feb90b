-- The reader of a text: the tests of a line of a group on numbers, what a cursor says of the definitions' reader, where a line leads it, and the judgement
-- of a whole text. Assumes nothing.
use Rattle.std.specs.Prelude.{◌≡◌, ◌≢◌, Bool, not, ◌&&◌, List, ◌++◌, Option, Some, None, Result, Ok, Err, ℕ, suc, ◌+◌, ◌*◌, ◌≤◌, ◌<◌, T, eqb, leb, ltb, length, get_or, drop}
use Rattle.std.proofs.Math.Option.{some}
use Rattle.sums.specs.Counting.{when}
use Rattle.model.specs.Job.{Job, in_range, array_fits, caps_admitted}
use Rattle.model.specs.Text.{Group, chosen_pins, missing_pins, closed_tiles, own_ds, laid_sides, Line as TextLine, end_line, line_bytes, Stage, after_array, finished, within}
use Rattle.model.specs.Text.{key_of, writes_side, Reader, named, admit, reads, wrong_at, Reading}
use Rattle.line.specs.declared.group.Group.{Group as CodeGroup}
use Rattle.line.specs.declared.scan.Read.{Read}
use Rattle.line.specs.declared.lines.Heading.{Heading}
use Rattle.line.specs.declared.lines.Line.{Line}
use Rattle.line.specs.declared.lines.Line.TheVariants.{Tells, End}
use Rattle.line.specs.Groups.{text_group}
use Rattle.line.specs.Lines.{entry_line, heading_line}
use Rattle.text.specs.declared.reader.Cursor.{Cursor}
use Rattle.text.specs.declared.reader.WrongLine.{WrongLine}

-- ---- the array line

abbrev pub Opens : List ℕ → Option (Read Heading) → Type 0
Opens text (Some h) =
    T (array_fits h.value.array.rows h.value.array.columns)
    × T (caps_admitted h.value.capacities.orthogonal h.value.capacities.diagonal h.value.capacities.extra)
    × (h.next ≤ length text) × (text ≡ line_bytes (heading_line h.value) ++ drop h.next text)
Opens text None = Reading text (wrong_at 0)

-- ---- a line of a group

-- the stage after a line of a group, or after the array line
abbrev pub stage_of : Option CodeGroup → Stage
stage_of None = after_array
stage_of (Some g) = within (text_group g)

-- the groups in their order, each rising
abbrev pub turn_fits : ℕ → ℕ → ℕ → ℕ → Bool
turn_fits stage from group key = leb stage group && leb (when (eqb stage group) from) key

-- the array has the pin, or the tile
abbrev pub pin_fits : Heading → ℕ → ℕ → Bool
pin_fits h r c = ltb r h.array.rows && ltb c h.array.columns

abbrev pub tile_fits : Heading → ℕ → ℕ → Bool
tile_fits h r c = ltb (suc r) h.array.rows && ltb (suc c) h.array.columns

-- the array has the tile, or the pin; a missing pin is not chosen; an own D is in range and not the job's; the tile writes the side, and the count is at most O
abbrev pub names_fit : Heading → Bool → Group → ℕ → ℕ → ℕ → ℕ → Bool
names_fit h is_chosen chosen_pins r c d v = pin_fits h r c
names_fit h is_chosen missing_pins r c d v = pin_fits h r c && not is_chosen
names_fit h is_chosen closed_tiles r c d v = tile_fits h r c
names_fit h is_chosen own_ds r c d v =
    tile_fits h r c && (in_range h.capacities.orthogonal (2 * h.capacities.orthogonal) v && not (eqb v h.capacities.diagonal))
names_fit h is_chosen laid_sides r c d v = tile_fits h r c && (writes_side r c d && leb v h.capacities.orthogonal)

-- the reader R is where the cursor says, in an array of that size, O and D, with these pins chosen
pub record Follows (R : Reader) (k : Cursor) (h : Heading) (chosen : List ℕ) : Type 0 where
  pub stage : stage_of k.group ≡ R.stage
  pub from : k.from ≡ R.from
  pub high : R.job.rows ≡ h.array.rows
  pub wide : R.job.columns ≡ h.array.columns
  pub most : R.job.O ≡ h.capacities.orthogonal
  pub usual : R.job.D ≡ h.capacities.diagonal
  pub marks : (r c : ℕ) → r < 40 → c < 40 → eqb (get_or chosen (40 * r + c) 0) 1 ≡ eqb (R.job.mark r c) 1

-- the reader after a line of a group, and after the end line
abbrev pub after_group : Reader → Group → ℕ → ℕ → ℕ → ℕ → Reader
after_group R g r c d v = record { stage = within g; from = key_of r c d + 1; job = named R.job g r c d v }

abbrev pub after_end : Reader → Reader
after_end R = record { stage = finished; from = 0; job = R.job }

-- the line leads the reader R on, and the next line begins there
abbrev pub LeadsOn : List ℕ → Reader → ℕ → Line → ℕ → Type 0
LeadsOn text R at (Tells e) next =
    (admit R (entry_line e) ≡ some (after_group R (text_group e.group) e.row e.column e.side e.value))
    × (next ≤ length text) × (drop at text ≡ line_bytes (entry_line e) ++ drop next text)
LeadsOn text R at End next = (admit R end_line ≡ some (after_end R)) × (next ≤ length text) × (drop at text ≡ line_bytes end_line ++ drop next text)

-- where the line at an offset leads the reader R
abbrev pub Stepped : List ℕ → Reader → ℕ → Option (Read Line) → Type 0
Stepped text R at (Some l) = LeadsOn text R at l.value l.next
Stepped text R at None = (l : TextLine) (R' : Reader) (rest : List ℕ) → admit R l ≡ some R' → drop at text ≢ line_bytes l ++ rest

-- the line at the cursor leads every reader there that the cursor, the size and the marks follow
abbrev pub Leads : List ℕ → Cursor → Heading → List ℕ → Option (Read Line) → Type 0
Leads text k h chosen r = (R : Reader) → Follows R k h chosen → Stepped text R k.at r

-- ---- the whole text

abbrev pub Judges : List ℕ → Result (Unit {0}) WrongLine → Type 0
Judges text (Ok _) = (K : Job) × Reading text (reads K)
Judges text (Err w) = Reading text (wrong_at w.offset)
