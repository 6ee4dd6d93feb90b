-- Document 01, "Record and operations": the calls, their answers, and what each does to record, scratch and output; and an operation beyond document 01,
-- which lists all wires of a record at once. Assumes nothing.
use Rattle.std.specs.Prelude.{◌≡◌, Bool, true, false, not, ◌&&◌, List, [], ◌∷◌, ℕ, suc, ◌-◌, ◌*◌, ◌≤◌, ◌<◌, T, eqb, leb, length, replicate}
use Rattle.std.proofs.Math.Option.{Option, none, some}
use Rattle.sums.specs.Counting.{when}
use Rattle.model.specs.Job.{Job, array_fits, caps_admitted, fresh, marked, closed, side_of, laid_on, laid_by, diagonal_by, tile_d, in_range, is_pin, is_tile, is_chosen, with_extra}
use Rattle.model.specs.Links.{Step}
use Rattle.model.specs.Route.{Greatest, chosen_count}
use Rattle.model.specs.Near.{Smallest}
use Rattle.model.specs.Record.{record_size, scratch_size, job_of, load, Legal, bytes, record_of, unwired_record, over}
use Rattle.model.specs.Wires.{Part, part_at, is_wired, wire_count}
use Rattle.model.specs.Left.{mark_left, close_left, laid_left, centre_left, extra_left}
use Rattle.model.specs.Length.{LeastLength, held_length}
use Rattle.model.specs.Text.{Verdict, reads, wrong_at, Reading, text_of}
use Rattle.model.specs.Listing.{wires_listing}
use Rattle.model.specs.Trial.{Trial, seed_fits, percents_fit, trial_job}
use Rattle.model.specs.Sheet.{sheet_job, sheet_fits, SheetVerdict, Judged}

-- ---- calls and answers

-- a call with its arguments and what it is lent besides the record
pub data Call : Type 0 where
  new : (rows columns O D E : ℕ) → Call
  mark : (row column mark : ℕ) → Call
  close : (row column state : ℕ) → Call
  lay : (row column side count : ℕ) → Call
  diagonal : (row column d : ℕ) → Call
  step : (scratch : List ℕ) → Call
  shortfall : (scratch output : List ℕ) → Call
  part : (row column index : ℕ) → Call
  read_text : (text : List ℕ) → Call
  write_text : (output : List ℕ) → Call
  listing : (output : List ℕ) → Call
  trial : Trial → Call
  extra : (e : ℕ) → Call
  sheet : (loads : List ℕ) → Call

pub data Answer : Type 0 where
  refused : ℕ → Answer
  -- 6, with the offset of the line
  wrong_text : ℕ → Answer
  done added all_wired short : Answer
  -- the chosen pins less the greatest number
  lacks : ℕ → Answer
  lists : Part → Answer
  -- the length of the text or of the listing
  wrote : ℕ → Answer
  -- carried, or the first failing tile
  sheet_is : SheetVerdict → Answer

-- the paper's number of a refusal; none for an accepted call
abbrev pub refusal : Answer → Option ℕ
refusal (refused k) = some k
refusal (wrong_text o) = some 6
refusal done = none
refusal added = none
refusal all_wired = none
refusal short = none
refusal (lacks k) = none
refusal (lists p) = none
refusal (wrote n) = none
refusal (sheet_is v) = none

abbrev pub Accepted : Answer → Type 0
Accepted a = refusal a ≡ none

-- the answer, and every byte of what was lent, afterwards
pub record After : Type 0 where
  pub answer : Answer
  pub rec : List ℕ
  pub scratch : List ℕ
  pub output : List ℕ

abbrev pub after : Answer → List ℕ → List ℕ → List ℕ → After
after a rec scratch output = record { answer = a; rec = rec; scratch = scratch; output = output }

-- "After an accepted call that takes scratch, it is all zero."
abbrev pub cleared : List ℕ → List ℕ
cleared scratch = over (replicate scratch_size 0) scratch

-- ---- what the rules settle, as equations

-- a test of a paragraph, and the number of the refusal where it does not hold
pub record Test : Type 0 where
  pub holds : Bool
  pub number : ℕ

abbrev pub test : Bool → ℕ → Test
test b k = record { holds = b; number = k }

-- The tests of a paragraph in its order: a call is "refused with the first number that applies", with every byte as it was.
abbrev pub asked : List Test → (rec output : List ℕ) → After → After
asked [] rec output a = a
asked (t ∷ ts) rec output a = elim t.holds [ true ↦ asked ts rec output a | false ↦ after (refused t.number) rec [] output ]

-- "1 record under 32,768 bytes; 2 rows or columns out of range; 3 capacities out of range. Gives an idle, open, unwired job, unused bytes zero."
abbrev pub newly : ℕ → ℕ → ℕ → ℕ → ℕ → List ℕ → After
newly rows columns O D E rec =
    asked (test (leb record_size (length rec)) 1 ∷ test (array_fits rows columns) 2 ∷ test (caps_admitted O D E) 3 ∷ []) rec []
    (after done (over (unwired_record (fresh rows columns O D E)) rec) [] [])

-- K6: "Turned away, after 1, 2 and 3 of a new job: 12 a starting number of zero; 13 chosen plus missing above 100, or closed above 100."
abbrev pub tried_on : Trial → List ℕ → After
tried_on t rec =
    asked
    (test (leb record_size (length rec)) 1
    ∷ test (array_fits t.rows t.columns) 2
    ∷ test (caps_admitted t.O t.D t.E) 3
    ∷ test (seed_fits t.seed) 12
    ∷ test (percents_fit t.chosen t.missing t.closed) 13
    ∷ []) rec [] (after done (over (unwired_record (trial_job t)) rec) [] [])

-- "A value already there changes nothing." K5: any other edit "takes out only the wires" that it has to; "every other wire keeps its places, though its lane
-- numbers may shrink". K is the edited job, `left` has the loads of the wires that stay (Left.antt).
abbrev pub edited : (already : Bool) → Job → (left : Step → ℕ) → List ℕ → After
edited already K left rec = elim already [ true ↦ after done rec [] [] | false ↦ after done (over (record_of K left) rec) [] [] ]

-- "4 no such pin or tile; 5 unknown mark or state."

-- K5: "the wires that start at the edited pin, pass the edited missing pin, .."
abbrev pub marked_by : ℕ → ℕ → ℕ → List ℕ → After
marked_by r c m rec =
    let J : Job = job_of rec in
    asked (test (is_pin J r c) 4 ∷ test (leb m 2) 5 ∷ []) rec [] (edited (eqb (J.mark r c) m) (marked J r c m) (mark_left J (load rec) r c) rec)

-- K5: ".. or meet a place of the tile being closed." No wire meets a place of a closed tile, so opening one takes out none.
abbrev pub closed_by : ℕ → ℕ → ℕ → List ℕ → After
closed_by r c v rec =
    let J : Job = job_of rec in
    asked (test (is_tile J r c) 4 ∷ test (leb v 1) 5 ∷ []) rec [] (edited (eqb (J.state r c) v) (closed J r c v) (close_left J (load rec) r c) rec)

-- K3: "Setting a count takes row, column and side code." "4 no such tile; 5 unknown side code; then 11 a count above O." K5: "Lowering a side's limit takes out
-- the highest lanes, just enough."
abbrev pub laid_in : ℕ → ℕ → ℕ → ℕ → List ℕ → After
laid_in r c d n rec =
    let J : Job = job_of rec in
    asked (test (is_tile J r c) 4 ∷ test (leb d 3) 5 ∷ test (leb n J.O) 11 ∷ []) rec []
    (edited (eqb (laid_on J (side_of r c d)) n) (laid_by J (side_of r c d) n) (laid_left J (load rec) (side_of r c d) n) rec)

-- K7: "A tile may have its own D, O to 2×O." "A changed value takes out the wires through that tile's centre", where it rises too. "4 no such tile; then 3 a value
-- out of range."
abbrev pub diagonal_in : ℕ → ℕ → ℕ → List ℕ → After
diagonal_in r c d rec =
    let J : Job = job_of rec in
    asked (test (is_tile J r c) 4 ∷ test (in_range J.O (2 * J.O) d) 3 ∷ []) rec []
    (edited (eqb (tile_d J r c) d) (diagonal_by J r c d) (centre_left J (load rec) r c) rec)

-- K9: "Lowering E is a new operation: it takes out every wire that passes a missing pin, the same E changes nothing, and a greater E is refused by 3 after 1."
abbrev pub extra_in : ℕ → List ℕ → After
extra_in e rec =
    let J : Job = job_of rec in
    asked (test (leb e J.E) 3 ∷ []) rec [] (edited (eqb J.E e) (with_extra J e) (extra_left J (load rec)) rec)

-- "4 no such pin, or it is not chosen."
abbrev pub listed : ℕ → ℕ → ℕ → List ℕ → After
listed r c i rec = asked (test (is_chosen (job_of rec) r c) 4 ∷ []) rec [] (after (lists (part_at (job_of rec) (load rec) r c i)) rec [] [])

-- "Reading gives an unwired job." "6 wrong text, with the offset of the first line that may not stand there."
abbrev pub read_in : Verdict → List ℕ → After
read_in (reads K) rec = after done (over (unwired_record K) rec) [] []
read_in (wrong_at o) rec = after (wrong_text o) rec [] []

-- "7 output shorter than the text. Gives the length; bytes beyond it are untouched."
abbrev pub put_out : (text output rec : List ℕ) → After
put_out text output rec =
    asked (test (leb (length text) (length output)) 7 ∷ []) rec output (after (wrote (length text)) rec [] (over text output))

abbrev pub written : List ℕ → List ℕ → After
written output rec = put_out (text_of (job_of rec)) output rec

-- the listing of the wires that the record holds, by the same rules
abbrev pub listed_out : List ℕ → List ℕ → After
listed_out output rec = put_out (wires_listing (job_of rec) (load rec)) output rec

-- K10: "14 O is not 2 or a pin is missing; then 15 a length other than the published one, a load over its side or inward at the rim, or wrong marks." The record
-- is only read.
abbrev pub sheet_left : List ℕ → SheetVerdict → List ℕ → After
sheet_left loads v rec =
    asked (test (sheet_job (job_of rec)) 14 ∷ test (sheet_fits (job_of rec) loads) 15 ∷ []) rec [] (after (sheet_is v) rec [] [])

-- ---- what is free

abbrev pub wired_in : List ℕ → ℕ → ℕ → Bool
wired_in rec r c = is_wired (job_of rec) (load rec) r c

abbrev pub wires_in : List ℕ → ℕ
wires_in rec = wire_count (job_of rec) (load rec)

-- "one more pin wired, those wired stay wired, places may change": which legal loading is reached is free
pub record OneMore (rec rec' : List ℕ) : Type 0 where
  pub row : ℕ
  pub column : ℕ
  pub legal : Legal rec'
  pub job : job_of rec' ≡ job_of rec
  pub rest : (new : List ℕ) × (length new ≡ record_size) × (rec' ≡ over new rec)
  pub was : T (not (wired_in rec row column))
  pub wired : T (wired_in rec' row column)
  pub number : wires_in rec' ≡ suc (wires_in rec)
  pub others : (r c : ℕ) → (T (eqb r row && eqb c column) → ⊥) → wired_in rec' r c ≡ wired_in rec r c

-- K8: "When stepping says all wired, the total length is exactly the least over all families of routes .. an "all wired" that finds a greater length may move
-- wires of other pins; no pin loses its wire, and a repeated "all wired" moves nothing": where the length is the least already no byte changes. Which wiring
-- of the least length is reached is free.
pub record Shortened (rec rec' : List ℕ) : Type 0 where
  pub legal : Legal rec'
  pub job : job_of rec' ≡ job_of rec
  pub rest : (new : List ℕ) × (length new ≡ record_size) × (rec' ≡ over new rec)
  pub wired : (r c : ℕ) → wired_in rec' r c ≡ wired_in rec r c
  pub least : LeastLength (job_of rec) (held_length (job_of rec) (load rec'))
  pub still : LeastLength (job_of rec) (held_length (job_of rec) (load rec)) → rec' ≡ rec

-- "Stepping says added while more wires fit": "all wired" only where every chosen pin is, "short" only where the wires are the greatest number and that is
-- less; "short" changes no record byte, and "all wired" none but to shorten the wires.
pub data Stepped (rec : List ℕ) : Answer → List ℕ → Type 0 where
  adds : {rec' : List ℕ} → OneMore rec rec' → Stepped rec added rec'
  stays : {rec' : List ℕ} → wires_in rec ≡ chosen_count (job_of rec) → Shortened rec rec' → Stepped rec all_wired rec'
  lacking : {rec' : List ℕ} → Greatest (job_of rec) (wires_in rec) → wires_in rec < chosen_count (job_of rec) → rec' ≡ rec → Stepped rec short rec'

-- "one byte (1 near, 0 not) per pin, place, entry and exit in the published order, the rest of the output zero"
abbrev pub near_bytes : (ℕ → Bool) → List ℕ
near_bytes S = bytes record_size (λ i. when (S i) 1)

-- "Where it is 0 the output is untouched."
pub data Shown (J : Job) (g : ℕ) (output output' : List ℕ) : Type 0 where
  none-short : chosen_count J ≡ g → output' ≡ output → Shown J g output output'
  side : g < chosen_count J → (S : ℕ → Bool) → Smallest J S g → output' ≡ over (near_bytes S) output → Shown J g output output'

-- ---- the operations

-- "Wherever a record is taken, 1 comes before every other number"; a refused call leaves every byte.
pub record On (rec scratch output : List ℕ) (a : After) (Accepts : Type 0) : Type 0 where
  pub damaged : (Legal rec → ⊥) → a ≡ after (refused 1) rec scratch output
  pub legal : Legal rec → Accepts

-- "8 scratch under 65,536 bytes"
pub record Steps (scratch rec : List ℕ) (a : After) : Type 0 where
  pub small : length scratch < scratch_size → a ≡ after (refused 8) rec scratch []
  pub enough : scratch_size ≤ length scratch → Stepped rec a.answer a.rec × (a.scratch ≡ cleared scratch) × (a.output ≡ [])

-- "8; 7 output under 32,768 bytes. Gives chosen minus greatest number and, where that is not 0," the near side
pub record Lacks (scratch output rec : List ℕ) (a : After) : Type 0 where
  pub small : length scratch < scratch_size → a ≡ after (refused 8) rec scratch output
  pub narrow : scratch_size ≤ length scratch → length output < record_size → a ≡ after (refused 7) rec scratch output
  pub enough : scratch_size ≤ length scratch → record_size ≤ length output
      → (g : ℕ) × Greatest (job_of rec) g × (a.answer ≡ lacks (chosen_count (job_of rec) - g)) × Shown (job_of rec) g output a.output
      × (a.rec ≡ rec) × (a.scratch ≡ cleared scratch)

-- "Read text: 1 record short"
pub record ReadIn (text rec : List ℕ) (a : After) : Type 0 where
  pub brief : length rec < record_size → a ≡ after (refused 1) rec [] []
  pub long : record_size ≤ length rec → (v : Verdict) × Reading text v × (a ≡ read_in v rec)

-- what is said of a sheet that is not turned away
pub record OnSheet (loads rec : List ℕ) (a : After) : Type 0 where
  pub verdict : SheetVerdict
  pub judged : T (sheet_job (job_of rec)) → T (sheet_fits (job_of rec) loads) → Judged (job_of rec) loads verdict
  pub left : a ≡ sheet_left loads verdict rec

-- what a call on the record `rec` leaves
abbrev pub Did : Call → List ℕ → After → Type 0
Did (new rows columns O D E) rec a = a ≡ newly rows columns O D E rec
Did (mark r c m) rec a = On rec [] [] a (a ≡ marked_by r c m rec)
Did (close r c v) rec a = On rec [] [] a (a ≡ closed_by r c v rec)
Did (lay r c d n) rec a = On rec [] [] a (a ≡ laid_in r c d n rec)
Did (diagonal r c d) rec a = On rec [] [] a (a ≡ diagonal_in r c d rec)
Did (step scratch) rec a = On rec scratch [] a (Steps scratch rec a)
Did (shortfall scratch output) rec a = On rec scratch output a (Lacks scratch output rec a)
Did (part r c i) rec a = On rec [] [] a (a ≡ listed r c i rec)
Did (read_text text) rec a = ReadIn text rec a
Did (write_text output) rec a = On rec [] output a (a ≡ written output rec)
Did (listing output) rec a = On rec [] output a (a ≡ listed_out output rec)
Did (trial t) rec a = a ≡ tried_on t rec
Did (extra e) rec a = On rec [] [] a (a ≡ extra_in e rec)
Did (sheet loads) rec a = On rec [] [] a (OnSheet loads rec a)
