-- The word by which the library returns an answer: 256 times its value, and document 01's number of the refusal, 0 for an accepted call. Assumes nothing.
use Rattle.std.specs.Prelude.{Bool, true, false, not, ◌&&◌, ◌||◌, ℕ, zero, suc, ◌+◌, ◌*◌, ◌^◌, ◌/◌, ◌%◌, eqb, ltb}
use Rattle.std.proofs.Math.Option.{none, some}
use Rattle.model.specs.Links.{north, east, south, west, compass_code, PlaceKind, pin, missing, side, centre, outside, nowhere}
use Rattle.model.specs.Wires.{Part, unwired, to, out, past_the_end}
use Rattle.model.specs.Calls.{Call, new, mark, close, lay, diagonal, step, shortfall, part, read_text, write_text, listing, trial, extra, sheet}
use Rattle.model.specs.Calls.{Answer, refused, wrong_text, done, added, all_wired, short, lacks, lists, wrote, refusal, sheet_is}
use Rattle.model.specs.Sheet.{SheetVerdict, carried, fails_at}

-- 0 n, 1 e, 2 s, 3 w, 4 c, 5 r, 6 p; no part has another place
abbrev pub place_number : PlaceKind → ℕ
place_number (side d) = compass_code d
place_number centre = 4
place_number missing = 5
place_number pin = 6
place_number outside = 6
place_number nowhere = 6

-- kind 0 unwired, 1 past the end, 2 to, 3 out
abbrev pub number : (kind place lane row column : ℕ) → ℕ
number k p i r c = k + 4 * p + 32 * i + 1024 * r + 65536 * c

abbrev pub part_number : Part → ℕ
part_number unwired = 0
part_number past_the_end = 1
part_number (to r c p i) = number 2 (place_number p) i r c
part_number (out p i) = number 3 (place_number p) i 0 0

-- 0 carried, else 1 and the row and the column of the first failing tile
abbrev pub verdict_number : SheetVerdict → ℕ
verdict_number carried = 0
verdict_number (fails_at r c) = number 1 0 0 r c

abbrev pub value : Answer → ℕ
value (refused k) = 0
value (wrong_text o) = o
value done = 0
value added = 0
value all_wired = 1
value short = 2
value (lacks k) = k
value (lists p) = part_number p
value (wrote n) = n
value (sheet_is v) = verdict_number v

abbrev pub code : Answer → ℕ
code a = elim (refusal a) [ none ↦ 0 | some k ↦ k ]

abbrev pub word : Answer → ℕ
word a = 256 * value a + code a

-- ---- the word read back, as the header says

-- the place with a number
abbrev pub place_of : ℕ → PlaceKind
place_of zero = side north
place_of (suc zero) = side east
place_of (suc (suc zero)) = side south
place_of (suc (suc (suc zero))) = side west
place_of (suc (suc (suc (suc zero)))) = centre
place_of (suc (suc (suc (suc (suc zero))))) = missing
place_of (suc (suc (suc (suc (suc (suc n)))))) = pin

-- the part with kind k, place p, lane i, row r, column c
abbrev pub part_with : (kind place lane row column : ℕ) → Part
part_with zero p i r c = unwired
part_with (suc zero) p i r c = past_the_end
part_with (suc (suc zero)) p i r c = to r c (place_of p) i
part_with (suc (suc (suc k))) p i r c = out (place_of p) i

abbrev pub part_read : ℕ → Part
part_read v = part_with (v % 4) (v / 4 % 8) (v / 32 % 32) (v / 1024 % 64) (v / 65536)

-- what the value of an accepted call says: of Step "0 added, 1 all wired, 2 short"
abbrev pub step_read : ℕ → Answer
step_read zero = added
step_read (suc zero) = all_wired
step_read (suc (suc v)) = short

-- of a sheet 0 carried, else its row and its column
abbrev pub verdict_with : (kind row column : ℕ) → SheetVerdict
verdict_with zero r c = carried
verdict_with (suc k) r c = fails_at r c

abbrev pub verdict_read : ℕ → SheetVerdict
verdict_read v = verdict_with (v % 4) (v / 1024 % 64) (v / 65536)

abbrev pub value_read : Call → ℕ → Answer
value_read (new rows columns O D E) v = done
value_read (mark r c m) v = done
value_read (close r c m) v = done
value_read (lay r c d n) v = done
value_read (diagonal r c d) v = done
value_read (step scratch) v = step_read v
value_read (shortfall scratch output) v = lacks v
value_read (part r c i) v = lists (part_read v)
value_read (read_text text) v = done
value_read (write_text output) v = wrote v
value_read (listing output) v = wrote v
value_read (trial t) v = done
value_read (extra e) v = done
value_read (sheet loads) v = sheet_is (verdict_read v)

-- what a code and a value say: 0 accepted, 6 wrong text with its offset, else the number of the refusal
abbrev pub code_read : Call → ℕ → ℕ → Answer
code_read c k v = elim (eqb k 0) [ true ↦ value_read c v | false ↦ elim (eqb k 6) [ true ↦ wrong_text v | false ↦ refused k ] ]

abbrev pub word_read : Call → ℕ → Answer
word_read c w = code_read c (w % 256) (w / 256)

-- ---- what an operation answers

-- a part that can stand in a word: rows and columns below 64, lanes below 32, a place with a number of its own
abbrev pub is_numbered : PlaceKind → Bool
is_numbered pin = true
is_numbered missing = true
is_numbered centre = true
is_numbered outside = false
is_numbered nowhere = false
is_numbered (side d) = true

abbrev pub part_fits : Part → Bool
part_fits unwired = true
part_fits past_the_end = true
part_fits (to r c p i) = ltb r 64 && (ltb c 64 && (ltb i 32 && is_numbered p))
part_fits (out p i) = ltb i 32 && is_numbered p

-- the operations by number, in the order of document 01; setting a count, giving a tile its D and lowering E answer as Close does, the listing as Write
-- text does, a trial as New does
abbrev pub operation : Call → ℕ
operation (new rows columns O D E) = 0
operation (mark r c m) = 1
operation (close r c m) = 2
operation (lay r c d n) = 2
operation (diagonal r c d) = 2
operation (step scratch) = 3
operation (shortfall scratch output) = 4
operation (part r c i) = 5
operation (read_text text) = 6
operation (write_text output) = 7
operation (listing output) = 7
operation (trial t) = 0
operation (extra e) = 2
operation (sheet loads) = 8

-- a value has 56 bits
abbrev pub few : ℕ → Bool
few n = ltb n (2 ^ 56)

abbrev pub refusal_fits : ℕ → Bool
refusal_fits k = ltb 0 k && (ltb k 256 && not (eqb k 6))

-- a tile that can stand in a word
abbrev pub verdict_fits : SheetVerdict → Bool
verdict_fits carried = true
verdict_fits (fails_at r c) = ltb r 64 && ltb c 64

-- The answers that an operation can give: a refusal by a number from 1 to 255 that is not 6, or what its paragraph says.
abbrev pub fits : Call → Answer → Bool
fits c (refused k) = refusal_fits k
fits c (wrong_text o) = eqb (operation c) 6 && few o
fits c done = ltb (operation c) 3 || eqb (operation c) 6
fits c added = eqb (operation c) 3
fits c all_wired = eqb (operation c) 3
fits c short = eqb (operation c) 3
fits c (lacks k) = eqb (operation c) 4 && few k
fits c (lists p) = eqb (operation c) 5 && part_fits p
fits c (wrote n) = eqb (operation c) 7 && few n
fits c (sheet_is v) = eqb (operation c) 8 && verdict_fits v
