-- The channel map: its numbering and its constant table, the network of a job, the loads of a record as loads of that network, the moves of the search,
-- and what one move stores. Every definition of this file is shut: a crate above sees its name and the laws, never its text. Assumes nothing.
pub mod Rows
pub mod Back
pub mod Lengths
pub mod Numbers
pub mod Darts
pub mod Ends
pub mod Around
pub mod Passes
pub mod Steps
pub mod Network
pub mod Limits
pub mod Taken
pub mod Spots
pub mod Sums
pub mod Carried
pub mod RowLoads
pub mod SpotLoads
pub mod Carry
pub mod Stores
pub mod Places
pub mod Starts
pub mod Bools
pub mod Bounds
pub mod Turning
pub mod Packed
pub mod Grid
pub mod Bytes
pub mod Entered
pub mod Ways
pub mod Codes
pub mod LinkTests
pub mod Sides
pub mod Caps
pub mod Moving
pub mod Laying
pub mod PinSums
pub mod Origins
pub mod Fresh
pub mod Laden
pub mod LoadedSlots
pub mod Heads
pub mod Kinds
pub mod Apart
use Rattle.std.specs.Prelude.{◌≡◌, ◌⊎◌, Bool, true, false, not, ◌&&◌, ◌||◌, List, [], ◌∷◌, ℕ, zero, suc, ◌+◌, ◌-◌, ◌*◌, ◌/◌, ◌%◌, T, eqb, leb, ltb, get_or, set}
use Rattle.std.proofs.Math.Option.{Option, none, some}
use Rattle.sums.specs.Counting.{when}
use Rattle.model.specs.Job.{Job, is_tile, is_chosen, is_missing}
use Rattle.model.specs.Links.{PlaceKind, pin, missing, centre, nowhere, side, Place, at, the_outside, is_place, north_side, link, link_code, Step, turn, ahead_of, may, limit, pass}
use Rattle.model.specs.Near.{entry, size}
use Rattle.model.specs.Loads.{arrivals, departures}
use Rattle.model.specs.Record.{kinds, forth_part, back_part, load}

-- ---- numbers

-- A cell is a pin position together with the tile whose NW corner it is: cell 41 + 40 r + c, with 41 empty cells in front. A spot is 8 cell + kind: 0 a
-- missing pin's entry, 1 its exit or the chosen pin, 2 to 5 n, e, s, w, 6 and 7 the centre's entry and exit. A dart is 8 spot + slot. The slots 0 to 4
-- stand in document 01's clockwise order, slot 4 of a pin leads straight out, to its cell's entry; slot 4 of an entry leads to its exit, slot 5 of the exit
-- back, and slot 5 of a pin's entry back along a direct exit; at n, e, s, w slots 5 and 7 lead to the exits of the centre and of the pin.

-- the numbers of spots and of darts
pub spots : ℕ
spots = 13128

pub darts : ℕ
darts = 105024

-- the row and the column of a cell, where it is on the grid
pub in_grid : ℕ → Bool
in_grid x = leb 41 x && ltb x 1641

pub row_of : ℕ → ℕ
row_of x = (x - 41) / 40

pub column_of : ℕ → ℕ
column_of x = (x - 41) % 40

-- "A centre or a missing pin counts twice, as entry and exit."
pub counts_twice : PlaceKind → Bool
counts_twice pin = false
counts_twice missing = true
counts_twice centre = true
counts_twice PlaceKind.outside = false
counts_twice nowhere = false
counts_twice (side d) = false

-- ---- the table, a row for each d % 64

-- how far the way back lies ahead, 2,688 more
pub turns : List ℕ
turns =
    172 ∷ 2707 ∷ 2650 ∷ 97 ∷ 2697 ∷ 2695 ∷ 2688 ∷ 2688 ∷ 167 ∷ 2702 ∷ 2645 ∷ 92 ∷ 2681 ∷ 2679 ∷ 2688 ∷ 2688 ∷ 144 ∷ 2698 ∷ 2718 ∷ 2710 ∷ 2669 ∷ 2723 ∷ 2688
    ∷ 2674 ∷ 2768 ∷ 2698 ∷ 2711 ∷ 2678 ∷ 2726 ∷ 2716 ∷ 2688 ∷ 2731 ∷ 5232 ∷ 2698 ∷ 2704 ∷ 2678 ∷ 5279 ∷ 2709 ∷ 2688 ∷ 5284 ∷ 2608 ∷ 2666 ∷ 2697 ∷ 2678
    ∷ 5204 ∷ 2702 ∷ 2688 ∷ 5209 ∷ 2658 ∷ 2665 ∷ 2672 ∷ 2679 ∷ 2697 ∷ 2688 ∷ 2688 ∷ 2688 ∷ 2653 ∷ 2660 ∷ 2667 ∷ 2674 ∷ 2688 ∷ 2679 ∷ 2688 ∷ 2688 ∷ []

-- the number of the link's kind among the 15 (`link_code` of the definitions)
pub links : List ℕ
links =
    10 ∷ 11 ∷ 12 ∷ 13 ∷ 0 ∷ 14 ∷ 0 ∷ 0 ∷ 10 ∷ 11 ∷ 12 ∷ 13 ∷ 14 ∷ 0 ∷ 0 ∷ 0 ∷ 0 ∷ 2 ∷ 6 ∷ 5 ∷ 11 ∷ 6 ∷ 0 ∷ 11 ∷ 1 ∷ 3 ∷ 7 ∷ 2 ∷ 12 ∷ 7 ∷ 0 ∷ 12 ∷ 0 ∷ 4 ∷ 8
    ∷ 3 ∷ 13 ∷ 8 ∷ 0 ∷ 13 ∷ 1 ∷ 5 ∷ 9 ∷ 4 ∷ 10 ∷ 9 ∷ 0 ∷ 10 ∷ 6 ∷ 7 ∷ 8 ∷ 9 ∷ 0 ∷ 0 ∷ 0 ∷ 0 ∷ 6 ∷ 7 ∷ 8 ∷ 9 ∷ 0 ∷ 0 ∷ 0 ∷ 0 ∷ []

-- how far from the dart's cell the cell stands that owns the link
pub owners : List ℕ
owners =
    0 ∷ 0 ∷ 0 ∷ 0 ∷ 0 ∷ 0 ∷ 0 ∷ 0 ∷ 0 ∷ 0 ∷ 0 ∷ 0 ∷ 0 ∷ 0 ∷ 0 ∷ 0 ∷ 0 ∷ 0 ∷ 0 ∷ 0 ∷ 0 ∷ 0 ∷ 0 ∷ 0 ∷ 1 ∷ 0 ∷ 0 ∷ 0 ∷ 1 ∷ 0 ∷ 0 ∷ 1 ∷ 40 ∷ 0 ∷ 0 ∷ 0 ∷ 41 ∷ 0
    ∷ 0 ∷ 41 ∷ 0 ∷ 0 ∷ 0 ∷ 0 ∷ 40 ∷ 0 ∷ 0 ∷ 40 ∷ 0 ∷ 0 ∷ 0 ∷ 0 ∷ 0 ∷ 0 ∷ 0 ∷ 0 ∷ 0 ∷ 0 ∷ 0 ∷ 0 ∷ 0 ∷ 0 ∷ 0 ∷ 0 ∷ []

-- 0 along the link's positive way, 1 against it
pub signs : List ℕ
signs =
    0 ∷ 0 ∷ 0 ∷ 0 ∷ 0 ∷ 1 ∷ 0 ∷ 0 ∷ 0 ∷ 0 ∷ 0 ∷ 0 ∷ 0 ∷ 1 ∷ 0 ∷ 0 ∷ 0 ∷ 0 ∷ 1 ∷ 1 ∷ 1 ∷ 1 ∷ 0 ∷ 1 ∷ 0 ∷ 0 ∷ 1 ∷ 1 ∷ 1 ∷ 1 ∷ 0 ∷ 1 ∷ 1 ∷ 0 ∷ 1 ∷ 1 ∷ 1 ∷ 1
    ∷ 0 ∷ 1 ∷ 1 ∷ 0 ∷ 1 ∷ 1 ∷ 1 ∷ 1 ∷ 0 ∷ 1 ∷ 0 ∷ 0 ∷ 0 ∷ 0 ∷ 0 ∷ 0 ∷ 0 ∷ 0 ∷ 0 ∷ 0 ∷ 0 ∷ 0 ∷ 0 ∷ 1 ∷ 0 ∷ 0 ∷ []

-- What a dart is: 0 nothing, 1 side, 2 corner, 3 place to the centre's entry, 4 the centre's exit to a place, 5 the centre's entry to its exit, 6 place
-- to a missing pin's entry, 7 a pin to a place, 8 a missing pin's entry to its exit; 9 to 14 are the ways back of 3 to 8; 15 is a direct exit, and its way
-- back.
pub codes : List ℕ
codes =
    12 ∷ 12 ∷ 12 ∷ 12 ∷ 8 ∷ 15 ∷ 0 ∷ 0 ∷ 7 ∷ 7 ∷ 7 ∷ 7 ∷ 15 ∷ 14 ∷ 0 ∷ 0 ∷ 1 ∷ 2 ∷ 3 ∷ 2 ∷ 6 ∷ 10 ∷ 0 ∷ 13 ∷ 1 ∷ 2 ∷ 3 ∷ 2 ∷ 6 ∷ 10 ∷ 0 ∷ 13 ∷ 1 ∷ 2 ∷ 3 ∷ 2
    ∷ 6 ∷ 10 ∷ 0 ∷ 13 ∷ 1 ∷ 2 ∷ 3 ∷ 2 ∷ 6 ∷ 10 ∷ 0 ∷ 13 ∷ 9 ∷ 9 ∷ 9 ∷ 9 ∷ 5 ∷ 0 ∷ 0 ∷ 0 ∷ 4 ∷ 4 ∷ 4 ∷ 4 ∷ 0 ∷ 11 ∷ 0 ∷ 0 ∷ []

pub turn_of : ℕ → ℕ
turn_of i = get_or turns i 0

pub kind_of : ℕ → ℕ
kind_of i = get_or links i 0

pub owner_of : ℕ → ℕ
owner_of i = get_or owners i 0

pub sign_of : ℕ → ℕ
sign_of i = get_or signs i 0

pub code_of : ℕ → ℕ
code_of i = get_or codes i 0

-- the row of the way back, and how many cells ahead it lies, 42 more
pub back_row : ℕ → ℕ
back_row i = (i + turn_of i) % 64

pub back_cell : ℕ → ℕ
back_cell i = (i + turn_of i) / 64

-- the code of the way back of a dart with code c
pub back_code : ℕ → ℕ
back_code c = get_or (0 ∷ 1 ∷ 2 ∷ 9 ∷ 10 ∷ 11 ∷ 12 ∷ 13 ∷ 14 ∷ 3 ∷ 4 ∷ 5 ∷ 6 ∷ 7 ∷ 8 ∷ 15 ∷ []) c 0

-- the row of a step, by the number of its link's kind and its direction
pub seat_of : ℕ → Bool → ℕ
seat_of k true = get_or (16 ∷ 24 ∷ 17 ∷ 25 ∷ 33 ∷ 41 ∷ 56 ∷ 57 ∷ 58 ∷ 59 ∷ 8 ∷ 9 ∷ 10 ∷ 11 ∷ 12 ∷ []) k 0
seat_of k false = get_or (32 ∷ 40 ∷ 27 ∷ 35 ∷ 43 ∷ 19 ∷ 18 ∷ 26 ∷ 34 ∷ 42 ∷ 44 ∷ 20 ∷ 28 ∷ 36 ∷ 5 ∷ []) k 0

-- ---- darts

-- the way back, 2,688 more, as the dart's row of the table has it
pub ahead : ℕ → ℕ
ahead d = d + turn_of (d % 64)

-- the way back; a dart whose row leads out of range is its own
pub rev : ℕ → ℕ
rev d = elim (ltb (ahead d) 2688) [ true ↦ d | false ↦ elim (ltb (ahead d) 107712) [ true ↦ ahead d - 2688 | false ↦ d ] ]

-- the cell that owns the dart's link
pub owner_cell : ℕ → ℕ
owner_cell d = d / 64 + owner_of (d % 64)

-- the step that a dart along a link takes
pub step_of : ℕ → Step
step_of d =
    record {
      link = link (get_or kinds (kind_of (d % 64)) north_side) (row_of (owner_cell d)) (column_of (owner_cell d));
      forth = eqb (sign_of (d % 64)) 0;
    }

-- the dart of a step that leaves an exit
pub dart_of : Step → ℕ
dart_of s =
    64 * (41 + 40 * s.link.row + s.link.column - owner_of (seat_of (link_code s.link.kind) s.forth)) + seat_of (link_code s.link.kind) s.forth

-- the codes of darts that carry the load of their step, of those that have a stored byte at all, and of those from an entry to its exit
pub carries : ℕ → Bool
carries c = get_or (false ∷ true ∷ true ∷ true ∷ true ∷ false ∷ true ∷ true ∷ false ∷ false ∷ false ∷ false ∷ false ∷ false ∷ false ∷ true ∷ []) c false

pub is_stored : ℕ → Bool
is_stored c = not (eqb c 0 || (eqb c 5 || (eqb c 8 || (eqb c 11 || eqb c 14))))

pub is_passage : ℕ → Bool
is_passage c = eqb c 5 || eqb c 8

-- the codes of darts whose way back carries the load of the step back, and of those from an exit to its entry
pub returns : ℕ → Bool
returns c =
    get_or (false ∷ true ∷ true ∷ false ∷ false ∷ false ∷ false ∷ false ∷ false ∷ true ∷ true ∷ false ∷ true ∷ true ∷ false ∷ true ∷ []) c false

pub is_return : ℕ → Bool
is_return c = eqb c 11 || eqb c 14

-- a row whose darts carry nothing
pub idle : ℕ → Bool
idle i = not (carries (code_of i)) && not (is_passage (code_of i))

-- where the byte of a dart's link stands, counted from the dart's cell: twice that and the sign; 1 from an entry to its exit, and 0 for the others
pub place_of : ℕ → ℕ
place_of i = when (carries (code_of i)) (2 * (3927 + 1600 * kind_of i + owner_of i) + sign_of i) + when (is_passage (code_of i)) 1

-- a dart that carries the load of its step
pub is_link_dart : ℕ → Bool
is_link_dart d = carries (code_of (d % 64)) && in_grid (owner_cell d)

-- a dart from an entry to its exit
pub is_pass_dart : ℕ → Bool
is_pass_dart d = is_passage (code_of (d % 64)) && in_grid (d / 64)

-- the place that it passes
pub passed_of : ℕ → Place
passed_of d = at (elim (eqb (code_of (d % 64)) 5) [ true ↦ centre | false ↦ missing ]) (row_of (d / 64)) (column_of (d / 64))

-- ---- the network of a job

pub is_none : Option ℕ → Bool
is_none none = true
is_none (some k) = false

pub cap : Job → ℕ → ℕ
cap J d =
    when (is_link_dart d && may J (step_of d)) (size (limit J (step_of d).link))
    + when (is_pass_dart d && is_place J (passed_of d)) (size (pass J (passed_of d)))

pub free : Job → ℕ → Bool
free J d = is_link_dart d && (may J (step_of d) && is_none (limit J (step_of d).link))

-- the dart's link has an owner on the grid, and its step may be taken
pub may_take : Job → ℕ → Bool
may_take J d = in_grid (owner_cell d) && may J (step_of d)

-- it has one, and the way ahead along the link leads to a place
pub reaches : Job → ℕ → Bool
reaches J d = in_grid (owner_cell d) && is_place J (ahead_of J (step_of d).link.kind (step_of d).link.row (step_of d).link.column)

-- the mark of the pin there
pub owner_mark : Job → ℕ → ℕ
owner_mark J d = when (in_grid (owner_cell d)) (J.mark (row_of (owner_cell d)) (column_of (owner_cell d)))

-- the spot of a chosen pin
pub is_start : Job → ℕ → Bool
is_start J u = eqb (u % 8) 1 && (in_grid (u / 8) && is_chosen J (row_of (u / 8)) (column_of (u / 8)))

pub want : Job → ℕ → ℕ
want J u = when (is_start J u) 1

-- n, e, s, w of a cell that is no tile, and the entry of a cell that has no missing pin
pub outside : Job → ℕ → Bool
outside J u =
    (ltb 1 (u % 8) && (ltb (u % 8) 6 && not (in_grid (u / 8) && is_tile J (row_of (u / 8)) (column_of (u / 8)))))
    || (eqb (u % 8) 0 && not (in_grid (u / 8) && is_missing J (row_of (u / 8)) (column_of (u / 8))))

-- a dart to the place x ends at the spot u: at the place's entry, or outside
pub EndsAt : Job → Place → ℕ → Type 0
EndsAt J x u = (T (is_place J x) × (entry x ≡ u)) ⊎ ((x ≡ the_outside) × T (outside J u))

-- ---- loads

-- how many wires a byte has along its link's positive way, or the other
pub way_part : Bool → ℕ → ℕ
way_part f b = elim f [ true ↦ forth_part b | false ↦ back_part b ]

-- how many wires go along a dart
pub view : List ℕ → ℕ → ℕ
view rec d = when (is_link_dart d) (load rec (step_of d)) + when (is_pass_dart d) (arrivals (load rec) (passed_of d))

-- how many wires start at a spot
pub starts : Job → List ℕ → ℕ → ℕ
starts J rec u = when (is_start J u) (departures (load rec) (at pin (row_of (u / 8)) (column_of (u / 8))))

-- how many wires go along the dart's link the other way
pub opposed : List ℕ → ℕ → ℕ
opposed rec d = when (in_grid (owner_cell d)) (load rec (turn (step_of d)))

-- ---- moves

-- One more wire along the dart, or one less along its way back. Into an entry, and out of an exit, only where no wire goes the other way on the link.
pub moves : Job → List ℕ → ℕ → Bool
moves J rec d = ltb (view rec d) (cap J d) || (ltb 0 (view rec (rev d)) || (free J d && eqb (opposed rec d) 0))

-- the byte b with one more in the direction of sign s; a byte stays one
pub bump : ℕ → ℕ → ℕ
bump zero b = elim (ltb b 32) [ true ↦ b + 1 | false ↦ elim (eqb b 33) [ true ↦ 0 | false ↦ b - 1 ] ]
bump (suc s) b =
    elim (eqb b 0) [ true ↦ 33 | false ↦ elim (ltb b 32) [ true ↦ b - 1 | false ↦ elim (ltb b 255) [ true ↦ b + 1 | false ↦ b ] ] ]

-- where the byte of the dart's link stands
pub address : ℕ → ℕ
address d = 3927 + 1600 * kind_of (d % 64) + owner_cell d

-- the loads after one move along the dart
pub laid : List ℕ → ℕ → List ℕ
laid rec d =
    elim (is_stored (code_of (d % 64)) && in_grid (owner_cell d)) [ true ↦ set rec (address d) (bump (sign_of (d % 64)) (get_or rec (address d) 0)) | false ↦ rec ]
