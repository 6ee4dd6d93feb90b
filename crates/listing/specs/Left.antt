-- What is left of a listing of wires where a page ends: at the line of a cell's wire, or inside it. Assumes nothing.
use Rattle.std.specs.Prelude.{◌≡◌, true, false, ltb, List, [], ◌++◌, ℕ, zero, suc, ◌+◌, ◌-◌, ◌*◌, ◌<◌, T, Option as Maybe, Some, None}
use Rattle.std.proofs.Math.Option.{some}
use Rattle.model.specs.Job.{Job}
use Rattle.model.specs.Links.{Step}
use Rattle.model.specs.Record.{job_of, load}
use Rattle.model.specs.Wires.{hop_at, is_wired, part_at}
use Rattle.model.specs.Listing.{close, row, column, spread, part_bytes, wires_from}
use Rattle.wire.specs.Hops.{hop, Runs}
use Rattle.listing.specs.declared.wires.Position.{Position}
use Rattle.listing.specs.declared.wires.Cursor.{Cursor}
use Rattle.listing.specs.Puts.{Parts}

-- how many parts of its line stand before a cursor
abbrev pub index_of : Maybe Position → ℕ
index_of None = 0
index_of (Some a) = a.index

module _ (J : Job) (f : Step → ℕ) where
  -- the parts of a wire from the i-th on
  abbrev pub parts_left : ℕ → ℕ → ℕ → List ℕ
  parts_left r c i = spread (λ j. part_bytes (part_at J f r c j)) i (11201 - i)

  -- from the i-th part of the wire of the cell p on: the rest of its line, and the wires behind it
  unfoldable pub hop_left : ℕ → ℕ → List ℕ
  hop_left p i = (parts_left (row p) (column p) i ++ close) ++ wires_from J f (p + 1)

  -- index 0 stands for the begin of the line
  unfoldable pub left : ℕ → ℕ → List ℕ
  left p zero = wires_from J f p
  left p (suc i) = hop_left p (suc i)

  -- at the line of a cell the index is 0
  abbrev pub left_at : Maybe Cursor → List ℕ
  left_at None = []
  left_at (Some c) = left c.cell (index_of c.inside)

-- more than the parts that are left
unfoldable pub ahead : ℕ → ℕ → ℕ
ahead p i = 11202 * (1600 - p) - i

abbrev pub ahead_at : Maybe Cursor → ℕ
ahead_at None = 0
ahead_at (Some c) = ahead c.cell (index_of c.inside)

-- the line of the cell p, and none behind the last cell
abbrev pub line_start : ℕ → Maybe Cursor
line_start p = elim (ltb p 1600) [ true ↦ Some (record { cell = p; inside = None }) | false ↦ None ]

-- the dart d and the lane l are the i-th hop of the wire of the cell p
pub record Inside (rec : List ℕ) (p i d l : ℕ) : Type 0 where
  pub cell : p < 1600
  pub wired : T (is_wired (job_of rec) (load rec) (row p) (column p))
  pub hop : hop_at (job_of rec) (load rec) (row p) (column p) i ≡ some (hop d l)
  pub runs : Runs rec d l

-- a page may begin with a part that is not the first of its line
abbrev pub Begins : List ℕ → ℕ → Maybe Position → Type 0
Begins rec p None = Unit {0}
Begins rec p (Some a) = (0 < a.index) × Inside rec p a.index a.hop.dart a.hop.lane

-- a place where a page may begin
pub record Stands (rec : List ℕ) (c : Cursor) : Type 0 where
  pub cell : c.cell < 1600
  pub begins : Begins rec c.cell c.inside

abbrev pub StandsAt : List ℕ → Maybe Cursor → Type 0
StandsAt rec None = Unit {0}
StandsAt rec (Some c) = Stands rec c

-- of what was left, some bytes are laid on the page from `at` up to n, and the rest is left at the next cursor
pub record Passes (rec before : List ℕ) (at : ℕ) (old new : List ℕ) (n : ℕ) (next : Maybe Cursor) : Type 0 where
  pub parts : Parts before (left_at (job_of rec) (load rec) next) at old new n
  pub stands : StandsAt rec next
