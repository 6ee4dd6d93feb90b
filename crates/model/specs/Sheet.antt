-- Document 02, K10, "Sheets of side loads": the rule of the table of 1,296 entries, the bytes of a sheet, which sheets are turned away, and when a sheet is
-- carried. Assumes nothing.
use Rattle.std.specs.Prelude.{◌≡◌, ◌⊎◌, ◌↔◌, Bool, true, false, not, ◌&&◌, ◌||◌, List, [], ◌∷◌, ℕ, ◌+◌, ◌*◌, ◌/◌, ◌%◌, ◌≤◌, T, eqb, leb, ltb, length, get_or}
use Rattle.std.proofs.Math.Option.{some}
use Rattle.sums.specs.Counting.{when, those, total}
use Rattle.sums.specs.Tests.{every, below}
use Rattle.model.specs.Job.{Job, fresh, north_limit, west_limit, is_tile, is_open, is_closed, is_chosen, is_missing, on_rim, has_north, has_west}
use Rattle.model.specs.Links.{Compass, north, east, south, west, compass_code, PlaceKind, pin, missing, centre, outside, nowhere, side, Place, at, place_code, ahead_of, limit_of, pass}
use Rattle.model.specs.Links.{LinkKind, north_side, west_side, direct, corner, spoke, leg, Step, go, come, turn, tail, around}
use Rattle.model.specs.Loads.{arrivals, departures}
use Rattle.model.specs.Record.{cell, load_plane, forth_part, back_part, bytes}

-- ---- inside a tile

-- corners and spokes lie inside a tile, sides and the legs of pins lead into it
abbrev pub is_inner : LinkKind → Bool
is_inner north_side = false
is_inner west_side = false
is_inner direct = false
is_inner (corner d) = true
is_inner (spoke d) = true
is_inner (leg d) = false

-- the steps that leave a place by a link inside its tile, and the others
unfoldable pub inner_steps : Place → List Step
inner_steps x = those (λ s. is_inner s.link.kind) (around x)

unfoldable pub outer_steps : Place → List Step
outer_steps x = those (λ s. not (is_inner s.link.kind)) (around x)

-- "Its rule is stated over the links and limits inside a tile": the loads f inside the tile (r, c) take what comes to each of n, e, s, w by links from
-- outside the tile to where it leaves by such links.
pub record Inside (J : Job) (r c : ℕ) (f : Step → ℕ) (comes leaves : Compass → ℕ) : Type 0 where
  -- "All wires on a link run one way."
  pub one_way : (k : LinkKind) → T (is_inner k) → (f (go k r c) ≡ 0) ⊎ (f (come k r c) ≡ 0)
  -- "A limit counts wires in both directions together."
  pub limits : (k : LinkKind) (m : ℕ) → T (is_inner k) → limit_of J k r c ≡ some m → f (go k r c) + f (come k r c) ≤ m
  -- "The centre passes at most D − 2×(O/2 rounded down) wires."
  pub passing : (m : ℕ) → pass J (at centre r c) ≡ some m → arrivals f (at centre r c) ≤ m
  -- at each place as many arrive as leave
  pub centred : arrivals f (at centre r c) ≡ departures f (at centre r c)
  pub sides : (d : Compass) → comes d + total (inner_steps (at (side d) r c)) (λ s. f (turn s)) ≡ leaves d + total (inner_steps (at (side d) r c)) f

-- ---- the table's rule

-- "For O of 2, the net amount entering each of n, e, s, w is −2 to 3." An amount is written 2 more than it is: 0 to 5.
abbrev pub amounts : ℕ → ℕ → ℕ → ℕ → Compass → ℕ
amounts n e s w north = n
amounts n e s w east = e
amounts n e s w south = s
amounts n e s w west = w

-- a tile by itself, where O is 2
abbrev pub one_tile : ℕ → Job
one_tile D = fresh 2 2 2 D 0

-- a tile with this D carries the amounts: some loads inside it do
abbrev pub Carries : (D n e s w : ℕ) → Type 0
Carries D n e s w = (f : Step → ℕ) × Inside (one_tile D) 0 0 f (amounts n e s w) (λ d. 2)

-- "the least D of 2, 3, 4 that carries them, else 5": x is that for these amounts
pub record Entry (n e s w x : ℕ) : Type 0 where
  pub two : (x ≡ 2) ↔ Carries 2 n e s w
  pub three : (x ≡ 3) ↔ (Carries 3 n e s w × (Carries 2 n e s w → ⊥))
  pub four : (x ≡ 4) ↔ (Carries 4 n e s w × (Carries 2 n e s w → ⊥) × (Carries 3 n e s w → ⊥))
  pub five : (x ≡ 5) ↔ ((Carries 2 n e s w → ⊥) × (Carries 3 n e s w → ⊥) × (Carries 4 n e s w → ⊥))

-- ---- the bytes of a sheet

-- "one signed load per side and a mark per pin link": six planes of 1,600 bytes, a byte for each cell (r, c) at 40 r + c, as in the record: the loads of north
-- sides and of west sides, the marks of the legs north, east, south and west
abbrev pub sheet_size : ℕ
sheet_size = 9600

-- the byte of a plane at a cell; no cell lies beyond row or column 39
unfoldable pub sheet_cell : List ℕ → ℕ → ℕ → ℕ → ℕ
sheet_cell sheet plane r c = when (ltb r 40 && ltb c 40) (get_or sheet (1600 * plane + 40 * r + c) 0)

abbrev pub leg_plane : Compass → ℕ
leg_plane d = 2 + compass_code d

-- how many wires the sheet has along a link, the positive way (true) and the other: a marked leg has one, away from its pin
abbrev pub sheet_along : List ℕ → LinkKind → Bool → ℕ → ℕ → ℕ
sheet_along sheet north_side true r c = forth_part (sheet_cell sheet 0 r c)
sheet_along sheet north_side false r c = back_part (sheet_cell sheet 0 r c)
sheet_along sheet west_side true r c = forth_part (sheet_cell sheet 1 r c)
sheet_along sheet west_side false r c = back_part (sheet_cell sheet 1 r c)
sheet_along sheet direct f r c = 0
sheet_along sheet (corner d) f r c = 0
sheet_along sheet (spoke d) f r c = 0
sheet_along sheet (leg d) true r c = sheet_cell sheet (leg_plane d) r c
sheet_along sheet (leg d) false r c = 0

unfoldable pub sheet_load : List ℕ → Step → ℕ
sheet_load sheet s = sheet_along sheet s.link.kind s.forth s.link.row s.link.column

-- ---- which sheets are turned away

-- a test that holds at every cell
abbrev pub everywhere : (ℕ → ℕ → Bool) → Bool
everywhere p = below 40 (λ r. below 40 (p r))

-- "14 O is not 2 or a pin is missing"
abbrev pub sheet_job : Job → Bool
sheet_job J = eqb J.O 2 && everywhere (λ r c. not (is_missing J r c))

-- "a load over its side": a load byte of at most so many wires, and none where there is no side
abbrev pub load_within : ℕ → ℕ → Bool
load_within most b = ltb b 64 && (not (eqb b 32) && leb (forth_part b + back_part b) most)

abbrev pub sides_within : Job → List ℕ → ℕ → ℕ → Bool
sides_within J sheet r c =
    load_within (when (has_north J r c) (north_limit J r c)) (sheet_cell sheet 0 r c)
    && load_within (when (has_west J r c) (west_limit J r c)) (sheet_cell sheet 1 r c)

-- "or inward at the rim": a wire that comes from the outside
abbrev pub is_inward : Job → List ℕ → Step → Bool
is_inward J sheet s = eqb (place_code (tail J s).kind) (place_code outside) && ltb 0 (sheet_load sheet s)

abbrev pub none_inward : Job → List ℕ → ℕ → ℕ → Bool
none_inward J sheet r c =
    every (go north_side r c ∷ come north_side r c ∷ go west_side r c ∷ come west_side r c ∷ []) (λ s. not (is_inward J sheet s))

-- whether the leg of a pin leads to a place of a tile of the array, open or closed
abbrev pub in_tile : Job → PlaceKind → ℕ → ℕ → Bool
in_tile J pin r c = false
in_tile J missing r c = false
in_tile J centre r c = is_tile J r c
in_tile J outside r c = false
in_tile J nowhere r c = false
in_tile J (side d) r c = is_tile J r c

abbrev pub leads_in : Job → Compass → ℕ → ℕ → Bool
leads_in J d r c = in_tile J (ahead_of J (leg d) r c).kind (ahead_of J (leg d) r c).row (ahead_of J (leg d) r c).column

-- "or wrong marks": a mark is 1, at a chosen pin, on a leg that leads into the array
abbrev pub marks_within : Job → List ℕ → ℕ → ℕ → Bool
marks_within J sheet r c =
    every (north ∷ east ∷ south ∷ west ∷ []) (λ d. leb (sheet_cell sheet (leg_plane d) r c) (when (is_chosen J r c && leads_in J d r c) 1))

-- how many marks the pin has
abbrev pub marks_of : List ℕ → ℕ → ℕ → ℕ
marks_of sheet r c = departures (sheet_load sheet) (at pin r c)

-- "A chosen pin has one mark, or none on the rim when it leaves directly."
abbrev pub is_marked : Job → List ℕ → ℕ → ℕ → Bool
is_marked J sheet r c = not (is_chosen J r c) || (eqb (marks_of sheet r c) 1 || (on_rim J r c && eqb (marks_of sheet r c) 0))

abbrev pub sheet_cell_fits : Job → List ℕ → ℕ → ℕ → Bool
sheet_cell_fits J sheet r c = (sides_within J sheet r c && none_inward J sheet r c) && (marks_within J sheet r c && is_marked J sheet r c)

-- "15 a length other than the published one, a load over its side or inward at the rim, or wrong marks"
abbrev pub sheet_fits : Job → List ℕ → Bool
sheet_fits J sheet = eqb (length sheet) sheet_size && everywhere (sheet_cell_fits J sheet)

-- ---- when a sheet is carried

-- what the sheet brings to the places n, e, s, w of the tile (r, c), by its sides and by marks, and what it takes from them
abbrev pub brings : List ℕ → ℕ → ℕ → Compass → ℕ
brings sheet r c d = total (outer_steps (at (side d) r c)) (λ s. sheet_load sheet (turn s))

abbrev pub takes : List ℕ → ℕ → ℕ → Compass → ℕ
takes sheet r c d = total (outer_steps (at (side d) r c)) (sheet_load sheet)

-- the loads f fit the sheet inside the tile (r, c)
pub record TileFits (J : Job) (sheet : List ℕ) (f : Step → ℕ) (r c : ℕ) : Type 0 where
  pub opened : T (is_open J r c) → Inside J r c f (brings sheet r c) (takes sheet r c)
  -- "A closed tile fails on any load or mark."
  pub shut : T (is_closed J r c) → (d : Compass) → brings sheet r c d + takes sheet r c d ≡ 0

-- "A sheet is carried exactly when some loading inside all tiles fits it."
abbrev pub Carried : Job → List ℕ → Type 0
Carried J sheet = (f : Step → ℕ) × ((r c : ℕ) → T (is_tile J r c) → TileFits J sheet f r c)

-- some loading inside the one tile does
abbrev pub TileCarried : Job → List ℕ → ℕ → ℕ → Type 0
TileCarried J sheet r c = (f : Step → ℕ) × TileFits J sheet f r c

pub data SheetVerdict : Type 0 where
  carried : SheetVerdict
  fails_at : (row column : ℕ) → SheetVerdict

-- by row and column
abbrev pub is_before : (i j r c : ℕ) → Bool
is_before i j r c = ltb i r || (eqb i r && ltb j c)

-- "otherwise the first failing tile by row and column is named"
pub data Judged (J : Job) (sheet : List ℕ) : SheetVerdict → Type 0 where
  all-carried : Carried J sheet → Judged J sheet carried
  first-fails : (r c : ℕ) → T (is_tile J r c) → (TileCarried J sheet r c → ⊥) → ((i j : ℕ) → T (is_tile J i j) → T (is_before i j r c) → TileCarried J sheet i j)
      → Judged J sheet (fails_at r c)

-- ---- the sheet of a record

-- its side loads, and a mark for each of its legs that has a wire
abbrev pub sheet_planes : List ℕ
sheet_planes =
    load_plane north_side ∷ load_plane west_side ∷ load_plane (leg north) ∷ load_plane (leg east) ∷ load_plane (leg south) ∷ load_plane (leg west) ∷ []

unfoldable pub sheet_from : List ℕ → List ℕ
sheet_from rec = bytes sheet_size (λ i. cell rec (get_or sheet_planes (i / 1600) 0) (i % 1600 / 40) (i % 40))
