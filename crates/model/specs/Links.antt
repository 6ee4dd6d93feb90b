-- Document 01, "The array and its channels": places, and the links between them. A link is named by its kind and a cell (r, c), and has a positive way.
-- Everything else (what is linked, limits, one-way links, the clockwise order) is read off `behind_of`, `ahead_of`, `limit_of`, `pass_of`, `enters` and
-- `around_of`. Assumes nothing.
use Rattle.std.specs.Prelude.{Bool, true, false, not, ◌&&◌, List, [], ◌∷◌, ℕ, zero, suc, ◌+◌, ◌/◌, eqb}
use Rattle.std.specs.Bool.{beq}
use Rattle.std.proofs.Math.Option.{Option, none, some}
use Rattle.sums.specs.Counting.{each, those}
use Rattle.model.specs.Job.{Job, is_tile, is_open, is_chosen, is_missing, on_rim, centre_limit, north_limit, west_limit, tile_d, extra_limit}

-- ---- places

-- the four points of the compass, clockwise
pub data Compass : Type 0 where
  north east south west : Compass

abbrev pub clockwise : Compass → Compass
clockwise north = east
clockwise east = south
clockwise south = west
clockwise west = north

abbrev pub compass_code : Compass → ℕ
compass_code north = 0
compass_code east = 1
compass_code south = 2
compass_code west = 3

-- A chosen pin; a missing pin; the places n, e, s, w of a tile, each at a side; its centre c; the outside. What lies beyond a pin at the rim is nowhere.
pub data PlaceKind : Type 0 where
  pin missing centre outside nowhere : PlaceKind
  side : Compass → PlaceKind

-- a place of the tile (row, column), or the pin there
pub record Place : Type 0 where
  pub kind : PlaceKind
  pub row : ℕ
  pub column : ℕ

abbrev pub at : PlaceKind → ℕ → ℕ → Place
at k r c = record { kind = k; row = r; column = c }

abbrev pub the_outside : Place
the_outside = at outside 0 0

-- "An open tile has five places: n, e, s, w and the centre c. A closed tile has none." "An idle pin is no place."
abbrev pub holds : Job → PlaceKind → ℕ → ℕ → Bool
holds J pin r c = is_chosen J r c
holds J missing r c = is_missing J r c
holds J centre r c = is_open J r c
holds J outside r c = false
holds J nowhere r c = false
holds J (side d) r c = is_open J r c

abbrev pub is_place : Job → Place → Bool
is_place J x = holds J x.kind x.row x.column

abbrev pub places_at : ℕ → ℕ → List Place
places_at r c =
    at missing r c ∷ at pin r c ∷ at (side north) r c ∷ at (side east) r c ∷ at (side south) r c ∷ at (side west) r c ∷ at centre r c ∷ []

-- all places, by row and column
unfoldable pub places : Job → List Place
places J = each J.rows (λ r. each J.columns (λ c. those (is_place J) (places_at r c)))

-- ---- links

-- The north and the west side of the tile (r, c); its corners n-e, e-s, s-w, w-n, each named by the point that it starts from; the spokes from its
-- centre to n, e, s, w; the legs of the pin (r, c) to the four tiles around it, named as in the clockwise table: north leads into the NE tile, east
-- into SE, south into SW, west into NW; the direct exit of the pin (r, c).
pub data LinkKind : Type 0 where
  north_side west_side direct : LinkKind
  corner spoke leg : Compass → LinkKind

pub record Link : Type 0 where
  pub kind : LinkKind
  pub row : ℕ
  pub column : ℕ

abbrev pub link : LinkKind → ℕ → ℕ → Link
link k r c = record { kind = k; row = r; column = c }

-- the place at a side of the tile (r, c), or the outside where no tile is
abbrev pub beside : Job → Compass → ℕ → ℕ → Place
beside J d r c = elim (is_tile J r c) [ true ↦ at (side d) r c | false ↦ the_outside ]

-- the pin (r, c), as a missing or as a chosen one
abbrev pub pin_at : Job → ℕ → ℕ → Place
pin_at J r c = elim (eqb (J.mark r c) 2) [ true ↦ at missing r c | false ↦ at pin r c ]

-- The two ends. "Net loads are positive along north, east or clockwise. On a link at a centre or a pin, positive is away from that centre or pin."
-- A side joins "n of the lower with s of the upper, e of the western with w of the eastern; a rim side of an open tile leads outside".
unfoldable pub behind_of : Job → LinkKind → ℕ → ℕ → Place
behind_of J north_side r c = beside J north r c
behind_of J west_side r zero = the_outside
behind_of J west_side r (suc c) = at (side east) r c
behind_of J (corner d) r c = at (side d) r c
behind_of J (spoke d) r c = at centre r c
behind_of J (leg d) r c = pin_at J r c
behind_of J direct r c = at pin r c

-- "A chosen pin in the first or last row or column gets one more link, to the outside": what lies straight out of the pin (r, c)
abbrev pub straight_out : Job → ℕ → ℕ → Place
straight_out J r c = elim (is_chosen J r c && on_rim J r c) [ true ↦ the_outside | false ↦ at nowhere 0 0 ]

-- "A chosen pin has links to n of the tile whose NW corner it is, e where it is NE, s where SE, w where SW"; a missing pin "to the same four places".
unfoldable pub ahead_of : Job → LinkKind → ℕ → ℕ → Place
ahead_of J north_side zero c = the_outside
ahead_of J north_side (suc r) c = at (side south) r c
ahead_of J west_side r c = beside J west r c
ahead_of J (corner d) r c = at (side (clockwise d)) r c
ahead_of J (spoke d) r c = at (side d) r c
ahead_of J (leg north) zero c = at nowhere 0 0
ahead_of J (leg north) (suc r) c = at (side west) r c
ahead_of J (leg east) r c = at (side north) r c
ahead_of J (leg south) r zero = at nowhere 0 0
ahead_of J (leg south) r (suc c) = at (side east) r c
ahead_of J (leg west) zero c = at nowhere 0 0
ahead_of J (leg west) (suc r) zero = at nowhere 0 0
ahead_of J (leg west) (suc r) (suc c) = at (side south) r c
ahead_of J direct r c = straight_out J r c

-- "A side: limit O. n-e, e-s, s-w, w-n: limit O/2 rounded down. c to each of n, e, s, w: no limit of its own. A chosen pin: limit 1. A missing pin is
-- linked without limit."
unfoldable pub limit_of : Job → LinkKind → ℕ → ℕ → Option ℕ
limit_of J north_side r c = some (north_limit J r c)
limit_of J west_side r c = some (west_limit J r c)
limit_of J (corner d) r c = some (J.O / 2)
limit_of J (spoke d) r c = none
limit_of J (leg d) r c = elim (eqb (J.mark r c) 2) [ true ↦ none | false ↦ some 1 ]
limit_of J direct r c = some 1

abbrev pub limit : Job → Link → Option ℕ
limit J l = limit_of J l.kind l.row l.column

-- "The centre passes at most D − 2×(O/2 rounded down) wires." "A missing pin is a place passing at most E wires."
abbrev pub pass_of : Job → PlaceKind → ℕ → ℕ → Option ℕ
pass_of J pin r c = none
pass_of J missing r c = some (extra_limit J)
pass_of J centre r c = some (centre_limit J.O (tile_d J r c))
pass_of J outside r c = none
pass_of J nowhere r c = none
pass_of J (side d) r c = none

abbrev pub pass : Job → Place → Option ℕ
pass J x = pass_of J x.kind x.row x.column

-- ---- steps: a link taken one way

pub record Step : Type 0 where
  pub link : Link
  pub forth : Bool

-- the positive way, and the other
abbrev pub go : LinkKind → ℕ → ℕ → Step
go k r c = record { link = link k r c; forth = true }

abbrev pub come : LinkKind → ℕ → ℕ → Step
come k r c = record { link = link k r c; forth = false }

abbrev pub turn : Step → Step
turn s = record { link = s.link; forth = not s.forth }

unfoldable pub head : Job → Step → Place
head J s =
    elim s.forth [
      | true ↦ ahead_of J s.link.kind s.link.row s.link.column
      | false ↦ behind_of J s.link.kind s.link.row s.link.column
    ]

abbrev pub tail : Job → Step → Place
tail J s = head J (turn s)

-- The outside is entered and never left ("outward only"), a chosen pin left and never entered ("one-way links", "wires never pass through a chosen pin").
abbrev pub enters : Job → PlaceKind → ℕ → ℕ → Bool
enters J pin r c = false
enters J missing r c = is_missing J r c
enters J centre r c = is_open J r c
enters J outside r c = true
enters J nowhere r c = false
enters J (side d) r c = is_open J r c

abbrev pub is_entered : Job → Place → Bool
is_entered J x = enters J x.kind x.row x.column

-- The link is there, and may be taken this way: from a place to one that may be entered.
unfoldable pub may : Job → Step → Bool
may J s = is_place J (tail J s) && is_entered J (head J s)

-- Document 01, "Lanes and pairing": "Links around a place, clockwise", each as the step that leaves by it.
abbrev pub around_of : PlaceKind → ℕ → ℕ → List Step
around_of pin r c = go (leg north) r c ∷ go (leg east) r c ∷ go (leg south) r c ∷ go (leg west) r c ∷ go direct r c ∷ []
around_of missing r c = go (leg north) r c ∷ go (leg east) r c ∷ go (leg south) r c ∷ go (leg west) r c ∷ []
around_of centre r c = go (spoke north) r c ∷ go (spoke east) r c ∷ go (spoke south) r c ∷ go (spoke west) r c ∷ []
around_of outside r c = []
around_of nowhere r c = []
around_of (side north) r c = go north_side r c ∷ go (corner north) r c ∷ come (spoke north) r c ∷ come (corner west) r c ∷ come (leg east) r c ∷ []
around_of (side east) r c = go west_side r (suc c) ∷ go (corner east) r c ∷ come (spoke east) r c ∷ come (corner north) r c ∷ come (leg south) r (suc c) ∷ []
around_of (side south) r c =
    come north_side (suc r) c ∷ go (corner south) r c ∷ come (spoke south) r c ∷ come (corner east) r c ∷ come (leg west) (suc r) (suc c) ∷ []
around_of (side west) r c = come west_side r c ∷ go (corner west) r c ∷ come (spoke west) r c ∷ come (corner south) r c ∷ come (leg north) (suc r) c ∷ []

abbrev pub around : Place → List Step
around x = around_of x.kind x.row x.column

-- ---- tests of sameness

abbrev pub place_code : PlaceKind → ℕ
place_code pin = 0
place_code missing = 1
place_code centre = 2
place_code outside = 3
place_code nowhere = 4
place_code (side d) = 5 + compass_code d

abbrev pub is_pin_kind : Place → Bool
is_pin_kind x = eqb (place_code x.kind) (place_code pin)

abbrev pub is_missing_kind : Place → Bool
is_missing_kind x = eqb (place_code x.kind) (place_code missing)

abbrev pub same_place : Place → Place → Bool
same_place x y = eqb (place_code x.kind) (place_code y.kind) && (eqb x.row y.row && eqb x.column y.column)

-- the number of a kind among the 15
abbrev pub link_code : LinkKind → ℕ
link_code north_side = 0
link_code west_side = 1
link_code (corner d) = 2 + compass_code d
link_code (spoke d) = 6 + compass_code d
link_code (leg d) = 10 + compass_code d
link_code direct = 14

abbrev pub same_link : Link → Link → Bool
same_link a b = eqb (link_code a.kind) (link_code b.kind) && (eqb a.row b.row && eqb a.column b.column)

abbrev pub same_step : Step → Step → Bool
same_step s t = same_link s.link t.link && beq s.forth t.forth
