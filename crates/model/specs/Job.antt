-- Document 01, "The array and its channels" and "Runs": ranges, a job, and which pins and tiles it has. Assumes nothing.
use Rattle.std.specs.Prelude.{Bool, true, false, not, ◌&&◌, ◌||◌, ℕ, zero, suc, ◌-◌, ◌*◌, ◌/◌, T, eqb, leb, ltb}
use Rattle.sums.specs.Counting.{when}

-- ---- ranges

-- from least to most
abbrev pub in_range : ℕ → ℕ → ℕ → Bool
in_range least most n = leb least n && leb n most

-- "An array has 2 to 40 rows and 2 to 40 columns of pins."
abbrev pub array_fits : ℕ → ℕ → Bool
array_fits rows columns = in_range 2 40 rows && in_range 2 40 columns

-- "O is 1 to 8, D is O to 2×O, and the extra E of a missing pin is 0 to 16."
abbrev pub caps_fit : ℕ → ℕ → ℕ → Bool
caps_fit O D E = in_range 1 8 O && (in_range O (2 * O) D && in_range 0 16 E)

-- K9: "A new job or a text with E above D is now refused." A record may hold whatever fits: "Jobs in the service keep their E."
abbrev pub caps_admitted : ℕ → ℕ → ℕ → Bool
caps_admitted O D E = caps_fit O D E && leb E D

-- "The centre passes at most D − 2×(O/2 rounded down) wires."
abbrev pub centre_limit : ℕ → ℕ → ℕ
centre_limit O D = D - 2 * (O / 2)

-- ---- a job

-- "What requests add to a job", 0 everywhere as never set.
pub record Added : Type 0 where
  -- wires already laid on the north and on the west side of the tile (r, c)
  pub laid_north : ℕ → ℕ → ℕ
  pub laid_west : ℕ → ℕ → ℕ
  -- the tile's own D, 0 for none
  pub own_d : ℕ → ℕ → ℕ
  -- 1 for a job marked upward
  pub upward : ℕ
  -- the rectangle of party 1 + p: row and column of its NW tile, then of its SE tile, each 1 more; 0 for none
  pub seen : ℕ → ℕ → ℕ

abbrev pub nothing_added : Added
nothing_added = record { laid_north = λ r c. 0; laid_west = λ r c. 0; own_d = λ r c. 0; upward = 0; seen = λ p k. 0 }

-- "Rows count from 0 at the north, columns from 0 at the west. A pin is idle, chosen or missing (marks 0, 1, 2). A tile is open or closed (0, 1)."
pub record Job : Type 0 where
  pub rows : ℕ
  pub columns : ℕ
  pub O : ℕ
  pub D : ℕ
  pub E : ℕ
  pub mark : ℕ → ℕ → ℕ
  pub state : ℕ → ℕ → ℕ
  pub added : Added

-- "An accepted New sets the five numbers, every pin idle, every tile open."
abbrev pub fresh : ℕ → ℕ → ℕ → ℕ → ℕ → Job
fresh rows columns O D E = record { rows = rows; columns = columns; O = O; D = D; E = E; mark = λ r c. 0; state = λ r c. 0; added = nothing_added }

abbrev pub with_marks : Job → (ℕ → ℕ → ℕ) → Job
with_marks J marks = record { rows = J.rows; columns = J.columns; O = J.O; D = J.D; E = J.E; mark = marks; state = J.state; added = J.added }

abbrev pub with_states : Job → (ℕ → ℕ → ℕ) → Job
with_states J states = record { rows = J.rows; columns = J.columns; O = J.O; D = J.D; E = J.E; mark = J.mark; state = states; added = J.added }

abbrev pub with_added : Job → Added → Job
with_added J A = record { rows = J.rows; columns = J.columns; O = J.O; D = J.D; E = J.E; mark = J.mark; state = J.state; added = A }

-- K9: the job with another E
abbrev pub with_extra : Job → ℕ → Job
with_extra J e = record { rows = J.rows; columns = J.columns; O = J.O; D = J.D; E = e; mark = J.mark; state = J.state; added = J.added }

-- a table with one entry changed
abbrev pub put : (ℕ → ℕ → ℕ) → ℕ → ℕ → ℕ → ℕ → ℕ → ℕ
put f r c v i j = elim (eqb i r && eqb j c) [ true ↦ v | false ↦ f i j ]

-- "An accepted Mark or Close sets the one entry it names."
abbrev pub marked : Job → ℕ → ℕ → ℕ → Job
marked J r c m = with_marks J (put J.mark r c m)

abbrev pub closed : Job → ℕ → ℕ → ℕ → Job
closed J r c v = with_states J (put J.state r c v)

-- A side, as the north or the west side of the tile (row, column). "An inner side has one count whichever tile names it": s is the north side of the tile
-- to the south, e the west side of the tile to the east; at the south and east rim those lie behind the last tiles.
pub data Side : Type 0 where
  of_north of_west : (row column : ℕ) → Side

-- "row, column and side code (0 n, 1 e, 2 s, 3 w)"
abbrev pub side_of : ℕ → ℕ → ℕ → Side
side_of r c zero = of_north r c
side_of r c (suc zero) = of_west r (suc c)
side_of r c (suc (suc zero)) = of_north (suc r) c
side_of r c (suc (suc (suc d))) = of_west r c

-- "A side gets a count of laid wires": the count of a side
abbrev pub laid_on : Job → Side → ℕ
laid_on J (of_north r c) = J.added.laid_north r c
laid_on J (of_west r c) = J.added.laid_west r c

abbrev pub count_over : Added → Side → ℕ → Added
count_over A (of_north r c) n =
    record { laid_north = put A.laid_north r c n; laid_west = A.laid_west; own_d = A.own_d; upward = A.upward; seen = A.seen }
count_over A (of_west r c) n =
    record { laid_north = A.laid_north; laid_west = put A.laid_west r c n; own_d = A.own_d; upward = A.upward; seen = A.seen }

-- the job with another count on that side
abbrev pub laid_by : Job → Side → ℕ → Job
laid_by J s n = with_added J (count_over J.added s n)

-- K7: "A tile may have its own D": the job with that on the tile (r, c), 0 for none
abbrev pub own_over : Added → ℕ → ℕ → ℕ → Added
own_over A r c d = record { laid_north = A.laid_north; laid_west = A.laid_west; own_d = put A.own_d r c d; upward = A.upward; seen = A.seen }

abbrev pub with_own_d : Job → ℕ → ℕ → ℕ → Job
with_own_d J r c d = with_added J (own_over J.added r c d)

-- "Giving a tile the job's D means it has none of its own": what the tile keeps of the value d, and the job with that value given
abbrev pub own_for : Job → ℕ → ℕ
own_for J d = elim (eqb d J.D) [ true ↦ 0 | false ↦ d ]

abbrev pub diagonal_by : Job → ℕ → ℕ → ℕ → Job
diagonal_by J r c d = with_own_d J r c (own_for J d)

-- ---- its limits

-- how many wires the north and the west side of the tile (r, c) take: "its limit is O less that count"
abbrev pub north_limit : Job → ℕ → ℕ → ℕ
north_limit J r c = J.O - J.added.laid_north r c

abbrev pub west_limit : Job → ℕ → ℕ → ℕ
west_limit J r c = J.O - J.added.laid_west r c

-- the D of the tile (r, c): its own, if it has one; "other tiles use the job's"
abbrev pub tile_d : Job → ℕ → ℕ → ℕ
tile_d J r c = elim (eqb (J.added.own_d r c) 0) [ true ↦ J.D | false ↦ J.added.own_d r c ]

-- "a missing pin is a place passing at most E wires"
abbrev pub extra_limit : Job → ℕ
extra_limit J = J.E

-- ---- its pins and tiles

module _ (J : Job) where
  abbrev pub is_pin : ℕ → ℕ → Bool
  is_pin r c = ltb r J.rows && ltb c J.columns

  -- "Tile (r, c) has the pins (r, c), (r, c+1), (r+1, c+1), (r+1, c) at its NW, NE, SE and SW corners."
  abbrev pub is_tile : ℕ → ℕ → Bool
  is_tile r c = ltb (suc r) J.rows && ltb (suc c) J.columns

  -- "A chosen pin in the first or last row or column"
  abbrev pub on_rim : ℕ → ℕ → Bool
  on_rim r c = eqb r 0 || (eqb (suc r) J.rows || (eqb c 0 || eqb (suc c) J.columns))

  unfoldable pub is_open : ℕ → ℕ → Bool
  is_open r c = is_tile r c && eqb (J.state r c) 0

  unfoldable pub is_closed : ℕ → ℕ → Bool
  is_closed r c = is_tile r c && eqb (J.state r c) 1

  unfoldable pub is_chosen : ℕ → ℕ → Bool
  is_chosen r c = is_pin r c && eqb (J.mark r c) 1

  unfoldable pub is_missing : ℕ → ℕ → Bool
  is_missing r c = is_pin r c && eqb (J.mark r c) 2

  -- the north sides and the west sides of tiles: those at the south and east rim belong to the row and column behind the last tiles
  abbrev pub has_north : ℕ → ℕ → Bool
  has_north r c = ltb r J.rows && ltb (suc c) J.columns

  abbrev pub has_west : ℕ → ℕ → Bool
  has_west r c = ltb (suc r) J.rows && ltb c J.columns

  -- What each added value may be. "A side gets a count of laid wires, 0 to O"; the upward mark and the rectangles are 0, as never set.
  abbrev pub laid_most : ℕ
  laid_most = J.O

  -- "A tile may have its own D, O to 2×O. Giving a tile the job's D means it has none of its own."
  abbrev pub is_own_d : ℕ → Bool
  is_own_d d = in_range J.O (2 * J.O) d && not (eqb d J.D)

  abbrev pub own_d_fits : ℕ → Bool
  own_d_fits d = eqb d 0 || is_own_d d

  abbrev pub upward_most : ℕ
  upward_most = 0

  abbrev pub seen_most : ℕ
  seen_most = 0

  pub record AddedFits : Type 0 where
    pub laid_north : (r c : ℕ) → T (leb (J.added.laid_north r c) (when (has_north r c) laid_most))
    pub laid_west : (r c : ℕ) → T (leb (J.added.laid_west r c) (when (has_west r c) laid_most))
    pub own_d : (r c : ℕ) → T (elim (is_tile r c) [ true ↦ own_d_fits (J.added.own_d r c) | false ↦ eqb (J.added.own_d r c) 0 ])
    pub upward : T (leb J.added.upward upward_most)
    pub seen : (p k : ℕ) → T (leb (J.added.seen p k) (when (ltb p 4 && ltb k 4) seen_most))

  -- What every job of a run is: all in range, and marks and states outside the array 0.
  pub record Proper : Type 0 where
    pub array : T (array_fits J.rows J.columns)
    pub caps : T (caps_fit J.O J.D J.E)
    pub marks : (r c : ℕ) → T (leb (J.mark r c) (when (is_pin r c) 2))
    pub states : (r c : ℕ) → T (leb (J.state r c) (when (is_tile r c) 1))
    pub added : AddedFits
