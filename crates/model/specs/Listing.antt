-- Document 01, "The listing": the bytes that list the wires that loads hold. The line of a wire has the `to` and the `out` that Part gives, index by index; behind
-- the wires stand their total length and its mean (document 02, K8). f gives each step how many wires go along its link that way. Assumes nothing.
use Rattle.std.specs.Prelude.{List, [], ◌∷◌, ◌++◌, ℕ, zero, suc, ◌+◌, ◌-◌, ◌^◌, ◌/◌, ◌%◌, leb, ltb}
use Rattle.sums.specs.Counting.{when, only, each}
use Rattle.model.specs.Job.{Job}
use Rattle.model.specs.Links.{north, east, south, west, PlaceKind, pin, missing, centre, outside, nowhere, side, Step}
use Rattle.model.specs.Wires.{Part, unwired, to, out, past_the_end, is_wired, wire_count, part_at}
use Rattle.model.specs.Length.{held_length}

-- ---- numbers

-- the digit at a power of ten, where the number has one there
abbrev pub digit : ℕ → ℕ → List ℕ
digit power n = only (leb power n) ((48 + n / power % 10) ∷ [])

-- the digits at the k-th power of ten, .. the first
unfoldable pub tens : ℕ → ℕ → List ℕ
tens zero n = []
tens (suc k) n = digit (10 ^ suc k) n ++ tens k n

-- "unsigned and decimal", no leading zeros; no number below 2^64 has more than twenty digits
unfoldable pub decimal : ℕ → List ℕ
decimal n = tens 19 n ++ ((48 + n % 10) ∷ [])

abbrev pub spaced : ℕ → List ℕ
spaced n = 32 ∷ decimal n

-- ---- lines

-- a closing parenthesis, and "Every line ends in byte 10."
abbrev pub close : List ℕ
close = 41 ∷ 10 ∷ []

abbrev pub line : List ℕ → ℕ → List ℕ
line front n = front ++ (spaced n ++ close)

abbrev pub pair_line : List ℕ → ℕ → ℕ → List ℕ → List ℕ
pair_line front r c end = front ++ (spaced r ++ (spaced c ++ end))

-- ---- cells by row and column

-- the row and the column of the cell p; 40 to a row
abbrev pub row : ℕ → ℕ
row p = p / 40

abbrev pub column : ℕ → ℕ
column p = p % 40

-- the bytes of the n cells from p on
unfoldable pub spread : (ℕ → List ℕ) → ℕ → ℕ → List ℕ
spread g p zero = []
spread g p (suc n) = g p ++ spread g (suc p) n

-- ---- words

-- (wires
abbrev pub wires_word : List ℕ
wires_word = 40 ∷ 119 ∷ 105 ∷ 114 ∷ 101 ∷ 115 ∷ []

-- (wire (pin
abbrev pub wire_word : List ℕ
wire_word = 40 ∷ 119 ∷ 105 ∷ 114 ∷ 101 ∷ 32 ∷ 40 ∷ 112 ∷ 105 ∷ 110 ∷ []

-- (to, behind a space
abbrev pub to_word : List ℕ
to_word = 32 ∷ 40 ∷ 116 ∷ 111 ∷ []

-- (out, between spaces
abbrev pub out_word : List ℕ
out_word = 32 ∷ 40 ∷ 111 ∷ 117 ∷ 116 ∷ 32 ∷ []

-- (length
abbrev pub length_word : List ℕ
length_word = 40 ∷ 108 ∷ 101 ∷ 110 ∷ 103 ∷ 116 ∷ 104 ∷ []

-- (mean
abbrev pub mean_word : List ℕ
mean_word = 40 ∷ 109 ∷ 101 ∷ 97 ∷ 110 ∷ []

-- ---- parts

-- n, e, s, w, c, "a missing pin is place r", and a pin that is left directly is p; no wire is listed at the others
abbrev pub letter_of : PlaceKind → ℕ
letter_of pin = 112
letter_of missing = 114
letter_of centre = 99
letter_of outside = 0
letter_of nowhere = 0
letter_of (side north) = 110
letter_of (side east) = 101
letter_of (side south) = 115
letter_of (side west) = 119

abbrev pub place_lane : PlaceKind → ℕ → List ℕ
place_lane k i = letter_of k ∷ spaced i ++ (41 ∷ [])

-- "`to` is row, column, place, lane by which it is entered; `out` is rim side and lane."
abbrev pub part_bytes : Part → List ℕ
part_bytes unwired = []
part_bytes (to r c k i) = pair_line to_word r c (32 ∷ []) ++ place_lane k i
part_bytes (out k i) = out_word ++ place_lane k i
part_bytes past_the_end = []

-- ---- the mean

-- of the total n over w wires
abbrev pub mean_quotient : ℕ → ℕ → ℕ
mean_quotient n w = when (ltb 0 w) (n / w)

abbrev pub mean_rest : ℕ → ℕ → ℕ
mean_rest n w = when (ltb 0 w) (n % w)

-- ---- the wires

module _ (J : Job) (f : Step → ℕ) where
  -- the first n parts of the wire of the pin (r, c)
  unfoldable pub parts_bytes : ℕ → ℕ → ℕ → List ℕ
  parts_bytes r c n = each n (λ i. part_bytes (part_at J f r c i))

  -- its line; no wire has more than 11,201 parts
  unfoldable pub wire_line : ℕ → ℕ → List ℕ
  wire_line r c = only (is_wired J f r c) (pair_line wire_word r c (41 ∷ []) ++ (parts_bytes r c 11201 ++ close))

  -- that of the pin at p
  abbrev pub cell_wire : ℕ → List ℕ
  cell_wire p = wire_line (row p) (column p)

  -- "the first line counts the wires"
  abbrev pub wires_line : List ℕ
  wires_line = line wires_word (wire_count J f)

  -- "Pins rise by row, column": the wires from the cell p on
  abbrev pub wires_from : ℕ → List ℕ
  wires_from p = spread cell_wire p (1600 - p)

  -- K8: "After the wires two lines follow: the total, .."
  abbrev pub length_line : List ℕ
  length_line = line length_word (held_length J f)

  -- ".. and the mean per wire as quotient and remainder, 0 and 0 without wires."
  abbrev pub mean_line : List ℕ
  mean_line = pair_line mean_word (mean_quotient (held_length J f) (wire_count J f)) (mean_rest (held_length J f) (wire_count J f)) close

  -- the listing of the wires that the loads hold
  unfoldable pub wires_listing : List ℕ
  wires_listing = wires_line ++ (wires_from 0 ++ (length_line ++ mean_line))
