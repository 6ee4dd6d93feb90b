-- Document 01, "The listing": the bytes of a short job's listing and of a refusal. `near` are the bytes that Shortfall gives: the byte of kind k of the
-- cell (r, c) stands at `spot k r c`. Assumes nothing.
use Rattle.std.specs.Prelude.{◌≡◌, refl, List, [], ◌∷◌, ◌++◌, ℕ, zero, suc, ◌-◌, ◌/◌, ◌%◌, ◌≤◌, ◌<◌, eqb, get_or, Option, Some, None, IfSome}
use Rattle.std.proofs.Common.{ap, arith}
use Rattle.sums.specs.Counting.{only}
use Rattle.model.specs.Job.{Job, is_chosen, is_missing}
use Rattle.model.specs.Near.{spot}
use Rattle.model.specs.Listing.{close, line, pair_line, spread, row, column}

-- ---- words

-- (near
abbrev pub near_word : List ℕ
near_word = 40 ∷ 110 ∷ 101 ∷ 97 ∷ 114 ∷ []

-- (near pin, (near ri, (near ro
abbrev pub pin_word : List ℕ
pin_word = near_word ++ (32 ∷ 112 ∷ 105 ∷ 110 ∷ [])

abbrev pub entry_word : List ℕ
entry_word = near_word ++ (32 ∷ 114 ∷ 105 ∷ [])

abbrev pub exit_word : List ℕ
exit_word = near_word ++ (32 ∷ 114 ∷ 111 ∷ [])

-- (short
abbrev pub short_word : List ℕ
short_word = 40 ∷ 115 ∷ 104 ∷ 111 ∷ 114 ∷ 116 ∷ []

-- (refused 6
abbrev pub refused_word : List ℕ
refused_word = 40 ∷ 114 ∷ 101 ∷ 102 ∷ 117 ∷ 115 ∷ 101 ∷ 100 ∷ 32 ∷ 54 ∷ []

-- ---- the lines of a cell

-- the line of a cell, if its byte of kind k says near
abbrev pub near_line : List ℕ → ℕ → List ℕ → List ℕ → ℕ → List ℕ
near_line near k front end p = only (eqb (get_or near (spot k (row p) (column p)) 0) 1) (pair_line front (row p) (column p) end)

-- "the near chosen pins by row and column as (near pin 0 0)"
unfoldable pub chosen_line : Job → List ℕ → ℕ → List ℕ
chosen_line J near p = only (is_chosen J (row p) (column p)) (near_line near 1 pin_word close p)

-- "the near missing pins, entry before exit, as (near ri 1 1), (near ro 1 1)"
unfoldable pub missing_lines : Job → List ℕ → ℕ → List ℕ
missing_lines J near p = only (is_missing J (row p) (column p)) (near_line near 0 entry_word close p ++ near_line near 1 exit_word close p)

-- "tiles, each with n, e, s, w, ci, co in this order, as (near 0 0 n)"
unfoldable pub side_lines : List ℕ → ℕ → List ℕ
side_lines near p =
    near_line near 2 near_word (32 ∷ 110 ∷ close) p
    ++ (near_line near 3 near_word (32 ∷ 101 ∷ close) p
    ++ (near_line near 4 near_word (32 ∷ 115 ∷ close) p ++ near_line near 5 near_word (32 ∷ 119 ∷ close) p))

unfoldable pub centre_lines : List ℕ → ℕ → List ℕ
centre_lines near p = near_line near 6 near_word (32 ∷ 99 ∷ 105 ∷ close) p ++ near_line near 7 near_word (32 ∷ 99 ∷ 111 ∷ close) p

abbrev pub tile_lines : List ℕ → ℕ → List ℕ
tile_lines near p = side_lines near p ++ centre_lines near p

-- the lines of a cell in the group 0, 1 or 2
unfoldable pub group_lines : Job → List ℕ → ℕ → ℕ → List ℕ
group_lines J near zero p = chosen_line J near p
group_lines J near (suc zero) p = missing_lines J near p
group_lines J near (suc (suc g)) p = tile_lines near p

pub group-tiles : (J : Job) (near : List ℕ) (g p : ℕ) → 2 ≤ g → group_lines J near g p ≡ tile_lines near p
unfolding group_lines
group-tiles J near zero p h = absurd (omega arith)
group-tiles J near (suc zero) p h = absurd (omega arith)
group-tiles J near (suc (suc g)) p h = refl

-- ---- the listings

-- "A short job prints no wires but (short 1), the chosen minus the greatest number, then the near chosen pins, then the near missing pins, then tiles."
unfoldable pub short_listing : Job → List ℕ → ℕ → List ℕ
short_listing J near k =
    line short_word k
    ++ (spread (group_lines J near 0) 0 1600 ++ (spread (group_lines J near 1) 0 1600 ++ spread (group_lines J near 2) 0 1600))

-- the entries of the three groups in one row: 1,600 cells to a group
abbrev pub near_at : Job → List ℕ → ℕ → List ℕ
near_at J near q = group_lines J near (q / 1600) (q % 1600)

-- those from q on
abbrev pub near_from : Job → List ℕ → ℕ → List ℕ
near_from J near q = spread (near_at J near) q (4800 - q)

-- those from an entry on, and none where there is no entry
abbrev pub near_left : Job → List ℕ → Option ℕ → List ℕ
near_left J near None = []
near_left J near (Some q) = near_from J near q

-- the next entry, 4,800 behind the last
abbrev pub entry_of : Option ℕ → ℕ
entry_of None = 4800
entry_of (Some q) = q

-- a page leads further, and not past the end
pub near-further : (q : ℕ) (o : Option ℕ) → q < 4800 → IfSome o (λ n. (q < n) × (n < 4800)) → (q < entry_of o) × IfSome o (λ n. n < 4800)
near-further q None l h = (l, tt)
near-further q (Some n) l h = h

-- behind the last entry nothing is left
pub near-done : (J : Job) (near : List ℕ) (q : ℕ) → q ≡ 4800 → near_from J near q ≡ []
unfolding spread
near-done J near q e = ap (near_from J near) e

-- "A wrong text prints (refused 6 45), number and offset."
unfoldable pub refused_listing : ℕ → List ℕ
refused_listing offset = line refused_word offset
