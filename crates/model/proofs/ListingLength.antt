-- Document 01, "The listing": no listing of wires has more than 1,254,600,108 bytes, for a number has at most twenty digits and a wire at most 11,201 parts.
-- Assumes nothing.
use mathlib.Core.Bool.{Bool, true, false}
use mathlib.Core.List.{List, [], ◌∷◌, ◌++◌}
use Prim.Native.Nat.{ℕ, zero, suc, ◌+◌, ◌*◌, ◌^◌, ◌/◌, ◌%◌, ◌≤◌}
use native.Mathlib.Omega.{arith}
use lib.Dec.{leb}
use lib.ListN.{length, length-append}
use Rattle.sums.specs.Counting.{only, each}
use Rattle.model.specs.Job.{Job}
use Rattle.model.specs.Links.{PlaceKind, Step}
use Rattle.model.specs.Wires.{Part, unwired, to, out, past_the_end, is_wired, wire_count, part_at}
use Rattle.model.specs.Length.{held_length}
use Rattle.model.specs.Listing.{digit, tens, decimal, spaced, close, line, pair_line, spread, row, column, wires_word, wire_word, to_word, out_word, place_lane, part_bytes, parts_bytes, wire_line, cell_wire, wires_from, length_word, mean_word, length_line, mean_line, mean_quotient, mean_rest, wires_listing}

only-short : (b : Bool) (l : List ℕ) → length (only b l) ≤ length l
only-short true l = omega arith
only-short false l = omega arith

tens-short : (k n : ℕ) → length (tens k n) ≤ k
unfolding tens
tens-short zero n = omega arith
tens-short (suc k) n =
    omega (
      arith,
      length-append (digit (10 ^ suc k) n) (tens k n),
      only-short (leb (10 ^ suc k) n) ((48 + n / 10 ^ suc k % 10) ∷ []),
      tens-short k n,
    )

pub decimal-short : (n : ℕ) → length (decimal n) ≤ 20
unfolding decimal
decimal-short n = omega (arith, length-append (tens 19 n) ((48 + n % 10) ∷ []), tens-short 19 n)

line-short : (front : List ℕ) (n : ℕ) → length (line front n) ≤ length front + 23
line-short front n = omega (arith, length-append front (spaced n ++ close), length-append (spaced n) close, decimal-short n)

pair-short : (front : List ℕ) (r c : ℕ) (end : List ℕ) → length (pair_line front r c end) ≤ length front + (42 + length end)
pair-short front r c end =
    omega (
      arith,
      length-append front (spaced r ++ (spaced c ++ end)),
      length-append (spaced r) (spaced c ++ end),
      length-append (spaced c) end,
      decimal-short r,
      decimal-short c,
    )

place_short : (k : PlaceKind) (i : ℕ) → length (place_lane k i) ≤ 23
place_short k i = omega (arith, length-append (spaced i) (41 ∷ []), decimal-short i)

pub part-short : (p : Part) → length (part_bytes p) ≤ 70
part-short unwired = omega arith
part-short (to r c k i) =
    omega (arith, length-append (pair_line to_word r c (32 ∷ [])) (place_lane k i), pair-short to_word r c (32 ∷ []), place_short k i)
part-short (out k i) = omega (arith, length-append out_word (place_lane k i), place_short k i)
part-short past_the_end = omega arith

module _ (J : Job) (f : Step → ℕ) where
  parts-short : (r c n : ℕ) → length (parts_bytes J f r c n) ≤ 70 * n
  unfolding parts_bytes each
  parts-short r c zero = omega arith
  parts-short r c (suc n) =
      omega (
        arith,
        length-append (each n (λ i. part_bytes (part_at J f r c i))) (part_bytes (part_at J f r c n)),
        part-short (part_at J f r c n),
        parts-short r c n,
      )

  wire-short : (r c : ℕ) → length (wire_line J f r c) ≤ 784125
  unfolding wire_line
  wire-short r c =
      let front : List ℕ = pair_line wire_word r c (41 ∷ []) in
      let parts : List ℕ = parts_bytes J f r c 11201 in
      omega (
        arith,
        only-short (is_wired J f r c) (front ++ (parts ++ close)),
        length-append front (parts ++ close),
        length-append parts close,
        pair-short wire_word r c (41 ∷ []),
        parts-short r c 11201,
      )

  wires-short : (p n : ℕ) → length (spread (cell_wire J f) p n) ≤ 784125 * n
  unfolding spread
  wires-short p zero = omega arith
  wires-short p (suc n) =
      omega (arith, length-append (cell_wire J f p) (spread (cell_wire J f) (suc p) n), wire-short (row p) (column p), wires-short (suc p) n)

  pub listing-short : length (wires_listing J f) ≤ 1254600108
  unfolding wires_listing
  listing-short =
      omega (
        arith,
        length-append (line wires_word (wire_count J f)) (wires_from J f 0 ++ (length_line J f ++ mean_line J f)),
        length-append (wires_from J f 0) (length_line J f ++ mean_line J f),
        length-append (length_line J f) (mean_line J f),
        line-short wires_word (wire_count J f),
        wires-short 0 1600,
        line-short length_word (held_length J f),
        pair-short mean_word (mean_quotient (held_length J f) (wire_count J f)) (mean_rest (held_length J f) (wire_count J f)) close,
      )
