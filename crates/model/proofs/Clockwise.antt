-- Document 01, "Lanes and pairing": "Links around a place, clockwise", by coordinates. A tile is four units wide, with its pins at the corners, c in the middle and
-- n, e, s, w one unit from c. Each step has a direction, so many units east and so many south; around every place the directions turn clockwise, once round, from
-- the first of the table on. Assumes nothing.
use mathlib.Core.Bool.{Bool, true, false, ◌&&◌, ◌||◌}
use mathlib.Core.List.{List, [], ◌∷◌}
use Prim.Native.Nat.{ℕ, ◌+◌, ◌-◌, ◌*◌}
use lib.Dec.{T, ltb, eqb}
use Rattle.model.specs.Links.{north, east, south, west, Compass, missing, centre, side, LinkKind, north_side, west_side, direct, corner, spoke, leg, Step, around_of}

-- units east and units south, each 4 more
record Direction : Type 0 where
  x : ℕ
  y : ℕ

abbrev toward : ℕ → ℕ → Direction
toward x y = record { x = x; y = y }

-- The positive way of a link: over a side from s or e of one tile to n or w of the next, two units; from n to e one unit east and one south; from c to n one unit
-- north; from a pin to w of its NE tile one unit east and two north. A direct exit has no direction of its own.
abbrev along : LinkKind → Direction
along north_side = toward 4 2
along west_side = toward 6 4
along direct = toward 4 4
along (corner north) = toward 5 5
along (corner east) = toward 3 5
along (corner south) = toward 3 3
along (corner west) = toward 5 3
along (spoke north) = toward 4 3
along (spoke east) = toward 5 4
along (spoke south) = toward 4 5
along (spoke west) = toward 3 4
along (leg north) = toward 5 2
along (leg east) = toward 6 5
along (leg south) = toward 3 6
along (leg west) = toward 2 3

-- the way of a step: the other way is the opposite
abbrev direction : Step → Direction
direction s =
    elim s.forth [ true ↦ along s.link.kind | false ↦ toward (8 - (along s.link.kind).x) (8 - (along s.link.kind).y) ]

-- from u to v is a turn clockwise by less than a half turn; they lie more than a quarter apart
abbrev turns : Direction → Direction → Bool
turns u v = ltb (u.y * v.x + 4 * u.x + 4 * v.y) (u.x * v.y + 4 * u.y + 4 * v.x)

abbrev opposed : Direction → Direction → Bool
opposed u v = ltb (u.x * v.x + u.y * v.y + 32) (4 * (u.x + v.x + u.y + v.y))

-- how far v lies from u, clockwise: 1 less than a half turn, 3 more, 2 a half turn, 0 nothing
abbrev part : Direction → Direction → ℕ
part u v = elim (turns u v) [ true ↦ 1 | false ↦ elim (turns v u) [ true ↦ 3 | false ↦ elim (opposed u v) [ true ↦ 2 | false ↦ 0 ] ] ]

-- v comes before w, clockwise from u
abbrev before : Direction → Direction → Direction → Bool
before u v w = ltb 0 (part u v) && (ltb (part u v) (part u w) || (eqb (part u v) (part u w) && turns v w))

abbrev in_order : Direction → List Step → Bool
in_order u [] = true
in_order u (s ∷ []) = ltb 0 (part u (direction s))
in_order u (s ∷ t ∷ l) = before u (direction s) (direction t) && in_order u (t ∷ l)

abbrev clockwise_from : List Step → Bool
clockwise_from [] = false
clockwise_from (s ∷ l) = in_order (direction s) l

pub around-side : (d : Compass) (r c : ℕ) → T (clockwise_from (around_of (side d) r c))
around-side north r c = tt
around-side east r c = tt
around-side south r c = tt
around-side west r c = tt

pub around-centre : (r c : ℕ) → T (clockwise_from (around_of centre r c))
around-centre r c = tt

pub around-missing : (r c : ℕ) → T (clockwise_from (around_of missing r c))
around-missing r c = tt
