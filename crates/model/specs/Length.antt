-- Document 01, "Length", the least length of document 02, K8, and the crossings of a tile's diagonals of "The array and its channels". f gives each step how
-- many wires go along its link that way. Assumes nothing.
use Rattle.std.specs.Prelude.{◌≡◌, Bool, true, false, not, ◌&&◌, ◌||◌, List, [], ◌∷◌, ℕ, ◌+◌, ◌*◌, ◌≤◌, leb}
use Rattle.std.specs.Bool.{beq}
use Rattle.sums.specs.Counting.{when, each, those, total, count}
use Rattle.model.specs.Job.{Job}
use Rattle.model.specs.Links.{Compass, north, east, south, west, PlaceKind, pin, missing, centre, outside, nowhere, side, at, places, same_place, is_pin_kind, is_missing_kind, north_side, west_side, corner, Link, link, link_code, Step, go, come, head, tail, may, limit, pass}
use Rattle.model.specs.Route.{Route, uses, Family}
use Rattle.model.specs.Near.{size}
use Rattle.model.specs.Wires.{is_wired}
use Rattle.model.specs.Left.{hop_count}

abbrev pub is_side : Link → Bool
is_side l = leb (link_code l.kind) (link_code west_side)

-- "A wire counts 10 for each side crossed, the rim included, and 14 for each missing pin passed."
abbrev pub wire_length : Job → List Step → ℕ
wire_length J ss = 10 * count ss (λ s. is_side s.link) + 14 * count ss (λ s. is_missing_kind (head J s))

-- the sides that are links, each once
abbrev pub is_link : Job → Link → Bool
is_link J l = may J (go l.kind l.row l.column) || may J (come l.kind l.row l.column)

unfoldable pub sides : Job → List Link
sides J = each J.rows (λ r. each J.columns (λ c. those (is_link J) (link north_side r c ∷ link west_side r c ∷ [])))

-- "The total is at most 10 times the side limits added plus 14×E for each missing pin."
abbrev pub length_bound : Job → ℕ
length_bound J = 10 * total (sides J) (λ l. size (limit J l)) + 14 * total (places J) (λ x. when (is_missing_kind x) (size (pass J x)))

-- ---- the least length

-- "The total": of routes, all together
abbrev pub routes_length : (J : Job) → List (Route J) → ℕ
routes_length J rs = total rs (λ p. wire_length J p.steps)

-- K8: "The total length is exactly the least over all families of routes": some family has the length n, and none has less. A direct exit crosses no side and
-- passes no missing pin, so that it counts 0.
pub record LeastLength (J : Job) (n : ℕ) : Type 0 where
  pub routes : List (Route J)
  pub family : Family J routes
  pub meets : routes_length J routes ≡ n
  pub least : (rs : List (Route J)) → Family J rs → n ≤ routes_length J rs

module _ (J : Job) (f : Step → ℕ) where
  -- how long the wire of the pin (r, c) is, hop by hop
  abbrev pub length_from : ℕ → ℕ → ℕ
  length_from r c = 10 * hop_count J f (λ h. is_side h.step.link) r c + 14 * hop_count J f (λ h. is_missing_kind (head J h.step)) r c

  -- the total of the wires that the loads hold
  unfoldable pub held_length : ℕ
  held_length = total (places J) (λ x. when (is_pin_kind x && is_wired J f x.row x.column) (length_from x.row x.column))

-- ---- diagonals

-- The diagonals of a tile: `falling` has n and e on one side and s and w on the other, `rising` n and w against e and s.
pub data Diagonal : Type 0 where
  falling rising : Diagonal

-- the points on the same side as n
abbrev pub with_north : Diagonal → Compass → Bool
with_north falling north = true
with_north falling east = true
with_north falling south = false
with_north falling west = false
with_north rising north = true
with_north rising east = false
with_north rising south = false
with_north rising west = true

-- whether two places lie on different sides of the diagonal
abbrev pub apart : Diagonal → PlaceKind → PlaceKind → Bool
apart g pin y = false
apart g missing y = false
apart g centre y = false
apart g outside y = false
apart g nowhere y = false
apart g (side d) pin = false
apart g (side d) missing = false
apart g (side d) centre = false
apart g (side d) outside = false
apart g (side d) nowhere = false
apart g (side d) (side e) = not (beq (with_north g d) (with_north g e))

-- passages of the centre of tile (r, c) from one side of the diagonal to the other
unfoldable pub through_centre : Job → Diagonal → ℕ → ℕ → List Step → ℕ
through_centre J g r c [] = 0
through_centre J g r c (s ∷ []) = 0
through_centre J g r c (s ∷ t ∷ ss) =
    when (same_place (at centre r c) (head J s) && apart g (tail J s).kind (head J t).kind) 1 + through_centre J g r c (t ∷ ss)

-- "each diagonal of a tile, n and e against s and w or n and w against e and s, is crossed inside that tile": how often a chain does
abbrev pub crossings : Job → Diagonal → ℕ → ℕ → List Step → ℕ
crossings J falling r c ss = uses (link (corner east) r c) ss + uses (link (corner west) r c) ss + through_centre J falling r c ss
crossings J rising r c ss = uses (link (corner north) r c) ss + uses (link (corner south) r c) ss + through_centre J rising r c ss
