-- Document 01, "The array and its channels", and document 02, K7: routes that together exceed no limit cross each diagonal of a tile inside that tile at most
-- as often as the tile's D says, its own or the job's. A crossing goes along one of two corners, each at most O/2 rounded down, or through the centre, which
-- passes at most the rest of the tile's D. Assumes nothing.
use Rattle.std.specs.Prelude.{◌≡◌, Bool, ◌&&◌, List, [], ◌∷◌, ℕ, ◌+◌, ◌/◌, ◌≤◌}
use Rattle.std.proofs.Math.Path.{refl}
use Rattle.std.proofs.Math.Option.{some}
use Rattle.std.proofs.Common.{arith}
use Rattle.sums.specs.Counting.{total}
use Rattle.sums.specs.Tests.{and_left}
use Rattle.sums.specs.Sums.{when-implies}
use Rattle.sums.specs.Totals.{total-add, total-le}
use Rattle.model.specs.Job.{Job, centre_limit, tile_d}
use Rattle.model.specs.Links.{north, east, south, west, centre, at, same_place, LinkKind, corner, link, limit_of, Step, head, tail}
use Rattle.model.specs.Route.{Route, uses, visits, Together}
use Rattle.model.specs.Length.{Diagonal, falling, rising, apart, through_centre, crossings}

through-le : (J : Job) (g : Diagonal) (r c : ℕ) (ss : List Step) → through_centre J g r c ss ≤ visits J (at centre r c) ss
unfolding through_centre total
through-le J g r c [] = omega arith
through-le J g r c (s ∷ []) = omega arith
through-le J g r c (s ∷ t ∷ ss) =
    let here : Bool = same_place (at centre r c) (head J s) in
    let crossed : Bool = apart g (tail J s).kind (head J t).kind in
    omega (arith, through-le J g r c (t ∷ ss), when-implies (here && crossed) here 1 (and_left here crossed))

module _ (J : Job) (rs : List (Route J)) (F : Together J rs) where
  diagonal-by : (g : Diagonal) (r c : ℕ) (a b : LinkKind) → limit_of J a r c ≡ some (J.O / 2) → limit_of J b r c ≡ some (J.O / 2) → J.O ≤ tile_d J r c
      → total rs (λ p. uses (link a r c) p.steps + uses (link b r c) p.steps + through_centre J g r c p.steps) ≤ tile_d J r c
  diagonal-by g r c a b x y o =
      omega (
        arith,
        total-add rs (λ p. uses (link a r c) p.steps + uses (link b r c) p.steps) (λ p. through_centre J g r c p.steps),
        total-add rs (λ p. uses (link a r c) p.steps) (λ p. uses (link b r c) p.steps),
        total-le rs (λ p. through_centre J g r c p.steps) (λ p. visits J (at centre r c) p.steps) (λ p. through-le J g r c p.steps),
        F.links (link a r c) (J.O / 2) x,
        F.links (link b r c) (J.O / 2) y,
        F.passing (at centre r c) (centre_limit J.O (tile_d J r c)) refl,
      )

  pub diagonal-bound : (g : Diagonal) (r c : ℕ) → J.O ≤ tile_d J r c → total rs (λ p. crossings J g r c p.steps) ≤ tile_d J r c
  unfolding limit_of
  diagonal-bound falling r c o = diagonal-by falling r c (corner east) (corner west) refl refl o
  diagonal-bound rising r c o = diagonal-by rising r c (corner north) (corner south) refl refl o
