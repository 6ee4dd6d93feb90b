-- Where no pin is chosen the greatest number is 0; and the empty near side has the number of chosen pins as its sum, so the greatest number is at most
-- that: no route can begin without a chosen pin, and weak duality bounds the routes. Assumes nothing.
use mathlib.Core.Path.{◌≡◌, refl, ap}
use mathlib.Core.Bool.{Bool, true, false, ◌&&◌}
use mathlib.Core.List.{List, [], ◌∷◌}
use Prim.Native.Nat.{ℕ, ◌≤◌}
use native.Mathlib.Omega.{arith}
use lib.Dec.{T}
use lib.ListN.{length}
use Rattle.sums.specs.Counting.{when, total}
use Rattle.sums.specs.Tests.{and_right}
use Rattle.sums.specs.Sums.{when-none}
use Rattle.sums.specs.Totals.{total-cong, total-none}
use Rattle.model.specs.Job.{Job, is_chosen}
use Rattle.model.specs.Links.{places, is_pin_kind, may, limit, pass, around}
use Rattle.model.specs.Route.{Route, Together, Greatest, chosen_count}
use Rattle.model.specs.Near.{size, far_pin, leaves, splits, Near, near_sum}
use Rattle.model.proofs.Unique.{greatest-le}

and-true : (a : Bool) → (a && true) ≡ a
and-true true = refl
and-true false = refl

module _ (J : Job) where
  pub nothing-chosen : ((r c : ℕ) → T (is_chosen J r c) → ⊥) → Greatest J 0
  unfolding total
  nothing-chosen n =
      record {
        routes = [];
        together = record { links = λ l k e. omega arith; passing = λ x k e. omega arith; pins = λ r c. omega arith };
        size = refl;
        most = most;
      }
    where
      most : (rs : List (Route J)) → Together J rs → length rs ≤ 0
      most [] F = omega arith
      most (p ∷ rs) F = absurd (n p.row p.column p.chosen)

  -- ---- the empty near side

  pub empty-near : Near J (λ i. false)
  empty-near = record { within = λ i t. absurd t; limited = λ s t. absurd (and_right (may J s) false t) }

  pub empty-sum : near_sum J (λ i. false) ≡ chosen_count J
  unfolding near_sum
  empty-sum =
      omega (
        arith,
        total-cong (places J) (λ x. when (far_pin J (λ i. false) x) 1) (λ x. when (is_pin_kind x) 1) (λ x. ap (λ (b : Bool). when b 1) (and-true (is_pin_kind x))),
        total-none (places J) (λ x. total (around x) (λ s. when (leaves J (λ i. false) s) (size (limit J s.link))))
            (λ x. total-none (around x) _ (λ s. when-none (may J s && false) (size (limit J s.link)) (λ t. absurd (and_right (may J s) false t)))),
        total-none (places J) (λ x. when (splits J (λ i. false) x) (size (pass J x))) (λ x. refl),
      )

  pub greatest-le-chosen : (g : ℕ) → Greatest J g → g ≤ chosen_count J
  greatest-le-chosen g G = omega (arith, greatest-le J g (λ i. false) G empty-near, empty-sum)
