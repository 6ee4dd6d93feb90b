-- The border of a set of spots, read off a list of edges that depends on the job alone: an edge for each step that may be taken, from exit to entry, and
-- one for each place, from entry to exit. So the sum of many near sides of one job is computed from lists that are computed once. Assumes nothing.
use mathlib.Core.Path.{◌≡◌, refl, sym, subst}
use mathlib.Core.Bool.{Bool, true, false, not, ◌&&◌, ◌||◌}
use mathlib.Core.List.{List, [], ◌∷◌, ◌++◌}
use mathlib.Core.Option.{Option, some}
use Prim.Native.Nat.{ℕ, ◌+◌}
use native.Mathlib.Omega.{arith}
use lib.Dec.{T}
use Rattle.sums.specs.Counting.{when, only, total, count}
use Rattle.sums.specs.Tests.{and_both, every, every_append}
use Rattle.sums.specs.Totals.{total-append}
use Rattle.model.specs.Job.{Job}
use Rattle.model.specs.Links.{Place, places, is_pin_kind, Step, head, tail, may, limit, pass, around}
use Rattle.model.specs.Near.{entry, exit, size, far_pin, leaves, splits, Near, near_sum}
use Rattle.model.proofs.Bound.{split-limit}
use Rattle.model.proofs.ByTest.{is_limited}

-- ---- edges

pub record Edge : Type 0 where
  pub from : ℕ
  pub to : ℕ
  pub bound : Option ℕ

abbrev step_edge : Job → Step → Edge
step_edge J s = record { from = exit (tail J s); to = entry (head J s); bound = limit J s.link }

abbrev place_edge : Job → Place → Edge
place_edge J x = record { from = entry x; to = exit x; bound = pass J x }

unfoldable pub step_edges : Job → List Step → List Edge
step_edges J [] = []
step_edges J (s ∷ l) = only (may J s) (step_edge J s ∷ []) ++ step_edges J l

unfoldable pub edges : Job → List Place → List Edge
edges J [] = []
edges J (x ∷ l) = step_edges J (around x) ++ (place_edge J x ∷ edges J l)

-- the spots of the chosen pins
unfoldable pub pin_spots : List Place → List ℕ
pin_spots [] = []
pin_spots (x ∷ l) = only (is_pin_kind x) (exit x ∷ []) ++ pin_spots l

module _ (S : ℕ → Bool) where
  -- from near to not near
  abbrev pub crosses : Edge → Bool
  crosses e = S e.from && not (S e.to)

  abbrev pub edge_test : Edge → Bool
  edge_test e = not (crosses e) || is_limited e.bound

  abbrev pub edge_sum : List ℕ → List Edge → ℕ
  edge_sum pins es = count pins (λ i. not (S i)) + total es (λ e. when (crosses e) (size e.bound))

-- ---- their sum is the near side's

module _ (J : Job) (S : ℕ → Bool) where
  pin-sum : (l : List Place) → count (pin_spots l) (λ i. not (S i)) ≡ count l (far_pin J S)
  unfolding pin_spots total
  pin-sum [] = refl
  pin-sum (x ∷ l) = by (is_pin_kind x) (pin-sum l)
    where
      by : (b : Bool) → count (pin_spots l) (λ i. not (S i)) ≡ count l (far_pin J S)
          → count (only b (exit x ∷ []) ++ pin_spots l) (λ i. not (S i)) ≡ when (b && not (S (exit x))) 1 + count l (far_pin J S)
      by true r = omega arith
      by false r = omega arith

  abbrev step_sum : List Step → ℕ
  step_sum l = total l (λ s. when (leaves J S s) (size (limit J s.link)))

  abbrev crossed : List Edge → ℕ
  crossed es = total es (λ e. when (crosses S e) (size e.bound))

  step_sum_lem : (l : List Step) → crossed (step_edges J l) ≡ step_sum l
  unfolding step_edges total
  step_sum_lem [] = refl
  step_sum_lem (s ∷ l) = by (may J s) (step_sum_lem l)
    where
      by : (b : Bool) → crossed (step_edges J l) ≡ step_sum l
          → crossed (only b (step_edge J s ∷ []) ++ step_edges J l) ≡ when (b && crosses S (step_edge J s)) (size (limit J s.link)) + step_sum l
      by true r = omega arith
      by false r = omega arith

  place-sum : (l : List Place) → crossed (edges J l) ≡ total l (λ x. step_sum (around x)) + total l (λ x. when (splits J S x) (size (pass J x)))
  unfolding edges total
  place-sum [] = refl
  place-sum (x ∷ l) =
      omega (
        arith,
        total-append (step_edges J (around x)) (place_edge J x ∷ edges J l) (λ e. when (crosses S e) (size e.bound)),
        step_sum_lem (around x),
        place-sum l,
      )

  pub edge-sum : edge_sum S (pin_spots (places J)) (edges J (places J)) ≡ near_sum J S
  unfolding near_sum
  edge-sum = omega (arith, pin-sum (places J), place-sum (places J))

  -- ---- an edge that leads out of a near side has a limit

  limited-test : (b : Bool) (o : Option ℕ) → (T b → (k : ℕ) × (o ≡ some k)) → T (not b || is_limited o)
  limited-test true o f = let (k, e) = f tt in subst (λ (p : Option ℕ). T (is_limited p)) (sym e) tt
  limited-test false o f = tt

  step-edges-limited : Near J S → (l : List Step) → T (every (step_edges J l) (edge_test S))
  unfolding step_edges every
  step-edges-limited near [] = tt
  step-edges-limited near (s ∷ l) = by (may J s) (near.limited s) (step-edges-limited near l)
    where
      by : (b : Bool) → (T (b && crosses S (step_edge J s)) → (k : ℕ) × (limit J s.link ≡ some k)) → T (every (step_edges J l) (edge_test S))
          → T (every (only b (step_edge J s ∷ []) ++ step_edges J l) (edge_test S))
      by true f r = and_both (edge_test S (step_edge J s)) (every (step_edges J l) (edge_test S)) (limited-test (crosses S (step_edge J s)) (limit J s.link) f) r
      by false f r = r

  place-edges-limited : Near J S → (l : List Place) → T (every (edges J l) (edge_test S))
  unfolding edges every
  place-edges-limited near [] = tt
  place-edges-limited near (x ∷ l) =
      every_append (step_edges J (around x)) (place_edge J x ∷ edges J l) (edge_test S) (step-edges-limited near (around x))
      (and_both (edge_test S (place_edge J x)) (every (edges J l) (edge_test S))
      (limited-test (splits J S x) (pass J x) (split-limit J S x.kind x.row x.column)) (place-edges-limited near l))

  pub edges-limited : Near J S → T (every (edges J (places J)) (edge_test S))
  edges-limited near = place-edges-limited near (places J)
