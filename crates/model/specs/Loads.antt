-- Document 01, "Record and operations": the damage that loads can have. Loads give each step how many wires go along its link that way. Assumes nothing.
use Rattle.std.specs.Prelude.{◌≡◌, not, List, [], ◌∷◌, ℕ, ◌+◌, ◌≤◌, ◌<◌, T}
use Rattle.std.proofs.Math.Option.{some}
use Rattle.sums.specs.Counting.{total}
use Rattle.model.specs.Job.{Job, is_chosen}
use Rattle.model.specs.Links.{pin, Place, at, is_place, is_entered, Step, head, tail, turn, may, limit, pass, around}

-- how many wires leave the place, and how many come to it
unfoldable pub departures : (Step → ℕ) → Place → ℕ
departures f x = total (around x) f

unfoldable pub arrivals : (Step → ℕ) → Place → ℕ
arrivals f x = total (around x) (λ s. f (turn s))

-- from x to y along loaded links
abbrev pub Trail : Job → (Step → ℕ) → Place → List Step → Place → Type 0
Trail J f x [] y = x ≡ y
Trail J f x (s ∷ ss) y = (tail J s ≡ x) × (0 < f s) × Trail J f (head J s) ss y

-- "It is damaged if ..": loads that are not, item by item, loops apart
pub record Feasible (J : Job) (f : Step → ℕ) : Type 0 where
  -- "All wires on a link run one way."
  pub one_way : (s : Step) → 0 < f s → f (turn s) ≡ 0
  -- "a load is over its limit", which "counts wires in both directions together"
  pub limits : (s : Step) (k : ℕ) → limit J s.link ≡ some k → f s + f (turn s) ≤ k
  -- "against a one-way link"
  pub against : (s : Step) → T (not (may J s)) → T (may J (turn s)) → f s ≡ 0
  -- "or on a link that does not exist"
  pub nowhere : (s : Step) → T (not (may J s)) → T (not (may J (turn s))) → f s ≡ 0
  -- "a centre or missing pin passes more than its limit"
  pub passing : (x : Place) (k : ℕ) → T (is_place J x) → pass J x ≡ some k → arrivals f x ≤ k
  -- "a pin starts two wires"
  pub starts : (r c : ℕ) → T (is_chosen J r c) → departures f (at pin r c) ≤ 1
  -- "arrivals and departures differ at a place"; at a chosen pin wires only start
  pub balance : (x : Place) → T (is_place J x) → T (is_entered J x) → arrivals f x ≡ departures f x

pub record Sound (J : Job) (f : Step → ℕ) : Type 0 where
  pub feasible : Feasible J f
  -- "a loop stands": a closed chain of loaded links
  pub loops : (x : Place) (s : Step) (ss : List Step) → Trail J f x (s ∷ ss) x → ⊥
