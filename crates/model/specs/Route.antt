-- Document 01, "The array and its channels": routes, families of routes and the greatest number. Assumes nothing.
use Rattle.std.specs.Prelude.{◌≡◌, List, [], ◌∷◌, ℕ, ◌≤◌, T, length}
use Rattle.std.proofs.Math.Option.{some}
use Rattle.sums.specs.Counting.{total, count}
use Rattle.model.specs.Job.{Job, is_chosen}
use Rattle.model.specs.Links.{Place, pin, at, the_outside, places, is_pin_kind, Link, Step, head, tail, may, limit, pass, same_place, same_link}

-- from the place x, step by step along links, to the outside
abbrev pub Chain : Job → Place → List Step → Type 0
Chain J x [] = x ≡ the_outside
Chain J x (s ∷ ss) = (tail J s ≡ x) × T (may J s) × Chain J (head J s) ss

-- "A route is a chain of linked places from its chosen pin to the outside."
pub record Route (J : Job) : Type 0 where
  pub row : ℕ
  pub column : ℕ
  pub steps : List Step
  pub chosen : T (is_chosen J row column)
  pub chain : Chain J (at pin row column) steps

-- "A limit counts wires in both directions together": how often the steps go along the link l, either way
abbrev pub uses : Link → List Step → ℕ
uses l ss = count ss (λ s. same_link l s.link)

-- how often they come to the place x
abbrev pub visits : Job → Place → List Step → ℕ
visits J x ss = count ss (λ s. same_place x (head J s))

-- how many chosen pins there are
abbrev pub chosen_count : Job → ℕ
chosen_count J = count (places J) is_pin_kind

module _ (J : Job) where
  -- how many of the routes begin at the pin (r, c)
  abbrev pub begun : List (Route J) → ℕ → ℕ → ℕ
  begun rs r c = count rs (λ p. same_place (at pin r c) (at pin p.row p.column))

  -- routes "together exceeding no limit", at most one for each pin
  pub record Together (rs : List (Route J)) : Type 0 where
    pub links : (l : Link) (k : ℕ) → limit J l ≡ some k → total rs (λ p. uses l p.steps) ≤ k
    pub passing : (x : Place) (k : ℕ) → pass J x ≡ some k → total rs (λ p. visits J x p.steps) ≤ k
    pub pins : (r c : ℕ) → begun rs r c ≤ 1

  -- "A family of routes has one for each chosen pin and exceeds no limit."
  pub record Family (rs : List (Route J)) : Type 0 where
    pub together : Together rs
    pub whole : (r c : ℕ) → T (is_chosen J r c) → begun rs r c ≡ 1

  -- "The greatest number is the most chosen pins that can have one route each, together exceeding no limit."
  pub record Greatest (g : ℕ) : Type 0 where
    pub routes : List (Route J)
    pub together : Together routes
    pub size : length routes ≡ g
    pub most : (rs : List (Route J)) → Together rs → length rs ≤ g
