-- Document 02, K1, "Capacities from the design rules": what is answered to pitch p, pad diameter d, wire width w and spacing s. Assumes nothing.
use Rattle.std.specs.Prelude.{◌≡◌, Bool, ◌&&◌, Result, Ok, Err, ℕ, ◌+◌, ◌-◌, ◌*◌, min, ◌≤◌, ◌<◌, T}
use Rattle.model.specs.Job.{in_range}
use Rattle.rules.specs.declared.Figures.{Figures}
use Rattle.rules.specs.declared.Refusal.{Refusal}
use Rattle.rules.specs.declared.Refusal.TheVariants.{OutOfRange, NoCapacity}

-- the figures of the measures, or why there are none
abbrev pub Answer : Type 0
Answer = Result Figures Refusal

-- what the division of n by m gives: the quotient q, and the remainder r below m
pub record Divided (n m q r : ℕ) : Type 0 where
  pub whole : q * m + r ≡ n
  pub below : r < m

-- "k×(w+s) + s + d"
abbrev pub across : (d w s : ℕ) → ℕ → ℕ
across d w s k = k * (w + s) + s + d

module _ (p d w s : ℕ) where
  -- "micrometres: pitch p, pad diameter d, wire width w, spacing s, each 1 to 100,000"
  abbrev pub measured : Bool
  measured = in_range 1 100000 p && (in_range 1 100000 d && (in_range 1 100000 w && in_range 1 100000 s))

  -- "O is the quotient of p − d − s by w + s, given with its exact remainder."
  abbrev pub Orthogonal : (O remainder : ℕ) → Type 0
  Orthogonal O remainder = Divided (p - d - s) (w + s) O remainder

  -- "(k×(w+s) + s + d) squared at most 2×p×p"
  abbrev pub Passes : ℕ → Type 0
  Passes k = across d w s k * across d w s k ≤ 2 * p * p

  -- "The diagonal count k is the largest with" that: it passes, and no larger number does.
  pub record Largest (k : ℕ) : Type 0 where
    pub passes : Passes k
    pub most : (n : ℕ) → k < n → Passes n → ⊥

  -- The five numbers. "k .. given with what is left of 2×p×p. D is the smaller of k and 2×O."
  pub record Given (f : Figures) : Type 0 where
    pub orthogonal : Orthogonal f.orthogonal f.remainder
    pub count : Largest f.count
    pub left : across d w s f.count * across d w s f.count + f.left ≡ 2 * p * p
    pub diagonal : f.diagonal ≡ min f.count (2 * f.orthogonal)

  -- "Turned away: 9 a measure out of range; then 10 p under d + s, or O outside 1 to 8."
  pub data Answered : Answer → Type 0 where
    beyond : (T measured → ⊥) → Answered (Err OutOfRange)
    under : T measured → p < d + s → Answered (Err NoCapacity)
    outside : (O remainder : ℕ) → T measured → d + s ≤ p → Orthogonal O remainder → (T (in_range 1 8 O) → ⊥) → Answered (Err NoCapacity)
    given : (f : Figures) → T measured → d + s ≤ p → T (in_range 1 8 f.orthogonal) → Given f → Answered (Ok f)

-- the refusals' numbers, 0 for an accepted call
abbrev pub number_of : Refusal → ℕ
number_of OutOfRange = 9
number_of NoCapacity = 10

abbrev pub refusal : Answer → ℕ
refusal (Ok f) = 0
refusal (Err e) = number_of e
