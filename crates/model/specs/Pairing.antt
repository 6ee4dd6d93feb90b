-- Document 01, "Lanes and pairing": joining arrivals and departures by rounds, and crossing. A sequence is given by its length and, for each position,
-- whether a wire arrives there. Assumes nothing.
use Rattle.std.specs.Prelude.{Bool, true, false, List, [], ◌∷◌, ℕ, zero, suc, ◌<◌, eqb}
use Rattle.std.specs.Bool.{beq}
use Rattle.std.proofs.Math.Option.{Option, none, some}

-- two positions, the earlier first
pub record Pair : Type 0 where
  pub fst : ℕ
  pub snd : ℕ

-- a round: the pair that is joined, and the positions that are left, in unchanged order
pub record Struck : Type 0 where
  pub pair : Pair
  pub rest : List ℕ

abbrev pub keep : ℕ → Option Struck → Option Struck
keep x none = none
keep x (some s) = some (record { pair = s.pair; rest = x ∷ s.rest })

-- "The first neighbouring pair of one arrival and one departure is joined and struck out."
abbrev pub strike : (ℕ → Bool) → List ℕ → Option Struck
strike w [] = none
strike w (x ∷ []) = none
strike w (x ∷ y ∷ l) =
    elim (beq (w x) (w y)) [
      | true ↦ keep x (strike w (y ∷ l))
      | false ↦ some (record { pair = record { fst = x; snd = y }; rest = l })
    ]

-- ".. until it is empty": n rounds at most
abbrev pub rounds : (ℕ → Bool) → ℕ → List ℕ → List Pair
rounds w zero l = []
rounds w (suc n) l = elim (strike w l) [ none ↦ [] | some s ↦ s.pair ∷ rounds w n s.rest ]

-- p, p + 1, .. p + n - 1
abbrev pub range : ℕ → ℕ → List ℕ
range p zero = []
range p (suc n) = p ∷ range (suc p) n

-- the pairs of a sequence of n positions, in the order in which they are joined
abbrev pub pairs_of : (ℕ → Bool) → ℕ → List Pair
pairs_of w n = rounds w n (range 0 n)

-- the other position of the pair that has i
abbrev pub partner_in : List Pair → ℕ → ℕ
partner_in [] i = i
partner_in (p ∷ l) i = elim (eqb i p.fst) [ true ↦ p.snd | false ↦ elim (eqb i p.snd) [ true ↦ p.fst | false ↦ partner_in l i ] ]

-- "Wires cross in a place if their joined pairs interleave there."
pub record Crosses (p q : Pair) : Type 0 where
  pub first : p.fst < q.fst
  pub second : q.fst < p.snd
  pub third : p.snd < q.snd
