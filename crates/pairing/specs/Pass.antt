-- What document 01's rounds are counted by: what they leave, the pairs of one pass with a stack, and how often a position or a kind stands in a list.
-- `w i` is the kind of position i, true for an arrival; positions are counted from 0. Assumes nothing.
use Rattle.std.specs.Prelude.{Bool, true, false, List, [], ◌∷◌, ℕ, zero, suc, ◌+◌, eqb}
use Rattle.std.specs.Bool.{beq}
use Rattle.std.proofs.Math.Option.{none, some}
use Rattle.sums.specs.Counting.{when, sum}
use Rattle.model.specs.Pairing.{Pair, strike}

-- what is left after at most n rounds
abbrev pub left : (ℕ → Bool) → ℕ → List ℕ → List ℕ
left w zero l = l
left w (suc n) l = elim (strike w l) [ none ↦ l | some s ↦ left w n s.rest ]

-- one pass: a stack of positions of one kind, the next position p, n positions to come
abbrev pub run : (ℕ → Bool) → List ℕ → ℕ → ℕ → List Pair
run w st p zero = []
run w [] p (suc n) = run w (p ∷ []) (suc p) n
run w (a ∷ st) p (suc n) =
    elim (beq (w a) (w p)) [ true ↦ run w (p ∷ a ∷ st) (suc p) n | false ↦ record { fst = a; snd = p } ∷ run w st (suc p) n ]

-- how often a position stands in a list, and in pairs
abbrev pub listed : ℕ → List ℕ → ℕ
listed i [] = 0
listed i (x ∷ l) = when (eqb i x) 1 + listed i l

abbrev pub paired : ℕ → List Pair → ℕ
paired i [] = 0
paired i (p ∷ l) = when (eqb i p.fst) 1 + when (eqb i p.snd) 1 + paired i l

-- how many of the first i positions are of kind k
abbrev pub passed : (ℕ → Bool) → Bool → ℕ → ℕ
passed w k i = sum i (λ j. when (beq (w j) k) 1)
