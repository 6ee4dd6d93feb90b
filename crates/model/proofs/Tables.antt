-- Document 01, "Settled by hand": one theorem over the rows of each starred table, centre limits, ranges and pairing. Each is one computed test.
-- Assumes nothing.
use mathlib.Core.Path.{◌≡◌, refl}
use mathlib.Core.Bool.{Bool, true, false, ◌&&◌, beq}
use mathlib.Core.List.{List, [], ◌∷◌, Memᴰ}
use lib.Dec.{T, eqb, eqb→eq}
use lib.ListN.{length, get_or}
use Rattle.sums.specs.Tests.{and_left, and_right, every, every-at}
use Rattle.model.specs.Job.{centre_limit, array_fits, caps_admitted}
use Rattle.model.specs.Pairing.{Pair, pairs_of}
use Rattle.model.specs.Examples.{Centre, centres, Size, sizes, Caps, capacities, Sequence, sequences}

pub centres-hold : (x : Centre) → Memᴰ x centres → centre_limit x.O x.D ≡ x.gives
unfolding every
centres-hold x m = eqb→eq _ _ (every-at centres (λ y. eqb (centre_limit y.O y.D) y.gives) tt m)

-- ---- ranges

same_bool : (a b : Bool) → T (beq a b) → a ≡ b
same_bool true true t = refl
same_bool true false t = absurd t
same_bool false true t = absurd t
same_bool false false t = refl

pub sizes-hold : (x : Size) → Memᴰ x sizes → array_fits x.rows x.columns ≡ x.fits
unfolding every
sizes-hold x m = same_bool _ _ (every-at sizes (λ y. beq (array_fits y.rows y.columns) y.fits) tt m)

pub capacities-hold : (x : Caps) → Memᴰ x capacities → caps_admitted x.O x.D x.E ≡ x.fits
unfolding every
capacities-hold x m = same_bool _ _ (every-at capacities (λ y. beq (caps_admitted y.O y.D y.E) y.fits) tt m)

-- ---- pairing

same_pairs : List Pair → List Pair → Bool
same_pairs [] [] = true
same_pairs [] (q ∷ l) = false
same_pairs (p ∷ k) [] = false
same_pairs (p ∷ k) (q ∷ l) = (eqb p.fst q.fst && eqb p.snd q.snd) && same_pairs k l

same-pairs : (k l : List Pair) → T (same_pairs k l) → k ≡ l
unfolding same_pairs
same-pairs [] [] t = refl
same-pairs [] (q ∷ l) t = absurd t
same-pairs (p ∷ k) [] t = absurd t
same-pairs (p ∷ k) (q ∷ l) t =
    let u : T (eqb p.fst q.fst && eqb p.snd q.snd) = and_left (eqb p.fst q.fst && eqb p.snd q.snd) (same_pairs k l) t in
    let a : p.fst ≡ q.fst = eqb→eq _ _ (and_left (eqb p.fst q.fst) (eqb p.snd q.snd) u) in
    let b : p.snd ≡ q.snd = eqb→eq _ _ (and_right (eqb p.fst q.fst) (eqb p.snd q.snd) u) in
    let r : k ≡ l = same-pairs k l (and_right (eqb p.fst q.fst && eqb p.snd q.snd) (same_pairs k l) t) in
    λ i. record { fst = a i; snd = b i } ∷ r i

-- the pairs of a sequence, in the order in which they are joined
abbrev pub joined : Sequence → List Pair
joined x = pairs_of (λ i. get_or x.arrivals i false) (length x.arrivals)

pub sequences-hold : (x : Sequence) → Memᴰ x sequences → joined x ≡ x.joins
unfolding every same_pairs
sequences-hold x m = same-pairs _ _ (every-at sequences (λ y. same_pairs (joined y) y.joins) tt m)
