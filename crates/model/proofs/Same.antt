-- The tests of sameness decide equality: each kind has its own code, from which the kind is read back. Assumes nothing.
use mathlib.Core.Path.{◌≡◌, refl, sym, ap, ◌∙◌}
use mathlib.Core.Bool.{◌&&◌}
use mathlib.Core.List.{[], ◌∷◌}
use Prim.Native.Nat.{ℕ}
use lib.Dec.{T, eqb, eqb→eq, eqb_refl}
use lib.ListN.{get_or}
use Rattle.sums.specs.Tests.{and_left, and_right, and_both}
use Rattle.model.specs.Links.{north, east, south, west, PlaceKind, pin, missing, centre, outside, nowhere, side, Place, LinkKind, north_side, west_side, corner, spoke, leg, direct, Link, place_code, same_place, link_code, same_link}

-- ---- three numbers

three-same : (a b c : ℕ) → T (eqb a a && (eqb b b && eqb c c))
three-same a b c = and_both (eqb a a) (eqb b b && eqb c c) (eqb_refl a) (and_both (eqb b b) (eqb c c) (eqb_refl b) (eqb_refl c))

three-eq : (a b c x y z : ℕ) → T (eqb a x && (eqb b y && eqb c z)) → (a ≡ x) × (b ≡ y) × (c ≡ z)
three-eq a b c x y z t =
    let u : T (eqb b y && eqb c z) = and_right (eqb a x) (eqb b y && eqb c z) t in
    (eqb→eq a x (and_left (eqb a x) (eqb b y && eqb c z) t), eqb→eq b y (and_left (eqb b y) (eqb c z) u), eqb→eq c z (and_right (eqb b y) (eqb c z) u))

-- ---- places

pub same_place_lem : (x : Place) → T (same_place x x)
same_place_lem x = three-same (place_code x.kind) x.row x.column

place_for : ℕ → PlaceKind
place_for i =
    get_or (pin ∷ missing ∷ centre ∷ outside ∷ nowhere ∷ side north ∷ side east ∷ side south ∷ side west ∷ []) i nowhere

place-for : (k : PlaceKind) → place_for (place_code k) ≡ k
unfolding place_for
place-for pin = refl
place-for missing = refl
place-for centre = refl
place-for outside = refl
place-for nowhere = refl
place-for (side north) = refl
place-for (side east) = refl
place-for (side south) = refl
place-for (side west) = refl

pub same-place-eq : (a b : Place) → T (same_place a b) → a ≡ b
same-place-eq a b t =
    let (p, q, r) = three-eq (place_code a.kind) a.row a.column (place_code b.kind) b.row b.column t in
    let k : a.kind ≡ b.kind = sym (place-for a.kind) ∙ (ap place_for p ∙ place-for b.kind) in
    λ i. record { kind = k i; row = q i; column = r i }

-- ---- links

pub same-link : (l : Link) → T (same_link l l)
same-link l = three-same (link_code l.kind) l.row l.column

link_for : ℕ → LinkKind
link_for i =
    get_or
    (north_side ∷ west_side ∷ corner north ∷ corner east ∷ corner south ∷ corner west ∷ spoke north ∷ spoke east ∷ spoke south ∷ spoke west ∷ leg north
    ∷ leg east ∷ leg south ∷ leg west ∷ direct ∷ []) i north_side

link-for : (k : LinkKind) → link_for (link_code k) ≡ k
unfolding link_for
link-for north_side = refl
link-for west_side = refl
link-for (corner north) = refl
link-for (corner east) = refl
link-for (corner south) = refl
link-for (corner west) = refl
link-for (spoke north) = refl
link-for (spoke east) = refl
link-for (spoke south) = refl
link-for (spoke west) = refl
link-for (leg north) = refl
link-for (leg east) = refl
link-for (leg south) = refl
link-for (leg west) = refl
link-for direct = refl

pub same-link-eq : (a b : Link) → T (same_link a b) → a ≡ b
same-link-eq a b t =
    let (p, q, r) = three-eq (link_code a.kind) a.row a.column (link_code b.kind) b.row b.column t in
    let k : a.kind ≡ b.kind = sym (link-for a.kind) ∙ (ap link_for p ∙ link-for b.kind) in
    λ i. record { kind = k i; row = q i; column = r i }
