-- K7: the tiles' own D. A D that is given to a tile is there and no other changes; the values of a proper job are those that its text has; and the D of
-- every tile, its own or the job's, lies from O to 2×O. Assumes nothing.
use mathlib.Core.Path.{◌≡◌, refl, sym, ap, subst, ◌∙◌}
use mathlib.Core.Logic.{◌≢◌, ◌⊎◌, inl, inr}
use mathlib.Core.Bool.{Bool, true, false, not, ◌&&◌, ◌||◌}
use Prim.Native.Nat.{ℕ, ◌*◌, ◌≤◌, ◌<◌}
use native.Mathlib.Omega.{arith}
use lib.Dec.{T, T_not, eqb, leb, eqb→eq, eqb_refl, leb→le}
use Rattle.sums.specs.Counting.{when}
use Rattle.sums.specs.Sums.{when-some}
use Rattle.sums.specs.Tests.{Same, same, other, same?, and_left, and_right, and_both, or-by, so-not}
use Rattle.model.specs.Job.{Job, Side, of_north, of_west, laid_on, laid_by, put, with_own_d, own_for, diagonal_by, tile_d, in_range, caps_fit, is_tile, is_own_d, own_d_fits, AddedFits, Proper}
use Rattle.model.specs.Text.{own_ds, value_at}
use Rattle.model.proofs.Sides.{put-at, put-else, put_holds}

-- ---- ranges

range-in : (least most n : ℕ) → T (in_range least most n) → (least ≤ n) × (n ≤ most)
range-in least most n t = (leb→le least n (and_left (leb least n) (leb n most) t), leb→le n most (and_right (leb least n) (leb n most) t))

pub own_range : (J : Job) (d : ℕ) → T (is_own_d J d) → (J.O ≤ d) × (d ≤ 2 * J.O) × (d ≢ J.D)
own_range J d t =
    let a : Bool = in_range J.O (2 * J.O) d in
    let b : Bool = not (eqb d J.D) in
    let (x, y) = range-in J.O (2 * J.O) d (and_left a b t) in
    (x, y, λ e. T_not (eqb d J.D) (and_right a b t) (subst (λ (n : ℕ). T (eqb d n)) e (eqb_refl d)))

pub job-range : (O D E : ℕ) → T (caps_fit O D E) → (O ≤ D) × (D ≤ 2 * O)
job-range O D E t =
    let a : Bool = in_range 1 8 O in
    let b : Bool = in_range O (2 * O) D in
    let e : Bool = in_range 0 16 E in
    range-in O (2 * O) D (and_left b e (and_right a (b && e) t))

-- the capacities of a job are in range, those of its tiles too
pub record Capped (J : Job) : Type 0 where
  pub job : T (caps_fit J.O J.D J.E)
  pub tiles : AddedFits J

-- a tile has none of its own, or one that it may have
pub own-or-none : (J : Job) → AddedFits J → (r c : ℕ) → (J.added.own_d r c ≡ 0) ⊎ T (is_own_d J (J.added.own_d r c))
own-or-none J f r c = by (is_tile J r c) (f.own_d r c)
  where
    d : ℕ
    d = J.added.own_d r c

    by : (b : Bool) → T (elim b as (λ x. Bool) [ true ↦ own_d_fits J d | false ↦ eqb d 0 ]) → (d ≡ 0) ⊎ T (is_own_d J d)
    by true t = or-by (eqb d 0) (is_own_d J d) (λ u. inl (eqb→eq d 0 u)) inr t
    by false t = inl (eqb→eq d 0 t)

pub tile-range : (J : Job) → Capped J → (r c : ℕ) → (J.O ≤ tile_d J r c) × (tile_d J r c ≤ 2 * J.O)
tile-range J p r c = by (eqb d 0) (same? d 0) (own-or-none J p.tiles r c)
  where
    d : ℕ
    d = J.added.own_d r c

    by : (b : Bool) → Same d 0 b → (d ≡ 0) ⊎ T (is_own_d J d)
        → (J.O ≤ elim b as (λ x. ℕ) [ true ↦ J.D | false ↦ d ]) × (elim b as (λ x. ℕ) [ true ↦ J.D | false ↦ d ] ≤ 2 * J.O)
    by true s k = job-range J.O J.D J.E p.job
    by false (other n) (inl e) = absurd (n e)
    by false (other n) (inr t) = let (x, y, z) = own_range J d t in (x, y)

-- ---- a value given to a tile

pub or-so : (a b : Bool) → T b → T (a || b)
or-so true b t = tt
or-so false b t = t

pub own-proper : (J : Job) (r c d : ℕ) → Proper J → T (is_tile J r c) → T (own_d_fits J d) → Proper (with_own_d J r c d)
own-proper J r c d p t u =
    let f : AddedFits J = p.added in
    record {
      array = p.array;
      caps = p.caps;
      marks = p.marks;
      states = p.states;
      added = record {
        laid_north = f.laid_north;
        laid_west = f.laid_west;
        own_d =
            put_holds (λ i j n. T (elim (is_tile J i j) as (λ x. Bool) [ true ↦ own_d_fits J n | false ↦ eqb n 0 ])) J.added.own_d r c d f.own_d
            (here (is_tile J r c) t);
        upward = f.upward;
        seen = f.seen;
      };
    }
  where
    here : (b : Bool) → T b → T (elim b as (λ x. Bool) [ true ↦ own_d_fits J d | false ↦ eqb d 0 ])
    here true s = u
    here false s = absurd s

-- what is kept of a value is none of the job's D, and else the value
pub for-same : (J : Job) (d : ℕ) → d ≡ J.D → own_for J d ≡ 0
for-same J d e = by (eqb d J.D) (same? d J.D)
  where
    by : (b : Bool) → Same d J.D b → ◌≡◌ {A = ℕ} (elim b as (λ x. ℕ) [ true ↦ 0 | false ↦ d ]) 0
    by true s = refl
    by false (other n) = absurd (n e)

pub for-other : (J : Job) (d : ℕ) → d ≢ J.D → own_for J d ≡ d
for-other J d n = by (eqb d J.D) (same? d J.D)
  where
    by : (b : Bool) → Same d J.D b → elim b as (λ x. ℕ) [ true ↦ 0 | false ↦ d ] ≡ d
    by true (same e) = absurd (n e)
    by false s = refl

-- the D of a tile by what it has of its own
figure-none : (J : Job) (r c : ℕ) → J.added.own_d r c ≡ 0 → tile_d J r c ≡ J.D
figure-none J r c e = ap (λ (n : ℕ). elim (eqb n 0) as (λ x. ℕ) [ true ↦ J.D | false ↦ n ]) e

figure-own : (J : Job) (r c : ℕ) → J.added.own_d r c ≢ 0 → tile_d J r c ≡ J.added.own_d r c
figure-own J r c n = by (eqb d 0) (same? d 0)
  where
    d : ℕ
    d = J.added.own_d r c

    by : (b : Bool) → Same d 0 b → elim b as (λ x. ℕ) [ true ↦ J.D | false ↦ d ] ≡ d
    by true (same e) = absurd (n e)
    by false s = refl

pub diagonal-proper : (J : Job) (r c d : ℕ) → Proper J → T (is_tile J r c) → T (in_range J.O (2 * J.O) d) → Proper (diagonal_by J r c d)
diagonal-proper J r c d p t u = own-proper J r c (own_for J d) p t (by (eqb d J.D) refl)
  where
    by : (b : Bool) → eqb d J.D ≡ b → T (own_d_fits J (elim b as (λ x. ℕ) [ true ↦ 0 | false ↦ d ]))
    by true e = tt
    by false e = or-so (eqb d 0) (is_own_d J d) (and_both (in_range J.O (2 * J.O) d) (not (eqb d J.D)) u (so-not e))

-- the tile has the D that it is given, and no other tile another
pub diagonal-here : (J : Job) (r c d : ℕ) → Proper J → T (in_range J.O (2 * J.O) d) → tile_d (diagonal_by J r c d) r c ≡ d
diagonal-here J r c d p u = by (eqb d J.D) (same? d J.D)
  where
    here : (v : ℕ) → own_for J d ≡ v → put J.added.own_d r c (own_for J d) r c ≡ v
    here v e = put-at J.added.own_d r c (own_for J d) ∙ e

    some : d ≢ 0
    some e = omega (arith, (range-in J.O (2 * J.O) d u).0, (range-in 1 8 J.O (and_left (in_range 1 8 J.O) (in_range J.O (2 * J.O) J.D && in_range 0 16 J.E) p.caps)).0)

    by : (b : Bool) → Same d J.D b → tile_d (diagonal_by J r c d) r c ≡ d
    by true (same e) = figure-none (diagonal_by J r c d) r c (here 0 (for-same J d e)) ∙ sym e
    by false (other n) =
        let e : put J.added.own_d r c (own_for J d) r c ≡ d = here d (for-other J d n) in
        figure-own (diagonal_by J r c d) r c (λ z. some (sym e ∙ z)) ∙ e

pub diagonal-other : (J : Job) (r c d i j : ℕ) → (i ≡ r → j ≡ c → ⊥) → tile_d (diagonal_by J r c d) i j ≡ tile_d J i j
diagonal-other J r c d i j n = ap (λ (m : ℕ). elim (eqb m 0) as (λ x. ℕ) [ true ↦ J.D | false ↦ m ]) (put-else J.added.own_d r c (own_for J d) i j n)

-- the value in force is what the tile keeps already
pub own-kept : (J : Job) (r c d : ℕ) → AddedFits J → tile_d J r c ≡ d → J.added.own_d r c ≡ own_for J d
own-kept J r c d f = by (eqb v 0) (same? v 0) (own-or-none J f r c)
  where
    v : ℕ
    v = J.added.own_d r c

    by : (b : Bool) → Same v 0 b → (v ≡ 0) ⊎ T (is_own_d J v) → elim b as (λ x. ℕ) [ true ↦ J.D | false ↦ v ] ≡ d → v ≡ own_for J d
    by true (same e) k q = e ∙ sym (for-same J d (sym q))
    by false (other n) (inl e) q = absurd (n e)
    by false (other n) (inr t) q = q ∙ sym (for-other J d (λ z. (own_range J v t).2 (q ∙ z)))

-- a value does not touch the counts, nor a count the values
pub counts-own : (K : Job) (r c d : ℕ) (s : Side) → laid_on (with_own_d K r c d) s ≡ laid_on K s
counts-own K r c d (of_north i j) = refl
counts-own K r c d (of_west i j) = refl

pub own-laid : (K : Job) (s : Side) (n i j : ℕ) → (laid_by K s n).added.own_d i j ≡ K.added.own_d i j
own-laid K (of_north r c) n i j = refl
own-laid K (of_west r c) n i j = refl

-- ---- a proper job's values by its text's

pub own-written : (K : Job) (r c d : ℕ) → 0 < value_at K own_ds r c d → T (eqb d 0) × T (is_tile K r c)
own-written K r c d l =
    let t : T (eqb d 0 && is_tile K r c) = (when-some (eqb d 0 && is_tile K r c) (K.added.own_d r c) l).0 in
    (and_left (eqb d 0) (is_tile K r c) t, and_right (eqb d 0) (is_tile K r c) t)

pub value-own : (J : Job) → Proper J → (r c d : ℕ) → 0 < value_at J own_ds r c d → T (is_own_d J (value_at J own_ds r c d))
value-own J p r c d = by (eqb d 0) (is_tile J r c) (J.added.own_d r c) (own-or-none J p.added r c)
  where
    by : (a b : Bool) (n : ℕ) → (n ≡ 0) ⊎ T (is_own_d J n) → 0 < when (a && b) n → T (is_own_d J (when (a && b) n))
    by true true n (inl e) l = absurd (omega arith)
    by true true n (inr t) l = t
    by true false n k l = absurd (omega arith)
    by false b n k l = absurd (omega arith)

own_value : (J : Job) → Proper J → (r c : ℕ) → J.added.own_d r c ≡ value_at J own_ds r c 0
own_value J p r c = by (is_tile J r c) (J.added.own_d r c) (p.added.own_d r c)
  where
    by : (b : Bool) (d : ℕ) → T (elim b as (λ x. Bool) [ true ↦ own_d_fits J d | false ↦ eqb d 0 ]) → d ≡ when b d
    by true d t = refl
    by false d t = eqb→eq d 0 t

pub owns-known : (K J : Job) → Proper K → Proper J → ((r c d : ℕ) → value_at K own_ds r c d ≡ value_at J own_ds r c d)
    → (r c : ℕ) → K.added.own_d r c ≡ J.added.own_d r c
owns-known K J p q e r c = own_value K p r c ∙ (e r c 0 ∙ sym (own_value J q r c))
