-- K3: the counts of sides. A count that is set on a side is there and no other changes; one tile alone writes a side; so the counts of a proper job are those that its text has. Assumes nothing.
use mathlib.Core.Path.{◌≡◌, refl, sym, ap, subst, ◌∙◌}
use mathlib.Core.Logic.{◌≢◌}
use mathlib.Core.Bool.{Bool, true, false, ◌&&◌}
use Prim.Native.Nat.{ℕ, zero, suc, ◌≤◌, ◌<◌}
use native.Mathlib.Omega.{arith}
use lib.Dec.{T, eqb, leb, ltb, eqb→eq, eqb_refl, leb→le, le→leb, lt→ltb, ltb→lt}
use Rattle.sums.specs.Counting.{when}
use Rattle.sums.specs.Tests.{and_left, and_right, and_both}
use Rattle.model.specs.Job.{Added, Job, Side, of_north, of_west, side_of, laid_on, laid_by, put, in_range, is_tile, has_north, has_west, laid_most, AddedFits, Proper}
use Rattle.model.specs.Text.{laid_sides, writes_side, value_at}

-- ---- a table with one entry changed

pub put-at : (f : ℕ → ℕ → ℕ) (r c v : ℕ) → put f r c v r c ≡ v
put-at f r c v = by (eqb r r && eqb c c) (and_both (eqb r r) (eqb c c) (eqb_refl r) (eqb_refl c))
  where
    by : (b : Bool) → T b → elim b as (λ y. ℕ) [ true ↦ v | false ↦ f r c ] ≡ v
    by true t = refl
    by false t = absurd t

pub put-else : (f : ℕ → ℕ → ℕ) (r c v i j : ℕ) → (i ≡ r → j ≡ c → ⊥) → put f r c v i j ≡ f i j
put-else f r c v i j n =
    by (eqb i r && eqb j c) (λ t. n (eqb→eq i r (and_left (eqb i r) (eqb j c) t)) (eqb→eq j c (and_right (eqb i r) (eqb j c) t)))
  where
    by : (b : Bool) → (T b → ⊥) → elim b as (λ y. ℕ) [ true ↦ v | false ↦ f i j ] ≡ f i j
    by true h = absurd (h tt)
    by false h = refl

-- what holds of every entry and of the new value holds of the table with the entry changed
pub put_holds : (P : ℕ → ℕ → ℕ → Type 0) (f : ℕ → ℕ → ℕ) (r c v : ℕ) → ((i j : ℕ) → P i j (f i j)) → P r c v → (i j : ℕ) → P i j (put f r c v i j)
put_holds P f r c v h p i j = by (eqb i r && eqb j c) here
  where
    here : T (eqb i r && eqb j c) → P i j v
    here s =
        subst (λ (x : ℕ). P x j v) (sym (eqb→eq i r (and_left (eqb i r) (eqb j c) s)))
        (subst (λ (y : ℕ). P r y v) (sym (eqb→eq j c (and_right (eqb i r) (eqb j c) s))) p)

    by : (x : Bool) → (T x → P i j v) → P i j (elim x as (λ y. ℕ) [ true ↦ v | false ↦ f i j ])
    by true k = k tt
    by false k = h i j

-- a table within its bounds, with one entry changed to another within its bound
pub put-fits : (f : ℕ → ℕ → ℕ) (b : ℕ → ℕ → Bool) (n r c v : ℕ) → ((i j : ℕ) → T (leb (f i j) (when (b i j) n))) → T (b r c) → T (leb v n)
    → (i j : ℕ) → T (leb (put f r c v i j) (when (b i j) n))
put-fits f b n r c v h t u = put_holds (λ i j m. T (leb m (when (b i j) n))) f r c v h (full (b r c) t)
  where
    full : (x : Bool) → T x → T (leb v (when x n))
    full true s = u
    full false s = absurd s

-- ---- counts

pub count-here : (K : Job) (s : Side) (n : ℕ) → laid_on (laid_by K s n) s ≡ n
count-here K (of_north r c) n = put-at K.added.laid_north r c n
count-here K (of_west r c) n = put-at K.added.laid_west r c n

pub count-other : (K : Job) (s t : Side) (n : ℕ) → t ≢ s → laid_on (laid_by K s n) t ≡ laid_on K t
count-other K (of_north r c) (of_north i j) n e = put-else K.added.laid_north r c n i j (λ x y. e (λ k. of_north (x k) (y k)))
count-other K (of_north r c) (of_west i j) n e = refl
count-other K (of_west r c) (of_north i j) n e = refl
count-other K (of_west r c) (of_west i j) n e = put-else K.added.laid_west r c n i j (λ x y. e (λ k. of_west (x k) (y k)))

pub counts_same : (K J : Job) → K.added ≡ J.added → (s : Side) → laid_on K s ≡ laid_on J s
counts_same K J e (of_north r c) = ap (λ (A : Added). A.laid_north r c) e
counts_same K J e (of_west r c) = ap (λ (A : Added). A.laid_west r c) e

-- whether it is the side of a tile, inner or at the rim
abbrev pub is_side_of : Job → Side → Bool
is_side_of J (of_north r c) = has_north J r c
is_side_of J (of_west r c) = has_west J r c

pub counts-fit : (J : Job) (s : Side) (n : ℕ) → AddedFits J → T (is_side_of J s) → T (leb n J.O) → AddedFits (laid_by J s n)
counts-fit J (of_north r c) n f t u =
    record {
      laid_north = put-fits J.added.laid_north (has_north J) (laid_most J) r c n f.laid_north t u;
      laid_west = f.laid_west;
      own_d = f.own_d;
      upward = f.upward;
      seen = f.seen;
    }
counts-fit J (of_west r c) n f t u =
    record {
      laid_north = f.laid_north;
      laid_west = put-fits J.added.laid_west (has_west J) (laid_most J) r c n f.laid_west t u;
      own_d = f.own_d;
      upward = f.upward;
      seen = f.seen;
    }

tile-below : (J : Job) (r c : ℕ) → T (is_tile J r c) → (suc r < J.rows) × (suc c < J.columns)
tile-below J r c t =
    let a : Bool = ltb (suc r) J.rows in
    let b : Bool = ltb (suc c) J.columns in
    (ltb→lt (suc r) J.rows (and_left a b t), ltb→lt (suc c) J.columns (and_right a b t))

-- every side that a tile names is one
pub tile-side : (J : Job) (r c d : ℕ) → T (is_tile J r c) → T (is_side_of J (side_of r c d))
tile-side J r c zero t =
    let (a, b) = tile-below J r c t in
    and_both (ltb r J.rows) (ltb (suc c) J.columns) (lt→ltb r J.rows (omega arith)) (lt→ltb (suc c) J.columns b)
tile-side J r c (suc zero) t = t
tile-side J r c (suc (suc zero)) t = t
tile-side J r c (suc (suc (suc d))) t =
    let (a, b) = tile-below J r c t in
    and_both (ltb (suc r) J.rows) (ltb c J.columns) (lt→ltb (suc r) J.rows a) (lt→ltb c J.columns (omega arith))

pub laid-proper : (J : Job) (r c d n : ℕ) → Proper J → T (is_tile J r c) → T (leb n J.O) → Proper (laid_by J (side_of r c d) n)
laid-proper J r c d n p t u = by (side_of r c d) (counts-fit J (side_of r c d) n p.added (tile-side J r c d t) u)
  where
    by : (s : Side) → AddedFits (laid_by J s n) → Proper (laid_by J s n)
    by s f = record { array = p.array; caps = p.caps; marks = p.marks; states = p.states; added = f }

-- ---- names of sides

abbrev sort : Side → ℕ
sort (of_north r c) = 0
sort (of_west r c) = 1

abbrev row : Side → ℕ
row (of_north r c) = r
row (of_west r c) = r

abbrev column : Side → ℕ
column (of_north r c) = c
column (of_west r c) = c

-- a side is written by one tile, under one code
pub one_writer : (r c d i j e : ℕ) → d < 4 → e < 4 → T (writes_side r c d) → T (writes_side i j e) → side_of r c d ≡ side_of i j e
    → (r ≡ i) × (c ≡ j) × (d ≡ e)
one_writer r c d i j e ld le t u q = by d e ld le t u (ap sort q) (ap row q) (ap column q)
  where
    by : (x y : ℕ) → x < 4 → y < 4 → T (writes_side r c x) → T (writes_side i j y) → sort (side_of r c x) ≡ sort (side_of i j y)
        → row (side_of r c x) ≡ row (side_of i j y) → column (side_of r c x) ≡ column (side_of i j y) → (r ≡ i) × (c ≡ j) × (x ≡ y)
    by zero zero lx ly v w a b h = omega arith
    by zero (suc zero) lx ly v w a b h = absurd (omega arith)
    by zero (suc (suc zero)) lx ly v w a b h = absurd (omega (arith, eqb→eq r 0 v))
    by zero (suc (suc (suc y))) lx ly v w a b h = absurd (omega arith)
    by (suc zero) zero lx ly v w a b h = absurd (omega arith)
    by (suc zero) (suc zero) lx ly v w a b h = omega arith
    by (suc zero) (suc (suc zero)) lx ly v w a b h = absurd (omega arith)
    by (suc zero) (suc (suc (suc y))) lx ly v w a b h = absurd (omega (arith, eqb→eq j 0 w))
    by (suc (suc zero)) zero lx ly v w a b h = absurd (omega (arith, eqb→eq i 0 w))
    by (suc (suc zero)) (suc zero) lx ly v w a b h = absurd (omega arith)
    by (suc (suc zero)) (suc (suc zero)) lx ly v w a b h = omega arith
    by (suc (suc zero)) (suc (suc (suc y))) lx ly v w a b h = absurd (omega arith)
    by (suc (suc (suc x))) zero lx ly v w a b h = absurd (omega arith)
    by (suc (suc (suc x))) (suc zero) lx ly v w a b h = absurd (omega (arith, eqb→eq c 0 v))
    by (suc (suc (suc x))) (suc (suc zero)) lx ly v w a b h = absurd (omega arith)
    by (suc (suc (suc x))) (suc (suc (suc y))) lx ly v w a b h = omega arith

-- ---- a proper job's counts by its text's values

-- the side is written at one of its tiles
there : (b : Bool) (m n : ℕ) → T (leb m (when b n)) → m ≡ when b m
there true m n t = refl
there false m n t = omega (arith, leb→le m 0 t)

and-true : (b : Bool) → b ≡ b && true
and-true true = refl
and-true false = refl

both_below : (n : ℕ) → 2 ≤ n → ltb 0 n ≡ ltb 1 n
both_below n l = by (ltb 0 n) (ltb 1 n) (lt→ltb 0 n (omega arith)) (lt→ltb 1 n (omega arith))
  where
    by : (a b : Bool) → T a → T b → a ≡ b
    by true true t u = refl
    by true false t u = absurd u
    by false b t u = absurd t

module _ (J : Job) (p : Proper J) where
  least : (2 ≤ J.rows) × (2 ≤ J.columns)
  least =
      let a : Bool = in_range 2 40 J.rows in
      let b : Bool = in_range 2 40 J.columns in
      let from : (n : ℕ) → T (in_range 2 40 n) → 2 ≤ n = λ n t. leb→le 2 n (and_left (leb 2 n) (leb n 40) t) in
      (from J.rows (and_left a b p.array), from J.columns (and_right a b p.array))

  abbrev north : ℕ → ℕ → ℕ
  north = J.added.laid_north

  abbrev west : ℕ → ℕ → ℕ
  west = J.added.laid_west

  north-there : (r c : ℕ) → north r c ≡ when (has_north J r c) (north r c)
  north-there r c = there (has_north J r c) (north r c) (laid_most J) (p.added.laid_north r c)

  west-there : (r c : ℕ) → west r c ≡ when (has_west J r c) (west r c)
  west-there r c = there (has_west J r c) (west r c) (laid_most J) (p.added.laid_west r c)

  first-north : (c : ℕ) → north 0 c ≡ value_at J laid_sides 0 c 0
  first-north c =
      let e : has_north J 0 c ≡ is_tile J 0 c = ap (λ (b : Bool). b && ltb (suc c) J.columns) (both_below J.rows least.0) in
      north-there 0 c ∙ ap (λ (b : Bool). when b (north 0 c)) (e ∙ and-true (is_tile J 0 c))

  next-north : (r c : ℕ) → north (suc r) c ≡ value_at J laid_sides r c 2
  next-north r c = north-there (suc r) c ∙ ap (λ (b : Bool). when b (north (suc r) c)) (and-true (is_tile J r c))

  first-west : (r : ℕ) → west r 0 ≡ value_at J laid_sides r 0 3
  first-west r =
      let e : has_west J r 0 ≡ is_tile J r 0 = ap (λ (b : Bool). ltb (suc r) J.rows && b) (both_below J.columns least.1) in
      west-there r 0 ∙ ap (λ (b : Bool). when b (west r 0)) (e ∙ and-true (is_tile J r 0))

  next-west : (r c : ℕ) → west r (suc c) ≡ value_at J laid_sides r c 1
  next-west r c = west-there r (suc c) ∙ ap (λ (b : Bool). when b (west r (suc c))) (and-true (is_tile J r c))

-- no count is above O
bounded : (b : Bool) (m n : ℕ) → T (leb m (when b n)) → T (leb m n)
bounded true m n t = t
bounded false m n t = le→leb m n (omega (arith, leb→le m 0 t))

pub count_most : (J : Job) → Proper J → (s : Side) → T (leb (laid_on J s) J.O)
count_most J p (of_north r c) = bounded (has_north J r c) (J.added.laid_north r c) J.O (p.added.laid_north r c)
count_most J p (of_west r c) = bounded (has_west J r c) (J.added.laid_west r c) J.O (p.added.laid_west r c)

pub value-most : (J : Job) → Proper J → (r c d : ℕ) → T (leb (value_at J laid_sides r c d) J.O)
value-most J p r c d = by (ltb d 4 && (is_tile J r c && writes_side r c d)) (count_most J p (side_of r c d))
  where
    by : (b : Bool) → T (leb (laid_on J (side_of r c d)) J.O) → T (leb (when b (laid_on J (side_of r c d))) J.O)
    by true t = t
    by false t = le→leb 0 J.O (omega arith)

module _ (K J : Job) (p : Proper K) (q : Proper J) (e : (r c d : ℕ) → value_at K laid_sides r c d ≡ value_at J laid_sides r c d) where
  pub norths-known : (r c : ℕ) → K.added.laid_north r c ≡ J.added.laid_north r c
  norths-known zero c = first-north K p c ∙ (e 0 c 0 ∙ sym (first-north J q c))
  norths-known (suc r) c = next-north K p r c ∙ (e r c 2 ∙ sym (next-north J q r c))

  pub wests-known : (r c : ℕ) → K.added.laid_west r c ≡ J.added.laid_west r c
  wests-known r zero = first-west K p r ∙ (e r 0 3 ∙ sym (first-west J q r))
  wests-known r (suc c) = next-west K p r c ∙ (e r c 1 ∙ sym (next-west J q r c))
