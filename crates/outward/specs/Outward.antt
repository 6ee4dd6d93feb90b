-- Loads that lead outward. The array is parted into four sectors, one for each rim, and each link has a way that leads to the rims: a side away from the
-- middle, a corner or a spoke towards the rim of its tile's sector, a leg and a direct exit away from their pin. A byte leads outward if it is 0 or one wire that way. Assumes
-- nothing.
pub mod Falling
use Rattle.std.specs.Prelude.{◌≡◌, ◌⊎◌, Bool, not, ◌&&◌, ◌||◌, List, [], ◌∷◌, ℕ, zero, suc, ◌+◌, ◌-◌, ◌*◌, ◌/◌, ◌%◌, ◌≤◌, ◌<◌, T, leb, ltb, length, get_or, set, replicate}
use Rattle.std.proofs.Math.Path.{refl, sym, ap}
use Rattle.std.proofs.Common.{subst, ◌∙◌, inl, inr, ⊎_elim, arith, lt-ltb, le-ltb, take, drop, ◌++◌, rules, get_or-set_same, get_or-set_other}
use Rattle.std.proofs.lemmas.Bool.{cases_lt}
use Rattle.std.proofs.Math.Bool.{true, false}
use Rattle.std.proofs.Math.Dec.{eqb}
use Rattle.std.proofs.lemmas.List.{length-replicate, get_or-replicate, length-drop, length-take-le, get_or_append_left, get_or-append_right, get_or-take, get_or-drop}
use borrow.Rule.Slice.PartMut.{put_mid, mid_of}
use Rattle.sums.specs.Counting.{when}
use Rattle.sums.specs.Tests.{Same, same, other, same?, and_left, and_right, so, so-not, below_or}
use Rattle.model.specs.Links.{Compass, north, east, south, west, clockwise, compass_code}

-- ---- the sectors

-- Where the array is parted: the row and the column in the middle; in each row the first column east of the western sector, and the first of the eastern one.
pub record Parts : Type 0 where
  pub row : ℕ
  pub column : ℕ
  pub left : ℕ → ℕ
  pub right : ℕ → ℕ

-- the sector of a tile: by whether it lies west of the one column, and of the other, and north of the row
sector_by : Bool → Bool → Bool → Compass
sector_by true q n = west
sector_by false true true = north
sector_by false true false = south
sector_by false false n = east

pub sector : Parts → ℕ → ℕ → Compass
sector P r c = sector_by (ltb c (P.left r)) (ltb c (P.right r)) (ltb r P.row)

-- how high the side d of a tile lies over the rim of its sector, by the quarters of a turn between them
height_by : ℕ → ℕ → ℕ
height_by w d = get_or (0 ∷ 2 ∷ 3 ∷ 2 ∷ []) ((4 + d - w) % 4) 0

pub height : Compass → Compass → ℕ
height w d = height_by (compass_code w) (compass_code d)

-- whether the positive way of a corner falls, and that of a spoke, whose centre has the height 1
pub corner_falls : Compass → Compass → Bool
corner_falls w d = ltb (height w (clockwise d)) (height w d)

pub spoke_falls : Compass → Compass → Bool
spoke_falls w d = ltb (height w d) 1

-- the same for the links within a tile of the sector w, for legs and for direct exits, by the number of the kind less 2
pub inside : Compass → ℕ → Bool
inside w j =
    get_or
    (corner_falls w north ∷ corner_falls w east ∷ corner_falls w south ∷ corner_falls w west ∷ spoke_falls w north ∷ spoke_falls w east ∷ spoke_falls w south
    ∷ spoke_falls w west ∷ true ∷ true ∷ true ∷ true ∷ true ∷ [])
    j false

-- whether the positive way of the link of kind k at (r, c) leads outward
pub leads : Parts → ℕ → ℕ → ℕ → Bool
leads P zero r c = leb r P.row
leads P (suc zero) r c = ltb P.column c
leads P (suc (suc j)) r c = inside (sector P r c) j

-- ---- bytes

-- the byte of one wire, along its link's positive way or against it
pub one_wire : Bool → ℕ
one_wire f = elim f [ true ↦ 1 | false ↦ 33 ]

-- as a program reads it
pub one-forth : (f : Bool) → f ≡ true → 1 ≡ one_wire f
unfolding one_wire
one-forth f e = ap (λ (b : Bool). elim b [ true ↦ 1 | false ↦ 33 ]) (sym e)

pub one-back : (f : Bool) → f ≡ false → 33 ≡ one_wire f
unfolding one_wire
one-back f e = ap (λ (b : Bool). elim b [ true ↦ 1 | false ↦ 33 ]) (sym e)

-- every load byte is 0, or one wire outward
pub Outward : Parts → List ℕ → Type 0
Outward P old =
    (i : ℕ) → i < 24000
    → (get_or old (3968 + i) 0 ≡ 0) ⊎ (get_or old (3968 + i) 0 ≡ one_wire (leads P (i / 1600) (i % 1600 / 40) (i % 40)))

-- the load bytes from a to before b are one wire each, the i-th along its link's positive way where f says so, and the others are as they were
pub record Put (old : List ℕ) (a b : ℕ) (f : ℕ → Bool) (new : List ℕ) : Type 0 where
  pub each : (i : ℕ) → i < 24000
      → (get_or new (3968 + i) 0 ≡ get_or old (3968 + i) 0) ⊎ ((a ≤ i) × (i < b) × (get_or new (3968 + i) 0 ≡ one_wire (f i)))

-- the old bytes lead outward, and so do the new ones
pub put-outward : {old new : List ℕ} {a b : ℕ} {f : ℕ → Bool} (P : Parts) → Put old a b f new
    → ((i : ℕ) → a ≤ i → i < b → leads P (i / 1600) (i % 1600 / 40) (i % 40) ≡ f i) → Outward P old → Outward P new
unfolding Outward
put-outward {old} {new} {a} {b} {f} P p e o i l = by (p.each i l)
  where
    by : (get_or new (3968 + i) 0 ≡ get_or old (3968 + i) 0) ⊎ ((a ≤ i) × (i < b) × (get_or new (3968 + i) 0 ≡ one_wire (f i)))
        → (get_or new (3968 + i) 0 ≡ 0) ⊎ (get_or new (3968 + i) 0 ≡ one_wire (leads P (i / 1600) (i % 1600 / 40) (i % 40)))
    by (inl q) = ⊎_elim (λ z. inl (q ∙ z)) (λ z. inr (q ∙ z)) (o i l)
    by (inr (m, n, q)) = inr (q ∙ ap one_wire (sym (e i m n)))

-- none, one more, and those before an end
pub put-none : (old : List ℕ) (a : ℕ) (f : ℕ → Bool) → Put old a a f old
put-none old a f = record { each = λ i l. inl refl }

pub put-more : {old mid : List ℕ} {a b : ℕ} {f : ℕ → Bool} → Put old a b f mid → a ≤ b → 3968 + b < length mid → (v : ℕ) → v ≡ one_wire (f b)
    → Put old a (b + 1) f (set mid (3968 + b) v)
put-more {old} {mid} {a} {b} {f} p l h v e = record { each = λ i m. by i m (eqb i b) (same? i b) (p.each i m) }
  where
    by : (i : ℕ) → i < 24000 → (t : Bool) → Same i b t
        → (get_or mid (3968 + i) 0 ≡ get_or old (3968 + i) 0) ⊎ ((a ≤ i) × (i < b) × (get_or mid (3968 + i) 0 ≡ one_wire (f i)))
        → (get_or (set mid (3968 + b) v) (3968 + i) 0 ≡ get_or old (3968 + i) 0)
        ⊎ ((a ≤ i) × (i < b + 1) × (get_or (set mid (3968 + b) v) (3968 + i) 0 ≡ one_wire (f i)))
    by i m true (same q) o =
        inr (omega arith, omega arith, rw q (get_or-set_same mid (3968 + b) v 0 h ∙ e))
    by i m false (other n) (inl o) = inl (get_or-set_other mid (3968 + b) (3968 + i) v 0 (λ z. n (omega arith)) ∙ o)
    by i m false (other n) (inr (x, y, o)) = inr (x, omega arith, get_or-set_other mid (3968 + b) (3968 + i) v 0 (λ z. n (omega arith)) ∙ o)

-- a part filled with the byte of one wire
pub put-filled : (old : List ℕ) (a b : ℕ) (f : Bool) (w : ℕ) (ys : List ℕ) → ys ≡ replicate (length (mid_of (3968 + a) (3968 + b - (3968 + a)) old)) w → w ≡ one_wire f
    → a ≤ b → 3968 + b ≤ length old → Put old a b (λ i. f) (put_mid (3968 + a) (3968 + b - (3968 + a)) old ys)
put-filled old a b f w ys e v h l = record { each = λ i m. ⊎_elim (below i) (λ q. ⊎_elim (within i q) (above i) (cases_lt i b)) (cases_lt i a) }
  where
    now : List ℕ
    now = put_mid (3968 + a) (3968 + b - (3968 + a)) old ys

    front : length (take (3968 + a) old) ≡ 3968 + a
    front = length-take-le (3968 + a) old (omega arith)

    long : length ys ≡ b - a
    long =
        ap length e ∙ length-replicate _ w ∙ length-take-le (3968 + b - (3968 + a)) (drop (3968 + a) old) (rw (length-drop (3968 + a) old) (omega arith)) ∙ omega arith

    below : (i : ℕ) → i < a → (get_or now (3968 + i) 0 ≡ get_or old (3968 + i) 0) ⊎ ((a ≤ i) × (i < b) × (get_or now (3968 + i) 0 ≡ one_wire f))
    below i m = inl (get_or_append_left (take (3968 + a) old) _ 0 (3968 + i) (rw front (omega arith)) ∙ get_or-take (3968 + a) old (3968 + i) 0 (omega arith))

    within : (i : ℕ) → a ≤ i → i < b → (get_or now (3968 + i) 0 ≡ get_or old (3968 + i) 0) ⊎ ((a ≤ i) × (i < b) × (get_or now (3968 + i) 0 ≡ one_wire f))
    within i m n =
        inr (
          m,
          n,
          get_or-append_right (take (3968 + a) old) _ (3968 + a) (3968 + i) 0 front (omega arith)
              ∙ get_or_append_left ys _ 0 (3968 + i - (3968 + a)) (rw long (omega arith))
              ∙ rw e (get_or-replicate _ (3968 + i - (3968 + a)) w 0 (rw (length-take-le (3968 + b - (3968 + a)) (drop (3968 + a) old) (rw (length-drop (3968 + a) old) (omega arith))) (omega arith)))
              ∙ v,
        )

    above : (i : ℕ) → b ≤ i → (get_or now (3968 + i) 0 ≡ get_or old (3968 + i) 0) ⊎ ((a ≤ i) × (i < b) × (get_or now (3968 + i) 0 ≡ one_wire f))
    above i m =
        inl
        (get_or-append_right (take (3968 + a) old) _ (3968 + a) (3968 + i) 0 front (omega arith)
        ∙ get_or-append_right ys _ (b - a) (3968 + i - (3968 + a)) 0 long (omega arith)
        ∙ get_or-drop (3968 + b - (3968 + a)) (drop (3968 + a) old) (3968 + i - (3968 + a) - (b - a)) 0
        ∙ get_or-drop (3968 + a) old (3968 + b - (3968 + a) + (3968 + i - (3968 + a) - (b - a))) 0
        ∙ ap (λ j. get_or old j 0) (omega arith))

pub put-before : {old new : List ℕ} {a b : ℕ} {f : ℕ → Bool} → Put old a b f new → (c : ℕ) → ((i : ℕ) → a ≤ i → i < b → i < c) → Put old a c f new
put-before p c h = record { each = λ i l. ⊎_elim inl (λ (x, y, e). inr (x, h i x y, e)) (p.each i l) }

-- in one row of a plane
pub row-leads : (P : Parts) (k r : ℕ) (f : ℕ → Bool) → r < 40 → ((c : ℕ) → c < 40 → leads P k r c ≡ f (1600 * k + 40 * r + c))
    → (i : ℕ) → 1600 * k + 40 * r ≤ i → i < 1600 * k + 40 * r + 40 → leads P (i / 1600) (i % 1600 / 40) (i % 40) ≡ f i
row-leads P k r f l e i p q =
    let x : i / 1600 ≡ k = omega arith in
    let y : i % 1600 / 40 ≡ r = omega arith in
    let z : 1600 * k + 40 * r + i % 40 ≡ i = omega arith in
    (λ j. leads P (x j) (y j) (i % 40)) ∙ e (i % 40) (omega arith) ∙ ap f z

-- ---- the parts of an array

-- how many tiles lie between a row and the nearer rim of n rows of pins: so many columns of it belong to the western sector, and to the eastern one
pub inset : ℕ → ℕ → ℕ
inset n r = elim (ltb r (n / 2)) [ true ↦ r | false ↦ n - 2 - r ]

pub parts : ℕ → ℕ → Parts
parts n m = record { row = n / 2; column = m / 2; left = inset n; right = λ r. m - 1 - inset n r }

module _ (n r : ℕ) where
  pub inset-before : r < n / 2 → r ≡ inset n r
  unfolding inset
  inset-before l = by (ltb r (n / 2)) (lt-ltb r (n / 2) l)
    where
      by : (b : Bool) → b ≡ true → r ≡ elim b [ true ↦ r | false ↦ n - 2 - r ]
      by true e = refl
      by false e = absurd (so e)

  pub inset-beyond : n / 2 ≤ r → n - 2 - r ≡ inset n r
  unfolding inset
  inset-beyond l = by (ltb r (n / 2)) (le-ltb r (n / 2) l)
    where
      by : (b : Bool) → b ≡ false → n - 2 - r ≡ elim b [ true ↦ r | false ↦ n - 2 - r ]
      by true e = absurd (so-not e)
      by false e = refl

-- the number of the sector in the middle of a row
pub record Middle (P : Parts) (r m : ℕ) : Type 0 where
  pub upper : r < P.row → m ≡ 0
  pub lower : P.row ≤ r → m ≡ 2

-- the sector's number, by where a tile lies
module _ (P : Parts) (r c : ℕ) where
  in-west : c < P.left r → 3 ≡ compass_code (sector P r c)
  unfolding sector sector_by
  in-west l = ap compass_code (sym (ap (λ (b : Bool). sector_by b (ltb c (P.right r)) (ltb r P.row)) (lt-ltb c (P.left r) l)))

  in-east : P.left r ≤ c → P.right r ≤ c → 1 ≡ compass_code (sector P r c)
  unfolding sector sector_by
  in-east l m =
      ap compass_code (sym (λ i. sector_by (le-ltb c (P.left r) l i) (le-ltb c (P.right r) m i) (ltb r P.row)))

  in-north : P.left r ≤ c → c < P.right r → r < P.row → 0 ≡ compass_code (sector P r c)
  unfolding sector sector_by
  in-north l m n =
      ap compass_code (sym (λ i. sector_by (le-ltb c (P.left r) l i) (lt-ltb c (P.right r) m i) (lt-ltb r P.row n i)))

  in-south : P.left r ≤ c → c < P.right r → P.row ≤ r → 2 ≡ compass_code (sector P r c)
  unfolding sector sector_by
  in-south l m n =
      ap compass_code (sym (λ i. sector_by (le-ltb c (P.left r) l i) (lt-ltb c (P.right r) m i) (le-ltb r P.row n i)))

-- the same, as picked by two tests
pub picked : (P : Parts) (r c m : ℕ) {x y : ℕ} → Middle P r m → (ltb c (P.left r) ≡ true → y ≡ 3) → (ltb c (P.left r) ≡ false → y ≡ x)
    → (ltb c (P.right r) ≡ true → x ≡ m) → (ltb c (P.right r) ≡ false → x ≡ 1) → y ≡ compass_code (sector P r c)
picked P r c m {x} {y} e first then-first second then-second = by (below_or c (P.left r)) (below_or c (P.right r)) (below_or r P.row)
  where
    by : (c < P.left r) ⊎ (P.left r ≤ c) → (c < P.right r) ⊎ (P.right r ≤ c) → (r < P.row) ⊎ (P.row ≤ r) → y ≡ compass_code (sector P r c)
    by (inl l) _ _ = first (lt-ltb c (P.left r) l) ∙ in-west P r c l
    by (inr l) (inr h) _ = then-first (le-ltb c (P.left r) l) ∙ then-second (le-ltb c (P.right r) h) ∙ in-east P r c l h
    by (inr l) (inl h) (inl n) = then-first (le-ltb c (P.left r) l) ∙ second (lt-ltb c (P.right r) h) ∙ e.upper n ∙ in-north P r c l h n
    by (inr l) (inl h) (inr n) = then-first (le-ltb c (P.left r) l) ∙ second (lt-ltb c (P.right r) h) ∙ e.lower n ∙ in-south P r c l h n

-- 1 or 0, as picked by a test
pub picked-bit : (t : Bool) {x : ℕ} → (t ≡ true → x ≡ 1) × (t ≡ false → x ≡ 0) → x ≡ when t 1
picked-bit true (f, g) = f refl
picked-bit false (f, g) = g refl

-- ---- a row of a plane, by a line of bytes

-- whether the line has x or y for the i-th byte, its first entry standing for the a-th
abbrev pub line_has : List ℕ → ℕ → ℕ → ℕ → ℕ → Bool
line_has line x y a i = eqb (get_or line (i - a) 0) x || eqb (get_or line (i - a) 0) y

-- one column more
pub line-more : {old mid : List ℕ} (line : List ℕ) (x y a c at v : ℕ) → Put old a (a + c) (line_has line x y a) mid → at ≡ 3968 + a → at + c < length mid
    → v ≡ one_wire (eqb (get_or line c 0) x || eqb (get_or line c 0) y) → Put old a (a + (c + 1)) (line_has line x y a) (set mid (at + c) v)
line-more {old} {mid} line x y a c at v p e l q =
    let z : 3968 + (a + c) ≡ at + c = omega arith in
    let w : c ≡ a + c - a = omega arith in
    subst (λ (i : ℕ). Put old a (a + (c + 1)) (line_has line x y a) (set mid i v)) z
    (put-before (put-more p (omega arith) (omega arith) v (q ∙ ap (λ (i : ℕ). one_wire (eqb (get_or line i 0) x || eqb (get_or line i 0) y)) w)) (a + (c + 1))
    (λ i m h. omega arith))

-- where the line has x or y, the positive way leads outward
pub row-outward : {old new : List ℕ} (P : Parts) (line : List ℕ) (k r x y : ℕ) → r < 40
    → Put old (1600 * k + 40 * r) (1600 * k + 40 * r + 40) (line_has line x y (1600 * k + 40 * r)) new
    → ((c : ℕ) → c < 40 → leads P k r c ≡ (eqb (get_or line c 0) x || eqb (get_or line c 0) y)) → Outward P old → Outward P new
row-outward P line k r x y l p e =
    put-outward P p
    (row-leads P k r (line_has line x y (1600 * k + 40 * r)) l
    (λ c h. let q : c ≡ 1600 * k + 40 * r + c - (1600 * k + 40 * r) = omega arith in e c h ∙ ap (λ (z : ℕ). eqb (get_or line z 0) x || eqb (get_or line z 0) y) q))

-- whether two tests say the same
agree : Bool → Bool → Bool
agree a b = elim a [ true ↦ b | false ↦ not b ]

agree→eq : (a b : Bool) → T (agree a b) → a ≡ b
unfolding agree
agree→eq true true t = refl
agree→eq true false t = absurd t
agree→eq false true t = absurd t
agree→eq false false t = refl

-- whether the j-th kind of link within a tile leads outward its positive way in the sectors x and y, and in no other
turns : ℕ → ℕ → ℕ → Compass → Bool
turns j x y w = agree (inside w j) (eqb (compass_code w) x || eqb (compass_code w) y)

pub Turning : ℕ → ℕ → ℕ → Type 0
Turning j x y = T (turns j x y north && (turns j x y east && (turns j x y south && turns j x y west)))

turns-to : (j x y : ℕ) → Turning j x y → (w : Compass) → inside w j ≡ (eqb (compass_code w) x || eqb (compass_code w) y)
unfolding Turning turns
turns-to j x y t w = agree→eq (inside w j) (eqb (compass_code w) x || eqb (compass_code w) y) (by w)
  where
    by : (w : Compass) → T (turns j x y w)
    by north = and_left (turns j x y north) _ t
    by east = and_left (turns j x y east) _ (and_right (turns j x y north) _ t)
    by south = and_left (turns j x y south) _ (and_right (turns j x y east) _ (and_right (turns j x y north) _ t))
    by west = and_right (turns j x y south) _ (and_right (turns j x y east) _ (and_right (turns j x y north) _ t))

-- the corners from n, e, s and w, and the spokes to them
pub turning : Turning 0 1 2 × Turning 1 2 3 × Turning 2 3 0 × Turning 3 0 1 × Turning 4 0 0 × Turning 5 1 1 × Turning 6 2 2 × Turning 7 3 3
unfolding Turning turns agree inside corner_falls spoke_falls height height_by
turning = (tt, tt, tt, tt, tt, tt, tt, tt)

within : (P : Parts) (j r c : ℕ) → leads P (suc (suc j)) r c ≡ inside (sector P r c) j
unfolding leads
within P j r c = refl

-- a row of links within tiles, beside a line of sectors
pub tiles-outward : {old new : List ℕ} (P : Parts) (line : List ℕ) (j r x y : ℕ) → Turning j x y → r < 40
    → Put old (1600 * suc (suc j) + 40 * r) (1600 * suc (suc j) + 40 * r + 40) (line_has line x y (1600 * suc (suc j) + 40 * r)) new
    → ((c : ℕ) → c < 40 → get_or line c 0 ≡ compass_code (sector P r c)) → Outward P old → Outward P new
tiles-outward P line j r x y t l p e =
    row-outward P line (suc (suc j)) r x y l p
    (λ c h. within P j r c ∙ turns-to j x y t (sector P r c) ∙ ap (λ (z : ℕ). eqb z x || eqb z y) (sym (e c h)))

-- ---- the rows of an array

-- where a row is parted
pub parts_at : (n m r : ℕ) {x y z : ℕ} → x ≡ inset n r → y ≡ m - 1 - x → (ltb r (n / 2) ≡ true → z ≡ 0) → (ltb r (n / 2) ≡ false → z ≡ 2)
    → (x ≡ (parts n m).left r) × (y ≡ (parts n m).right r) × Middle (parts n m) r z
unfolding parts
parts_at n m r e f u l =
    (e, f ∙ ap (λ (z : ℕ). m - 1 - z) e, record { upper = λ h. u (lt-ltb r (n / 2) h); lower = λ h. l (le-ltb r (n / 2) h) })

module _ {old new : List ℕ} (n m r : ℕ) (l : r < 40) where
  -- its northern sides
  pub north-outward : {f : Bool} → Put old (40 * r) (40 * r + 40) (λ i. f) new → f ≡ leb r (n / 2) → Outward (parts n m) old → Outward (parts n m) new
  unfolding parts leads
  north-outward {f} p e = put-outward (parts n m) p (λ i x y. row-leads (parts n m) 0 r (λ i. f) l (λ c h. sym e) i (omega arith) (omega arith))

  -- its western sides, beside a line that has 1 east of the middle
  pub east-outward : (line : List ℕ) → Put old (1600 + 40 * r) (1600 + 40 * r + 40) (line_has line 1 1 (1600 + 40 * r)) new
      → ((c : ℕ) → c < 40 → get_or line c 0 ≡ when (ltb (m / 2) c) 1) → Outward (parts n m) old → Outward (parts n m) new
  unfolding parts leads
  east-outward line p e =
      row-outward (parts n m) line 1 r 1 1 l p (λ c h. by (ltb (m / 2) c) ∙ ap (λ (z : ℕ). eqb z 1 || eqb z 1) (sym (e c h)))
    where
      by : (b : Bool) → b ≡ (eqb (when b 1) 1 || eqb (when b 1) 1)
      by true = refl
      by false = refl

-- the legs and the direct exits, beside loads of 0
pub legs-outward : {old new : List ℕ} (P : Parts) → Put old 16000 24000 (λ i. true) new → ((i : ℕ) → i < 32768 → get_or old i 0 ≡ 0) → Outward P new
unfolding Outward leads inside
legs-outward {old} {new} P p z =
    put-outward P p (λ i l h. leg (i % 1600 / 40) (i % 40) (i / 1600 - 10) (i / 1600) (omega arith) (omega arith)) (λ i l. inl (z (3968 + i) (omega arith)))
  where
    leg : (r c d k : ℕ) → d < 5 → k ≡ 10 + d → leads P k r c ≡ true
    leg r c zero k l e = ap (λ (x : ℕ). leads P x r c) e
    leg r c (suc zero) k l e = ap (λ (x : ℕ). leads P x r c) e
    leg r c (suc (suc zero)) k l e = ap (λ (x : ℕ). leads P x r c) e
    leg r c (suc (suc (suc zero))) k l e = ap (λ (x : ℕ). leads P x r c) e
    leg r c (suc (suc (suc (suc zero)))) k l e = ap (λ (x : ℕ). leads P x r c) e
    leg r c (suc (suc (suc (suc (suc d))))) k l e = absurd (omega arith)

-- loads with a wire on one leg
pub one-leg : (P : Parts) → Outward P (set (replicate 32768 0) (3968 + 16000) 1)
one-leg P =
    legs-outward P
    (put-before
    (put-more (put-none (replicate 32768 0) 16000 (λ i. true)) (omega arith) (omega (arith, length-replicate {A = ℕ} 32768 0)) 1 (one-forth true refl))
    24000 (λ i l h. omega arith))
    (λ i l. get_or-replicate 32768 i 0 0 l)
