-- Every place stands in `places`, and every step that leaves a place stands among the steps around it: the lists name each kind of place and of link, in
-- every cell. So what is tested of the listed places and steps holds of all. Assumes nothing.
use mathlib.Core.Path.{refl}
use mathlib.Core.Bool.{Bool, true, false, ◌&&◌}
use mathlib.Core.List.{List, ◌∷◌, Memᴰ}
use Prim.Native.Nat.{ℕ, zero, suc, ◌≤◌, ◌<◌}
use native.Mathlib.Omega.{arith}
use lib.Dec.{T, eqb, ltb, ltb→lt}
use lib.ListN.{length}
use Rattle.sums.specs.Tests.{and_left, and_right, each-has, those-has}
use Rattle.model.specs.Job.{Job, is_pin, is_tile, is_open, is_chosen, is_missing, on_rim}
use Rattle.model.specs.Links.{Compass, north, east, south, west, PlaceKind, pin, missing, centre, outside, nowhere, side, Place, at, the_outside, holds, is_place, places_at, places, LinkKind, north_side, west_side, corner, spoke, leg, direct, Link, beside, pin_at, straight_out, behind_of, ahead_of, Step, go, come, head, tail, is_entered, may, around, around_of}

-- ---- how many steps are listed

pub around-five : (x : Place) → length (around x) ≤ 5
around-five x = by x.kind
  where
    by : (p : PlaceKind) → length (around_of p x.row x.column) ≤ 5
    by pin = omega arith
    by missing = omega arith
    by centre = omega arith
    by outside = omega arith
    by nowhere = omega arith
    by (side north) = omega arith
    by (side east) = omega arith
    by (side south) = omega arith
    by (side west) = omega arith

-- ---- membership by position

first : {A : Type 0} {a : A} {l : List A} → Memᴰ a (a ∷ l)
first = Memᴰ.head refl

second : {A : Type 0} {a b : A} {l : List A} → Memᴰ a (b ∷ a ∷ l)
second = Memᴰ.tail first

third : {A : Type 0} {a b c : A} {l : List A} → Memᴰ a (b ∷ c ∷ a ∷ l)
third = Memᴰ.tail second

fourth : {A : Type 0} {a b c d : A} {l : List A} → Memᴰ a (b ∷ c ∷ d ∷ a ∷ l)
fourth = Memᴰ.tail third

fifth : {A : Type 0} {a b c d e : A} {l : List A} → Memᴰ a (b ∷ c ∷ d ∷ e ∷ a ∷ l)
fifth = Memᴰ.tail fourth

module _ (J : Job) where
  -- ---- places

  -- the cell lies in the array
  record Cell (r c : ℕ) : Type 0 where
    row< : r < J.rows
    column< : c < J.columns

  open-cell : (r c : ℕ) → T (is_open J r c) → Cell r c
  unfolding is_open
  open-cell r c t =
      let u : T (is_tile J r c) = and_left (is_tile J r c) (eqb (J.state r c) 0) t in
      record {
        row< = omega (arith, ltb→lt (suc r) J.rows (and_left (ltb (suc r) J.rows) (ltb (suc c) J.columns) u));
        column< = omega (arith, ltb→lt (suc c) J.columns (and_right (ltb (suc r) J.rows) (ltb (suc c) J.columns) u));
      }

  pin-cell : (r c : ℕ) (b : Bool) → T (is_pin J r c && b) → Cell r c
  pin-cell r c b t =
      let u : T (is_pin J r c) = and_left (is_pin J r c) b t in
      record {
        row< = ltb→lt r J.rows (and_left (ltb r J.rows) (ltb c J.columns) u);
        column< = ltb→lt c J.columns (and_right (ltb r J.rows) (ltb c J.columns) u);
      }

  cell-listed : (k : PlaceKind) (r c : ℕ) → Cell r c → T (holds J k r c) → Memᴰ (at k r c) (places_at r c) → Memᴰ (at k r c) (places J)
  unfolding places
  cell-listed k r c l t m = each-has J.rows r _ l.row< (each-has J.columns c _ l.column< (those-has (is_place J) (places_at r c) t m))

  kind-listed : (k : PlaceKind) (r c : ℕ) → T (holds J k r c) → Memᴰ (at k r c) (places J)
  unfolding is_chosen is_missing
  kind-listed pin r c t = cell-listed pin r c (pin-cell r c (eqb (J.mark r c) 1) t) t second
  kind-listed missing r c t = cell-listed missing r c (pin-cell r c (eqb (J.mark r c) 2) t) t first
  kind-listed centre r c t = cell-listed centre r c (open-cell r c t) t (Memᴰ.tail (Memᴰ.tail fifth))
  kind-listed outside r c t = absurd t
  kind-listed nowhere r c t = absurd t
  kind-listed (side north) r c t = cell-listed (side north) r c (open-cell r c t) t third
  kind-listed (side east) r c t = cell-listed (side east) r c (open-cell r c t) t fourth
  kind-listed (side south) r c t = cell-listed (side south) r c (open-cell r c t) t fifth
  kind-listed (side west) r c t = cell-listed (side west) r c (open-cell r c t) t (Memᴰ.tail fifth)

  pub place-listed : (x : Place) → T (is_place J x) → Memᴰ x (places J)
  place-listed x t = kind-listed x.kind x.row x.column t

  -- ---- steps

  beside-by : (d : Compass) (r c : ℕ) (P : Place → Type 0) → P (at (side d) r c) → P the_outside → P (beside J d r c)
  beside-by d r c P a b = by (is_tile J r c)
    where
      by : (t : Bool) → P (elim t [ true ↦ at (side d) r c | false ↦ the_outside ])
      by true = a
      by false = b

  pin-by : (r c : ℕ) (P : Place → Type 0) → P (at missing r c) → P (at pin r c) → P (pin_at J r c)
  pin-by r c P a b = by (eqb (J.mark r c) 2)
    where
      by : (t : Bool) → P (elim t [ true ↦ at missing r c | false ↦ at pin r c ])
      by true = a
      by false = b

  out-by : (r c : ℕ) (P : Place → Type 0) → P the_outside → P (at nowhere 0 0) → P (straight_out J r c)
  out-by r c P a b = by (is_chosen J r c && on_rim J r c)
    where
      by : (t : Bool) → P (elim t [ true ↦ the_outside | false ↦ at nowhere 0 0 ])
      by true = a
      by false = b

  abbrev Listed : Step → Place → Type 0
  Listed s x = T (is_place J x) → Memᴰ s (around x)

  forth-listed : (k : LinkKind) (r c : ℕ) → Listed (go k r c) (behind_of J k r c)
  unfolding behind_of
  forth-listed north_side r c = beside-by north r c (Listed (go north_side r c)) (λ t. first) absurd
  forth-listed west_side r zero = absurd
  forth-listed west_side r (suc c) = λ t. first
  forth-listed (corner north) r c = λ t. second
  forth-listed (corner east) r c = λ t. second
  forth-listed (corner south) r c = λ t. second
  forth-listed (corner west) r c = λ t. second
  forth-listed (spoke north) r c = λ t. first
  forth-listed (spoke east) r c = λ t. second
  forth-listed (spoke south) r c = λ t. third
  forth-listed (spoke west) r c = λ t. fourth
  forth-listed (leg north) r c = pin-by r c (Listed (go (leg north) r c)) (λ t. first) (λ t. first)
  forth-listed (leg east) r c = pin-by r c (Listed (go (leg east) r c)) (λ t. second) (λ t. second)
  forth-listed (leg south) r c = pin-by r c (Listed (go (leg south) r c)) (λ t. third) (λ t. third)
  forth-listed (leg west) r c = pin-by r c (Listed (go (leg west) r c)) (λ t. fourth) (λ t. fourth)
  forth-listed direct r c = λ t. fifth

  back-listed : (k : LinkKind) (r c : ℕ) → Listed (come k r c) (ahead_of J k r c)
  unfolding ahead_of
  back-listed north_side zero c = absurd
  back-listed north_side (suc r) c = λ t. first
  back-listed west_side r c = beside-by west r c (Listed (come west_side r c)) (λ t. first) absurd
  back-listed (corner north) r c = λ t. fourth
  back-listed (corner east) r c = λ t. fourth
  back-listed (corner south) r c = λ t. fourth
  back-listed (corner west) r c = λ t. fourth
  back-listed (spoke north) r c = λ t. third
  back-listed (spoke east) r c = λ t. third
  back-listed (spoke south) r c = λ t. third
  back-listed (spoke west) r c = λ t. third
  back-listed (leg north) zero c = absurd
  back-listed (leg north) (suc r) c = λ t. fifth
  back-listed (leg east) r c = λ t. fifth
  back-listed (leg south) r zero = absurd
  back-listed (leg south) r (suc c) = λ t. fifth
  back-listed (leg west) zero c = absurd
  back-listed (leg west) (suc r) zero = absurd
  back-listed (leg west) (suc r) (suc c) = λ t. fifth
  back-listed direct r c = out-by r c (Listed (come direct r c)) absurd absurd

  abbrev way : Link → Bool → Step
  way l b = record { link = l; forth = b }

  way-listed : (l : Link) (b : Bool) → Listed (way l b) (tail J (way l b))
  unfolding head
  way-listed l true = forth-listed l.kind l.row l.column
  way-listed l false = back-listed l.kind l.row l.column

  pub step-listed : (s : Step) → T (is_place J (tail J s)) → Memᴰ s (around (tail J s))
  step-listed s = way-listed s.link s.forth

  -- ---- what `may` says

  pub may-leaves : (s : Step) → T (may J s) → T (is_place J (tail J s))
  unfolding may
  may-leaves s t = and_left (is_place J (tail J s)) (is_entered J (head J s)) t

  pub may-enters : (s : Step) → T (may J s) → T (is_entered J (head J s))
  unfolding may
  may-enters s t = and_right (is_place J (tail J s)) (is_entered J (head J s)) t
