-- Tests at all four points of the compass, the ranges of the header's numbers, and tests of every cell of the grid: a cell beyond row or column 39 holds 0.
-- Assumes nothing.
use Rattle.std.specs.Prelude.{◌≡◌, refl, Bool, true, false, not, ◌&&◌, ◌||◌, List, ℕ, ◌*◌, ◌≤◌, ◌<◌, T, leb, ltb, get_or}
use Rattle.std.proofs.Common.{ap, leb→le, ltb→lt}
use Rattle.sums.specs.Counting.{when}
use Rattle.sums.specs.Tests.{and_left, and_right, and_both, so}
use Rattle.model.specs.Job.{in_range, array_fits, caps_fit}
use Rattle.model.specs.Links.{Compass, north, east, south, west}
use Rattle.model.specs.Record.{offset, cell}
use Rattle.cell.specs.Cell.{all_four}

module _ (p : Compass → Bool) where
  pub four-at : T (all_four p) → (d : Compass) → T (p d)
  unfolding all_four
  four-at t north = and_left (p north) (p east && (p south && p west)) t
  four-at t east = and_left (p east) (p south && p west) (and_right (p north) (p east && (p south && p west)) t)
  four-at t south = and_left (p south) (p west) (and_right (p east) (p south && p west) (and_right (p north) (p east && (p south && p west)) t))
  four-at t west = and_right (p south) (p west) (and_right (p east) (p south && p west) (and_right (p north) (p east && (p south && p west)) t))

  pub four-all : ((d : Compass) → T (p d)) → T (all_four p)
  unfolding all_four
  four-all f =
      and_both (p north) (p east && (p south && p west)) (f north)
      (and_both (p east) (p south && p west) (f east) (and_both (p south) (p west) (f south) (f west)))

pub so-if : (a b : Bool) → (T a → T b) → T (not a || b)
so-if true b f = f tt
so-if false b f = tt

range-in : (least top n : ℕ) → T (in_range least top n) → (least ≤ n) × (n ≤ top)
range-in least top n t = (leb→le least n (and_left (leb least n) (leb n top) t), leb→le n top (and_right (leb least n) (leb n top) t))

pub array-range : (n m : ℕ) → T (array_fits n m) → (2 ≤ n) × (n ≤ 40) × (2 ≤ m) × (m ≤ 40)
array-range n m t =
    let (a, b) = range-in 2 40 n (and_left (in_range 2 40 n) (in_range 2 40 m) t) in
    let (c, d) = range-in 2 40 m (and_right (in_range 2 40 n) (in_range 2 40 m) t) in
    (a, b, c, d)

pub caps-range : (O D E : ℕ) → T (caps_fit O D E) → (O ≤ 8) × (D ≤ 2 * O)
caps-range O D E t =
    let (_, a) = range-in 1 8 O (and_left (in_range 1 8 O) (in_range O (2 * O) D && in_range 0 16 E) t) in
    let u : T (in_range O (2 * O) D && in_range 0 16 E) = and_right (in_range 1 8 O) (in_range O (2 * O) D && in_range 0 16 E) t in
    let (_, b) = range-in O (2 * O) D (and_left (in_range O (2 * O) D) (in_range 0 16 E) u) in
    (a, b)

-- a statement that holds on the grid, and off it
pub on-grid : (P : ℕ → ℕ → Type 0) → ((r c : ℕ) → r < 40 → c < 40 → P r c) → ((r c : ℕ) → ltb r 40 && ltb c 40 ≡ false → P r c) → (r c : ℕ) → P r c
on-grid P f g r c = by (ltb r 40 && ltb c 40) refl
  where
    by : (b : Bool) → ltb r 40 && ltb c 40 ≡ b → P r c
    by true e =
        f r c (ltb→lt r 40 (and_left (ltb r 40) (ltb c 40) (so e))) (ltb→lt c 40 (and_right (ltb r 40) (ltb c 40) (so e)))
    by false e = g r c e

pub off-grid : (rec : List ℕ) (p r c : ℕ) → ltb r 40 && ltb c 40 ≡ false → cell rec p r c ≡ 0
unfolding cell
off-grid rec p r c e = ap (λ (b : Bool). when b (get_or rec (offset p r c) 0)) e
