-- The way back: it stays in range, the way back of the way back is the dart, and a dart with a stored byte goes back along the same link. All of it
-- follows from the row of the table. Assumes nothing.
use Rattle.std.specs.Prelude.{◌≡◌, refl, ◌⊎◌, Bool, true, false, ℕ, ◌+◌, ◌-◌, ◌/◌, ◌%◌, ◌≤◌, ◌<◌, T, ltb, get_or}
use Rattle.std.proofs.Math.Path.{ap}
use Rattle.std.proofs.Common.{◌∙◌, inl, inr, ltb→lt, nltb→le}
use Rattle.std.proofs.Math.Bool.{not}
use native.Mathlib.Omega.{arith}
use Rattle.std.proofs.Math.Dec.{eqb}
use Rattle.sums.specs.Tests.{and_left, and_right}
use Rattle.model.specs.Links.{north_side, link, turn}
use Rattle.model.specs.Record.{kinds}
use Rattle.channel.specs.Map.{darts, in_grid, row_of, column_of, ahead, rev, owner_cell, step_of, carries, is_stored, is_link_dart, turn_of, kind_of, owner_of, sign_of, code_of, back_row, back_cell}
use Rattle.channel.specs.Map.Grid.{grid-bounds}
use Rattle.channel.specs.Map.Rows.{row-turn, row-kind, row-owner, owner-le, row-sign, row-stored, carries-stored}

-- what `ltb a b` says
pub data Less (a b : ℕ) : Bool → Type 0 where
  less : a < b → Less a b true
  most : b ≤ a → Less a b false

pub less? : (a b : ℕ) → Less a b (ltb a b)
less? a b = by (ltb a b) (ltb→lt a b) (nltb→le a b)
  where
    by : (t : Bool) → (T t → a < b) → (T (not t) → b ≤ a) → Less a b t
    by true f g = less (f tt)
    by false f g = most (g tt)

-- ---- what the definitions say

pub owner-law : (d : ℕ) → owner_cell d ≡ d / 64 + owner_of (d % 64)
unfolding owner_cell
owner-law d = refl

-- the three branches
pub rev-low : (d : ℕ) → ahead d < 2688 → rev d ≡ d
unfolding rev
rev-low d l = by (ltb (ahead d) 2688) (less? (ahead d) 2688)
  where
    by : (a : Bool) → Less (ahead d) 2688 a → elim a [ true ↦ d | false ↦ elim (ltb (ahead d) 107712) [ true ↦ ahead d - 2688 | false ↦ d ] ] ≡ d
    by true k = refl
    by false (most k) = absurd (omega arith)

pub rev-high : (d : ℕ) → 107712 ≤ ahead d → rev d ≡ d
unfolding rev
rev-high d l = by (ltb (ahead d) 2688) (ltb (ahead d) 107712) (less? (ahead d) 107712)
  where
    by : (a b : Bool) → Less (ahead d) 107712 b → elim a [ true ↦ d | false ↦ elim b [ true ↦ ahead d - 2688 | false ↦ d ] ] ≡ d
    by true b k = refl
    by false true (less k) = absurd (omega arith)
    by false false k = refl

pub rev-mid : (d : ℕ) → 2688 ≤ ahead d → ahead d < 107712 → rev d ≡ ahead d - 2688
unfolding rev
rev-mid d l m = by (ltb (ahead d) 2688) (ltb (ahead d) 107712) (less? (ahead d) 2688) (less? (ahead d) 107712)
  where
    by : (a b : Bool) → Less (ahead d) 2688 a → Less (ahead d) 107712 b
        → elim a [ true ↦ d | false ↦ elim b [ true ↦ ahead d - 2688 | false ↦ d ] ] ≡ ahead d - 2688
    by true b (less k) n = absurd (omega arith)
    by false true k n = refl
    by false false k (most n) = absurd (omega arith)

pub rev-over : (d r : ℕ) → r + 2688 ≡ ahead d → r < darts → rev d ≡ r
unfolding darts
rev-over d r e l = omega (arith, rev-mid d (omega arith) (omega arith))

-- either the row leads over, or the dart is its own way back
pub rev-ways : (d : ℕ) → ((rev d + 2688 ≡ ahead d) × (rev d < darts)) ⊎ (rev d ≡ d)
unfolding darts
rev-ways d = by (ltb (ahead d) 2688) (ltb (ahead d) 107712) (less? (ahead d) 2688) (less? (ahead d) 107712)
  where
    by : (a b : Bool) → Less (ahead d) 2688 a → Less (ahead d) 107712 b → ((rev d + 2688 ≡ ahead d) × (rev d < darts)) ⊎ (rev d ≡ d)
    by true b (less l) k = inr (rev-low d l)
    by false true (most l) (less k) = inl (omega (arith, rev-mid d l k), omega (arith, rev-mid d l k))
    by false false l (most k) = inr (rev-high d k)

-- ---- there and back

-- the row and the cell of the way back
module _ (d r : ℕ) (e : r + 2688 ≡ ahead d) where
  pub over-row : r % 64 ≡ back_row (d % 64)
  unfolding ahead back_row
  over-row = omega arith

  pub over-cell : r / 64 + 42 ≡ d / 64 + back_cell (d % 64)
  unfolding ahead back_cell
  over-cell = omega arith

  over-back : d + 2688 ≡ ahead r
  unfolding ahead
  over-back = omega (arith, ap turn_of over-row, row-turn (d % 64) (omega arith))

pub rev< : (d : ℕ) → d < darts → rev d < darts
rev< d l = by (rev-ways d)
  where
    by : ((rev d + 2688 ≡ ahead d) × (rev d < darts)) ⊎ (rev d ≡ d) → rev d < darts
    by (inl (e, k)) = k
    by (inr e) = omega arith

pub rev-rev : (d : ℕ) → d < darts → rev (rev d) ≡ d
rev-rev d l = by (rev-ways d)
  where
    by : ((rev d + 2688 ≡ ahead d) × (rev d < darts)) ⊎ (rev d ≡ d) → rev (rev d) ≡ d
    by (inl (e, k)) = rev-over (rev d) d (over-back d (rev d) e) l
    by (inr e) = ap rev e ∙ e

-- ---- along the same link

-- a dart with a stored byte goes back along the same link
pub record Turned (d : ℕ) : Type 0 where
  pub over : rev d + 2688 ≡ ahead d
  pub step : step_of (rev d) ≡ turn (step_of d)
  pub owner : owner_cell (rev d) ≡ owner_cell d
  pub stored : T (is_stored (code_of (rev d % 64)))

row< : (d : ℕ) → d % 64 < 64
row< d = omega arith

-- the dart that its row leads to, from a link on the grid, is in range
ahead-range : (d : ℕ) → T (in_grid (owner_cell d)) → (2688 ≤ ahead d) × (ahead d < 107712)
unfolding owner_cell ahead back_cell back_row
ahead-range d g =
    let i = d % 64 in
    let (a, b) = grid-bounds (d / 64 + owner_of i) g in
    within d (turn_of i) (owner_of i) (owner_of (back_row i)) (row-owner i (row< d)) (owner-le (back_row i) (omega arith)) a b
  where
    within : (d t o p : ℕ) → o + 42 ≡ p + (d % 64 + t) / 64 → p ≤ 41 → 41 ≤ d / 64 + o → d / 64 + o < 1641 → (2688 ≤ d + t) × (d + t < 107712)
    within d t o p e q a b = omega arith

-- what the row says of the way back, where it leads over
module _ (d : ℕ) (e : rev d + 2688 ≡ ahead d) (s : T (is_stored (code_of (d % 64)))) where
  same-owner : owner_cell (rev d) ≡ owner_cell d
  unfolding owner_cell
  same-owner = omega (arith, over-cell d (rev d) e, ap owner_of (over-row d (rev d) e), row-owner (d % 64) (row< d))

  same-link : step_of (rev d) ≡ turn (step_of d)
  unfolding step_of
  same-link =
      let k : kind_of (rev d % 64) ≡ kind_of (d % 64) = ap kind_of (over-row d (rev d) e) ∙ row-kind (d % 64) (row< d) in
      let f : eqb (sign_of (rev d % 64)) 0 ≡ not (eqb (sign_of (d % 64)) 0) = rw (over-row d (rev d) e) (row-sign (d % 64) (row< d) s) in
      λ i. record {
        link = link (get_or kinds (k i) north_side) (row_of (same-owner i)) (column_of (same-owner i));
        forth = f i;
      }

  turned : Turned d
  turned = record { over = e; step = same-link; owner = same-owner; stored = rw (over-row d (rev d) e) (row-stored (d % 64) (row< d) s) }

pub stored-turned : (d : ℕ) → d < darts → T (is_stored (code_of (d % 64))) → T (in_grid (owner_cell d)) → Turned d
stored-turned d l s g =
    let (a, b) = ahead-range d g in
    turned d (omega (arith, rev-mid d a b)) s

-- a link dart has a stored byte
pub link-stored : (d : ℕ) → T (is_link_dart d) → T (is_stored (code_of (d % 64))) × T (in_grid (owner_cell d))
unfolding is_link_dart
link-stored d t =
    let c : T (carries (code_of (d % 64))) = and_left (carries (code_of (d % 64))) (in_grid (owner_cell d)) t in
    (carries-stored (d % 64) (row< d) c, and_right (carries (code_of (d % 64))) (in_grid (owner_cell d)) t)
