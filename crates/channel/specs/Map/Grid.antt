-- The cells of the grid: when a number is that of a cell, its row and its column, and where the byte of a plane stands. Assumes nothing.
use Rattle.std.specs.Prelude.{◌≡◌, refl, ◌≢◌, Bool, true, ◌&&◌, List, ℕ, suc, ◌+◌, ◌-◌, ◌*◌, ◌/◌, ◌%◌, ◌≤◌, ◌<◌, T, leb, ltb, get_or}
use Rattle.std.proofs.Math.Path.{sym}
use Rattle.std.proofs.Common.{◌∙◌, arith, leb→le, ltb→lt}
use Rattle.std.proofs.Math.Bool.{false}
use borrow.Author.Tests.{lt-ltb, le-ltb, le-leb, lt-leb, ne_eqb}
use Rattle.sums.specs.Counting.{when}
use Rattle.sums.specs.Tests.{and_left, and_right}
use Rattle.model.specs.Job.{is_pin, is_chosen}
use Rattle.model.specs.Record.{job_of, cell}
use Rattle.channel.specs.Map.{in_grid, row_of, column_of}
use Rattle.channel.specs.Map.Bools.{and-true, and-false}

pub grid-is : (x : ℕ) → (leb 41 x && ltb x 1641) ≡ in_grid x
unfolding in_grid
grid-is x = refl

pub grid-in : (x : ℕ) → 41 ≤ x → x < 1641 → in_grid x ≡ true
unfolding in_grid
grid-in x l m = simp (le-leb _ _ l, lt-ltb _ _ m)

pub grid-low : (x : ℕ) → x < 41 → in_grid x ≡ false
unfolding in_grid
grid-low x l = simp (lt-leb _ _ l)

pub grid-high : (x : ℕ) → 1641 ≤ x → in_grid x ≡ false
unfolding in_grid
grid-high x l = let k : 41 ≤ x = omega arith in simp (le-leb _ _ k, le-ltb _ _ l)

pub grid-bounds : (x : ℕ) → T (in_grid x) → (41 ≤ x) × (x < 1641)
unfolding in_grid
grid-bounds x t = (leb→le 41 x (and_left (leb 41 x) (ltb x 1641) t), ltb→lt x 1641 (and_right (leb 41 x) (ltb x 1641) t))

-- the byte of a plane at a cell
pub cell-byte : (rec : List ℕ) (p x : ℕ) → 41 ≤ x → x < 1641 → cell rec p (row_of x) (column_of x) ≡ get_or rec (727 + 1600 * p + x) 0
unfolding cell row_of column_of
cell-byte rec p x l m =
    let r : (x - 41) / 40 < 40 = omega arith in
    let c : (x - 41) % 40 < 40 = omega arith in
    let e : 768 + 1600 * p + 40 * ((x - 41) / 40) + (x - 41) % 40 ≡ 727 + 1600 * p + x = omega arith in
    simp (lt-ltb _ _ r, lt-ltb _ _ c, e)

-- ---- the answers of a program

pub cell-on : (rec : List ℕ) (p r c : ℕ) → r < 40 → c < 40 → get_or rec (768 + 1600 * p + 40 * r + c) 0 ≡ cell rec p r c
unfolding cell
cell-on rec p r c l m = simp (lt-ltb _ _ l, lt-ltb _ _ m)

pub cell_below : (rec : List ℕ) (p r c : ℕ) → 40 ≤ r → 0 ≡ cell rec p r c
unfolding cell
cell_below rec p r c l = simp (le-ltb _ _ l)

pub cell-beside : (rec : List ℕ) (p r c : ℕ) → r < 40 → 40 ≤ c → 0 ≡ cell rec p r c
unfolding cell
cell-beside rec p r c l m = simp (lt-ltb _ _ l, le-ltb _ _ m)

-- a test of a cell's row and column
pub none-at : (x : ℕ) (f : ℕ → ℕ → Bool) → x < 41 → false ≡ (in_grid x && f (row_of x) (column_of x))
none-at x f l = rw (grid-low x l)

pub test_at : (x : ℕ) (f : ℕ → ℕ → Bool) (b : Bool) → 41 ≤ x → x < 1641 → b ≡ f ((x - 41) / 40) ((x - 41) % 40)
    → b ≡ (in_grid x && f (row_of x) (column_of x))
unfolding row_of column_of
test_at x f b l m e = rw (grid-in x l m) e

-- a cell is a chosen pin by its mark, and by its row and column
module _ (rec : List ℕ) (x : ℕ) (l : 41 ≤ x) (m : x < 1641) where
  mark-byte : cell rec 0 ((x - 41) / 40) ((x - 41) % 40) ≡ get_or rec (727 + x) 0
  unfolding row_of column_of
  mark-byte = cell-byte rec 0 x l m

  pub not_chosen : get_or rec (727 + x) 0 ≢ 1 → false ≡ (in_grid x && is_chosen (job_of rec) (row_of x) (column_of x))
  unfolding is_chosen job_of
  not_chosen n = test_at x (is_chosen (job_of rec)) false l m (rw (mark-byte, ne_eqb _ 1 n, and-false))

  pub chosen-pin : (b : Bool) → get_or rec (727 + x) 0 ≡ 1 → b ≡ is_pin (job_of rec) ((x - 41) / 40) ((x - 41) % 40)
      → b ≡ (in_grid x && is_chosen (job_of rec) (row_of x) (column_of x))
  unfolding is_chosen job_of
  chosen-pin b e p = test_at x (is_chosen (job_of rec)) b l m (rw (mark-byte, e) (p ∙ sym (and-true _)))

pub no-byte-at : (x n : ℕ) → x < 41 → 0 ≡ when (in_grid x) n
no-byte-at x n l = rw (grid-low x l)

pub no-byte-over : (x n : ℕ) → 1641 ≤ x → 0 ≡ when (in_grid x) n
no-byte-over x n l = rw (grid-high x l)

pub byte_at : (rec : List ℕ) (p x : ℕ) → 41 ≤ x → x < 1641 → get_or rec (727 + 1600 * p + x) 0 ≡ when (in_grid x) (cell rec p (row_of x) (column_of x))
byte_at rec p x l m = rw (grid-in x l m) (sym (cell-byte rec p x l m))

-- no tile lies beyond the rows, or beyond the columns
pub no_row : (r rows : ℕ) (b : Bool) → rows ≤ suc r → false ≡ (ltb (suc r) rows && b)
no_row r rows b l = simp (le-ltb _ _ l)

pub no-column : (r rows c columns : ℕ) → columns ≤ suc c → false ≡ (ltb (suc r) rows && ltb (suc c) columns)
no-column r rows c columns l = rw (le-ltb _ _ l) (none (ltb (suc r) rows))
  where
    none : (b : Bool) → false ≡ (b && false)
    none true = refl
    none false = refl
