-- K3: where the count of a side stands in a record, and how many wires the side takes by it. Assumes nothing.
use Rattle.std.specs.Prelude.{◌≡◌, refl, ◌≢◌, List}
use Rattle.std.proofs.Common.{sym, arith}
use Rattle.std.proofs.Math.Path.{ap}
use Prim.Native.Nat.{ℕ, zero, suc, ◌+◌, ◌-◌, ◌*◌, ◌≤◌, ◌<◌}
use Rattle.std.proofs.Math.ListN.{get_or}
use Rattle.sums.specs.Sums.{when-so}
use Rattle.model.specs.Job.{Job, Side, of_north, of_west, side_of, laid_on}
use Rattle.model.specs.Links.{north_side, limit_of}
use Rattle.model.specs.Near.{size}
use Rattle.model.specs.Record.{laid_north_plane, laid_west_plane, offset, kinds, cell, added_of, job_of}
use Rattle.model.proofs.RecordOf.{in_cells, cells-have}
use Rattle.channel.specs.Map.{row_of, column_of}
use Rattle.channel.specs.Map.Grid.{cell-byte}

-- ---- the byte of a count

abbrev pub side_row : Side → ℕ
side_row (of_north r c) = r
side_row (of_west r c) = r

abbrev pub side_column : Side → ℕ
side_column (of_north r c) = c
side_column (of_west r c) = c

abbrev pub side_offset : Side → ℕ
side_offset (of_north r c) = offset laid_north_plane r c
side_offset (of_west r c) = offset laid_west_plane r c

pub count-byte : (rec : List ℕ) (s : Side) → side_row s < 40 → side_column s < 40 → get_or rec (side_offset s) 0 ≡ laid_on (job_of rec) s
unfolding job_of added_of cell
count-byte rec (of_north r c) lr lc = sym (when-so (in_cells r c) _ (cells-have r c lr lc))
count-byte rec (of_west r c) lr lc = sym (when-so (in_cells r c) _ (cells-have r c lr lc))

-- the sides of a tile that may be one lie on the grid
pub side-inside : (r c d : ℕ) → r < 39 → c < 39 → (side_row (side_of r c d) < 40) × (side_column (side_of r c d) < 40)
side-inside r c zero lr lc = omega arith
side-inside r c (suc zero) lr lc = omega arith
side-inside r c (suc (suc zero)) lr lc = omega arith
side-inside r c (suc (suc (suc d))) lr lc = omega arith

-- its offset by the code
pub north-offset : (r c d : ℕ) → d ≡ 0 → 27968 + 40 * r + c ≡ side_offset (side_of r c d)
north-offset r c zero e = omega arith
north-offset r c (suc d) e = absurd (omega arith)

pub east-offset : (r c d : ℕ) → d ≡ 1 → 29569 + 40 * r + c ≡ side_offset (side_of r c d)
east-offset r c zero e = absurd (omega arith)
east-offset r c (suc zero) e = omega arith
east-offset r c (suc (suc d)) e = absurd (omega arith)

pub south-offset : (r c d : ℕ) → d ≡ 2 → 28008 + 40 * r + c ≡ side_offset (side_of r c d)
south-offset r c zero e = absurd (omega arith)
south-offset r c (suc zero) e = absurd (omega arith)
south-offset r c (suc (suc zero)) e = omega arith
south-offset r c (suc (suc (suc d))) e = absurd (omega arith)

pub west-offset : (r c d : ℕ) → d ≢ 0 → d ≢ 1 → d ≢ 2 → 29568 + 40 * r + c ≡ side_offset (side_of r c d)
west-offset r c zero a b e = absurd (a refl)
west-offset r c (suc zero) a b e = absurd (b refl)
west-offset r c (suc (suc zero)) a b e = absurd (e refl)
west-offset r c (suc (suc (suc d))) a b e = omega arith

-- ---- what a side takes

module _ (rec : List ℕ) (x : ℕ) (l : 41 ≤ x) (m : x < 1641) where
  -- by the byte of its count: the north side for k = 0, the west side for k = 1
  pub side-most : (k : ℕ) → k < 2 → size (limit_of (job_of rec) (get_or kinds k north_side) (row_of x) (column_of x)) ≡ (job_of rec).O - get_or rec (27927 + 1600 * k + x) 0
  unfolding limit_of job_of added_of
  side-most zero h = ap (λ (n : ℕ). get_or rec 2 0 - n) (cell-byte rec 17 x l m)
  side-most (suc zero) h = ap (λ (n : ℕ). get_or rec 2 0 - n) (cell-byte rec 18 x l m)
  side-most (suc (suc k)) h = absurd (omega arith)

-- no more than O
pub side-least : (J : Job) (k r c : ℕ) → k < 2 → size (limit_of J (get_or kinds k north_side) r c) ≤ J.O
unfolding limit_of
side-least J zero r c h = omega arith
side-least J (suc zero) r c h = omega arith
side-least J (suc (suc k)) r c h = absurd (omega arith)
