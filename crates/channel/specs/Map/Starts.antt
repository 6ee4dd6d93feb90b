-- Wires are wanted at the chosen pins alone: a spot at which one is wanted is the exit of a chosen pin, and the exit of a chosen pin is a spot. Those
-- spots stand 8 apart from 329 on, and none is outside. Assumes nothing.
use Rattle.std.specs.Prelude.{◌≡◌, ℕ, ◌/◌, ◌%◌, ◌<◌, ◌&&◌, T, eqb}
use Rattle.std.proofs.Math.Path.{refl}
use Rattle.std.proofs.Math.Bool.{Bool, not}
use native.Mathlib.Omega.{arith}
use Rattle.std.proofs.Math.Dec.{ltb, eqb→eq}
use Rattle.std.proofs.Common.{ltb→lt}
use Rattle.sums.specs.Tests.{and_left, and_right, or-by}
use Rattle.sums.specs.Counting.{when}
use Rattle.sums.specs.Sums.{when-some}
use Rattle.model.specs.Job.{Job, array_fits, is_tile, is_chosen}
use Rattle.model.specs.Links.{pin, at}
use Rattle.model.specs.Near.{exit_of, exit}
use Rattle.channel.specs.Map.{spots, in_grid, row_of, column_of, is_start, want, outside}
use Rattle.channel.specs.Map.Darts.{grid-cell}
use Rattle.channel.specs.Map.Spots.{held-grid}

module _ (J : Job) where
  pub wanted-pin : (u : ℕ) → 0 < want J u → (r c : ℕ) × T (is_chosen J r c) × (u ≡ exit (at pin r c))
  unfolding want is_start exit_of
  wanted-pin u p =
      let r = row_of (u / 8) in
      let c = column_of (u / 8) in
      let t = (when-some (is_start J u) 1 p).0 in
      let e : u % 8 ≡ 1 = eqb→eq (u % 8) 1 (and_left (eqb (u % 8) 1) (in_grid (u / 8) && is_chosen J r c) t) in
      let g = and_right (eqb (u % 8) 1) (in_grid (u / 8) && is_chosen J r c) t in
      (r, c, and_right (in_grid (u / 8)) (is_chosen J r c) g, omega (arith, grid-cell (u / 8) (and_left (in_grid (u / 8)) (is_chosen J r c) g)))

  pub pin-spot : T (array_fits J.rows J.columns) → (r c : ℕ) → T (is_chosen J r c) → exit (at pin r c) < spots
  unfolding exit_of spots
  pin-spot fits r c t = let (a, b) = held-grid J fits pin r c t in omega arith

  -- ---- where a wire may start

  pub want-start : (u : ℕ) → want J u ≡ when (is_start J u) 1
  unfolding want
  want-start u = refl

  pub start-inside : (u : ℕ) → T (is_start J u) → T (outside J u) → ⊥
  unfolding is_start outside
  start-inside u t o =
      high (eqb→eq (u % 8) 1 (and_left (eqb (u % 8) 1) (in_grid (u / 8) && is_chosen J (row_of (u / 8)) (column_of (u / 8))) t))
    where
      sides : Bool
      sides = ltb 1 (u % 8) && (ltb (u % 8) 6 && not (in_grid (u / 8) && is_tile J (row_of (u / 8)) (column_of (u / 8))))

      high : (u % 8 ≡ 1) → ⊥
      high e =
          or-by sides _ (λ a. omega (arith, ltb→lt 1 (u % 8) (and_left (ltb 1 (u % 8)) _ a))) (λ a. omega (arith, eqb→eq (u % 8) 0 (and_left (eqb (u % 8) 0) _ a))) o
