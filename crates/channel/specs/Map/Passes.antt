-- The darts from an entry to its exit: a missing pin and a centre have one each, and such a dart leads from the entry to the exit of the place that it
-- passes. They are two rows of the table. Assumes nothing.
use Rattle.std.specs.Prelude.{◌≡◌, Bool, true, false, not, ◌||◌, ℕ, ◌+◌, ◌*◌, ◌/◌, ◌%◌, ◌<◌, T, eqb}
use native.Mathlib.Omega.{arith}
use Rattle.std.proofs.Common.{eqb→eq, lit<}
use Rattle.sums.specs.Tests.{Same, same, other, same?, if-so, and_left, and_right, and_both, below, below_at}
use Rattle.model.specs.Links.{missing, centre, at}
use Rattle.model.specs.Near.{spot, entry_of, exit_of, entry, exit}
use Rattle.channel.specs.Map.{darts, in_grid, rev, is_passage, is_pass_dart, passed_of, turns, codes, turn_of, code_of, back_row}
use Rattle.channel.specs.Map.Grid.{grid-bounds}
use Rattle.channel.specs.Map.Darts.{cell_row, cell-column, cell-grid, grid-cell}
use Rattle.channel.specs.Map.Ends.{rev-spot}

-- the place that a dart of a cell and a row passes
passed-at : (d r c i : ℕ) → d ≡ 64 * (41 + 40 * r + c) + i → i < 64 → r < 40 → c < 40 → T (is_passage (code_of i))
    → (d < darts) × T (is_pass_dart d) × (passed_of d ≡ at (elim (eqb (code_of i) 5) [ true ↦ centre | false ↦ missing ]) r c)
unfolding is_pass_dart passed_of darts
passed-at d r c i e l a b t =
    let m : d % 64 ≡ i = omega arith in
    let x : d / 64 ≡ 41 + 40 * r + c = omega arith in (
      omega arith,
      and_both (is_passage (code_of (d % 64))) (in_grid (d / 64)) (rw m t) (cell-grid (d / 64) r c x b a),
      λ j. at (elim (eqb (code_of (m j)) 5) [ true ↦ centre | false ↦ missing ]) (cell_row (d / 64) r c x b j) (cell-column (d / 64) r c x b j),
    )

module _ (r c : ℕ) (a : r < 40) (b : c < 40) where
  pub pass-missing : (8 * spot 0 r c + 4 < darts) × T (is_pass_dart (8 * spot 0 r c + 4)) × (passed_of (8 * spot 0 r c + 4) ≡ at missing r c)
  unfolding is_passage code_of codes
  pass-missing = passed-at _ r c 4 (omega arith) (lit< tt) a b tt

  pub pass-centre : (8 * spot 6 r c + 4 < darts) × T (is_pass_dart (8 * spot 6 r c + 4)) × (passed_of (8 * spot 6 r c + 4) ≡ at centre r c)
  unfolding is_passage code_of codes
  pass-centre = passed-at _ r c 52 (omega arith) (lit< tt) a b tt

-- the spots of the place that a dart at a cell and a row passes
module _ (d : ℕ) (g : T (in_grid (d / 64))) where
  ends-missing : d % 64 ≡ 4 → (entry (passed_of d) ≡ d / 8) × (exit (passed_of d) ≡ rev d / 8)
  unfolding passed_of entry_of exit_of code_of codes back_row turn_of turns
  ends-missing e =
      let x = grid-cell (d / 64) g in
      let u : rev d / 8 ≡ 8 * (d / 64) + 1 = rev-spot d 4 (d / 64) (omega (arith, grid-bounds (d / 64) g)) in
      rw e (omega arith, omega arith)

  ends-centre : d % 64 ≡ 52 → (entry (passed_of d) ≡ d / 8) × (exit (passed_of d) ≡ rev d / 8)
  unfolding passed_of entry_of exit_of code_of codes back_row turn_of turns
  ends-centre e =
      let x = grid-cell (d / 64) g in
      let u : rev d / 8 ≡ 8 * (d / 64) + 7 = rev-spot d 52 (d / 64) (omega (arith, grid-bounds (d / 64) g)) in
      rw e (omega arith, omega arith)

-- the two rows from an entry to its exit
pub passage-row : (i : ℕ) → i < 64 → T (is_passage (code_of i)) → T (eqb i 4 || eqb i 52)
unfolding below is_passage code_of codes
passage-row i l t =
    if-so (is_passage (code_of i)) (eqb i 4 || eqb i 52) (below_at 64 (λ i. not (is_passage (code_of i)) || (eqb i 4 || eqb i 52)) tt i l) t

pub pass-ends : (d : ℕ) → d < darts → T (is_pass_dart d) → (entry (passed_of d) ≡ d / 8) × (exit (passed_of d) ≡ rev d / 8)
unfolding is_pass_dart
pass-ends d l t =
    by (and_right (is_passage (code_of (d % 64))) (in_grid (d / 64)) t) (eqb (d % 64) 4) (same? (d % 64) 4)
    (passage-row (d % 64) (omega arith) (and_left (is_passage (code_of (d % 64))) (in_grid (d / 64)) t))
  where
    by : T (in_grid (d / 64)) → (b : Bool) → Same (d % 64) 4 b → T (b || eqb (d % 64) 52) → (entry (passed_of d) ≡ d / 8) × (exit (passed_of d) ≡ rev d / 8)
    by g true (same e) u = ends-missing d g e
    by g false (other e) u = ends-centre d g (eqb→eq (d % 64) 52 u)
