-- The dart of a step: every step of a link at a cell of the grid has one dart that carries its load, and every such dart comes from its step. Its row of
-- the table is read off the step's kind and direction, its cell off the step's cell. Assumes nothing.
use Rattle.std.specs.Prelude.{◌≡◌, refl, Bool, true, false, not, ◌&&◌, ◌||◌, ℕ, ◌+◌, ◌-◌, ◌*◌, ◌/◌, ◌%◌, ◌<◌, T, leb, get_or}
use Rattle.std.proofs.Common.{sym, ◌∙◌, le→leb, lt→ltb, lit<}
use Rattle.std.proofs.Math.Path.{ap}
use Rattle.std.proofs.Math.Bool.{beq}
use native.Mathlib.Omega.{arith}
use Rattle.std.proofs.Math.Dec.{eqb, eqb→eq, ltb, ltb→lt}
use Rattle.sums.specs.Tests.{if-so, and_left, and_right, and_both, below, below_at}
use Rattle.model.specs.Links.{north, east, south, west, LinkKind, north_side, west_side, corner, spoke, leg, direct, link, link_code, Step, turn}
use Rattle.model.specs.Record.{kinds}
use Rattle.channel.specs.Map.{darts, in_grid, row_of, column_of, ahead, rev, owner_cell, step_of, carries, is_link_dart, turns, links, owners, signs, codes, turn_of, kind_of, owner_of, sign_of, code_of, seat_of, dart_of}
use Rattle.channel.specs.Map.Bools.{same_test}
use Rattle.channel.specs.Map.Rows.{owner-le}
use Rattle.channel.specs.Map.Grid.{grid-bounds}
use Rattle.channel.specs.Map.Back.{owner-law, link-stored, stored-turned, rev<, rev-over}

-- ---- cells

-- a cell of the grid by its row and column
module _ (x r c : ℕ) (e : x ≡ 41 + 40 * r + c) (b : c < 40) where
  pub cell_row : row_of x ≡ r
  unfolding row_of
  cell_row = omega arith

  pub cell-column : column_of x ≡ c
  unfolding column_of
  cell-column = omega arith

  pub cell-grid : r < 40 → T (in_grid x)
  unfolding in_grid
  cell-grid a = and_both (leb 41 x) (ltb x 1641) (le→leb 41 x (omega arith)) (lt→ltb x 1641 (omega arith))

-- and back
pub grid-cell : (x : ℕ) → T (in_grid x) → x ≡ 41 + 40 * row_of x + column_of x
unfolding row_of column_of
grid-cell x g = omega (arith, grid-bounds x g)

-- a step of a link at a cell of the grid
pub record OnGrid (s : Step) : Type 0 where
  pub row< : s.link.row < 40
  pub column< : s.link.column < 40

pub step-grid : (d : ℕ) → T (in_grid (owner_cell d)) → OnGrid (step_of d)
unfolding step_of row_of column_of
step-grid d g = record { row< = omega (arith, grid-bounds (owner_cell d) g); column< = omega arith }

-- ---- the dart at a row of the table

-- the dart at the cell y and the row i, whose link the cell (r, c) of the grid owns
pub dart-at : (d y i r c : ℕ) → (d ≡ 64 * y + i) × (i < 64) × (y + owner_of i ≡ 41 + 40 * r + c) × (r < 40) × (c < 40) → T (carries (code_of i))
    → (d < darts) × T (is_link_dart d) × (step_of d ≡ record { link = link (get_or kinds (kind_of i) north_side) r c; forth = eqb (sign_of i) 0 })
unfolding is_link_dart step_of darts
dart-at d y i r c (e, l, o, a, b) t =
    let m : d % 64 ≡ i = omega arith in
    let x : owner_cell d ≡ 41 + 40 * r + c = omega (arith, owner-law d, ap owner_of m) in (
      omega arith,
      and_both (carries (code_of (d % 64))) (in_grid (owner_cell d)) (rw m t) (cell-grid (owner_cell d) r c x b a),
      λ j. record {
        link = link (get_or kinds (kind_of (m j)) north_side) (cell_row (owner_cell d) r c x b j) (cell-column (owner_cell d) r c x b j);
        forth = eqb (sign_of (m j)) 0;
      },
    )

-- the direct exit of a pin, and against it
pub out_step : (d : ℕ) → d % 64 ≡ 12 → step_of d ≡ record { link = link direct (row_of (owner_cell d)) (column_of (owner_cell d)); forth = true }
unfolding step_of kind_of links sign_of signs
out_step d e =
    λ j. record { link = link (get_or kinds (kind_of (e j)) north_side) (row_of (owner_cell d)) (column_of (owner_cell d)); forth = eqb (sign_of (e j)) 0 }

pub in_step : (d : ℕ) → d % 64 ≡ 5 → step_of d ≡ record { link = link direct (row_of (owner_cell d)) (column_of (owner_cell d)); forth = false }
unfolding step_of kind_of links sign_of signs
in_step d e =
    λ j. record { link = link (get_or kinds (kind_of (e j)) north_side) (row_of (owner_cell d)) (column_of (owner_cell d)); forth = eqb (sign_of (e j)) 0 }

-- ---- the row of a step

-- the 14 kinds and their numbers
pub kind-code : (k : LinkKind) → (link_code k < 15) × (get_or kinds (link_code k) north_side ≡ k)
kind-code north_side = (lit< tt, refl)
kind-code west_side = (lit< tt, refl)
kind-code (corner north) = (lit< tt, refl)
kind-code (corner east) = (lit< tt, refl)
kind-code (corner south) = (lit< tt, refl)
kind-code (corner west) = (lit< tt, refl)
kind-code (spoke north) = (lit< tt, refl)
kind-code (spoke east) = (lit< tt, refl)
kind-code (spoke south) = (lit< tt, refl)
kind-code (spoke west) = (lit< tt, refl)
kind-code (leg north) = (lit< tt, refl)
kind-code (leg east) = (lit< tt, refl)
kind-code (leg south) = (lit< tt, refl)
kind-code (leg west) = (lit< tt, refl)
kind-code direct = (lit< tt, refl)

-- a test of every kind in both directions
all-seats : (p : ℕ → Bool → Bool) → T (below 15 (λ n. p n true && p n false)) → (n : ℕ) → n < 15 → (f : Bool) → T (p n f)
all-seats p t n l true = and_left (p n true) (p n false) (below_at 15 (λ n. p n true && p n false) t n l)
all-seats p t n l false = and_right (p n true) (p n false) (below_at 15 (λ n. p n true && p n false) t n l)

module _ (n : ℕ) (l : n < 15) (f : Bool) where
  seat< : seat_of n f < 64
  unfolding below seat_of
  seat< = ltb→lt _ _ (all-seats (λ n f. ltb (seat_of n f) 64) tt n l f)

  seat-carries : T (carries (code_of (seat_of n f)))
  unfolding below seat_of carries code_of codes
  seat-carries = all-seats (λ n f. carries (code_of (seat_of n f))) tt n l f

  seat-kind : kind_of (seat_of n f) ≡ n
  unfolding below seat_of kind_of links
  seat-kind = eqb→eq _ _ (all-seats (λ n f. eqb (kind_of (seat_of n f)) n) tt n l f)

  seat-sign : eqb (sign_of (seat_of n f)) 0 ≡ f
  unfolding below seat_of sign_of signs
  seat-sign = same_test _ _ (all-seats (λ n f. beq (eqb (sign_of (seat_of n f)) 0) f) tt n l f)

-- the row of a row's step is the row
row-seat : (i : ℕ) → i < 64 → T (carries (code_of i)) → seat_of (link_code (get_or kinds (kind_of i) north_side)) (eqb (sign_of i) 0) ≡ i
unfolding below seat_of kind_of links sign_of signs code_of codes carries
row-seat i l c =
    eqb→eq _ _ (if-so (carries (code_of i)) _
    (below_at 64 (λ i. not (carries (code_of i)) || eqb (seat_of (link_code (get_or kinds (kind_of i) north_side)) (eqb (sign_of i) 0)) i) tt i l) c)

-- ---- straight out of a pin, and in

module _ (r c : ℕ) (a : r < 40) (b : c < 40) where
  pub out-dart : 8 * (8 * (41 + 40 * r + c) + 0 + 1) + 4 ≡ dart_of (record { link = link direct r c; forth = true })
  unfolding dart_of seat_of owner_of owners
  out-dart = omega arith

  pub in-dart : 8 * (8 * (41 + 40 * r + c) + 0) + 5 ≡ dart_of (record { link = link direct r c; forth = false })
  unfolding dart_of seat_of owner_of owners
  in-dart = omega arith

  pub out-back : rev (8 * (8 * (41 + 40 * r + c) + 0 + 1) + 4) ≡ dart_of (record { link = link direct r c; forth = false })
  unfolding dart_of seat_of owner_of owners ahead turn_of turns darts
  out-back =
      let d = 8 * (8 * (41 + 40 * r + c) + 0 + 1) + 4 in
      let i : d % 64 ≡ 12 = omega arith in
      rev-over d (64 * (41 + 40 * r + c) + 5) (omega (arith, ap turn_of i)) (omega arith) ∙ omega arith

  pub in-back : rev (8 * (8 * (41 + 40 * r + c) + 0) + 5) ≡ dart_of (record { link = link direct r c; forth = true })
  unfolding dart_of seat_of owner_of owners ahead turn_of turns darts
  in-back =
      let d = 8 * (8 * (41 + 40 * r + c) + 0) + 5 in
      let i : d % 64 ≡ 5 = omega arith in
      rev-over d (64 * (41 + 40 * r + c) + 12) (omega (arith, ap turn_of i)) (omega arith) ∙ omega arith

-- ---- there and back

pub dart-step : (s : Step) → OnGrid s → (dart_of s < darts) × T (is_link_dart (dart_of s)) × (step_of (dart_of s) ≡ s)
unfolding dart_of
dart-step s g =
    let n = link_code s.link.kind in
    let f = s.forth in
    let (l, k) = kind-code s.link.kind in
    let i = seat_of n f in
    let y = 41 + 40 * s.link.row + s.link.column - owner_of i in
    let h = owner-le i (seat< n l f) in
    let (a, t, e) = dart-at (64 * y + i) y i s.link.row s.link.column (omega (arith, g, seat< n l f)) (seat-carries n l f) in
    let q : get_or kinds (kind_of i) north_side ≡ s.link.kind = ap (λ (m : ℕ). get_or kinds m north_side) (seat-kind n l f) ∙ k in
    (a, t, e ∙ (λ j. record { link = link (q j) s.link.row s.link.column; forth = seat-sign n l f j }))

pub step-dart : (d : ℕ) → d < darts → T (is_link_dart d) → dart_of (step_of d) ≡ d
unfolding dart_of step_of is_link_dart
step-dart d l t =
    let s : T (carries (code_of (d % 64))) = and_left (carries (code_of (d % 64))) (in_grid (owner_cell d)) t in
    let g : T (in_grid (owner_cell d)) = and_right (carries (code_of (d % 64))) (in_grid (owner_cell d)) t in
    rw (row-seat (d % 64) (omega arith) s) (whole d (owner_of (d % 64)) (owner_cell d) _ (owner-law d) (grid-cell (owner_cell d) g))
  where
    whole : (d o x y : ℕ) → x ≡ d / 64 + o → x ≡ y → 64 * (y - o) + d % 64 ≡ d
    whole d o x y e f = omega arith

-- the way back of a side or a corner carries the load of the step back
pub plain_back : (d : ℕ) → d < darts → T (is_link_dart d) → T (carries (code_of (rev d % 64))) → rev d ≡ dart_of (turn (step_of d))
unfolding is_link_dart
plain_back d l t c =
    let (s, g) = link-stored d t in
    let b = stored-turned d l s g in
    let u : T (is_link_dart (rev d)) = and_both (carries (code_of (rev d % 64))) (in_grid (owner_cell (rev d))) c (rw b.owner g) in
    sym (step-dart (rev d) (rev< d l) u) ∙ ap dart_of b.step
