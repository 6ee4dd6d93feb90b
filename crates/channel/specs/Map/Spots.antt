-- The spots of a job's places: each place stands in a cell of the grid, and each cell has at most one place for a spot. So a sum over all spots whose terms
-- are 0 off the places is a sum over the places, where a centre and a missing pin count twice. Assumes nothing.
use Rattle.std.specs.Prelude.{◌≡◌, refl, ◌⊎◌, true, false, ◌&&◌, ◌||◌, eqb, leb, ltb}
use Rattle.std.proofs.Math.Path.{sym, ap}
use Rattle.std.proofs.Common.{◌∙◌, subst, inl, inr, eq-zero-or-pos, add-zero, leb→le, ltb→lt}
use Rattle.std.proofs.Math.Bool.{Bool, not}
use Prim.Native.Nat.{ℕ, zero, suc, ◌+◌, ◌*◌, ◌/◌, ◌%◌, ◌≤◌, ◌<◌}
use native.Mathlib.Omega.{arith}
use Rattle.std.proofs.Math.Dec.{T, eqb→eq, lit<}
use Rattle.sums.specs.Counting.{when, sum, total}
use Rattle.sums.specs.Tests.{and_left, and_right, and_both, and-not, or-by}
use Rattle.sums.specs.Sums.{when-add, when-cong, when-none, sum-cong, sum-none, sum-append, sum_rows, when-full, sum-widen}
use Rattle.sums.specs.Totals.{total-cong, total-each, total-those}
use Rattle.model.specs.Job.{Job, in_range, array_fits, is_pin, is_tile, is_open, is_chosen, is_missing}
use Rattle.model.specs.Links.{north, east, south, west, PlaceKind, pin, missing, centre, nowhere, side, Place, at, holds, is_place, places_at, places}
use Rattle.model.specs.Near.{spot, entry_of, exit_of, entry, exit, IsSpot}
use Rattle.channel.specs.Map.{spots, in_grid, row_of, column_of, counts_twice, outside}
use Rattle.channel.specs.Map.Darts.{cell_row, cell-column, cell-grid}

-- the numbers of two spots are the same where their kinds and cells are
spot-same : (k r c m s e : ℕ) → k < 8 → m < 8 → c < 40 → e < 40 → spot k r c ≡ spot m s e → (k ≡ m) × (r ≡ s) × (c ≡ e)
spot-same k r c m s e a b f g h = (omega arith, omega arith, omega arith)

or_left : (a b : Bool) → T a → T (a || b)
or_left true b t = tt
or_left false b t = absurd t

or_right : (a b : Bool) → T b → T (a || b)
or_right true b t = tt
or_right false b t = t

-- a number that stands under one of two conditions, never under both
either-full : (a b : Bool) (x : ℕ) → (T a → T b → ⊥) → (0 < x → T (a || b)) → when a x + when b x ≡ x
either-full true true x n h = absurd (n tt tt)
either-full true false x n h = omega arith
either-full false b x n h = omega (arith, when-full b x h)

module _ (J : Job) where
  -- ---- places in the array

  open-tile : (r c : ℕ) → T (is_open J r c) → T (is_tile J r c)
  unfolding is_open
  open-tile r c t = and_left (is_tile J r c) (eqb (J.state r c) 0) t

  chosen-pin : (r c : ℕ) → T (is_chosen J r c) → T (is_pin J r c)
  unfolding is_chosen
  chosen-pin r c t = and_left (is_pin J r c) (eqb (J.mark r c) 1) t

  missing-pin : (r c : ℕ) → T (is_missing J r c) → T (is_pin J r c)
  unfolding is_missing
  missing-pin r c t = and_left (is_pin J r c) (eqb (J.mark r c) 2) t

  -- no pin is both
  pub missing-or-chosen : (r c : ℕ) → T (is_missing J r c) → T (is_chosen J r c) → ⊥
  unfolding is_chosen is_missing
  missing-or-chosen r c t u =
      omega (
        arith,
        eqb→eq (J.mark r c) 2 (and_right (is_pin J r c) (eqb (J.mark r c) 2) t),
        eqb→eq (J.mark r c) 1 (and_right (is_pin J r c) (eqb (J.mark r c) 1) u),
      )

  -- the cell lies in the array
  abbrev InArray : ℕ → ℕ → Type 0
  InArray r c = (r < J.rows) × (c < J.columns)

  pin-inside : (r c : ℕ) → T (is_pin J r c) → InArray r c
  pin-inside r c t =
      (ltb→lt r J.rows (and_left (ltb r J.rows) (ltb c J.columns) t), ltb→lt c J.columns (and_right (ltb r J.rows) (ltb c J.columns) t))

  tile-inside : (r c : ℕ) → T (is_tile J r c) → InArray r c
  tile-inside r c t = (
    omega (arith, ltb→lt (suc r) J.rows (and_left (ltb (suc r) J.rows) (ltb (suc c) J.columns) t)),
    omega (arith, ltb→lt (suc c) J.columns (and_right (ltb (suc r) J.rows) (ltb (suc c) J.columns) t)),
  )

  held-inside : (k : PlaceKind) (r c : ℕ) → T (holds J k r c) → InArray r c
  held-inside pin r c t = pin-inside r c (chosen-pin r c t)
  held-inside missing r c t = pin-inside r c (missing-pin r c t)
  held-inside centre r c t = tile-inside r c (open-tile r c t)
  held-inside PlaceKind.outside r c t = absurd t
  held-inside nowhere r c t = absurd t
  held-inside (side d) r c t = tile-inside r c (open-tile r c t)

  -- ---- spots by kind and cell

  -- the cell has a place whose spot is of kind k
  abbrev has : ℕ → ℕ → ℕ → Bool
  has zero r c = is_missing J r c
  has (suc zero) r c = is_missing J r c || is_chosen J r c
  has (suc (suc k)) r c = is_open J r c

  record At (u : ℕ) : Type 0 where
    kind : ℕ
    row : ℕ
    column : ℕ
    kind< : kind < 8
    inside : InArray row column
    same : u ≡ spot kind row column
    held : T (has kind row column)

  entry_at : (k : PlaceKind) (r c : ℕ) → T (holds J k r c) → At (entry_of k r c)
  unfolding entry_of
  entry_at pin r c t =
      record { kind = 1; row = r; column = c; kind< = lit< tt; inside = held-inside pin r c t; same = refl; held = or_right (is_missing J r c) _ t }
  entry_at missing r c t = record { kind = 0; row = r; column = c; kind< = lit< tt; inside = held-inside missing r c t; same = refl; held = t }
  entry_at centre r c t = record { kind = 6; row = r; column = c; kind< = lit< tt; inside = held-inside centre r c t; same = refl; held = t }
  entry_at PlaceKind.outside r c t = absurd t
  entry_at nowhere r c t = absurd t
  entry_at (side north) r c t = record { kind = 2; row = r; column = c; kind< = lit< tt; inside = held-inside (side north) r c t; same = refl; held = t }
  entry_at (side east) r c t = record { kind = 3; row = r; column = c; kind< = lit< tt; inside = held-inside (side east) r c t; same = refl; held = t }
  entry_at (side south) r c t = record { kind = 4; row = r; column = c; kind< = lit< tt; inside = held-inside (side south) r c t; same = refl; held = t }
  entry_at (side west) r c t = record { kind = 5; row = r; column = c; kind< = lit< tt; inside = held-inside (side west) r c t; same = refl; held = t }

  exit-at : (k : PlaceKind) (r c : ℕ) → T (holds J k r c) → At (exit_of k r c)
  unfolding exit_of entry_of
  exit-at pin r c t = entry_at pin r c t
  exit-at missing r c t =
      record { kind = 1; row = r; column = c; kind< = lit< tt; inside = held-inside missing r c t; same = refl; held = or_left (is_missing J r c) _ t }
  exit-at centre r c t = record { kind = 7; row = r; column = c; kind< = lit< tt; inside = held-inside centre r c t; same = refl; held = t }
  exit-at PlaceKind.outside r c t = absurd t
  exit-at nowhere r c t = absurd t
  exit-at (side d) r c t = entry_at (side d) r c t

  spot-at : (u : ℕ) → IsSpot J u → At u
  spot-at u (x, t, inl e) = subst At (sym e) (entry_at x.kind x.row x.column t)
  spot-at u (x, t, inr e) = subst At (sym e) (exit-at x.kind x.row x.column t)

  -- none of them is below 328
  pub spot-front : (u : ℕ) → IsSpot J u → 328 ≤ u
  spot-front u s = omega (arith, (spot-at u s).same)

  -- ---- sums over the places, cell by cell

  abbrev cell_total : (Place → ℕ) → ℕ → ℕ → ℕ
  cell_total f r c = total (places_at r c) (λ x. when (is_place J x) (f x))

  total-places : (f : Place → ℕ) → total (places J) f ≡ sum J.rows (λ r. sum J.columns (λ c. cell_total f r c))
  unfolding places
  total-places f =
      total-each J.rows _ f
      ∙ sum-cong J.rows _ _
      (λ r l. total-each J.columns _ f ∙ sum-cong J.columns _ _ (λ c m. total-those (is_place J) (places_at r c) f))

  -- only the terms at places count
  pub places-cong : (f g : Place → ℕ) → ((x : Place) → T (is_place J x) → f x ≡ g x) → total (places J) f ≡ total (places J) g
  places-cong f g h =
      total-places f
      ∙ sum-cong J.rows _ _
      (λ r l. sum-cong J.columns _ _ (λ c m. total-cong (places_at r c) _ _ (λ x. when-cong (is_place J x) (f x) (g x) (h x))))
      ∙ sym (total-places g)

  cell-none : (f : Place → ℕ) (r c : ℕ) → (InArray r c → ⊥) → cell_total f r c ≡ 0
  unfolding total
  cell-none f r c away =
      omega (arith, off missing, off pin, off (side north), off (side east), off (side south), off (side west), off centre)
    where
      off : (k : PlaceKind) → when (holds J k r c) (f (at k r c)) ≡ 0
      off k = when-none (holds J k r c) (f (at k r c)) (λ t. absurd (away (held-inside k r c t)))

  module _ (fits : T (array_fits J.rows J.columns)) where
    rows≤ : J.rows ≤ 40
    rows≤ = leb→le _ _ (and_right (leb 2 J.rows) (leb J.rows 40) (and_left (in_range 2 40 J.rows) (in_range 2 40 J.columns) fits))

    columns≤ : J.columns ≤ 40
    columns≤ = leb→le _ _ (and_right (leb 2 J.columns) (leb J.columns 40) (and_right (in_range 2 40 J.rows) (in_range 2 40 J.columns) fits))

    pub held-grid : (k : PlaceKind) (r c : ℕ) → T (holds J k r c) → (r < 40) × (c < 40)
    held-grid k r c t = let (a, b) = held-inside k r c t in (omega (arith, rows≤), omega (arith, columns≤))

    grid-places : (f : Place → ℕ) → total (places J) f ≡ sum 40 (λ r. sum 40 (λ c. cell_total f r c))
    grid-places f =
        total-places f
        ∙ sum-cong J.rows _ _ (λ r l. sym (sum-widen J.columns 40 (λ c. cell_total f r c) columns≤ (λ c a b. cell-none f r c (λ i. omega (arith, i.1)))))
        ∙ sym (sum-widen J.rows 40 (λ r. sum 40 (λ c. cell_total f r c)) rows≤
        (λ r a b. sum-none 40 (λ c. cell_total f r c) (λ c m. cell-none f r c (λ i. omega (arith, i.0)))))

    -- ---- what is not outside

    open_at : (k r c : ℕ) → 1 < k → T (has k r c) → T (is_open J r c)
    open_at zero r c l t = absurd (omega arith)
    open_at (suc zero) r c l t = absurd (omega arith)
    open_at (suc (suc k)) r c l t = t

    pub spot-inside : (u : ℕ) → IsSpot J u → T (outside J u) → ⊥
    unfolding outside
    spot-inside u s = or-by (ltb 1 (u % 8) && (ltb (u % 8) 6 && not on_tile)) (eqb (u % 8) 0 && not on_missing) from-side from-entry
      where
        on_tile : Bool
        on_tile = in_grid (u / 8) && is_tile J (row_of (u / 8)) (column_of (u / 8))

        on_missing : Bool
        on_missing = in_grid (u / 8) && is_missing J (row_of (u / 8)) (column_of (u / 8))

        k : At u
        k = spot-at u s

        e : u / 8 ≡ 41 + 40 * k.row + k.column
        e = omega (arith, k.same, k.kind<)

        c : k.column < 40
        c = omega (arith, columns≤, k.inside)

        r : k.row < 40
        r = omega (arith, rows≤, k.inside)

        held-zero : (n : ℕ) → n ≡ 0 → T (has n k.row k.column) → T (is_missing J k.row k.column)
        held-zero zero q t = t
        held-zero (suc n) q t = absurd (omega arith)

        from-entry : T (eqb (u % 8) 0 && not on_missing) → ⊥
        from-entry t =
            let z : u % 8 ≡ 0 = eqb→eq (u % 8) 0 (and_left (eqb (u % 8) 0) (not on_missing) t) in
            let m : T (is_missing J (row_of (u / 8)) (column_of (u / 8))) =
            rw (cell_row (u / 8) k.row k.column e c, cell-column (u / 8) k.row k.column e c)
            (held-zero k.kind (omega (arith, k.same, k.kind<)) k.held) in
            and-not on_missing
            (and_both on_missing (not on_missing) (and_both (in_grid (u / 8)) _ (cell-grid (u / 8) k.row k.column e c r) m)
            (and_right (eqb (u % 8) 0) (not on_missing) t))

        from-side : T (ltb 1 (u % 8) && (ltb (u % 8) 6 && not on_tile)) → ⊥
        from-side t =
            let rest = ltb (u % 8) 6 && not on_tile in
            let a : 1 < u % 8 = ltb→lt 1 (u % 8) (and_left (ltb 1 (u % 8)) rest t) in
            let o : T (is_open J k.row k.column) = open_at k.kind k.row k.column (omega (arith, k.same, k.kind<)) k.held in
            let tile : T (is_tile J (row_of (u / 8)) (column_of (u / 8))) =
            rw (cell_row (u / 8) k.row k.column e c, cell-column (u / 8) k.row k.column e c) (open-tile k.row k.column o) in
            and-not on_tile
            (and_both on_tile (not on_tile) (and_both (in_grid (u / 8)) _ (cell-grid (u / 8) k.row k.column e c r) tile)
            (and_right (ltb (u % 8) 6) (not on_tile) (and_right (ltb 1 (u % 8)) rest t)))

    -- ---- sums over the spots

    module _ (W : ℕ → ℕ) (only : (u : ℕ) → u < spots → 0 < W u → IsSpot J u) where
      -- what counts at a place
      abbrev counted : Place → ℕ
      counted x = W (exit x) + when (counts_twice x.kind) (W (entry x))

      spot-has : (k r c : ℕ) → k < 8 → r < 40 → c < 40 → 0 < W (spot k r c) → T (has k r c)
      unfolding spots
      spot-has k r c a b e p =
          by (spot-at (spot k r c) (only (spot k r c) (omega arith) p))
        where
          by : At (spot k r c) → T (has k r c)
          by x =
              let (f, g, h) = spot-same k r c x.kind x.row x.column a x.kind< e (omega (arith, columns≤, x.inside)) x.same in
              rw (f, g, h) x.held

      cell-sum : (r c : ℕ) → r < 40 → c < 40 → sum 8 (λ k. W (spot k r c)) ≡ cell_total counted r c
      unfolding sum total entry_of exit_of counts_twice
      cell-sum r c a b =
          omega (
            arith,
            when-full (is_missing J r c) (W (spot 0 r c)) (spot-has 0 r c (lit< tt) a b),
            either-full (is_missing J r c) (is_chosen J r c) (W (spot 1 r c)) (missing-or-chosen r c) (spot-has 1 r c (lit< tt) a b),
            tile 0 (lit< tt),
            tile 1 (lit< tt),
            tile 2 (lit< tt),
            tile 3 (lit< tt),
            tile 4 (lit< tt),
            tile 5 (lit< tt),
            ap (when (is_chosen J r c)) (add-zero (W (spot 1 r c))),
            once 2,
            once 3,
            once 4,
            once 5,
            when-add (is_missing J r c) (W (spot 1 r c)) (W (spot 0 r c)),
            when-add (is_open J r c) (W (spot 7 r c)) (W (spot 6 r c)),
          )
        where
          once : (k : ℕ) → when (is_open J r c) (W (spot k r c) + 0) ≡ when (is_open J r c) (W (spot k r c))
          once k = ap (when (is_open J r c)) (add-zero (W (spot k r c)))

          tile : (k : ℕ) → suc (suc k) < 8 → when (is_open J r c) (W (spot (suc (suc k)) r c)) ≡ W (spot (suc (suc k)) r c)
          tile k l = when-full (is_open J r c) (W (spot (suc (suc k)) r c)) (spot-has (suc (suc k)) r c l a b)

      pub sum-spots : sum spots W ≡ total (places J) counted
      unfolding spots
      sum-spots =
          sum_rows 1641 8 W
          ∙ sum-append 41 1600 cell_sum
          ∙ (ap (λ (x : ℕ). x + sum 1600 (λ i. cell_sum (41 + i))) (sum-none 41 cell_sum front) ∙ omega arith)
          ∙ sum_rows 40 40 (λ i. cell_sum (41 + i))
          ∙ sum-cong 40 _ _ (λ r a. sum-cong 40 _ _ (λ c b. sum-cong 8 _ _ (λ k l. ap W (omega arith)) ∙ cell-sum r c a b))
          ∙ sym (grid-places counted)
        where
          cell_sum : ℕ → ℕ
          cell_sum x = sum 8 (λ k. W (x * 8 + k))

          none-at : (u : ℕ) → u < 328 → (W u ≡ 0) ⊎ (0 < W u) → W u ≡ 0
          none-at u l (inl e) = e
          none-at u l (inr p) = absurd (omega (arith, spot-front u (only u (omega arith) p)))

          front : (x : ℕ) → x < 41 → cell_sum x ≡ 0
          front x l = sum-none 8 (λ k. W (x * 8 + k)) (λ k m. none-at (x * 8 + k) (omega arith) (eq-zero-or-pos (W (x * 8 + k))))
