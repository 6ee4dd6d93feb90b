-- The spots of places: which kind each has, that the slots of a place's exit are the steps around it, so that what goes along these steps is a sum over the
-- slots, and that a place is not outside. Assumes nothing.
use Rattle.std.specs.Prelude.{◌≡◌, refl, ◌≢◌, Bool, not, ◌&&◌, ◌||◌, ℕ, suc, ◌+◌, ◌*◌, ◌/◌, ◌%◌, ◌≤◌, ◌<◌, eqb, ltb, length}
use Rattle.std.proofs.Common.{sym, ◌∙◌, ltb→lt}
use Rattle.std.proofs.Math.Path.{ap, subst}
use Rattle.std.proofs.Math.Bool.{true, false}
use native.Mathlib.Omega.{arith}
use Rattle.std.proofs.Math.Dec.{T, eqb→eq, T_not, not_T}
use Rattle.sums.specs.Counting.{sum, total}
use Rattle.sums.specs.Tests.{Same, same, other, same?, and_left, and_right, and_both, or-by}
use Rattle.sums.specs.Sums.{when-none}
use Rattle.sums.specs.Totals.{sum-entries}
use Rattle.sums.specs.Entries.{entry-there}
use Rattle.model.specs.Job.{Job, in_range, array_fits, is_pin, is_tile, is_open, is_chosen, is_missing, on_rim}
use Rattle.model.specs.Links.{Compass, north, east, south, west, compass_code, pin, missing, nowhere, side, Place, at, the_outside, is_place, leg, spoke, direct, pin_at, straight_out, behind_of, ahead_of, Step, go, come, head, is_entered, may, around_of, around}
use Rattle.model.specs.Near.{spot, exit_of, exit}
use Rattle.model.proofs.RecordOf.{range-most}
use Rattle.channel.specs.Map.{darts, in_grid, row_of, column_of, owner_cell, owner_of, owners, step_of, is_link_dart, is_start, want, outside}
use Rattle.channel.specs.Map.Darts.{cell_row, cell-column, cell-grid, grid-cell, in_step, out_step}
use Rattle.channel.specs.Map.Steps.{slot_step}

-- ---- kinds

pub compass< : (d : Compass) → compass_code d < 4
compass< north = omega arith
compass< east = omega arith
compass< south = omega arith
compass< west = omega arith

pub five : (d : Compass) (r c : ℕ) → length (around_of (side d) r c) ≡ 5
five north r c = refl
five east r c = refl
five south r c = refl
five west r c = refl

pub side-kind : (d : Compass) (r c : ℕ) → exit (at (side d) r c) % 8 ≡ 2 + compass_code d
unfolding exit_of
side-kind d r c = omega (arith, compass< d)

pub side-cell : (d : Compass) (r c : ℕ) → exit (at (side d) r c) / 8 ≡ 41 + 40 * r + c
unfolding exit_of
side-cell d r c = omega (arith, compass< d)

-- ---- pins

module _ (J : Job) where
  pub missing-chosen : (r c : ℕ) → T (is_missing J r c) → T (is_chosen J r c) → ⊥
  unfolding is_missing is_chosen
  missing-chosen r c t h =
      omega (
        arith,
        eqb→eq (J.mark r c) 1 (and_right (is_pin J r c) (eqb (J.mark r c) 1) h),
        eqb→eq (J.mark r c) 2 (and_right (is_pin J r c) (eqb (J.mark r c) 2) t),
      )

  -- what is behind a leg, a pin or a missing pin
  pub pin-by : (P : Place → Type 0) (r c : ℕ) → (J.mark r c ≡ 2 → P (at missing r c)) → (J.mark r c ≢ 2 → P (at pin r c)) → P (pin_at J r c)
  pin-by P r c f h = by (eqb (J.mark r c) 2) (same? (J.mark r c) 2)
    where
      by : (b : Bool) → Same (J.mark r c) 2 b → P (elim b [ true ↦ at missing r c | false ↦ at pin r c ])
      by true (same e) = f e
      by false (other n) = h n

  -- a pin that is not missing is never entered
  pub leg-shut : (d : Compass) (r c : ℕ) → T (not (is_missing J r c)) → T (not (may J (come (leg d) r c)))
  unfolding may head behind_of
  leg-shut d r c n =
      not_T (is_place J (ahead_of J (leg d) r c) && is_entered J (pin_at J r c))
      (λ m. pin-by (λ x. T (is_entered J x) → ⊥) r c (λ e. T_not (is_missing J r c) n) (λ e t. t)
      (and_right (is_place J (ahead_of J (leg d) r c)) (is_entered J (pin_at J r c)) m))

  -- nothing comes straight in
  pub straight-shut : (r c : ℕ) → T (not (may J (come direct r c)))
  unfolding may head behind_of ahead_of
  straight-shut r c = by (is_chosen J r c && on_rim J r c)
    where
      by : (b : Bool) → T (not (is_place J (elim b [ true ↦ the_outside | false ↦ at nowhere 0 0 ]) && is_entered J (at pin r c)))
      by true = tt
      by false = tt

  -- and nothing goes straight out of a pin that is not chosen
  pub chosen-shut : (r c : ℕ) → (T (is_chosen J r c) → ⊥) → T (not (may J (go direct r c)))
  unfolding may head behind_of ahead_of
  chosen-shut r c n = not_T (is_chosen J r c && is_entered J (straight_out J r c)) (λ m. n (and_left (is_chosen J r c) (is_entered J (straight_out J r c)) m))

  -- nor is a centre that is not there
  pub spoke-shut : (d : Compass) (r c : ℕ) → T (not (is_open J r c)) → T (not (may J (come (spoke d) r c)))
  unfolding may head behind_of
  spoke-shut d r c n =
      not_T (is_place J (ahead_of J (spoke d) r c) && is_open J r c)
      (λ m. T_not (is_open J r c) n (and_right (is_place J (ahead_of J (spoke d) r c)) (is_open J r c) m))

-- ---- cells

module _ (J : Job) (fits : T (array_fits J.rows J.columns)) where
  rows≤ : J.rows ≤ 40
  rows≤ = range-most 2 40 J.rows (and_left (in_range 2 40 J.rows) (in_range 2 40 J.columns) fits)

  columns≤ : J.columns ≤ 40
  columns≤ = range-most 2 40 J.columns (and_right (in_range 2 40 J.rows) (in_range 2 40 J.columns) fits)

  pub pin-cell : (r c : ℕ) → T (is_pin J r c) → (r < 40) × (c < 40)
  pin-cell r c t = (
    omega (arith, rows≤, ltb→lt r J.rows (and_left (ltb r J.rows) (ltb c J.columns) t)),
    omega (arith, columns≤, ltb→lt c J.columns (and_right (ltb r J.rows) (ltb c J.columns) t)),
  )

  pub tile-cell : (r c : ℕ) → T (is_tile J r c) → (r < 40) × (c < 40)
  tile-cell r c t = (
    omega (arith, rows≤, ltb→lt (suc r) J.rows (and_left (ltb (suc r) J.rows) (ltb (suc c) J.columns) t)),
    omega (arith, columns≤, ltb→lt (suc c) J.columns (and_right (ltb (suc r) J.rows) (ltb (suc c) J.columns) t)),
  )

  pub chosen-cell : (r c : ℕ) → T (is_chosen J r c) → (r < 40) × (c < 40)
  unfolding is_chosen
  chosen-cell r c t = pin-cell r c (and_left (is_pin J r c) (eqb (J.mark r c) 1) t)

  pub missing-cell : (r c : ℕ) → T (is_missing J r c) → (r < 40) × (c < 40)
  unfolding is_missing
  missing-cell r c t = pin-cell r c (and_left (is_pin J r c) (eqb (J.mark r c) 2) t)

  pub open-tile : (r c : ℕ) → T (is_open J r c) → T (is_tile J r c)
  unfolding is_open
  open-tile r c t = and_left (is_tile J r c) (eqb (J.state r c) 0) t

  -- ---- not outside

  abbrev tiled : ℕ → Bool
  tiled u = in_grid (u / 8) && is_tile J (row_of (u / 8)) (column_of (u / 8))

  abbrev struck : ℕ → Bool
  struck u = in_grid (u / 8) && is_missing J (row_of (u / 8)) (column_of (u / 8))

  abbrev at_side : ℕ → Bool
  at_side u = ltb 1 (u % 8) && (ltb (u % 8) 6 && not (tiled u))

  abbrev at_entry : ℕ → Bool
  at_entry u = eqb (u % 8) 0 && not (struck u)

  inside-by : (u : ℕ) → (T (at_side u) → ⊥) → (T (at_entry u) → ⊥) → T (not (outside J u))
  unfolding outside
  inside-by u f g = not_T (at_side u || at_entry u) (or-by (at_side u) (at_entry u) f g)

  pub kind-inside : (u : ℕ) → (1 < u % 8 → u % 8 < 6 → ⊥) → (u % 8 ≢ 0) → T (not (outside J u))
  kind-inside u n z =
      inside-by u
      (λ o. n (ltb→lt 1 (u % 8) (and_left (ltb 1 (u % 8)) (ltb (u % 8) 6 && not (tiled u)) o))
      (ltb→lt (u % 8) 6 (and_left (ltb (u % 8) 6) (not (tiled u)) (and_right (ltb 1 (u % 8)) (ltb (u % 8) 6 && not (tiled u)) o))))
      (λ o. z (eqb→eq (u % 8) 0 (and_left (eqb (u % 8) 0) (not (struck u)) o)))

  -- the entry of a missing pin
  pub entry-inside : (r c : ℕ) → T (is_missing J r c) → T (not (outside J (spot 0 r c)))
  entry-inside r c t =
      inside-by (spot 0 r c) (λ o. omega (arith, ltb→lt 1 (spot 0 r c % 8) (and_left (ltb 1 (spot 0 r c % 8)) _ o)))
      (λ o. T_not (struck (spot 0 r c)) (and_right (eqb (spot 0 r c % 8) 0) (not (struck (spot 0 r c))) o) held)
    where
      b : c < 40
      b = (missing-cell r c t).1

      e : spot 0 r c / 8 ≡ 41 + 40 * r + c
      e = omega arith

      held : T (struck (spot 0 r c))
      held =
          and_both (in_grid (spot 0 r c / 8)) _ (cell-grid (spot 0 r c / 8) r c e b (missing-cell r c t).0)
          (rw (cell_row (spot 0 r c / 8) r c e b, cell-column (spot 0 r c / 8) r c e b) t)

  pub tile-inside : (u r c : ℕ) → u / 8 ≡ 41 + 40 * r + c → T (is_tile J r c) → u % 8 ≢ 0 → T (not (outside J u))
  tile-inside u r c e t z =
      inside-by u
      (λ o. T_not (tiled u) (and_right (ltb (u % 8) 6) (not (tiled u)) (and_right (ltb 1 (u % 8)) (ltb (u % 8) 6 && not (tiled u)) o)) inside)
      (λ o. z (eqb→eq (u % 8) 0 (and_left (eqb (u % 8) 0) (not (struck u)) o)))
    where
      inside : T (tiled u)
      inside =
          let (a, b) = tile-cell r c t in
          and_both (in_grid (u / 8)) (is_tile J (row_of (u / 8)) (column_of (u / 8))) (cell-grid (u / 8) r c e b a)
          (rw (cell_row (u / 8) r c e b, cell-column (u / 8) r c e b) t)

  -- ---- starts

  pub want-kind : (u : ℕ) → u % 8 ≢ 1 → want J u ≡ 0
  unfolding want is_start
  want-kind u n =
      when-none (is_start J u) 1
      (λ t. absurd (n (eqb→eq (u % 8) 1 (and_left (eqb (u % 8) 1) (in_grid (u / 8) && is_chosen J (row_of (u / 8)) (column_of (u / 8))) t))))

  pub start_cell : (u : ℕ) → T (is_start J u) → T (is_chosen J (row_of (u / 8)) (column_of (u / 8))) × (exit (at pin (row_of (u / 8)) (column_of (u / 8))) ≡ u)
  unfolding is_start exit_of
  start_cell u t =
      let e : u % 8 ≡ 1 = eqb→eq (u % 8) 1 (and_left (eqb (u % 8) 1) (in_grid (u / 8) && is_chosen J (row_of (u / 8)) (column_of (u / 8))) t) in
      let v = and_right (eqb (u % 8) 1) (in_grid (u / 8) && is_chosen J (row_of (u / 8)) (column_of (u / 8))) t in (
        and_right (in_grid (u / 8)) (is_chosen J (row_of (u / 8)) (column_of (u / 8))) v,
        omega (arith, grid-cell (u / 8) (and_left (in_grid (u / 8)) (is_chosen J (row_of (u / 8)) (column_of (u / 8))) v)),
      )

  -- a missing pin is not chosen, so that nothing is wanted at it
  pub missing-want : (r c : ℕ) → T (is_missing J r c) → want J (exit (at missing r c)) ≡ 0
  unfolding want exit_of
  missing-want r c t =
      when-none (is_start J (spot 1 r c)) 1
      (λ h. absurd (chosen (subst (λ (x : ℕ). T (is_chosen J x (column_of (spot 1 r c / 8)))) row (start_cell (spot 1 r c) h).0)))
    where
      b : c < 40
      b = (missing-cell r c t).1

      e : spot 1 r c / 8 ≡ 41 + 40 * r + c
      e = omega arith

      row : row_of (spot 1 r c / 8) ≡ r
      row = cell_row (spot 1 r c / 8) r c e b

      chosen : T (is_chosen J r (column_of (spot 1 r c / 8))) → ⊥
      chosen h = missing-chosen J r c t (subst (λ (x : ℕ). T (is_chosen J r x)) (cell-column (spot 1 r c / 8) r c e b) h)

  -- ---- straight out, by the row

  pub in-shut : (d : ℕ) → d % 64 ≡ 5 → T (not (may J (step_of d)))
  in-shut d e = subst (λ (s : Step). T (not (may J s))) (sym (in_step d e)) (straight-shut J (row_of (owner_cell d)) (column_of (owner_cell d)))

  -- from a pin that is not chosen
  pub out-shut : (d r c : ℕ) → d ≡ 8 * spot 1 r c + 4 → c < 40 → (T (is_chosen J r c) → ⊥) → T (not (may J (step_of d)))
  unfolding may head behind_of ahead_of owner_cell owner_of owners
  out-shut d r c q b n =
      let i : d % 64 ≡ 12 = omega arith in
      let x : owner_cell d ≡ 41 + 40 * r + c = ap (λ (m : ℕ). d / 64 + owner_of m) i ∙ omega arith in
      subst (λ (s : Step). T (not (may J s))) (sym (out_step d i))
      (rw (cell_row (owner_cell d) r c x b, cell-column (owner_cell d) r c x b)
      (not_T (is_place J (at pin r c) && is_entered J (straight_out J r c)) (λ m. n (and_left (is_chosen J r c) (is_entered J (straight_out J r c)) m))))

  -- ---- slots

  module _ (x : Place) (t : T (is_place J x)) where
    pub slot-link : (k : ℕ) → k < length (around x) → (8 * exit x + k < darts) × T (is_link_dart (8 * exit x + k))
    slot-link k h =
        let (s, e) = entry-there (around x) k h in
        let (l, q, r) = slot_step J fits x t k s e in
        (l, q)

    pub slots-total : (f : Step → ℕ) → sum (length (around x)) (λ k. f (step_of (8 * exit x + k))) ≡ total (around x) f
    slots-total f =
        sum-entries (around x) (length (around x)) (λ k. f (step_of (8 * exit x + k))) f (omega arith)
        (λ k s e. ap f (slot_step J fits x t k s e).2) (λ k a b. absurd (omega arith))
