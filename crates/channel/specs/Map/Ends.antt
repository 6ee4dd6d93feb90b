-- The two ends of a dart that carries a load: it leaves from the exit of its step's tail, by the step's slot there, and leads to the entry of its
-- step's head, or to a spot of a cell that is no tile. One clause for each kind, direction and rim, by the dart's cell and row. Assumes nothing.
use Rattle.std.specs.Prelude.{◌≡◌, Bool, ◌&&◌, ◌||◌, ℕ, zero, suc, ◌+◌, ◌*◌, ◌/◌, ◌%◌, ◌≤◌, ◌<◌, eqb, ltb}
use Rattle.std.proofs.Math.Path.{refl, sym}
use Rattle.std.proofs.Common.{ap, eqb→eq, lt→ltb, lit<}
use Rattle.std.proofs.Math.Logic.{inl, inr}
use Rattle.std.proofs.Math.Bool.{true, false, not}
use Rattle.std.proofs.Math.Option.{some}
use native.Mathlib.Omega.{arith}
use Rattle.std.proofs.Math.Dec.{T, ltb→lt, not_T, T_not}
use Rattle.std.proofs.Math.ListN.{get_elem?}
use Rattle.sums.specs.Tests.{and_left, and_right, and_both, so, so-not}
use Rattle.model.specs.Job.{Job, is_pin, is_tile, is_chosen, is_missing, on_rim}
use Rattle.model.specs.Links.{Compass, north, east, south, west, compass_code, pin, missing, nowhere, side, Place, at, the_outside, is_place}
use Rattle.model.specs.Links.{LinkKind, north_side, west_side, corner, spoke, leg, direct, link, beside, pin_at, straight_out, behind_of, ahead_of}
use Rattle.model.specs.Links.{Step, head, tail, is_entered, around}
use Rattle.model.specs.Near.{spot, entry_of, exit_of, exit}
use Rattle.channel.specs.Map.{darts, in_grid, row_of, column_of, ahead, rev, outside, turns, owners, turn_of, owner_of, back_row, dart_of, seat_of, EndsAt}
use Rattle.channel.specs.Map.Grid.{grid-bounds}
use Rattle.channel.specs.Map.Back.{rev-over}
use Rattle.channel.specs.Map.Darts.{cell_row, cell-column}

abbrev step : LinkKind → Bool → ℕ → ℕ → Step
step k f r c = record { link = link k r c; forth = f }

-- ---- tails

-- the dart leaves from the place's exit, and the step is the place's at the dart's slot
pub record Leaves (d : ℕ) (s : Step) (p : Place) : Type 0 where
  pub spot : exit p ≡ d / 8
  pub slot : get_elem? (around p) (d % 8) ≡ some s

-- by the dart's cell y and its row i
leaves_by : {d : ℕ} {s : Step} {p : Place} (y i : ℕ) → (d ≡ 64 * y + i) × (i < 64) × (exit p ≡ 8 * y + i / 8) → get_elem? (around p) (i % 8) ≡ some s
    → Leaves d s p
leaves_by {d} y i e g =
    let q : d % 8 ≡ i % 8 = omega arith in
    record { spot = omega arith; slot = rw q g }

-- from a side: where no tile is, no step leaves
side-leaves : {d : ℕ} {s : Step} {p : Place} (J : Job) (b : Bool) → T (is_place J (elim b [ true ↦ p | false ↦ the_outside ])) → Leaves d s p
    → Leaves d s (elim b [ true ↦ p | false ↦ the_outside ])
side-leaves J true t x = x
side-leaves J false t x = absurd t

-- from a pin, missing or chosen
pin-leaves : {d : ℕ} {s : Step} {p q : Place} (b : Bool) → Leaves d s p → Leaves d s q → Leaves d s (elim b [ true ↦ p | false ↦ q ])
pin-leaves true x y = x
pin-leaves false x y = y

-- nothing leaves what lies straight out
no-out : (J : Job) (r c : ℕ) → T (is_place J (straight_out J r c)) → ⊥
no-out J r c = by (is_chosen J r c && on_rim J r c)
  where
    by : (t : Bool) → T (is_place J (elim t [ true ↦ the_outside | false ↦ at nowhere 0 0 ])) → ⊥
    by true t = t
    by false t = t

pub leaves : (J : Job) (k : LinkKind) (f : Bool) (r c : ℕ) → T (is_place J (tail J (step k f r c)))
    → Leaves (dart_of (step k f r c)) (step k f r c) (tail J (step k f r c))
unfolding head behind_of ahead_of exit_of dart_of seat_of owner_of owners
leaves J north_side true r c t = side-leaves J (is_tile J r c) t (leaves_by (41 + 40 * r + c) 16 (omega arith) refl)
leaves J north_side false zero c t = absurd t
leaves J north_side false (suc r) c t = leaves_by (41 + 40 * r + c) 32 (omega arith) refl
leaves J west_side true r zero t = absurd t
leaves J west_side true r (suc c) t = leaves_by (41 + 40 * r + c) 24 (omega arith) refl
leaves J west_side false r c t = side-leaves J (is_tile J r c) t (leaves_by (41 + 40 * r + c) 40 (omega arith) refl)
leaves J (corner north) true r c t = leaves_by (41 + 40 * r + c) 17 (omega arith) refl
leaves J (corner north) false r c t = leaves_by (41 + 40 * r + c) 27 (omega arith) refl
leaves J (corner east) true r c t = leaves_by (41 + 40 * r + c) 25 (omega arith) refl
leaves J (corner east) false r c t = leaves_by (41 + 40 * r + c) 35 (omega arith) refl
leaves J (corner south) true r c t = leaves_by (41 + 40 * r + c) 33 (omega arith) refl
leaves J (corner south) false r c t = leaves_by (41 + 40 * r + c) 43 (omega arith) refl
leaves J (corner west) true r c t = leaves_by (41 + 40 * r + c) 41 (omega arith) refl
leaves J (corner west) false r c t = leaves_by (41 + 40 * r + c) 19 (omega arith) refl
leaves J (spoke north) true r c t = leaves_by (41 + 40 * r + c) 56 (omega arith) refl
leaves J (spoke north) false r c t = leaves_by (41 + 40 * r + c) 18 (omega arith) refl
leaves J (spoke east) true r c t = leaves_by (41 + 40 * r + c) 57 (omega arith) refl
leaves J (spoke east) false r c t = leaves_by (41 + 40 * r + c) 26 (omega arith) refl
leaves J (spoke south) true r c t = leaves_by (41 + 40 * r + c) 58 (omega arith) refl
leaves J (spoke south) false r c t = leaves_by (41 + 40 * r + c) 34 (omega arith) refl
leaves J (spoke west) true r c t = leaves_by (41 + 40 * r + c) 59 (omega arith) refl
leaves J (spoke west) false r c t = leaves_by (41 + 40 * r + c) 42 (omega arith) refl
leaves J (leg north) true r c t =
    pin-leaves (eqb (J.mark r c) 2) (leaves_by (41 + 40 * r + c) 8 (omega arith) refl) (leaves_by (41 + 40 * r + c) 8 (omega arith) refl)
leaves J (leg east) true r c t =
    pin-leaves (eqb (J.mark r c) 2) (leaves_by (41 + 40 * r + c) 9 (omega arith) refl) (leaves_by (41 + 40 * r + c) 9 (omega arith) refl)
leaves J (leg south) true r c t =
    pin-leaves (eqb (J.mark r c) 2) (leaves_by (41 + 40 * r + c) 10 (omega arith) refl) (leaves_by (41 + 40 * r + c) 10 (omega arith) refl)
leaves J (leg west) true r c t =
    pin-leaves (eqb (J.mark r c) 2) (leaves_by (41 + 40 * r + c) 11 (omega arith) refl) (leaves_by (41 + 40 * r + c) 11 (omega arith) refl)
leaves J (leg north) false zero c t = absurd t
leaves J (leg north) false (suc r) c t = leaves_by (41 + 40 * r + c) 44 (omega arith) refl
leaves J (leg east) false r c t = leaves_by (41 + 40 * r + c) 20 (omega arith) refl
leaves J (leg south) false r zero t = absurd t
leaves J (leg south) false r (suc c) t = leaves_by (41 + 40 * r + c) 28 (omega arith) refl
leaves J (leg west) false zero c t = absurd t
leaves J (leg west) false (suc r) zero t = absurd t
leaves J (leg west) false (suc r) (suc c) t = leaves_by (41 + 40 * r + c) 36 (omega arith) refl
leaves J direct true r c t = leaves_by (41 + 40 * r + c) 12 (omega arith) refl
leaves J direct false r c t = absurd (no-out J r c t)

-- ---- heads

-- the spot that a dart at the row i leads to, in the cell z
pub rev-spot : (d i z : ℕ) → (d % 64 ≡ i) × (64 * z + back_row i + 2688 ≡ d + turn_of i) × (z < 1641) → rev d / 8 ≡ 8 * z + back_row i / 8
unfolding back_row ahead darts
rev-spot d i z (m, e, l) =
    let r : rev d ≡ 64 * z + (i + turn_of i) % 64 = rev-over d (64 * z + (i + turn_of i) % 64) (omega (arith, ap turn_of m)) (omega arith) in
    omega arith

or_left : (a b : Bool) → T a → T (a || b)
or_left true b t = tt
or_left false b t = absurd t

or_right : (a b : Bool) → T b → T (a || b)
or_right true b t = tt
or_right false b t = t

compass< : (w : Compass) → compass_code w < 4
compass< north = lit< tt
compass< east = lit< tt
compass< south = lit< tt
compass< west = lit< tt

-- no pin is missing and chosen
both : (J : Job) (r c : ℕ) → T (is_missing J r c) → T (is_chosen J r c) → ⊥
unfolding is_missing is_chosen
both J r c t u =
    omega (
      arith,
      eqb→eq (J.mark r c) 2 (and_right (is_pin J r c) (eqb (J.mark r c) 2) t),
      eqb→eq (J.mark r c) 1 (and_right (is_pin J r c) (eqb (J.mark r c) 1) u),
    )

module _ (J : Job) where
  -- a spot of a side, in a cell that is no tile
  outside-at : (u z : ℕ) (w : Compass) → u ≡ 8 * z + (2 + compass_code w) → (T (in_grid z) → T (is_tile J (row_of z) (column_of z)) → ⊥) → T (outside J u)
  unfolding outside
  outside-at u z w e n =
      let k = compass< w in
      let q : u / 8 ≡ z = omega arith in
      or_left (ltb 1 (u % 8) && (ltb (u % 8) 6 && not (in_grid (u / 8) && is_tile J (row_of (u / 8)) (column_of (u / 8))))) _
      (and_both (ltb 1 (u % 8)) (ltb (u % 8) 6 && not (in_grid (u / 8) && is_tile J (row_of (u / 8)) (column_of (u / 8)))) (lt→ltb 1 (u % 8) (omega arith))
      (and_both (ltb (u % 8) 6) (not (in_grid (u / 8) && is_tile J (row_of (u / 8)) (column_of (u / 8)))) (lt→ltb (u % 8) 6 (omega arith))
      (rw q (not_T (in_grid z && is_tile J (row_of z) (column_of z)) (λ t.
      n (and_left (in_grid z) (is_tile J (row_of z) (column_of z)) t) (and_right (in_grid z) (is_tile J (row_of z) (column_of z)) t))))))

  -- the entry of a cell without a missing pin
  outside-entry : (u z : ℕ) → u ≡ 8 * z → (T (in_grid z) → T (is_missing J (row_of z) (column_of z)) → ⊥) → T (outside J u)
  unfolding outside
  outside-entry u z e n =
      let q : u / 8 ≡ z = omega arith in
      let k : u % 8 ≡ 0 = omega arith in
      or_right (ltb 1 (u % 8) && (ltb (u % 8) 6 && not (in_grid (u / 8) && is_tile J (row_of (u / 8)) (column_of (u / 8))))) _
      (rw (k, q) (not_T (in_grid z && is_missing J (row_of z) (column_of z)) (λ t.
      n (and_left (in_grid z) (is_missing J (row_of z) (column_of z)) t) (and_right (in_grid z) (is_missing J (row_of z) (column_of z)) t))))

  -- the place beside a tile, or the outside where no tile is
  beside-arrives : (d : ℕ) (w : Compass) (r c : ℕ) → c < 40 → rev d / 8 ≡ spot (2 + compass_code w) r c → T (is_entered J (beside J w r c))
      → EndsAt J (beside J w r c) (rev d / 8)
  unfolding entry_of EndsAt
  beside-arrives d w r c b e m = by (is_tile J r c) refl m
    where
      by : (t : Bool) → is_tile J r c ≡ t → T (is_entered J (elim t [ true ↦ at (side w) r c | false ↦ the_outside ]))
          → EndsAt J (elim t [ true ↦ at (side w) r c | false ↦ the_outside ]) (rev d / 8)
      by true q m = inl (m, sym e)
      by false q m =
          inr (
            refl,
            outside-at (rev d / 8) (41 + 40 * r + c) w e (λ g t.
                T_not (is_tile J r c) (so-not q) (rw (cell_row (41 + 40 * r + c) r c refl b, cell-column (41 + 40 * r + c) r c refl b) at t)),
          )

  -- a missing pin; a chosen one is not entered
  pin-arrives : (d r c : ℕ) → rev d / 8 ≡ spot 0 r c → T (is_entered J (pin_at J r c)) → EndsAt J (pin_at J r c) (rev d / 8)
  unfolding entry_of EndsAt
  pin-arrives d r c e m = by (eqb (J.mark r c) 2) m
    where
      by : (t : Bool) → T (is_entered J (elim t [ true ↦ at missing r c | false ↦ at pin r c ]))
          → EndsAt J (elim t [ true ↦ at missing r c | false ↦ at pin r c ]) (rev d / 8)
      by true m = inl (m, sym e)
      by false m = absurd m

  -- straight out of a pin that is not missing
  out-arrives : (d r c : ℕ) → c < 40 → rev d / 8 ≡ spot 0 r c → T (is_entered J (straight_out J r c)) → EndsAt J (straight_out J r c) (rev d / 8)
  unfolding EndsAt
  out-arrives d r c b e m = by (is_chosen J r c && on_rim J r c) refl m
    where
      by : (t : Bool) → (is_chosen J r c && on_rim J r c) ≡ t → T (is_entered J (elim t [ true ↦ the_outside | false ↦ at nowhere 0 0 ]))
          → EndsAt J (elim t [ true ↦ the_outside | false ↦ at nowhere 0 0 ]) (rev d / 8)
      by true q m =
          inr (
            refl,
            outside-entry (rev d / 8) (41 + 40 * r + c) (omega arith) (λ g t.
                both J r c (rw (cell_row (41 + 40 * r + c) r c refl b, cell-column (41 + 40 * r + c) r c refl b) at t)
                (and_left (is_chosen J r c) (on_rim J r c) (so q))),
          )
      by false q m = absurd m

  -- no tile stands north of the first row, nor west of the first column
  north-rim : (z : ℕ) → z < 41 → T (in_grid z) → T (is_tile J (row_of z) (column_of z)) → ⊥
  north-rim z l g t = omega (arith, grid-bounds z g)

  west-rim : J.columns ≤ 40 → (z r : ℕ) → z ≡ 40 + 40 * r → T (in_grid z) → T (is_tile J (row_of z) (column_of z)) → ⊥
  unfolding column_of
  west-rim k z r e g t =
      let m : column_of z ≡ 39 = omega (arith, grid-bounds z g) in
      omega (arith, ltb→lt (suc (column_of z)) J.columns (and_right (ltb (suc (row_of z)) J.rows) (ltb (suc (column_of z)) J.columns) t))

pub arrives : (J : Job) → J.columns ≤ 40 → (k : LinkKind) (f : Bool) (r c : ℕ) → r < 40 → c < 40 → T (is_entered J (head J (step k f r c)))
    → EndsAt J (head J (step k f r c)) (rev (dart_of (step k f r c)) / 8)
unfolding head behind_of ahead_of entry_of dart_of seat_of owner_of owners back_row turn_of turns EndsAt
arrives J k north_side true zero c a b m = inr (refl, outside-at J _ (1 + c) south (rev-spot _ 16 (1 + c) (omega arith)) (north-rim J (1 + c) (omega arith)))
arrives J k north_side true (suc r) c a b m = inl (m, sym (rev-spot _ 16 (41 + 40 * r + c) (omega arith)))
arrives J k north_side false r c a b m = beside-arrives J _ north r c b (rev-spot _ 32 (41 + 40 * r + c) (omega arith)) m
arrives J k west_side true r c a b m = beside-arrives J _ west r c b (rev-spot _ 24 (41 + 40 * r + c) (omega arith)) m
arrives J k west_side false r zero a b m =
    inr (refl, outside-at J _ (40 + 40 * r) east (rev-spot _ 40 (40 + 40 * r) (omega arith)) (west-rim J k (40 + 40 * r) r refl))
arrives J k west_side false r (suc c) a b m = inl (m, sym (rev-spot _ 40 (41 + 40 * r + c) (omega arith)))
arrives J k (corner north) true r c a b m = inl (m, sym (rev-spot _ 17 (41 + 40 * r + c) (omega arith)))
arrives J k (corner north) false r c a b m = inl (m, sym (rev-spot _ 27 (41 + 40 * r + c) (omega arith)))
arrives J k (corner east) true r c a b m = inl (m, sym (rev-spot _ 25 (41 + 40 * r + c) (omega arith)))
arrives J k (corner east) false r c a b m = inl (m, sym (rev-spot _ 35 (41 + 40 * r + c) (omega arith)))
arrives J k (corner south) true r c a b m = inl (m, sym (rev-spot _ 33 (41 + 40 * r + c) (omega arith)))
arrives J k (corner south) false r c a b m = inl (m, sym (rev-spot _ 43 (41 + 40 * r + c) (omega arith)))
arrives J k (corner west) true r c a b m = inl (m, sym (rev-spot _ 41 (41 + 40 * r + c) (omega arith)))
arrives J k (corner west) false r c a b m = inl (m, sym (rev-spot _ 19 (41 + 40 * r + c) (omega arith)))
arrives J k (spoke north) true r c a b m = inl (m, sym (rev-spot _ 56 (41 + 40 * r + c) (omega arith)))
arrives J k (spoke north) false r c a b m = inl (m, sym (rev-spot _ 18 (41 + 40 * r + c) (omega arith)))
arrives J k (spoke east) true r c a b m = inl (m, sym (rev-spot _ 57 (41 + 40 * r + c) (omega arith)))
arrives J k (spoke east) false r c a b m = inl (m, sym (rev-spot _ 26 (41 + 40 * r + c) (omega arith)))
arrives J k (spoke south) true r c a b m = inl (m, sym (rev-spot _ 58 (41 + 40 * r + c) (omega arith)))
arrives J k (spoke south) false r c a b m = inl (m, sym (rev-spot _ 34 (41 + 40 * r + c) (omega arith)))
arrives J k (spoke west) true r c a b m = inl (m, sym (rev-spot _ 59 (41 + 40 * r + c) (omega arith)))
arrives J k (spoke west) false r c a b m = inl (m, sym (rev-spot _ 42 (41 + 40 * r + c) (omega arith)))
arrives J k (leg north) true zero c a b m = absurd m
arrives J k (leg north) true (suc r) c a b m = inl (m, sym (rev-spot _ 8 (41 + 40 * r + c) (omega arith)))
arrives J k (leg east) true r c a b m = inl (m, sym (rev-spot _ 9 (41 + 40 * r + c) (omega arith)))
arrives J k (leg south) true r zero a b m = absurd m
arrives J k (leg south) true r (suc c) a b m = inl (m, sym (rev-spot _ 10 (41 + 40 * r + c) (omega arith)))
arrives J k (leg west) true zero c a b m = absurd m
arrives J k (leg west) true (suc r) zero a b m = absurd m
arrives J k (leg west) true (suc r) (suc c) a b m = inl (m, sym (rev-spot _ 11 (41 + 40 * r + c) (omega arith)))
arrives J k (leg north) false r c a b m = pin-arrives J _ r c (rev-spot _ 44 (41 + 40 * r + c) (omega arith)) m
arrives J k (leg east) false r c a b m = pin-arrives J _ r c (rev-spot _ 20 (41 + 40 * r + c) (omega arith)) m
arrives J k (leg south) false r c a b m = pin-arrives J _ r c (rev-spot _ 28 (41 + 40 * r + c) (omega arith)) m
arrives J k (leg west) false r c a b m = pin-arrives J _ r c (rev-spot _ 36 (41 + 40 * r + c) (omega arith)) m
arrives J k direct true r c a b m = out-arrives J _ r c b (rev-spot _ 12 (41 + 40 * r + c) (omega arith)) m
arrives J k direct false r c a b m = absurd m
