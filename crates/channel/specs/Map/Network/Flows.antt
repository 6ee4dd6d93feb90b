-- Loads that are feasible for a job are a flow of its network, whose starts are the wires of its chosen pins. Assumes nothing.
use Rattle.std.specs.Prelude.{◌≡◌, Bool, not, ◌&&◌, ◌||◌, List, eqb, leb, ltb}
use Rattle.std.proofs.Math.Path.{refl, ap, ap₂}
use Rattle.std.proofs.Common.{sym, ◌∙◌, leb→le, ltb→lt}
use Rattle.std.proofs.Math.Bool.{true, false}
use Prim.Native.Nat.{ℕ, zero, suc, ◌+◌, ◌*◌, ◌/◌, ◌%◌, ◌≤◌, ◌<◌}
use native.Mathlib.Omega.{arith}
use Rattle.std.proofs.Math.Dec.{T}
use Rattle.sums.specs.Counting.{when, sum}
use Rattle.sums.specs.Tests.{and_left, and_right, so, so-not, below}
use Rattle.sums.specs.Sums.{when-le, when-so, sum-cong}
use Rattle.flow.specs.Balance.{out, back}
use Rattle.flow.specs.Flow.{Flow}
use Rattle.flow.specs.Slots.{out-slots}
use Rattle.model.specs.Job.{Job, in_range, array_fits, is_tile, is_chosen, is_missing}
use Rattle.model.specs.Links.{Compass, north, east, south, west, compass_code, PlaceKind, pin, missing, centre, nowhere, side, at, holds, is_place, is_pin_kind, may, limit, pass}
use Rattle.model.specs.Near.{spot, size, exit_of, exit}
use Rattle.model.specs.Loads.{departures, arrivals, Feasible}
use Rattle.model.specs.Record.{load}
use Rattle.model.specs.Route.{chosen_count}
use Rattle.model.specs.Wires.{is_wired, wire_count}
use Rattle.model.proofs.Own.{Capped}
use Rattle.channel.specs.Map.{owners, owner_of, code_of}
use Rattle.channel.specs.Map.{spots, darts, in_grid, row_of, column_of, step_of, is_link_dart, is_pass_dart, passed_of, cap, free, want, outside, view, is_start, starts}
use Rattle.channel.specs.Map.Grid.{grid-bounds}
use Rattle.channel.specs.Map.Back.{Less, less, most, less?}
use Rattle.channel.specs.Map.Darts.{cell_row, cell-column, grid-cell}
use Rattle.channel.specs.Map.Spots.{held-grid, places-cong, missing-or-chosen}
use Rattle.channel.specs.Map.Sums.{start-at, sum-starts}
use Rattle.channel.specs.Map.Carried.{when-at-most, side-even, centre-even, pin-even, passed-le, link-le, step-apart, passed-small, step_small, straight_none, missing-straight}
use Rattle.channel.specs.Map.RowLoads.{goes, comes, view-goes, view-comes, rows_apart, link-or-pass}
use Rattle.channel.specs.Map.SpotLoads.{side-goes, side-comes, missing-entry-goes, missing-entry-comes, missing-exit-goes, missing-exit-comes, centre-entry-goes, centre-entry-comes, centre-exit-goes, centre-exit-comes, off-goes, off-comes}
use Rattle.channel.specs.Map.Network.{net}

not-not : (b : Bool) → T (not (not b)) → T b
not-not true t = tt
not-not false t = t

is_true : (b : Bool) → T b → b ≡ true
is_true true t = refl
is_true false t = absurd t

not-and : (a b : Bool) → T a → T (not (a && b)) → T (not b)
not-and true b t n = n
not-and false b t n = absurd t

when-under : (b m : Bool) (x y : ℕ) → (T b → x ≤ when m y) → when b x ≤ when (b && m) y
when-under true m x y h = h tt
when-under false m x y h = omega arith

grid-row : (x : ℕ) → T (in_grid x) → (row_of x < 40) × (column_of x < 40)
unfolding row_of column_of
grid-row x g = (omega (arith, grid-bounds x g), omega arith)

module _ (J : Job) (fits : T (array_fits J.rows J.columns)) where
  tile-in : (r c : ℕ) → T (is_tile J r c) → (suc r < 40) × (suc c < 40)
  tile-in r c t =
      let a : J.rows ≤ 40 = leb→le _ _ (and_right (leb 2 J.rows) (leb J.rows 40) (and_left (in_range 2 40 J.rows) (in_range 2 40 J.columns) fits)) in
      let b : J.columns ≤ 40 =
      leb→le _ _ (and_right (leb 2 J.columns) (leb J.columns 40) (and_right (in_range 2 40 J.rows) (in_range 2 40 J.columns) fits)) in (
        omega (arith, ltb→lt (suc r) J.rows (and_left (ltb (suc r) J.rows) (ltb (suc c) J.columns) t)),
        omega (arith, ltb→lt (suc c) J.columns (and_right (ltb (suc r) J.rows) (ltb (suc c) J.columns) t)),
      )

module _ (J : Job) (fits : T (array_fits J.rows J.columns)) (rec : List ℕ) (feasible : Feasible J (load rec)) where
  -- ---- balance

  -- a spot of kind q at the cell x sends out what comes to it, and g more
  abbrev Sends : ℕ → ℕ → ℕ → Type 0
  Sends q x g = sum 8 (λ k. goes rec (q * 8 + k) x) ≡ sum 8 (λ k. comes rec (q * 8 + k) x) + g

  -- what starts at the pin of the cell x, which is on the grid if g says so
  abbrev begun : Bool → ℕ → ℕ
  begun g x = when (g && is_chosen J (row_of x) (column_of x)) (departures (load rec) (at pin (row_of x) (column_of x)))

  off-sends : (q x : ℕ) → T (below 8 (λ k. eqb (owner_of (q * 8 + k)) 0)) → in_grid x ≡ false → Sends q x 0
  off-sends q x o e = omega (arith, off-goes x (so-not e) rec q o, off-comes x (so-not e) rec q o)

  -- a spot whose links its own cell owns: it is enough to look at cells on the grid
  owned-sends : (q x : ℕ) → T (below 8 (λ k. eqb (owner_of (q * 8 + k)) 0))
      → (x ≡ 41 + 40 * row_of x + column_of x → row_of x < 40 → column_of x < 40 → Sends q x 0) → Sends q x 0
  owned-sends q x o h = by (in_grid x) refl
    where
      by : (b : Bool) → in_grid x ≡ b → Sends q x 0
      by true e = let (r, c) = grid-row x (so e) in h (grid-cell x (so e)) r c
      by false e = off-sends q x o e

  -- the cell has a missing pin
  abbrev on_missing : ℕ → Bool
  on_missing x = in_grid x && is_missing J (row_of x) (column_of x)

  missing-entry-sends : (x : ℕ) → T (on_missing x) → Sends 0 x 0
  unfolding below owner_of owners
  missing-entry-sends x t =
      owned-sends 0 x tt (λ e a b.
      omega (
        arith,
        missing-entry-goes rec x _ _ e a b,
        missing-entry-comes rec x _ _ e a b,
        straight_none feasible (row_of x) (column_of x),
        missing-straight feasible (row_of x) (column_of x)
            (missing-or-chosen J (row_of x) (column_of x) (and_right (in_grid x) (is_missing J (row_of x) (column_of x)) t)),
      ))

  centre-entry-sends : (x : ℕ) → Sends 6 x 0
  unfolding below owner_of owners
  centre-entry-sends x =
      owned-sends 6 x tt (λ e a b. omega (arith, centre-entry-goes rec x _ _ e a b, centre-entry-comes rec x _ _ e a b))

  centre-exit-sends : (x : ℕ) → Sends 7 x 0
  unfolding below owner_of owners
  centre-exit-sends x =
      owned-sends 7 x tt
      (λ e a b. omega (arith, centre-exit-goes rec x _ _ e a b, centre-exit-comes rec x _ _ e a b, centre-even feasible (row_of x) (column_of x)))

  exit-sends : (x : ℕ) → Sends 1 x (begun (in_grid x) x)
  unfolding below owner_of owners departures
  exit-sends x = by (in_grid x) refl
    where
      by : (b : Bool) → in_grid x ≡ b → Sends 1 x (begun b x)
      by true g =
          let (a, b) = grid-row x (so g) in
          let e = grid-cell x (so g) in
          omega (arith, missing-exit-goes rec x _ _ e a b, missing-exit-comes rec x _ _ e a b, straight_none feasible (row_of x) (column_of x), pin-even feasible (row_of x) (column_of x))
      by false g = off-sends 1 x tt g

  -- the cell is a tile
  abbrev on_tile : ℕ → Bool
  on_tile x = in_grid x && is_tile J (row_of x) (column_of x)

  side-sends : (d : Compass) (x : ℕ) → T (not (not (on_tile x))) → Sends (2 + compass_code d) x 0
  side-sends d x n =
      let t : T (on_tile x) = not-not (on_tile x) n in
      let g : T (in_grid x) = and_left (in_grid x) (is_tile J (row_of x) (column_of x)) t in
      let u : T (is_tile J (row_of x) (column_of x)) = and_right (in_grid x) (is_tile J (row_of x) (column_of x)) t in
      let (a, b) = tile-in J fits (row_of x) (column_of x) u in
      omega (
        arith,
        side-goes rec x (row_of x) (column_of x) (grid-cell x g) a b d,
        side-comes rec x (row_of x) (column_of x) (grid-cell x g) a b d,
        side-even feasible d (row_of x) (column_of x) (is_true (is_tile J (row_of x) (column_of x)) u),
      )

  not-or : (a b : Bool) → T (not (a || b)) → T (not a)
  not-or true b t = t
  not-or false b t = tt

  sends : (q x : ℕ) → q < 8 → T (not ((ltb 1 q && (ltb q 6 && not (on_tile x))) || (eqb q 0 && not (on_missing x))))
      → Sends q x (when (eqb q 1 && (in_grid x && is_chosen J (row_of x) (column_of x))) (departures (load rec) (at pin (row_of x) (column_of x))))
  sends zero x l t = missing-entry-sends x (not-not (on_missing x) t)
  sends (suc zero) x l t = exit-sends x
  sends (suc (suc zero)) x l t = side-sends north x (not-or (not (on_tile x)) false t)
  sends (suc (suc (suc zero))) x l t = side-sends east x (not-or (not (on_tile x)) false t)
  sends (suc (suc (suc (suc zero)))) x l t = side-sends south x (not-or (not (on_tile x)) false t)
  sends (suc (suc (suc (suc (suc zero))))) x l t = side-sends west x (not-or (not (on_tile x)) false t)
  sends (suc (suc (suc (suc (suc (suc zero)))))) x l t = centre-entry-sends x
  sends (suc (suc (suc (suc (suc (suc (suc zero))))))) x l t = centre-exit-sends x
  sends (suc (suc (suc (suc (suc (suc (suc (suc q)))))))) x l t = absurd (beyond l)
    where
      beyond : ¬ (suc (suc (suc (suc (suc (suc (suc (suc q))))))) < 8)
      beyond = omega arith

  -- dart by dart
  slot_row : (u k : ℕ) → k < 8 → (u * 8 + k) % 64 ≡ u % 8 * 8 + k
  slot_row u k l = omega arith

  slot-cell : (u k : ℕ) → k < 8 → (u * 8 + k) / 64 ≡ u / 8
  slot-cell u k l = omega arith

  out-view : (u : ℕ) → u < spots → out (net J) (view rec) u ≡ sum 8 (λ k. goes rec (u % 8 * 8 + k) (u / 8))
  unfolding net darts spots
  out-view u l =
      out-slots (net J) 8 refl (λ d. refl) (view rec) u l
      ∙ sum-cong 8 _ _ (λ k h. view-goes rec (u * 8 + k) ∙ ap₂ (goes rec) (slot_row u k h) (slot-cell u k h))

  out-back : (u : ℕ) → u < spots → out (net J) (back (net J) (view rec)) u ≡ sum 8 (λ k. comes rec (u % 8 * 8 + k) (u / 8))
  unfolding net darts spots
  out-back u l =
      out-slots (net J) 8 refl (λ d. refl) (back (net J) (view rec)) u l
      ∙ sum-cong 8 _ _ (λ k h. view-comes (u * 8 + k) (omega arith) rec ∙ ap₂ (comes rec) (slot_row u k h) (slot-cell u k h))

  -- ---- limits

  within : (d : ℕ) → T (not (free J d)) → view rec d ≤ cap J d
  unfolding view cap free passed_of
  within d t =
      omega (
        arith,
        when-under (is_link_dart d) (may J (step_of d)) (load rec (step_of d)) (size (limit J (step_of d).link))
            (λ u. link-le feasible (step_of d) (limit J (step_of d).link) refl (not-and (is_link_dart d) _ u t)),
        when-under (is_pass_dart d) (is_place J (passed_of d)) (arrivals (load rec) (passed_of d)) (size (pass J (passed_of d)))
            (λ u. passed-le feasible (eqb (code_of (d % 64)) 5) (row_of (d / 64)) (column_of (d / 64))),
      )

  pub feasible-flow : Flow (net J) (view rec) (starts J rec)
  unfolding net cap free want starts is_start outside
  feasible-flow =
      record {
        load = record {
          within = λ d l t. within d t;
          wanted = λ u l. when-le (is_start J u) _ 1 (λ t. feasible.starts (row_of (u / 8)) (column_of (u / 8)) (chosen u t));
          balanced = λ u l t. out-view u l ∙ (sends (u % 8) (u / 8) (omega arith) t ∙ ap (λ (z : ℕ). z + starts J rec u) (sym (out-back u l)));
        };
        apart = λ d l. rw (view-goes rec d, view-comes d l rec) (rows_apart rec (step-apart feasible) (d % 64) (d / 64) (omega arith));
      }
    where
      chosen : (u : ℕ) → T (is_start J u) → T (is_chosen J (row_of (u / 8)) (column_of (u / 8)))
      chosen u t =
          let pinned = is_chosen J (row_of (u / 8)) (column_of (u / 8)) in
          and_right (in_grid (u / 8)) pinned (and_right (eqb (u % 8) 1) (in_grid (u / 8) && pinned) t)

  -- no more starts at a spot than is wanted there
  pub starts-wanted : (u : ℕ) → u < spots → starts J rec u ≤ want J u
  unfolding net
  starts-wanted = feasible-flow.load.wanted

  -- what leaves a chosen pin
  wired-one : (r c : ℕ) → T (is_chosen J r c) → departures (load rec) (at pin r c) ≡ when (is_wired J (load rec) r c) 1
  unfolding is_wired
  wired-one r c t = by (is_chosen J r c) t (feasible.starts r c t)
    where
      one : (n : ℕ) (b : Bool) → Less 0 n b → n ≤ 1 → n ≡ when b 1
      one n true (less p) l = omega arith
      one n false (most p) l = omega arith

      by : (b : Bool) → T b → departures (load rec) (at pin r c) ≤ 1
          → departures (load rec) (at pin r c) ≡ when (b && ltb 0 (departures (load rec) (at pin r c))) 1
      by true u l = one (departures (load rec) (at pin r c)) (ltb 0 (departures (load rec) (at pin r c))) (less? 0 (departures (load rec) (at pin r c))) l
      by false u l = absurd u

  spot-wired : (r c : ℕ) → T (is_chosen J r c)
      → departures (load rec) (at pin (row_of (spot 1 r c / 8)) (column_of (spot 1 r c / 8))) ≡ when (is_wired J (load rec) r c) 1
  spot-wired r c t =
      let b : c < 40 = (held-grid J fits pin r c t).1 in
      let e : spot 1 r c / 8 ≡ 41 + 40 * r + c = omega arith in
      rw (cell_row (spot 1 r c / 8) r c e b, cell-column (spot 1 r c / 8) r c e b) (wired-one r c t)

  -- a chosen pin starts one wire if it is wired, and none if not
  pub pin-starts : (r c : ℕ) → T (is_chosen J r c) → starts J rec (exit (at pin r c)) ≡ when (is_wired J (load rec) r c) 1
  unfolding exit_of starts
  pin-starts r c t =
      let (a, b) = held-grid J fits pin r c t in
      when-so (is_start J (spot 1 r c)) _ (rw (start-at J fits r c a b) t) ∙ spot-wired r c t

  pub starts-count : sum spots (starts J rec) ≡ wire_count J (load rec)
  unfolding starts wire_count exit_of
  starts-count = sum-starts J fits begins ∙ places-cong J _ _ (λ x t. by x.kind x.row x.column t)
    where
      begins : ℕ → ℕ
      begins u = departures (load rec) (at pin (row_of (u / 8)) (column_of (u / 8)))

      by : (k : PlaceKind) (r c : ℕ) → T (holds J k r c)
          → when (is_pin_kind (at k r c)) (begins (exit_of k r c)) ≡ when (is_pin_kind (at k r c) && is_wired J (load rec) r c) 1
      by pin r c t = spot-wired r c t
      by missing r c t = refl
      by centre r c t = refl
      by PlaceKind.outside r c t = refl
      by nowhere r c t = refl
      by (side north) r c t = refl
      by (side east) r c t = refl
      by (side south) r c t = refl
      by (side west) r c t = refl

  -- no dart carries more than 16
  pub view-small : Capped J → (d : ℕ) → d < darts → view rec d ≤ 16
  unfolding view passed_of
  view-small caps d l =
      one (is_link_dart d) (is_pass_dart d) _ _ (link-or-pass d) (step_small feasible caps (step_of d))
      (passed-small feasible caps (eqb (code_of (d % 64)) 5) (row_of (d / 64)) (column_of (d / 64)))
    where
      one : (a b : Bool) (x y : ℕ) → (T a → T b → ⊥) → x ≤ 16 → y ≤ 16 → when a x + when b y ≤ 16
      one true true x y n p q = absurd (n tt tt)
      one true false x y n p q = omega arith
      one false b x y n p q = omega (arith, when-at-most b y)

-- as many are wanted as there are chosen pins, one at each
pub want-count : (J : Job) → T (array_fits J.rows J.columns) → sum spots (want J) ≡ chosen_count J
unfolding want
want-count J fits = sum-starts J fits (λ u. 1)
