-- The other way round: the side loads and leg marks of a legal record make a sheet that the tiles carry, for the record's own loads fit it inside every tile.
-- Assumes nothing.
use Rattle.std.specs.Prelude.{◌≡◌, ◌&&◌, ◌||◌, List, ◌≢◌, ◌⊎◌, eqb, length, get_or}
use Rattle.std.proofs.Math.Path.{refl, sym, ap, subst}
use Rattle.std.proofs.Common.{ap₂, ◌∙◌, inl, inr, ⊎_elim, lt→ltb, eq-eqb}
use Rattle.std.proofs.Math.Bool.{Bool, true, false, not}
use Prim.Native.Nat.{ℕ, zero, suc, ◌+◌, ◌*◌, ◌/◌, ◌%◌, ◌≤◌, ◌<◌}
use native.Mathlib.Omega.{arith}
use Rattle.std.proofs.Math.Dec.{T, T_not, not_T, leb, ltb, leb→le, le→leb, ltb→lt, eqb→eq}
use Rattle.sums.specs.Counting.{when, those, total}
use Rattle.sums.specs.Tests.{every, below_or, and_left, and_right, and_both, so}
use Rattle.model.specs.Job.{Job, in_range, north_limit, west_limit, has_north, has_west, on_rim, is_tile, is_open, is_closed, is_chosen, is_missing}
use Rattle.model.specs.Links.{Compass, north, east, south, west, PlaceKind, pin, missing, centre, outside, nowhere, side, Place, at, the_outside, place_code, holds, straight_out, limit_of, is_place, is_entered, beside, pin_at, LinkKind, north_side, west_side, direct, leg, Step, go, come, turn, head, tail, behind_of, ahead_of, may}
use Rattle.model.specs.Loads.{arrivals, departures, Feasible}
use Rattle.model.specs.Record.{job_of, load, load_plane, offset, cell, forth_part, back_part, Legal}
use Rattle.model.specs.Sheet.{inner_steps, outer_steps, Inside, sheet_size, sheet_cell, leg_plane, sheet_load, everywhere, sheet_job, load_within, sides_within, is_inward, none_inward, leads_in, marks_within, marks_of, is_marked, sheet_cell_fits, sheet_fits, brings, takes, Carried, sheet_planes, sheet_from}
use Rattle.model.specs.Wires.{is_wired}
use Rattle.model.proofs.RecordOf.{length-bytes, byte_at}
use Rattle.sheets.specs.Bytes.{everywhere-at, everywhere-all}
use Rattle.sheets.specs.Tests.{or_left, or_right}

-- ---- the bytes

-- a byte of the sheet is the record's
sheet-cell : (rec : List ℕ) (p r c : ℕ) → p < 6 → sheet_cell (sheet_from rec) p r c ≡ cell rec (get_or sheet_planes p 0) r c
unfolding sheet_cell cell sheet_from
sheet-cell rec p r c l = by (ltb r 40) (ltb c 40) (ltb→lt r 40) (ltb→lt c 40) refl refl
  where
    by : (a b : Bool) → (T a → r < 40) → (T b → c < 40) → ltb r 40 ≡ a → ltb c 40 ≡ b
        → when (a && b) (get_or (sheet_from rec) (1600 * p + 40 * r + c) 0) ≡ when (a && b) (get_or rec (offset (get_or sheet_planes p 0) r c) 0)
    by true true f g q h =
        let lr = f tt in
        let lc = g tt in
        let i : ℕ = 1600 * p + 40 * r + c in
        let ep : i / 1600 ≡ p = omega arith in
        let er : i % 1600 / 40 ≡ r = omega arith in
        let ec : i % 40 ≡ c = omega arith in
        byte_at 9600 i (λ j. cell rec (get_or sheet_planes (j / 1600) 0) (j % 1600 / 40) (j % 40)) (omega arith)
        ∙ (λ k. cell rec (get_or sheet_planes (ep k) 0) (er k) (ec k))
        ∙ ap₂ (λ (a b : Bool). when (a && b) (get_or rec (offset (get_or sheet_planes p 0) r c) 0)) q h
    by true false f g q h = refl
    by false b f g q h = refl

module _ (rec : List ℕ) (g : Legal rec) where
  abbrev J : Job
  J = job_of rec

  abbrev f : Step → ℕ
  f = load rec

  feasible : Feasible J f
  feasible = g.sound.feasible

  -- a step that may not be taken has no load
  unloaded : (s : Step) → (T (may J s) → ⊥) → f s ≡ 0
  unloaded s n = by (may J (turn s)) refl
    where
      by : (b : Bool) → may J (turn s) ≡ b → f s ≡ 0
      by true e = feasible.against s (not_T (may J s) n) (subst T (sym e) tt)
      by false e = feasible.nowhere s (not_T (may J s) n) (subst (λ (x : Bool). T (not x)) (sym e) tt)

  north-load : (r c : ℕ) → (sheet_load (sheet_from rec) (go north_side r c) ≡ f (go north_side r c)) × (sheet_load (sheet_from rec) (come north_side r c) ≡ f (come north_side r c))
  unfolding sheet_load load
  north-load r c = (ap (λ (b : ℕ). forth_part b) (sheet-cell rec 0 r c (omega arith)), ap (λ (b : ℕ). back_part b) (sheet-cell rec 0 r c (omega arith)))

  west-load : (r c : ℕ) → (sheet_load (sheet_from rec) (go west_side r c) ≡ f (go west_side r c)) × (sheet_load (sheet_from rec) (come west_side r c) ≡ f (come west_side r c))
  unfolding sheet_load load
  west-load r c = (ap (λ (b : ℕ). forth_part b) (sheet-cell rec 1 r c (omega arith)), ap (λ (b : ℕ). back_part b) (sheet-cell rec 1 r c (omega arith)))

  module _ (job : T (sheet_job J)) where
    none-missing : (r c : ℕ) → T (is_missing J r c) → ⊥
    unfolding is_missing
    none-missing r c t =
        let p = and_left (ltb r J.rows && ltb c J.columns) (eqb (J.mark r c) 2) t in
        let a = g.values.array in
        let mr = leb→le J.rows 40 (and_right (leb 2 J.rows) (leb J.rows 40) (and_left (in_range 2 40 J.rows) (in_range 2 40 J.columns) a)) in
        let mc = leb→le J.columns 40 (and_right (leb 2 J.columns) (leb J.columns 40) (and_right (in_range 2 40 J.rows) (in_range 2 40 J.columns) a)) in
        let lr = ltb→lt r J.rows (and_left (ltb r J.rows) (ltb c J.columns) p) in
        let lc = ltb→lt c J.columns (and_right (ltb r J.rows) (ltb c J.columns) p) in
        T_not (is_missing J r c)
        (everywhere-at (λ r c. not (is_missing J r c)) (and_right (eqb J.O 2) (everywhere (λ r c. not (is_missing J r c))) job) r c (omega arith) (omega arith))
        t

    -- no wire comes to a pin
    leg-back : (d : Compass) (r c : ℕ) → f (come (leg d) r c) ≡ 0
    unfolding may head behind_of
    leg-back d r c = unloaded (come (leg d) r c) (λ t. by (eqb (J.mark r c) 2) (and_right (is_place J (tail J (come (leg d) r c))) (is_entered J (pin_at J r c)) t))
      where
        by : (b : Bool) → T (is_entered J (elim b as (λ x. Place) [ true ↦ at missing r c | false ↦ at pin r c ])) → ⊥
        by true u = none-missing r c u
        by false u = u

    leg-plane : (d : Compass) → (leg_plane d < 6) × (get_or sheet_planes (leg_plane d) 0 ≡ load_plane (leg d))
    leg-plane north = (omega arith, refl)
    leg-plane east = (omega arith, refl)
    leg-plane south = (omega arith, refl)
    leg-plane west = (omega arith, refl)

    mark-byte : (b : ℕ) → b < 64 → b ≢ 32 → back_part b ≡ 0 → b ≡ forth_part b
    mark-byte b l n e = omega arith

    leg-load : (d : Compass) (r c : ℕ) → sheet_load (sheet_from rec) (go (leg d) r c) ≡ f (go (leg d) r c)
    unfolding sheet_load load
    leg-load d r c =
        let p = leg-plane d in
        let v = g.values.loads (leg d) r c in
        sheet-cell rec (leg_plane d) r c p.0
        ∙ ap (λ (x : ℕ). cell rec x r c) p.1
        ∙ mark-byte (cell rec (load_plane (leg d)) r c) v.0 v.1 (leg-back d r c)

    leg-none : (d : Compass) (r c : ℕ) → sheet_load (sheet_from rec) (come (leg d) r c) ≡ f (come (leg d) r c)
    unfolding sheet_load
    leg-none d r c = sym (leg-back d r c)

    -- what the sheet brings and takes is what the record's loads do
    brings-is : (r c : ℕ) (d : Compass) → brings (sheet_from rec) r c d ≡ total (outer_steps (at (side d) r c)) (λ s. f (turn s))
    unfolding outer_steps those total
    brings-is r c north = omega (arith, (north-load r c).1, leg-load east r c)
    brings-is r c east = omega (arith, (west-load r (suc c)).1, leg-load south r (suc c))
    brings-is r c south = omega (arith, (north-load (suc r) c).0, leg-load west (suc r) (suc c))
    brings-is r c west = omega (arith, (west-load r c).0, leg-load north (suc r) c)

    takes-is : (r c : ℕ) (d : Compass) → takes (sheet_from rec) r c d ≡ total (outer_steps (at (side d) r c)) f
    unfolding outer_steps those total
    takes-is r c north = omega (arith, (north-load r c).0, leg-none east r c)
    takes-is r c east = omega (arith, (west-load r (suc c)).0, leg-none south r (suc c))
    takes-is r c south = omega (arith, (north-load (suc r) c).1, leg-none west (suc r) (suc c))
    takes-is r c west = omega (arith, (west-load r c).1, leg-none north (suc r) c)

    -- ---- an open tile

    link-one-way : (k : LinkKind) (r c : ℕ) → (f (go k r c) ≡ 0) ⊎ (f (come k r c) ≡ 0)
    link-one-way k r c = ⊎_elim (λ lt. inr (feasible.one_way (go k r c) lt)) (λ le. inl (omega arith)) (below_or 0 (f (go k r c)))

    side-even : (r c : ℕ) → T (is_open J r c) → (d : Compass)
        → total (outer_steps (at (side d) r c)) (λ s. f (turn s)) + total (inner_steps (at (side d) r c)) (λ s. f (turn s))
        ≡ total (outer_steps (at (side d) r c)) f + total (inner_steps (at (side d) r c)) f
    unfolding inner_steps outer_steps those total arrivals departures
    side-even r c o north = omega (arith, feasible.balance (at (side north) r c) o o)
    side-even r c o east = omega (arith, feasible.balance (at (side east) r c) o o)
    side-even r c o south = omega (arith, feasible.balance (at (side south) r c) o o)
    side-even r c o west = omega (arith, feasible.balance (at (side west) r c) o o)

    open-inside : (r c : ℕ) → T (is_open J r c) → Inside J r c f (brings (sheet_from rec) r c) (takes (sheet_from rec) r c)
    open-inside r c o =
        record {
          one_way = λ k t. link-one-way k r c;
          limits = λ k m t h. feasible.limits (go k r c) m h;
          passing = λ m h. feasible.passing (at centre r c) m o h;
          centred = feasible.balance (at centre r c) o o;
          sides = λ d. omega (arith, side-even r c o d, brings-is r c d, takes-is r c d);
        }

    -- ---- a closed tile

    not-open : (r c : ℕ) → T (is_closed J r c) → T (is_open J r c) → ⊥
    unfolding is_open is_closed
    not-open r c u o =
        omega (
          arith,
          eqb→eq (J.state r c) 0 (and_right (is_tile J r c) (eqb (J.state r c) 0) o),
          eqb→eq (J.state r c) 1 (and_right (is_tile J r c) (eqb (J.state r c) 1) u),
        )

    closed-nothing : (r c : ℕ) → T (is_closed J r c) → (d : Compass) (s : Step) → (tail J s ≡ at (side d) r c) ⊎ (head J s ≡ at (side d) r c) → f s ≡ 0
    unfolding may
    closed-nothing r c u d s (inl e) =
        unloaded s (λ t. not-open r c u (subst (λ (x : Place). T (is_place J x)) e (and_left (is_place J (tail J s)) (is_entered J (head J s)) t)))
    closed-nothing r c u d s (inr e) =
        unloaded s (λ t. not-open r c u (subst (λ (x : Place). T (is_entered J x)) e (and_right (is_place J (tail J s)) (is_entered J (head J s)) t)))

    module _ (r c : ℕ) (u : T (is_closed J r c)) where
      both-none : (d : Compass) (s : Step) → tail J s ≡ at (side d) r c → (f s ≡ 0) × (f (turn s) ≡ 0)
      both-none d s e = (closed-nothing r c u d s (inl e), closed-nothing r c u d (turn s) (inr e))

      tile-there : T (is_tile J r c)
      unfolding is_closed
      tile-there = and_left (is_tile J r c) (eqb (J.state r c) 1) u

      beside-here : (d : Compass) → beside J d r c ≡ at (side d) r c
      beside-here d = by (is_tile J r c) tile-there
        where
          by : (b : Bool) → T b → elim b as (λ x. Place) [ true ↦ at (side d) r c | false ↦ the_outside ] ≡ at (side d) r c
          by true t = refl
          by false t = absurd t

      closed-even : (d : Compass) → brings (sheet_from rec) r c d + takes (sheet_from rec) r c d ≡ 0
      unfolding outer_steps those total head behind_of ahead_of
      closed-even north =
          omega (
            arith,
            brings-is r c north,
            takes-is r c north,
            both-none north (go north_side r c) (beside-here north),
            both-none north (come (leg east) r c) refl,
          )
      closed-even east =
          omega (
            arith,
            brings-is r c east,
            takes-is r c east,
            both-none east (go west_side r (suc c)) refl,
            both-none east (come (leg south) r (suc c)) refl,
          )
      closed-even south =
          omega (
            arith,
            brings-is r c south,
            takes-is r c south,
            both-none south (come north_side (suc r) c) refl,
            both-none south (come (leg west) (suc r) (suc c)) refl,
          )
      closed-even west =
          omega (
            arith,
            brings-is r c west,
            takes-is r c west,
            both-none west (come west_side r c) (beside-here west),
            both-none west (come (leg north) (suc r) c) refl,
          )

    -- ---- every tile

    pub record-carried : Carried J (sheet_from rec)
    record-carried = (f, λ r c t. record { opened = open-inside r c; shut = λ u d. closed-even r c u d })

    -- ---- and the sheet is not turned away

    -- where there is no side there is no load
    place-tile : (d : Compass) (r c : ℕ) → T (is_place J (beside J d r c)) → T (is_tile J r c)
    place-tile d r c = by (is_tile J r c)
      where
        by : (b : Bool) → T (is_place J (elim b as (λ x. Place) [ true ↦ at (side d) r c | false ↦ the_outside ])) → T b
        by true t = tt
        by false t = absurd t

    open-tile : (r c : ℕ) → T (is_open J r c) → T (is_tile J r c)
    unfolding is_open
    open-tile r c t = and_left (is_tile J r c) (eqb (J.state r c) 0) t

    tile-north : (r c : ℕ) → T (is_tile J r c) → T (has_north J r c)
    tile-north r c t =
        and_both (ltb r J.rows) (ltb (suc c) J.columns)
        (lt→ltb r J.rows (omega (arith, ltb→lt (suc r) J.rows (and_left (ltb (suc r) J.rows) (ltb (suc c) J.columns) t))))
        (and_right (ltb (suc r) J.rows) (ltb (suc c) J.columns) t)

    tile-west : (r c : ℕ) → T (is_tile J r c) → T (has_west J r c)
    tile-west r c t =
        and_both (ltb (suc r) J.rows) (ltb c J.columns) (and_left (ltb (suc r) J.rows) (ltb (suc c) J.columns) t)
        (lt→ltb c J.columns (omega (arith, ltb→lt (suc c) J.columns (and_right (ltb (suc r) J.rows) (ltb (suc c) J.columns) t))))

    goes-north : (r c : ℕ) → T (may J (go north_side r c)) → T (has_north J r c)
    unfolding may head behind_of
    goes-north r c t = tile-north r c (place-tile north r c (and_left (is_place J (tail J (go north_side r c))) (is_entered J (head J (go north_side r c))) t))

    comes-north : (r c : ℕ) → T (may J (come north_side r c)) → T (has_north J r c)
    unfolding may head ahead_of
    comes-north zero c t = absurd t
    comes-north (suc r) c t = open-tile r c (and_left (is_open J r c) (is_entered J (head J (come north_side (suc r) c))) t)

    goes-west : (r c : ℕ) → T (may J (go west_side r c)) → T (has_west J r c)
    unfolding may head behind_of
    goes-west r zero t = absurd t
    goes-west r (suc c) t = open-tile r c (and_left (is_open J r c) (is_entered J (head J (go west_side r (suc c)))) t)

    comes-west : (r c : ℕ) → T (may J (come west_side r c)) → T (has_west J r c)
    unfolding may head ahead_of
    comes-west r c t = tile-west r c (place-tile west r c (and_left (is_place J (tail J (come west_side r c))) (is_entered J (head J (come west_side r c))) t))

    -- a load byte whose wires each way are a and b
    within : (most x a b : ℕ) → x < 64 → x ≢ 32 → forth_part x ≡ a → back_part x ≡ b → a + b ≤ most → T (load_within most x)
    within most x a b l n p q h =
        and_both (ltb x 64) (not (eqb x 32) && leb (forth_part x + back_part x) most) (lt→ltb x 64 l)
        (and_both (not (eqb x 32)) (leb (forth_part x + back_part x) most) (not_T (eqb x 32) (λ u. n (eqb→eq x 32 u)))
        (le→leb (forth_part x + back_part x) most (omega arith)))

    few-when : (b : Bool) (m x y : ℕ) → (T b → x + y ≤ m) → ((T b → ⊥) → x ≡ 0) → ((T b → ⊥) → y ≡ 0) → x + y ≤ when b m
    few-when true m x y p q s = p tt
    few-when false m x y p q s = omega (arith, q (λ t. t), s (λ t. t))

    north-within : (r c : ℕ) → T (load_within (when (has_north J r c) (north_limit J r c)) (sheet_cell (sheet_from rec) 0 r c))
    unfolding load limit_of
    north-within r c =
        let v = g.values.loads north_side r c in
        subst (λ (x : ℕ). T (load_within (when (has_north J r c) (north_limit J r c)) x)) (sym (sheet-cell rec 0 r c (omega arith)))
        (within (when (has_north J r c) (north_limit J r c)) (cell rec 2 r c) (f (go north_side r c)) (f (come north_side r c)) v.0 v.1 refl refl
        (few-when (has_north J r c) (north_limit J r c) (f (go north_side r c)) (f (come north_side r c))
        (λ t. feasible.limits (go north_side r c) (north_limit J r c) refl)
        (λ n. unloaded (go north_side r c) (λ t. n (goes-north r c t)))
        (λ n. unloaded (come north_side r c) (λ t. n (comes-north r c t)))))

    west-within : (r c : ℕ) → T (load_within (when (has_west J r c) (west_limit J r c)) (sheet_cell (sheet_from rec) 1 r c))
    unfolding load limit_of
    west-within r c =
        let v = g.values.loads west_side r c in
        subst (λ (x : ℕ). T (load_within (when (has_west J r c) (west_limit J r c)) x)) (sym (sheet-cell rec 1 r c (omega arith)))
        (within (when (has_west J r c) (west_limit J r c)) (cell rec 3 r c) (f (go west_side r c)) (f (come west_side r c)) v.0 v.1 refl refl
        (few-when (has_west J r c) (west_limit J r c) (f (go west_side r c)) (f (come west_side r c))
        (λ t. feasible.limits (go west_side r c) (west_limit J r c) refl)
        (λ n. unloaded (go west_side r c) (λ t. n (goes-west r c t)))
        (λ n. unloaded (come west_side r c) (λ t. n (comes-west r c t)))))

    -- the outside is never left
    outside-none : (x : Place) → T (eqb (place_code x.kind) (place_code outside)) → T (is_place J x) → ⊥
    outside-none x = by x.kind
      where
        by : (k : PlaceKind) → T (eqb (place_code k) (place_code outside)) → T (holds J k x.row x.column) → ⊥
        by pin t u = t
        by missing t u = t
        by centre t u = t
        by outside t u = u
        by nowhere t u = t
        by (side north) t u = t
        by (side east) t u = t
        by (side south) t u = t
        by (side west) t u = t

    not-inward : (s : Step) → sheet_load (sheet_from rec) s ≡ f s → T (not (is_inward J (sheet_from rec) s))
    unfolding may
    not-inward s e =
        not_T (is_inward J (sheet_from rec) s)
        (λ t.
        let o = and_left (eqb (place_code (tail J s).kind) (place_code outside)) (ltb 0 (sheet_load (sheet_from rec) s)) t in
        let l = ltb→lt 0 (sheet_load (sheet_from rec) s) (and_right (eqb (place_code (tail J s).kind) (place_code outside)) (ltb 0 (sheet_load (sheet_from rec) s)) t) in
        let z = unloaded s (λ m. outside-none (tail J s) o (and_left (is_place J (tail J s)) (is_entered J (head J s)) m)) in
        omega arith)

    none-inward : (r c : ℕ) → T (none_inward J (sheet_from rec) r c)
    unfolding every
    none-inward r c =
        and_both (not (is_inward J (sheet_from rec) (go north_side r c)))
        (not (is_inward J (sheet_from rec) (come north_side r c)) && (not (is_inward J (sheet_from rec) (go west_side r c)) && (not (is_inward J (sheet_from rec) (come west_side r c)) && true)))
        (not-inward (go north_side r c) (north-load r c).0)
        (and_both (not (is_inward J (sheet_from rec) (come north_side r c)))
        (not (is_inward J (sheet_from rec) (go west_side r c)) && (not (is_inward J (sheet_from rec) (come west_side r c)) && true))
        (not-inward (come north_side r c) (north-load r c).1)
        (and_both (not (is_inward J (sheet_from rec) (go west_side r c))) (not (is_inward J (sheet_from rec) (come west_side r c)) && true)
        (not-inward (go west_side r c) (west-load r c).0)
        (and_both (not (is_inward J (sheet_from rec) (come west_side r c))) true (not-inward (come west_side r c) (west-load r c).1) tt)))

    -- a loaded leg starts at a chosen pin and leads into a tile
    leg-chosen : (d : Compass) (r c : ℕ) → T (may J (go (leg d) r c)) → T (is_chosen J r c)
    unfolding may head behind_of
    leg-chosen d r c t = by (eqb (J.mark r c) 2) (and_left (is_place J (tail J (go (leg d) r c))) (is_entered J (head J (go (leg d) r c))) t)
      where
        by : (b : Bool) → T (is_place J (elim b as (λ x. Place) [ true ↦ at missing r c | false ↦ at pin r c ])) → T (is_chosen J r c)
        by true u = absurd (none-missing r c u)
        by false u = u

    leg-leads : (d : Compass) (r c : ℕ) → T (is_entered J (ahead_of J (leg d) r c)) → T (leads_in J d r c)
    unfolding ahead_of
    leg-leads north zero c t = absurd t
    leg-leads north (suc r) c t = open-tile r c t
    leg-leads east r c t = open-tile r c t
    leg-leads south r zero t = absurd t
    leg-leads south r (suc c) t = open-tile r c t
    leg-leads west zero c t = absurd t
    leg-leads west (suc r) zero t = absurd t
    leg-leads west (suc r) (suc c) t = open-tile r c t

    leg-may : (d : Compass) (r c : ℕ) → T (may J (go (leg d) r c)) → T (is_chosen J r c && leads_in J d r c)
    unfolding may head
    leg-may d r c t =
        and_both (is_chosen J r c) (leads_in J d r c) (leg-chosen d r c t)
        (leg-leads d r c (and_right (is_place J (tail J (go (leg d) r c))) (is_entered J (head J (go (leg d) r c))) t))

    leg-one : (d : Compass) (r c : ℕ) → T (is_chosen J r c) → f (go (leg d) r c) ≤ 1
    unfolding departures total
    leg-one north r c t = omega (arith, feasible.starts r c t)
    leg-one east r c t = omega (arith, feasible.starts r c t)
    leg-one south r c t = omega (arith, feasible.starts r c t)
    leg-one west r c t = omega (arith, feasible.starts r c t)

    mark-within : (d : Compass) (r c : ℕ) → T (leb (sheet_cell (sheet_from rec) (leg_plane d) r c) (when (is_chosen J r c && leads_in J d r c) 1))
    unfolding sheet_load
    mark-within d r c =
        le→leb (sheet_cell (sheet_from rec) (leg_plane d) r c) (when (is_chosen J r c && leads_in J d r c) 1)
        (omega (
          arith,
          leg-load d r c,
          few-when (is_chosen J r c && leads_in J d r c) 1 (f (go (leg d) r c)) 0
              (λ t. omega (arith, leg-one d r c (and_left (is_chosen J r c) (leads_in J d r c) t)))
              (λ n. unloaded (go (leg d) r c) (λ t. n (leg-may d r c t))) (λ n. refl),
        ))

    marks-within : (r c : ℕ) → T (marks_within J (sheet_from rec) r c)
    unfolding every
    marks-within r c =
        and_both (test north) (test east && (test south && (test west && true))) (mark-within north r c)
        (and_both (test east) (test south && (test west && true)) (mark-within east r c)
        (and_both (test south) (test west && true) (mark-within south r c) (and_both (test west) true (mark-within west r c) tt)))
      where
        test : Compass → Bool
        test d = leb (sheet_cell (sheet_from rec) (leg_plane d) r c) (when (is_chosen J r c && leads_in J d r c) 1)

    -- a pin that leaves directly is on the rim
    direct-rim : (r c : ℕ) → T (may J (go direct r c)) → T (on_rim J r c)
    unfolding may head ahead_of
    direct-rim r c t = by (is_chosen J r c) (on_rim J r c) (and_right (is_place J (tail J (go direct r c))) (is_entered J (straight_out J r c)) t)
      where
        by : (a b : Bool) → T (is_entered J (elim (a && b) as (λ x. Place) [ true ↦ the_outside | false ↦ at nowhere 0 0 ])) → T b
        by true true u = tt
        by true false u = absurd u
        by false b u = absurd u

    direct-none : (r c : ℕ) → sheet_load (sheet_from rec) (go direct r c) ≡ 0
    unfolding sheet_load
    direct-none r c = refl

    marks-all : (r c : ℕ) → marks_of (sheet_from rec) r c + f (go direct r c) ≡ departures f (at pin r c)
    unfolding departures total
    marks-all r c = omega (arith, leg-load north r c, leg-load east r c, leg-load south r c, leg-load west r c, direct-none r c)

    module _ (wired : (r c : ℕ) → T (is_chosen J r c) → T (is_wired J f r c)) where
      one-start : (r c : ℕ) → T (is_chosen J r c) → departures f (at pin r c) ≡ 1
      unfolding is_wired
      one-start r c t =
          omega (arith, feasible.starts r c t, ltb→lt 0 (departures f (at pin r c)) (and_right (is_chosen J r c) (ltb 0 (departures f (at pin r c))) (wired r c t)))

      is-marked : (r c : ℕ) → T (is_marked J (sheet_from rec) r c)
      is-marked r c = by (is_chosen J r c) (one-start r c)
        where
          m : ℕ
          m = marks_of (sheet_from rec) r c

          by : (a : Bool) → (T a → departures f (at pin r c) ≡ 1) → T (not a || (eqb m 1 || (on_rim J r c && eqb m 0)))
          by false h = tt
          by true h = ⊎_elim (λ l. or_right (eqb m 1) (on_rim J r c && eqb m 0) (and_both (on_rim J r c) (eqb m 0) (rim l) (so (eq-eqb m 0 (omega (arith, h tt, marks-all r c))))))
              (λ l. or_left (eqb m 1) (on_rim J r c && eqb m 0) (so (eq-eqb m 1 (omega (arith, h tt, marks-all r c))))) (below_or 0 (f (go direct r c)))
            where
              rim : 0 < f (go direct r c) → T (on_rim J r c)
              rim l = by_may (may J (go direct r c)) refl
                where
                  by_may : (b : Bool) → may J (go direct r c) ≡ b → T (on_rim J r c)
                  by_may true e = direct-rim r c (so e)
                  by_may false e = absurd (omega (arith, unloaded (go direct r c) (λ t. subst T e t)))

      sheet-size : length (sheet_from rec) ≡ sheet_size
      unfolding sheet_from
      sheet-size = length-bytes 9600 (λ i. cell rec (get_or sheet_planes (i / 1600) 0) (i % 1600 / 40) (i % 40))

      pub record-fits : T (sheet_fits J (sheet_from rec))
      record-fits =
          and_both (eqb (length (sheet_from rec)) sheet_size) (everywhere (sheet_cell_fits J (sheet_from rec))) (so (eq-eqb (length (sheet_from rec)) sheet_size sheet-size))
          (everywhere-all (sheet_cell_fits J (sheet_from rec))
          (λ r c.
          and_both (sides_within J (sheet_from rec) r c && none_inward J (sheet_from rec) r c) (marks_within J (sheet_from rec) r c && is_marked J (sheet_from rec) r c)
          (and_both (sides_within J (sheet_from rec) r c) (none_inward J (sheet_from rec) r c)
          (and_both (load_within (when (has_north J r c) (north_limit J r c)) (sheet_cell (sheet_from rec) 0 r c)) (load_within (when (has_west J r c) (west_limit J r c)) (sheet_cell (sheet_from rec) 1 r c))
          (north-within r c) (west-within r c)) (none-inward r c))
          (and_both (marks_within J (sheet_from rec) r c) (is_marked J (sheet_from rec) r c) (marks-within r c) (is-marked r c))))
