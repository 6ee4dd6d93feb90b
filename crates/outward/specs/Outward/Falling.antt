-- No loop stands in loads that lead outward: every wire falls, by the rank of places. Assumes nothing.
use Rattle.std.specs.Prelude.{◌≡◌, ◌≢◌, ◌⊎◌, Bool, not, ◌&&◌, List, [], ◌∷◌, eqb, leb}
use Rattle.std.proofs.Math.Path.{refl, sym, ap, subst}
use Rattle.std.proofs.Common.{◌∙◌, ⊎_elim, leb→le}
use Rattle.std.proofs.Math.Logic.{inl, inr}
use Rattle.std.proofs.Math.Bool.{true, false}
use Prim.Native.Nat.{ℕ, zero, suc, ◌+◌, ◌-◌, ◌*◌, ◌/◌, ◌%◌, ◌≤◌, ◌<◌}
use native.Mathlib.Omega.{arith}
use borrow.Author.Tests.{lt-ltb, le-ltb, ltb-false, leb-false, eq-eqb}
use Rattle.std.proofs.Math.Dec.{T, ltb, ltb→lt}
use Rattle.std.proofs.Math.ListN.{get_or}
use Rattle.sums.specs.Tests.{and_left, and_right, so, so-not, below_or, below, below_at}
use Rattle.sums.specs.Sums.{when-so, when-some}
use Rattle.model.specs.Job.{Job, is_tile, is_chosen, on_rim}
use Rattle.model.specs.Links.{Compass, north, east, south, west, clockwise, compass_code, PlaceKind, pin, missing, centre, nowhere, side, Place, at, the_outside, is_place, LinkKind, north_side, west_side, corner, spoke, leg, direct, link, link_code, beside, pin_at, behind_of, ahead_of, Step, head, tail, may}
use Rattle.model.specs.Loads.{Trail}
use Rattle.model.specs.Record.{offset, cell, forth_part, back_part, load}
use Rattle.model.proofs.Listed.{may-leaves}
use Rattle.outward.specs.Outward.{Parts, sector, height_by, height, corner_falls, spoke_falls, inside, leads, one_wire, Outward}

-- ---- ranks

-- how far a row or a column lies from the rim that its side of the middle has, those beyond the middle higher than those before it
depth : ℕ → ℕ → ℕ
depth m x = elim (ltb x m) [ true ↦ x | false ↦ 100 - x ]

-- a tile, above its lowest place
base : Parts → ℕ → ℕ → ℕ
base P r c = 1 + 4 * (128 * depth P.row r + depth P.column c)

-- pins lie highest, and the outside lowest
rank_of : Parts → PlaceKind → ℕ → ℕ → ℕ
rank_of P pin r c = 100000
rank_of P missing r c = 100000
rank_of P centre r c = base P r c + 1
rank_of P PlaceKind.outside r c = 0
rank_of P nowhere r c = 0
rank_of P (side d) r c = base P r c + height (sector P r c) d

pub rank : Parts → Place → ℕ
rank P x = rank_of P x.kind x.row x.column

code< : (d : Compass) → compass_code d < 4
code< north = omega arith
code< east = omega arith
code< south = omega arith
code< west = omega arith

-- the heights of sides: up to 3, never that of the centre, and two sides at a corner differ
heights : (w d : Compass) → (height w d ≤ 3) × (height w d ≢ 1) × (height w (clockwise d) ≢ height w d)
unfolding height height_by below
heights w d =
    let t = below_at 4 (λ d. right (compass_code w) d) (below_at 4 (λ w. below 4 (right w)) tt (compass_code w) (code< w)) (compass_code d) (code< d) in
    let a = and_left (leb (height w d) 3) _ t in
    let b = and_right (leb (height w d) 3) _ t in (
      leb→le (height w d) 3 a,
      λ e. T_not (eqb (height w d) 1) (and_left (not (eqb (height w d) 1)) _ b) (so (eq-eqb (height w d) 1 e)),
      λ e. T_not (eqb (height_by (compass_code w) ((compass_code d + 1) % 4)) (height w d)) (and_right (not (eqb (height w d) 1)) _ b)
          (so (eq-eqb _ (height w d) (ap (height_by (compass_code w)) (sym (next d)) ∙ e))),
    )
  where
    right : ℕ → ℕ → Bool
    right w d = leb (height_by w d) 3 && (not (eqb (height_by w d) 1) && not (eqb (height_by w ((d + 1) % 4)) (height_by w d)))

    next : (d : Compass) → compass_code (clockwise d) ≡ (compass_code d + 1) % 4
    next north = refl
    next east = refl
    next south = refl
    next west = refl

    T_not : (b : Bool) → T (not b) → T b → ⊥
    T_not true n t = n
    T_not false n t = t

module _ (m x : ℕ) where
  before : x < m → depth m x ≡ x
  unfolding depth
  before l = by (ltb x m) (lt-ltb x m l)
    where
      by : (b : Bool) → b ≡ true → elim b [ true ↦ x | false ↦ 100 - x ] ≡ x
      by true e = refl
      by false e = absurd (so e)

  beyond : m ≤ x → depth m x ≡ 100 - x
  unfolding depth
  beyond l = by (ltb x m) (le-ltb x m l)
    where
      by : (b : Bool) → b ≡ false → elim b [ true ↦ x | false ↦ 100 - x ] ≡ 100 - x
      by true e = absurd (so-not e)
      by false e = refl

  depth-most : x < 40 → depth m x ≤ 100
  depth-most l = ⊎_elim (λ h. omega (arith, before h)) (λ h. omega (arith, beyond h)) (below_or x m)

-- towards the rim before the middle, and towards the other one beyond it
depth-less : (m x : ℕ) → suc x < 40 → suc x ≤ m → depth m x < depth m (suc x)
depth-less m x l h =
    ⊎_elim (λ p. omega (arith, before m x (omega arith), before m (suc x) p)) (λ p. omega (arith, before m x (omega arith), beyond m (suc x) p))
    (below_or (suc x) m)

depth-more : (m x : ℕ) → suc x < 40 → m < suc x → depth m (suc x) < depth m x
depth-more m x l h = omega (arith, beyond m x (omega arith), beyond m (suc x) (omega arith))

-- ---- the two ends of a link

module _ (P : Parts) (J : Job) where
  side-rank : (d : Compass) (r c : ℕ)
      → (rank P (at (side d) r c) ≡ 1 + 4 * (128 * depth P.row r + depth P.column c) + height (sector P r c) d) × (height (sector P r c) d ≤ 3)
  unfolding rank rank_of base
  side-rank d r c = (refl, (heights (sector P r c) d).0)

  centre-rank : (r c : ℕ) → rank P (at centre r c) ≡ 1 + 4 * (128 * depth P.row r + depth P.column c) + 1
  unfolding rank rank_of base
  centre-rank r c = refl

  outside-rank : rank P the_outside ≡ 0
  unfolding rank rank_of
  outside-rank = refl

  -- what lies beside a side, if it is a place; and whatever it is
  beside-place : (d : Compass) (r c : ℕ) → T (is_place J (beside J d r c)) → rank P (beside J d r c) ≡ rank P (at (side d) r c)
  beside-place d r c t = by (is_tile J r c) t
    where
      by : (b : Bool) → T (is_place J (elim b [ true ↦ at (side d) r c | false ↦ the_outside ]))
          → rank P (elim b [ true ↦ at (side d) r c | false ↦ the_outside ]) ≡ rank P (at (side d) r c)
      by true t = refl
      by false t = absurd t

  beside-most : (d : Compass) (r c : ℕ) → rank P (beside J d r c) ≤ rank P (at (side d) r c)
  beside-most d r c = by (is_tile J r c)
    where
      by : (b : Bool) → rank P (elim b [ true ↦ at (side d) r c | false ↦ the_outside ]) ≤ rank P (at (side d) r c)
      by true = omega arith
      by false = omega (arith, outside-rank)

  -- the end ahead is the lower one where the positive way leads outward, else the end behind, if the other end is a place
  abbrev Falls : LinkKind → ℕ → ℕ → Bool → Type 0
  Falls k r c true = T (is_place J (behind_of J k r c)) → rank P (ahead_of J k r c) < rank P (behind_of J k r c)
  Falls k r c false = T (is_place J (ahead_of J k r c)) → rank P (behind_of J k r c) < rank P (ahead_of J k r c)

  north-falls : (r c : ℕ) → r < 40 → (f : Bool) → f ≡ leb r P.row → Falls north_side r c f
  unfolding behind_of ahead_of
  north-falls zero c l true e = λ t. omega (arith, beside-place north 0 c t, side-rank north 0 c, outside-rank)
  north-falls (suc r) c l true e = λ t.
      omega (
        arith,
        beside-place north (suc r) c t,
        side-rank north (suc r) c,
        side-rank south r c,
        depth-less P.row r l (leb→le (suc r) P.row (so (sym e))),
      )
  north-falls zero c l false e = λ t. absurd t
  north-falls (suc r) c l false e = λ t.
      omega (
        arith,
        beside-most north (suc r) c,
        side-rank north (suc r) c,
        side-rank south r c,
        depth-more P.row r l (leb-false (suc r) P.row (sym e)),
      )

  west-falls : (r c : ℕ) → c < 40 → (f : Bool) → f ≡ ltb P.column c → Falls west_side r c f
  unfolding behind_of ahead_of
  west-falls r zero l true e = λ t. absurd t
  west-falls r (suc c) l true e = λ t.
      omega (
        arith,
        beside-most west r (suc c),
        side-rank west r (suc c),
        side-rank east r c,
        depth-more P.column c l (ltb→lt P.column (suc c) (so (sym e))),
      )
  west-falls r zero l false e = λ t. omega (arith, beside-place west r 0 t, side-rank west r 0, outside-rank)
  west-falls r (suc c) l false e = λ t.
      omega (
        arith,
        beside-place west r (suc c) t,
        side-rank west r (suc c),
        side-rank east r c,
        depth-less P.column c l (ltb-false P.column (suc c) (sym e)),
      )

  corner-falls : (d : Compass) (r c : ℕ) (f : Bool) → f ≡ corner_falls (sector P r c) d → Falls (corner d) r c f
  unfolding behind_of ahead_of corner_falls
  corner-falls d r c true e = λ t.
      omega (arith, side-rank d r c, side-rank (clockwise d) r c, ltb→lt (height (sector P r c) (clockwise d)) (height (sector P r c) d) (so (sym e)))
  corner-falls d r c false e = λ t.
      let (_, _, n) = heights (sector P r c) d in
      omega
      (arith, side-rank d r c, side-rank (clockwise d) r c, ltb-false (height (sector P r c) (clockwise d)) (height (sector P r c) d) (sym e))

  spoke-falls : (d : Compass) (r c : ℕ) (f : Bool) → f ≡ spoke_falls (sector P r c) d → Falls (spoke d) r c f
  unfolding behind_of ahead_of spoke_falls
  spoke-falls d r c true e = λ t. omega (arith, side-rank d r c, centre-rank r c, ltb→lt (height (sector P r c) d) 1 (so (sym e)))
  spoke-falls d r c false e = λ t.
      let (_, n, _) = heights (sector P r c) d in
      omega (arith, side-rank d r c, centre-rank r c, ltb-false (height (sector P r c) d) 1 (sym e))

  pin-rank : (r c : ℕ) → rank P (pin_at J r c) ≡ 100000
  unfolding rank rank_of
  pin-rank r c = by (eqb (J.mark r c) 2)
    where
      by : (b : Bool) → rank P (elim b [ true ↦ at missing r c | false ↦ at pin r c ]) ≡ 100000
      by true = refl
      by false = refl

  -- a place at a side lies lower than a pin
  below-pins : (d : Compass) (r c : ℕ) → r < 40 → c < 40 → rank P (at (side d) r c) < 100000
  below-pins d r c l m = omega (arith, side-rank d r c, depth-most P.row r l, depth-most P.column c m)

  nowhere-rank : rank P (at nowhere 0 0) ≡ 0
  unfolding rank rank_of
  nowhere-rank = refl

  leg-falls : (d : Compass) (r c : ℕ) → r < 40 → c < 40 → Falls (leg d) r c true
  unfolding behind_of ahead_of
  leg-falls north zero c l m = λ t. omega (arith, pin-rank 0 c, nowhere-rank)
  leg-falls north (suc r) c l m = λ t. omega (arith, pin-rank (suc r) c, below-pins west r c (omega arith) m)
  leg-falls east r c l m = λ t. omega (arith, pin-rank r c, below-pins north r c l m)
  leg-falls south r zero l m = λ t. omega (arith, pin-rank r 0, nowhere-rank)
  leg-falls south r (suc c) l m = λ t. omega (arith, pin-rank r (suc c), below-pins east r c l (omega arith))
  leg-falls west zero c l m = λ t. omega (arith, pin-rank 0 c, nowhere-rank)
  leg-falls west (suc r) zero l m = λ t. omega (arith, pin-rank (suc r) 0, nowhere-rank)
  leg-falls west (suc r) (suc c) l m = λ t. omega (arith, pin-rank (suc r) (suc c), below-pins south r c (omega arith) (omega arith))

  direct-falls : (r c : ℕ) → Falls direct r c true
  unfolding behind_of ahead_of rank rank_of
  direct-falls r c = λ t. by (is_chosen J r c && on_rim J r c)
    where
      by : (b : Bool) → rank P (elim b [ true ↦ the_outside | false ↦ at nowhere 0 0 ]) < 100000
      by true = omega arith
      by false = omega arith

  link-falls : (k : LinkKind) (r c : ℕ) → r < 40 → c < 40 → (f : Bool) → f ≡ leads P (link_code k) r c → Falls k r c f
  unfolding leads inside
  link-falls north_side r c l m f e = north-falls r c l f e
  link-falls west_side r c l m f e = west-falls r c m f e
  link-falls (corner north) r c l m f e = corner-falls north r c f e
  link-falls (corner east) r c l m f e = corner-falls east r c f e
  link-falls (corner south) r c l m f e = corner-falls south r c f e
  link-falls (corner west) r c l m f e = corner-falls west r c f e
  link-falls (spoke north) r c l m f e = spoke-falls north r c f e
  link-falls (spoke east) r c l m f e = spoke-falls east r c f e
  link-falls (spoke south) r c l m f e = spoke-falls south r c f e
  link-falls (spoke west) r c l m f e = spoke-falls west r c f e
  link-falls (leg north) r c l m f e = subst (Falls (leg north) r c) (sym e) (leg-falls north r c l m)
  link-falls (leg east) r c l m f e = subst (Falls (leg east) r c) (sym e) (leg-falls east r c l m)
  link-falls (leg south) r c l m f e = subst (Falls (leg south) r c) (sym e) (leg-falls south r c l m)
  link-falls (leg west) r c l m f e = subst (Falls (leg west) r c) (sym e) (leg-falls west r c l m)
  link-falls direct r c l m f e = subst (Falls direct r c) (sym e) (direct-falls r c)

  -- ---- a loaded step

  kind< : (k : LinkKind) → link_code k < 15
  kind< north_side = omega arith
  kind< west_side = omega arith
  kind< (corner d) = omega (arith, code< d)
  kind< (spoke d) = omega (arith, code< d)
  kind< (leg d) = omega (arith, code< d)
  kind< direct = omega arith

  -- what a byte has one way or the other
  part : Bool → ℕ → ℕ
  part f b = elim f [ true ↦ forth_part b | false ↦ back_part b ]

  part-some : (f : Bool) (b : ℕ) → 0 < part f b → 0 < b
  unfolding part
  part-some true b l = omega arith
  part-some false b l = omega arith

  one_way_lem : (f w : Bool) → 0 < part f (one_wire w) → f ≡ w
  unfolding part one_wire
  one_way_lem true true l = refl
  one_way_lem true false l = absurd (omega arith)
  one_way_lem false true l = absurd (omega arith)
  one_way_lem false false l = refl

  module _ (old : List ℕ) (o : Outward P old) where
    -- the link of a loaded step has one wire outward
    wire-leads : (s : Step) → 0 < load old s
        → (s.link.row < 40) × (s.link.column < 40) × (s.forth ≡ leads P (link_code s.link.kind) s.link.row s.link.column)
    unfolding load cell part Outward
    wire-leads s h =
        let n = link_code s.link.kind in
        let r = s.link.row in
        let c = s.link.column in
        let (t, g) = when-some (ltb r 40 && ltb c 40) (get_or old (offset (2 + n) r c) 0) (part-some s.forth (cell old (2 + n) r c) h) in
        let l : r < 40 = ltb→lt r 40 (and_left (ltb r 40) (ltb c 40) t) in
        let m : c < 40 = ltb→lt c 40 (and_right (ltb r 40) (ltb c 40) t) in
        let i : ℕ = 1600 * n + 40 * r + c in
        let k = kind< s.link.kind in
        let q : get_or old (3968 + i) 0 ≡ cell old (2 + n) r c =
        ap (λ (a : ℕ). get_or old a 0) (at_offset n r c) ∙ sym (when-so (ltb r 40 && ltb c 40) (get_or old (offset (2 + n) r c) 0) t) in
        let x : i / 1600 ≡ n = omega arith in
        let y : i % 1600 / 40 ≡ r = omega arith in
        let z : i % 40 ≡ c = omega arith in
        (l, m, by n r c (cell old (2 + n) r c) h (⊎_elim (λ e. inl (sym q ∙ e)) (λ e. inr (sym q ∙ e ∙ ap one_wire (rw (x, y, z) refl))) (o i (omega arith))))
      where
        at_offset : (n r c : ℕ) → 3968 + (1600 * n + 40 * r + c) ≡ offset (2 + n) r c
        at_offset n r c = omega arith

        by : (n r c b : ℕ) → 0 < part s.forth b → (b ≡ 0) ⊎ (b ≡ one_wire (leads P n r c)) → s.forth ≡ leads P n r c
        by n r c b h (inl e) = absurd (omega (arith, part-some s.forth b h))
        by n r c b h (inr e) = one_way_lem s.forth (leads P n r c) (subst (λ (x : ℕ). 0 < part s.forth x) e h)

    step_falls : (s : Step) → T (may J s) → 0 < load old s → rank P (head J s) < rank P (tail J s)
    unfolding head
    step_falls s t h =
        let (l, m, e) = wire-leads s h in
        by s.link.kind s.link.row s.link.column s.forth (link-falls s.link.kind s.link.row s.link.column l m s.forth e)
        (may-leaves J s t)
      where
        by : (k : LinkKind) (r c : ℕ) (f : Bool) → Falls k r c f → T (is_place J (tail J (record { link = link k r c; forth = f })))
            → rank P (head J (record { link = link k r c; forth = f })) < rank P (tail J (record { link = link k r c; forth = f }))
        by k r c true g p = g p
        by k r c false g p = g p

    -- ---- a chain of loaded links, along which wires may go

    module _ (f : Step → ℕ) (may-go : (s : Step) → 0 < f s → T (may J s)) where
      trail_falls : (s : Step) (ss : List Step) (x y : Place) → Trail J f x (s ∷ ss) y → Trail J (load old) x (s ∷ ss) y → rank P y < rank P x
      trail_falls s [] x y (_, g, _) (e, h, q) = omega (arith, step_falls s (may-go s g) h, ap (rank P) e, ap (rank P) q)
      trail_falls s (t ∷ ts) x y (_, g, u) (e, h, v) =
          omega (arith, step_falls s (may-go s g) h, ap (rank P) e, trail_falls t ts (head J s) y u v)

      pub outward-loops : (x : Place) (s : Step) (ss : List Step) → Trail J f x (s ∷ ss) x → Trail J (load old) x (s ∷ ss) x → ⊥
      outward-loops x s ss u v = omega (arith, trail_falls s ss x x u v)
