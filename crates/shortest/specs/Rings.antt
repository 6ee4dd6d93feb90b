-- How far places are from the rim, in sides. A tile at the rim is one side from the outside, and each side crossed changes that by one at most; a pin is as
-- far as the nearest of its tiles, and at the rim no side at all. So a step that crosses a side or comes to a missing pin leads one ring nearer at most, and
-- every other step none. Assumes nothing.
use Rattle.std.specs.Prelude.{◌≡◌, Bool, ◌&&◌, eqb, ltb}
use Rattle.std.proofs.Math.Path.{refl}
use Rattle.std.proofs.Common.{subst, eqb→eq, nltb→le}
use Rattle.std.proofs.Math.Bool.{true, false}
use Prim.Native.Nat.{ℕ, zero, suc, ◌+◌, ◌-◌, ◌≤◌, ◌<◌, min}
use native.Mathlib.Omega.{arith}
use Rattle.std.proofs.Math.Dec.{T, ltb→lt}
use Rattle.sums.specs.Counting.{when}
use Rattle.sums.specs.Tests.{so, so-not, and_left, and_right, or-by}
use Rattle.model.specs.Job.{Job, is_tile, is_open, is_chosen, on_rim}
use Rattle.model.specs.Links.{north, east, south, west, PlaceKind, pin, missing, centre, outside, nowhere, side, is_missing_kind, Place, at, the_outside, is_place, is_entered, beside, pin_at, straight_out, LinkKind, north_side, west_side, corner, spoke, leg, direct, link, behind_of, ahead_of, Step, head, tail, may}
use Rattle.model.specs.Length.{is_side}
use Rattle.model.proofs.Listed.{may-leaves, may-enters}
use Rattle.wire.specs.Ways.{way, beside-by, pin-by}

-- ---- the least of four numbers

pub least4 : ℕ → ℕ → ℕ → ℕ → ℕ
least4 a b c d = min (min a b) (min c d)

module _ (a b c d : ℕ) where
  pub first-most : least4 a b c d ≤ a
  unfolding least4
  first-most = omega arith

  second-most : least4 a b c d ≤ b
  unfolding least4
  second-most = omega arith

  pub third-most : least4 a b c d ≤ c
  unfolding least4
  third-most = omega arith

  fourth-most : least4 a b c d ≤ d
  unfolding least4
  fourth-most = omega arith

  -- as a program reads it
  pub least4-is : min (min a b) (min c d) ≡ least4 a b c d
  unfolding least4
  least4-is = refl

  all_most : (x k : ℕ) → x ≤ a + k → x ≤ b + k → x ≤ c + k → x ≤ d + k → x ≤ least4 a b c d + k
  unfolding least4
  all_most x k p q r s = omega arith

-- each of the four is at most so much more
least-near : (a b c d e f g h k : ℕ) → a ≤ e + k → b ≤ f + k → c ≤ g + k → d ≤ h + k → least4 a b c d ≤ least4 e f g h + k
least-near a b c d e f g h k p q r s =
    all_most e f g h (least4 a b c d) k (omega (arith, first-most a b c d)) (omega (arith, second-most a b c d)) (omega (arith, third-most a b c d))
    (omega (arith, fourth-most a b c d))

-- ---- rings

module _ (J : Job) where
  -- how many tiles lie between the tile (r, c) and the rim, and between the pin (r, c) and the rim
  abbrev pub tile_ring : ℕ → ℕ → ℕ
  tile_ring r c = least4 r c (J.rows - (2 + r)) (J.columns - (2 + c))

  abbrev pub pin_ring : ℕ → ℕ → ℕ
  pin_ring r c = least4 r c (J.rows - (1 + r)) (J.columns - (1 + c))

  abbrev pub ring_of : PlaceKind → ℕ → ℕ → ℕ
  ring_of pin r c = pin_ring r c
  ring_of missing r c = pin_ring r c
  ring_of centre r c = suc (tile_ring r c)
  ring_of outside r c = 0
  ring_of nowhere r c = 0
  ring_of (side d) r c = suc (tile_ring r c)

  abbrev pub ring_at : Place → ℕ
  ring_at x = ring_of x.kind x.row x.column

  -- ---- tiles beside each other

  less : (n r : ℕ) → n - (2 + r) ≤ n - (2 + suc r) + 1
  less n r = omega arith

  south-ring : (r c : ℕ) → tile_ring r c ≤ tile_ring (suc r) c + 1
  south-ring r c = least-near r c _ _ _ _ _ _ 1 (omega arith) (omega arith) (less J.rows r) (omega arith)

  north-ring : (r c : ℕ) → tile_ring (suc r) c ≤ tile_ring r c + 1
  north-ring r c = least-near (suc r) c _ _ _ _ _ _ 1 (omega arith) (omega arith) (omega arith) (omega arith)

  east-ring : (r c : ℕ) → tile_ring r c ≤ tile_ring r (suc c) + 1
  east-ring r c = least-near r c _ _ _ _ _ _ 1 (omega arith) (omega arith) (omega arith) (less J.columns c)

  west-ring : (r c : ℕ) → tile_ring r (suc c) ≤ tile_ring r c + 1
  west-ring r c = least-near r (suc c) _ _ _ _ _ _ 1 (omega arith) (omega arith) (omega arith) (omega arith)

  -- ---- tiles at the rim

  tile-rows : (r c : ℕ) → T (is_open J r c) → (suc r < J.rows) × (suc c < J.columns)
  unfolding is_open
  tile-rows r c t =
      let u : T (is_tile J r c) = and_left (is_tile J r c) (eqb (J.state r c) 0) t in (
        ltb→lt (suc r) J.rows (and_left (ltb (suc r) J.rows) (ltb (suc c) J.columns) u),
        ltb→lt (suc c) J.columns (and_right (ltb (suc r) J.rows) (ltb (suc c) J.columns) u),
      )

  -- no tile lies south of it, or east of it
  both_below : (a m b n : ℕ) → (ltb a m && ltb b n) ≡ false → b < n → m ≤ a
  both_below a m b n e l = by (ltb a m) refl (ltb b n) refl e
    where
      by : (p : Bool) → ltb a m ≡ p → (q : Bool) → ltb b n ≡ q → (p && q) ≡ false → m ≤ a
      by true x true y e = absurd (subst T (let z : ◌≡◌ {A = Bool} true false = e in z) tt)
      by true x false y e = absurd (omega (arith, nltb→le b n (so-not y)))
      by false x q y e = nltb→le a m (so-not x)

  last_row : (r c : ℕ) → T (is_open J r c) → is_tile J (suc r) c ≡ false → tile_ring r c ≤ 0
  last_row r c t e =
      let (a, b) = tile-rows r c t in
      let k : J.rows ≤ suc (suc r) = both_below (suc (suc r)) J.rows (suc c) J.columns e b in
      omega (arith, third-most r c (J.rows - (2 + r)) (J.columns - (2 + c)))

  last-column : (r c : ℕ) → T (is_open J r c) → is_tile J r (suc c) ≡ false → tile_ring r c ≤ 0
  last-column r c t e = by (ltb (suc r) J.rows) refl e
    where
      by : (p : Bool) → ltb (suc r) J.rows ≡ p → (p && ltb (suc (suc c)) J.columns) ≡ false → tile_ring r c ≤ 0
      by true x e =
          let k : J.columns ≤ suc (suc c) = nltb→le (suc (suc c)) J.columns (so-not e) in
          omega (arith, fourth-most r c (J.rows - (2 + r)) (J.columns - (2 + c)))
      by false x e = absurd (omega (arith, (tile-rows r c t).0, nltb→le (suc r) J.rows (so-not x)))

  -- ---- pins and their tiles

  rim-ring : (r c : ℕ) → T (on_rim J r c) → pin_ring r c ≤ 0
  rim-ring r c =
      or-by (eqb r 0) _ (λ t. omega (arith, first-most r c (J.rows - (1 + r)) (J.columns - (1 + c)), eqb→eq r 0 t))
      (or-by (eqb (suc r) J.rows) _ (λ t. omega (arith, third-most r c (J.rows - (1 + r)) (J.columns - (1 + c)), eqb→eq (suc r) J.rows t))
      (or-by (eqb c 0) _ (λ t. omega (arith, second-most r c (J.rows - (1 + r)) (J.columns - (1 + c)), eqb→eq c 0 t))
      (λ t. omega (arith, fourth-most r c (J.rows - (1 + r)) (J.columns - (1 + c)), eqb→eq (suc c) J.columns t))))

  -- the pin at a corner of the tile (r, c) is at most one ring further in, and at least as far
  corner-near : (r c i j : ℕ) → r ≤ i → i ≤ suc r → c ≤ j → j ≤ suc c → pin_ring i j ≤ tile_ring r c + 1
  corner-near r c i j p q u v = least-near i j _ _ r c _ _ 1 (omega arith) (omega arith) (omega arith) (omega arith)

  corner-far : (r c i j : ℕ) → r ≤ i → i ≤ suc r → c ≤ j → j ≤ suc c → tile_ring r c ≤ pin_ring i j + 0
  corner-far r c i j p q u v = least-near r c _ _ i j _ _ 0 (omega arith) (omega arith) (omega arith) (omega arith)

  -- ---- steps

  abbrev Leads : (x y : Place) → ℕ → Type 0
  Leads x y k = T (is_place J x) → T (is_entered J y) → ring_at x ≤ ring_at y + (k + when (is_missing_kind y) 1)

  -- from the place south or east of a side to what lies there
  to-south : (r c : ℕ) → Leads (at (side south) r c) (beside J north (suc r) c) 1
  to-south r c t = by (is_tile J (suc r) c) refl
    where
      by : (b : Bool) → is_tile J (suc r) c ≡ b → T (is_entered J (elim b [ true ↦ at (side north) (suc r) c | false ↦ the_outside ]))
          → suc (tile_ring r c) ≤ ring_at (elim b [ true ↦ at (side north) (suc r) c | false ↦ the_outside ])
          + (1 + when (is_missing_kind (elim b [ true ↦ at (side north) (suc r) c | false ↦ the_outside ])) 1)
      by true e u = omega (arith, south-ring r c)
      by false e u = omega (arith, last_row r c t e)

  to-east : (r c : ℕ) → Leads (at (side east) r c) (beside J west r (suc c)) 1
  to-east r c t = by (is_tile J r (suc c)) refl
    where
      by : (b : Bool) → is_tile J r (suc c) ≡ b → T (is_entered J (elim b [ true ↦ at (side west) r (suc c) | false ↦ the_outside ]))
          → suc (tile_ring r c) ≤ ring_at (elim b [ true ↦ at (side west) r (suc c) | false ↦ the_outside ])
          + (1 + when (is_missing_kind (elim b [ true ↦ at (side west) r (suc c) | false ↦ the_outside ])) 1)
      by true e u = omega (arith, east-ring r c)
      by false e u = omega (arith, last-column r c t e)

  -- straight out
  to_out : (r c : ℕ) → Leads (at pin r c) (straight_out J r c) 0
  to_out r c t = by (is_chosen J r c && on_rim J r c) refl
    where
      by : (b : Bool) → (is_chosen J r c && on_rim J r c) ≡ b → T (is_entered J (elim b [ true ↦ the_outside | false ↦ at nowhere 0 0 ]))
          → pin_ring r c ≤ ring_at (elim b [ true ↦ the_outside | false ↦ at nowhere 0 0 ])
          + (0 + when (is_missing_kind (elim b [ true ↦ the_outside | false ↦ at nowhere 0 0 ])) 1)
      by true e u = omega (arith, rim-ring r c (and_right (is_chosen J r c) (on_rim J r c) (so e)))
      by false e u = absurd u

  -- between a pin and a place of one of its tiles
  from-pin : (i j : ℕ) (y : Place) → pin_ring i j ≤ ring_at y → Leads (pin_at J i j) y 0
  from-pin i j y h = pin-by J i j (λ x. Leads x y 0) (λ t u. omega arith) (λ t u. omega arith)

  to-pin : (i j : ℕ) (x : Place) → ring_at x ≤ pin_ring i j + 1 → Leads x (pin_at J i j) 0
  to-pin i j x h = pin-by J i j (λ y. Leads x y 0) (λ t u. omega arith) (λ t u. absurd u)

  forth : (k : LinkKind) (r c : ℕ) → Leads (behind_of J k r c) (ahead_of J k r c) (when (is_side (link k r c)) 1)
  unfolding behind_of ahead_of
  forth north_side zero c =
      beside-by J north zero c (λ x. Leads x the_outside 1)
      (λ t u. omega (arith, first-most zero c (J.rows - (2 + zero)) (J.columns - (2 + c)))) (λ t u. absurd t)
  forth north_side (suc r) c =
      beside-by J north (suc r) c (λ x. Leads x (at (side south) r c) 1) (λ t u. omega (arith, north-ring r c)) (λ t u. absurd t)
  forth west_side r zero = λ t u. absurd t
  forth west_side r (suc c) = to-east r c
  forth (corner d) r c = λ t u. omega arith
  forth (spoke d) r c = λ t u. omega arith
  forth (leg north) zero c = λ t u. absurd u
  forth (leg north) (suc r) c = from-pin (suc r) c (at (side west) r c) (omega (arith, corner-near r c (suc r) c (omega arith) (omega arith) (omega arith) (omega arith)))
  forth (leg east) r c = from-pin r c (at (side north) r c) (omega (arith, corner-near r c r c (omega arith) (omega arith) (omega arith) (omega arith)))
  forth (leg south) r zero = λ t u. absurd u
  forth (leg south) r (suc c) = from-pin r (suc c) (at (side east) r c) (omega (arith, corner-near r c r (suc c) (omega arith) (omega arith) (omega arith) (omega arith)))
  forth (leg west) zero c = λ t u. absurd u
  forth (leg west) (suc r) zero = λ t u. absurd u
  forth (leg west) (suc r) (suc c) =
      from-pin (suc r) (suc c) (at (side south) r c)
      (omega (arith, corner-near r c (suc r) (suc c) (omega arith) (omega arith) (omega arith) (omega arith)))
  forth direct r c = to_out r c

  none-there : (b : Bool) → T (is_place J (elim b [ true ↦ the_outside | false ↦ at nowhere 0 0 ])) → ⊥
  none-there true t = t
  none-there false t = t

  back : (k : LinkKind) (r c : ℕ) → Leads (ahead_of J k r c) (behind_of J k r c) (when (is_side (link k r c)) 1)
  unfolding behind_of ahead_of
  back north_side zero c = λ t u. absurd t
  back north_side (suc r) c = to-south r c
  back west_side r zero =
      beside-by J west r zero (λ x. Leads x the_outside 1)
      (λ t u. omega (arith, second-most r zero (J.rows - (2 + r)) (J.columns - (2 + zero)))) (λ t u. absurd t)
  back west_side r (suc c) =
      beside-by J west r (suc c) (λ x. Leads x (at (side east) r c) 1) (λ t u. omega (arith, west-ring r c)) (λ t u. absurd t)
  back (corner d) r c = λ t u. omega arith
  back (spoke d) r c = λ t u. omega arith
  back (leg north) zero c = λ t u. absurd t
  back (leg north) (suc r) c = to-pin (suc r) c (at (side west) r c) (omega (arith, corner-far r c (suc r) c (omega arith) (omega arith) (omega arith) (omega arith)))
  back (leg east) r c = to-pin r c (at (side north) r c) (omega (arith, corner-far r c r c (omega arith) (omega arith) (omega arith) (omega arith)))
  back (leg south) r zero = λ t u. absurd t
  back (leg south) r (suc c) = to-pin r (suc c) (at (side east) r c) (omega (arith, corner-far r c r (suc c) (omega arith) (omega arith) (omega arith) (omega arith)))
  back (leg west) zero c = λ t u. absurd t
  back (leg west) (suc r) zero = λ t u. absurd t
  back (leg west) (suc r) (suc c) =
      to-pin (suc r) (suc c) (at (side south) r c)
      (omega (arith, corner-far r c (suc r) (suc c) (omega arith) (omega arith) (omega arith) (omega arith)))
  back direct r c = λ t u. absurd (none-there (is_chosen J r c && on_rim J r c) t)

  -- A step leads one ring nearer at most, and only across a side or to a missing pin.
  pub ring-step : (s : Step) → T (may J s) → ring_at (tail J s) ≤ ring_at (head J s) + (when (is_side s.link) 1 + when (is_missing_kind (head J s)) 1)
  unfolding head
  ring-step s m = by s.forth (may-leaves J s m) (may-enters J s m)
    where
      by : (b : Bool) → Leads (tail J (way s.link b)) (head J (way s.link b)) (when (is_side s.link) 1)
      by true = forth s.link.kind s.link.row s.link.column
      by false = back s.link.kind s.link.row s.link.column
