-- Whether a tile carries what a sheet brings to it and takes from it, by a test of the sheet's bytes: an open tile by the least D of its amounts, a closed one by
-- having nothing at all on its sides and legs.
-- Assumes nothing.
use Rattle.std.specs.Prelude.{◌≡◌, refl, ◌≢◌, Bool, not, ◌&&◌, ◌||◌, List, ℕ, suc, ◌+◌, ◌-◌, ◌*◌, ◌/◌, ◌≤◌, ◌<◌, leb, ltb}
use Rattle.std.proofs.Common.{sym, ap, subst, ◌∙◌, leb→le, le→leb, ltb→lt, eq-eqb}
use Rattle.std.proofs.Math.Bool.{true, false}
use Rattle.std.proofs.Math.Option.{some}
use native.Mathlib.Omega.{arith}
use Rattle.std.proofs.Math.Dec.{T, eqb, eqb→eq}
use Rattle.sums.specs.Counting.{those, total}
use Rattle.sums.specs.Tests.{Same, same, other, same?, and_left, and_right, and_both, so}
use Rattle.model.specs.Job.{Job, centre_limit, tile_d, is_tile, is_open, is_closed}
use Rattle.model.specs.Links.{Compass, north, east, south, west, centre, at, Step, pass}
use Rattle.model.specs.Record.{forth_part, back_part}
use Rattle.model.specs.Sheet.{outer_steps, Inside, amounts, sheet_cell, sheet_load, sheet_fits, brings, takes, TileCarried}
use Rattle.sheets.specs.Passage.{least_d}
use Rattle.sheets.specs.Exact.{carried-entry, entry-carried}
use Rattle.sheets.specs.Bytes.{LoadByte, north-few, west-few}

-- ---- amounts

-- The net amount that enters a place, 2 more: by the byte b of a side whose positive way leads out of the tile, or into it, and by the mark m.
abbrev pub by_out : ℕ → ℕ → ℕ
by_out b m = (2 + (back_part b + m)) - forth_part b

abbrev pub by_in : ℕ → ℕ → ℕ
by_in b m = (2 + (forth_part b + m)) - back_part b

-- the amounts of the tile (r, c)
module _ (sheet : List ℕ) (r c : ℕ) where
  abbrev pub at_north : ℕ
  at_north = by_out (sheet_cell sheet 0 r c) (sheet_cell sheet 3 r c)

  abbrev pub at_east : ℕ
  at_east = by_out (sheet_cell sheet 1 r (suc c)) (sheet_cell sheet 4 r (suc c))

  abbrev pub at_south : ℕ
  at_south = by_in (sheet_cell sheet 0 (suc r) c) (sheet_cell sheet 5 (suc r) (suc c))

  abbrev pub at_west : ℕ
  at_west = by_in (sheet_cell sheet 1 r c) (sheet_cell sheet 2 (suc r) c)

  -- all bytes of its sides and of the legs that lead into it
  abbrev pub tile_bytes : ℕ
  tile_bytes =
      (sheet_cell sheet 0 r c + sheet_cell sheet 3 r c) + (sheet_cell sheet 1 r (suc c) + sheet_cell sheet 4 r (suc c))
      + (sheet_cell sheet 0 (suc r) c + sheet_cell sheet 5 (suc r) (suc c)) + (sheet_cell sheet 1 r c + sheet_cell sheet 2 (suc r) c)

-- the test
abbrev pub open_test : Job → List ℕ → ℕ → ℕ → Bool
open_test J sheet r c = leb (least_d (at_north sheet r c) (at_east sheet r c) (at_south sheet r c) (at_west sheet r c)) (2 + centre_limit J.O (tile_d J r c))

abbrev pub shut_test : List ℕ → ℕ → ℕ → Bool
shut_test sheet r c = eqb (tile_bytes sheet r c) 0

abbrev pub tile_test : Job → List ℕ → ℕ → ℕ → Bool
tile_test J sheet r c = elim (is_open J r c) [ true ↦ open_test J sheet r c | false ↦ shut_test sheet r c ]

-- what it says of no tile, of an open one and of a closed one
module _ (J : Job) (sheet : List ℕ) (r c : ℕ) where
  pub passes_none : is_tile J r c ≡ false → true ≡ (not (is_tile J r c) || tile_test J sheet r c)
  passes_none e = sym (ap (λ (b : Bool). not b || tile_test J sheet r c) e)

  pub passes-open : (t : Bool) → is_tile J r c ≡ true → is_open J r c ≡ true → t ≡ open_test J sheet r c → t ≡ (not (is_tile J r c) || tile_test J sheet r c)
  passes-open t e o q =
      q
      ∙ sym (ap (λ (b : Bool). not b || tile_test J sheet r c) e ∙ ap (λ (b : Bool). elim b as (λ x. Bool) [ true ↦ open_test J sheet r c | false ↦ shut_test sheet r c ]) o)

  pub passes-shut : (t : Bool) → is_tile J r c ≡ true → is_open J r c ≡ false → t ≡ shut_test sheet r c → t ≡ (not (is_tile J r c) || tile_test J sheet r c)
  passes-shut t e o q =
      q
      ∙ sym (ap (λ (b : Bool). not b || tile_test J sheet r c) e ∙ ap (λ (b : Bool). elim b as (λ x. Bool) [ true ↦ open_test J sheet r c | false ↦ shut_test sheet r c ]) o)

-- ---- what a job and a sheet must be for it

pub record Ready (J : Job) (sheet : List ℕ) : Type 0 where
  pub two : J.O ≡ 2
  pub rows : J.rows ≤ 40
  pub columns : J.columns ≤ 40
  pub states : (r c : ℕ) → J.state r c ≤ 1
  pub diagonals : (r c : ℕ) → tile_d J r c ≤ 4
  pub fits : T (sheet_fits J sheet)

-- a tile lies within 39 rows and columns
pub tile-few : (J : Job) (sheet : List ℕ) → Ready J sheet → (r c : ℕ) → T (is_tile J r c) → (r < 39) × (c < 39)
tile-few J sheet ready r c t =
    omega (
      arith,
      ltb→lt (suc r) J.rows (and_left (ltb (suc r) J.rows) (ltb (suc c) J.columns) t),
      ltb→lt (suc c) J.columns (and_right (ltb (suc r) J.rows) (ltb (suc c) J.columns) t),
      ready.rows,
      ready.columns,
    )

-- ---- bytes

out-balanced : (b m : ℕ) → forth_part b + back_part b ≤ 2 → (back_part b + (m + 0)) + 2 ≡ by_out b m + (forth_part b + 0)
out-balanced b m h = omega arith

in-balanced : (b m : ℕ) → forth_part b + back_part b ≤ 2 → (forth_part b + (m + 0)) + 2 ≡ by_in b m + (back_part b + 0)
in-balanced b m h = omega arith

load-none : (b : ℕ) → b < 64 → b ≢ 32 → forth_part b + back_part b ≡ 0 → b ≡ 0
load-none b l n e = omega arith

none-load : (b : ℕ) → b ≡ 0 → forth_part b + back_part b ≡ 0
none-load b e = omega arith

module _ (J : Job) (sheet : List ℕ) (ready : Ready J sheet) (r c : ℕ) where
  abbrev n : ℕ
  n = at_north sheet r c

  abbrev e : ℕ
  e = at_east sheet r c

  abbrev s : ℕ
  s = at_south sheet r c

  abbrev w : ℕ
  w = at_west sheet r c

  north_byte : (i j : ℕ) → LoadByte 2 (sheet_cell sheet 0 i j)
  north_byte = north-few J sheet ready.two ready.fits

  west_byte : (i j : ℕ) → LoadByte 2 (sheet_cell sheet 1 i j)
  west_byte = west-few J sheet ready.two ready.fits

  -- what is brought and taken is the amount
  net : (d : Compass) → brings sheet r c d + 2 ≡ amounts n e s w d + takes sheet r c d
  unfolding outer_steps those total sheet_load
  net north = out-balanced _ _ (north_byte r c).few
  net east = out-balanced _ _ (west_byte r (suc c)).few
  net south = in-balanced _ _ (north_byte (suc r) c).few
  net west = in-balanced _ _ (west_byte r c).few

  -- so loads carry the one exactly if they carry the other
  inside-amounts : (f : Step → ℕ) → Inside J r c f (brings sheet r c) (takes sheet r c) → Inside J r c f (amounts n e s w) (λ d. 2)
  inside-amounts f i =
      record { one_way = i.one_way; limits = i.limits; passing = i.passing; centred = i.centred; sides = λ d. omega (arith, i.sides d, net d) }

  amounts-inside : (f : Step → ℕ) → Inside J r c f (amounts n e s w) (λ d. 2) → Inside J r c f (brings sheet r c) (takes sheet r c)
  amounts-inside f i =
      record { one_way = i.one_way; limits = i.limits; passing = i.passing; centred = i.centred; sides = λ d. omega (arith, i.sides d, net d) }

  -- ---- an open tile

  abbrev p : ℕ
  p = centre_limit J.O (tile_d J r c)

  pub few-pass : 2 + p ≤ 4
  few-pass = few J.O (tile_d J r c) ready.two (ready.diagonals r c)
    where
      few : (o d : ℕ) → o ≡ 2 → d ≤ 4 → 2 + (d - 2 * (o / 2)) ≤ 4
      few o d t h = omega arith

  passes : pass J (at centre r c) ≡ some (2 + p - 2)
  passes = ap some (omega arith)

  -- a tile is not both open and closed
  open-shut : T (is_open J r c) → T (is_closed J r c) → ⊥
  unfolding is_open is_closed
  open-shut t u =
      omega (
        arith,
        eqb→eq (J.state r c) 0 (and_right (is_tile J r c) (eqb (J.state r c) 0) t),
        eqb→eq (J.state r c) 1 (and_right (is_tile J r c) (eqb (J.state r c) 1) u),
      )

  pub open-carried : T (is_open J r c) → T (open_test J sheet r c) → TileCarried J sheet r c
  open-carried o t =
      let (f, i) = entry-carried J r c (2 + p) ready.two passes n e s w few-pass (leb→le (least_d n e s w) (2 + p) t) in
      (f, record { opened = λ u. amounts-inside f i; shut = λ u. absurd (open-shut o u) })

  pub carried-open : T (is_open J r c) → TileCarried J sheet r c → T (open_test J sheet r c)
  carried-open o k =
      le→leb (least_d n e s w) (2 + p)
      (carried-entry J r c (2 + p) ready.two passes k.0 n e s w (omega arith) (inside-amounts k.0 (k.1.opened o)))

  -- ---- a closed tile

  nothing : (d : Compass) → tile_bytes sheet r c ≡ 0 → brings sheet r c d + takes sheet r c d ≡ 0
  unfolding outer_steps those total sheet_load
  nothing north z = omega (arith, none-load (sheet_cell sheet 0 r c) (omega arith))
  nothing east z = omega (arith, none-load (sheet_cell sheet 1 r (suc c)) (omega arith))
  nothing south z = omega (arith, none-load (sheet_cell sheet 0 (suc r) c) (omega arith))
  nothing west z = omega (arith, none-load (sheet_cell sheet 1 r c) (omega arith))

  pub shut-carried : T (is_closed J r c) → T (shut_test sheet r c) → TileCarried J sheet r c
  shut-carried u t = (
    λ x. 0,
    record { opened = λ o. absurd (open-shut o u); shut = λ v d. nothing d (eqb→eq (tile_bytes sheet r c) 0 t) },
  )

  no_bytes : ((d : Compass) → brings sheet r c d + takes sheet r c d ≡ 0) → tile_bytes sheet r c ≡ 0
  unfolding outer_steps those total sheet_load
  no_bytes z =
      omega (
        arith,
        load-none (sheet_cell sheet 0 r c) (north_byte r c).small (north_byte r c).proper (omega (arith, z north)),
        load-none (sheet_cell sheet 1 r (suc c)) (west_byte r (suc c)).small (west_byte r (suc c)).proper (omega (arith, z east)),
        load-none (sheet_cell sheet 0 (suc r) c) (north_byte (suc r) c).small (north_byte (suc r) c).proper (omega (arith, z south)),
        load-none (sheet_cell sheet 1 r c) (west_byte r c).small (west_byte r c).proper (omega (arith, z west)),
        z north,
        z east,
        z south,
        z west,
      )

  pub carried-shut : T (is_closed J r c) → TileCarried J sheet r c → T (shut_test sheet r c)
  carried-shut u k = subst (λ (x : ℕ). T (eqb x 0)) (sym (no_bytes (k.1.shut u))) tt

  -- ---- any tile

  closed-tile : T (is_tile J r c) → is_open J r c ≡ false → T (is_closed J r c)
  unfolding is_open is_closed
  closed-tile t q = by (eqb (J.state r c) 0) (same? (J.state r c) 0) q
    where
      by : (b : Bool) → Same (J.state r c) 0 b → (is_tile J r c && b) ≡ false → T (is_tile J r c && eqb (J.state r c) 1)
      by true (same z) k = absurd (subst T k (and_both (is_tile J r c) true t tt))
      by false (other z) k = and_both (is_tile J r c) (eqb (J.state r c) 1) t (so (eq-eqb (J.state r c) 1 (omega (arith, ready.states r c))))

  pub test-carried : T (is_tile J r c) → T (tile_test J sheet r c) → TileCarried J sheet r c
  test-carried t = go (is_open J r c) refl
    where
      go : (b : Bool) → is_open J r c ≡ b → T (elim b as (λ x. Bool) [ true ↦ open_test J sheet r c | false ↦ shut_test sheet r c ]) → TileCarried J sheet r c
      go true q u = open-carried (so q) u
      go false q u = shut-carried (closed-tile t q) u

  pub carried-test : T (is_tile J r c) → TileCarried J sheet r c → T (tile_test J sheet r c)
  carried-test t k = go (is_open J r c) refl
    where
      go : (b : Bool) → is_open J r c ≡ b → T (elim b as (λ x. Bool) [ true ↦ open_test J sheet r c | false ↦ shut_test sheet r c ])
      go true q = carried-open (so q) k
      go false q = carried-shut (closed-tile t q) k
