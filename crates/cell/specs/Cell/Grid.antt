-- The cells of the grid by number: maps of the pins and of the tiles, open tiles, and which steps over a side, along a leg or straight out may be taken, by the
-- cells around. A number below 41 is that of no cell, and the number before the first cell of a row is that of the last cell of the row above, which is no
-- tile of an array of at most 40 columns: where no tile lies across, none is found. Assumes nothing.
use Rattle.std.specs.Prelude.{◌≡◌, Bool, ◌&&◌, ◌||◌, List, ℕ, zero, suc, ◌+◌, ◌-◌, ◌*◌, ◌/◌, ◌%◌, ◌≤◌, ◌<◌, ltb, get_or}
use Rattle.std.proofs.Math.Path.{refl, sym, ap}
use Rattle.std.proofs.Common.{subst, ◌∙◌, arith, lt-ltb, le-ltb, eq-eqb, ne_eqb, ltb-true, ltb-false, ltb→lt, lt→ltb}
use Rattle.std.proofs.Math.Bool.{true, false, not}
use Rattle.std.proofs.Math.Dec.{T, eqb}
use Rattle.sums.specs.Tests.{and_left, and_right, so}
use Rattle.model.specs.Job.{Job, array_fits, is_pin, is_tile, is_open, is_chosen, on_rim, has_north, has_west}
use Rattle.model.specs.Links.{Compass, north, east, south, west, is_place, north_side, west_side, leg, direct, go, come, ahead_of, may}
use Rattle.model.specs.Record.{cell, job_of}
use Rattle.channel.specs.Map.{in_grid, row_of, column_of}
use Rattle.channel.specs.Map.Bools.{and-true, and-false, or-true}
use Rattle.channel.specs.Map.Darts.{cell_row, cell-column}
use Rattle.channel.specs.Map.Grid.{grid-in, grid-low, grid-bounds, cell-on, cell-byte, no-column}
use Rattle.channel.specs.Map.LinkTests.{east-leg, south-rim-leg, south-leg, north-rim-leg, north-leg, west-rim-leg, west-leg}
use Rattle.channel.specs.Map.Sides.{before-open}
use Rattle.channel.specs.Map.Ways.{north-rim, north-in, south-rim, south-in, east-rim, east-in, west-rim, west-in, direct-go}
use Rattle.cell.specs.Cell.Tests.{array-range}

-- the row and the column of a cell
row_is : (x : ℕ) → 41 ≤ x → row_of x ≡ (x - 41) / 40
row_is x l = cell_row x ((x - 41) / 40) ((x - 41) % 40) (omega arith) (omega arith)

column-is : (x : ℕ) → 41 ≤ x → column_of x ≡ (x - 41) % 40
column-is x l = cell-column x ((x - 41) / 40) ((x - 41) % 40) (omega arith) (omega arith)

-- what holds of the cells of the grid, by row and column and by number
module _ (P : ℕ → ℕ → Type 0) where
  pub by_number : ((r c : ℕ) → r < 40 → c < 40 → P r c) → (x : ℕ) → 41 ≤ x → x < 1641 → P (row_of x) (column_of x)
  by_number f x l h = f (row_of x) (column_of x) (omega (arith, row_is x l)) (omega (arith, column-is x l))

  pub by_row : ((x : ℕ) → 41 ≤ x → x < 1641 → P (row_of x) (column_of x)) → (r c : ℕ) → r < 40 → c < 40 → P r c
  by_row f r c k m =
      let p : P (row_of (41 + 40 * r + c)) (column_of (41 + 40 * r + c)) = f (41 + 40 * r + c) (omega arith) (omega arith) in
      subst (λ (q : ℕ). P r q) (cell-column (41 + 40 * r + c) r c refl m)
      (subst (λ (q : ℕ). P q (column_of (41 + 40 * r + c))) (cell_row (41 + 40 * r + c) r c refl m) p)

-- the bytes of a plane at a cell, and at the cells to the east, to the south and between them
near-cell : (rec : List ℕ) (p y r c : ℕ) → y ≡ 41 + 40 * r + c → r < 40 → c < 40 → get_or rec (727 + 1600 * p + y) 0 ≡ cell rec p r c
near-cell rec p y r c e k m =
    let f : 727 + 1600 * p + y ≡ 768 + 1600 * p + 40 * r + c = omega arith in
    ap (λ (i : ℕ). get_or rec i 0) f ∙ cell-on rec p r c k m

module _ (rec : List ℕ) (p x : ℕ) (l : 41 ≤ x) (h : x < 1641) where
  pub own-cell : get_or rec (727 + 1600 * p + x) 0 ≡ cell rec p (row_of x) (column_of x)
  own-cell = sym (cell-byte rec p x l h)

  pub east-cell : suc (column_of x) < 40 → get_or rec (727 + 1600 * p + (x + 1)) 0 ≡ cell rec p (row_of x) (column_of x + 1)
  east-cell m =
      let e = row_is x l in
      let f = column-is x l in
      near-cell rec p (x + 1) (row_of x) (column_of x + 1) (omega arith) (omega arith) (omega arith)

  pub south-cell : suc (row_of x) < 40 → get_or rec (727 + 1600 * p + (x + 40)) 0 ≡ cell rec p (row_of x + 1) (column_of x)
  south-cell k =
      let e = row_is x l in
      let f = column-is x l in
      near-cell rec p (x + 40) (row_of x + 1) (column_of x) (omega arith) (omega arith) (omega arith)

  pub corner-cell : suc (row_of x) < 40 → suc (column_of x) < 40 → get_or rec (727 + 1600 * p + (x + 41)) 0 ≡ cell rec p (row_of x + 1) (column_of x + 1)
  corner-cell k m =
      let e = row_is x l in
      let f = column-is x l in
      near-cell rec p (x + 41) (row_of x + 1) (column_of x + 1) (omega arith) (omega arith) (omega arith)

-- ---- maps

-- the map has the cells of the grid for which f holds
pub record MapOf (f : ℕ → ℕ → Bool) (a : List Bool) : Type 0 where
  pub at : (x : ℕ) → x < 1641 → get_or a x false ≡ (in_grid x && f (row_of x) (column_of x))

abbrev pub Pins : List ℕ → List Bool → Type 0
Pins rec a = MapOf (is_pin (job_of rec)) a

pub record Tiles (rec : List ℕ) (a : List Bool) : Type 0 where
  pub array : T (array_fits (job_of rec).rows (job_of rec).columns)
  pub map : MapOf (is_tile (job_of rec)) a

pub map_read : (f : ℕ → ℕ → Bool) (a : List Bool) → MapOf f a → (x : ℕ) → 41 ≤ x → x < 1641 → get_or a x false ≡ f (row_of x) (column_of x)
map_read f a m x l h = m.at x h ∙ rw (grid-in x l h) refl

-- what a program stores for a cell
pub block_at : (x n m : ℕ) → 41 ≤ x → x < 1641 → (ltb ((x - 41) / 40) n && ltb ((x - 41) % 40) m) ≡ (in_grid x && (ltb (row_of x) n && ltb (column_of x) m))
block_at x n m l h = rw (grid-in x l h, row_is x l, column-is x l) refl

pub block_none : (x : ℕ) (b : Bool) → x < 41 → false ≡ (in_grid x && b)
block_none x b l = rw (grid-low x l)

pub pins-are : (rec : List ℕ) (n m : ℕ) (a : List Bool) → n ≡ (job_of rec).rows → m ≡ (job_of rec).columns → MapOf (λ r c. ltb r n && ltb c m) a → Pins rec a
pins-are rec n m a e f g = subst (λ (m : ℕ). MapOf (λ r c. ltb r (job_of rec).rows && ltb c m) a) f (subst (λ (n : ℕ). MapOf (λ r c. ltb r n && ltb c m) a) e g)

before_last : (r n : ℕ) → 2 ≤ n → ltb r (n - 1) ≡ ltb (suc r) n
before_last r n l = by (ltb (suc r) n) refl
  where
    by : (b : Bool) → ltb (suc r) n ≡ b → ltb r (n - 1) ≡ b
    by true e = let h : suc r < n = ltb-true _ _ e in lt-ltb r (n - 1) (omega arith)
    by false e = let h : n ≤ suc r = ltb-false _ _ e in le-ltb r (n - 1) (omega arith)

pub tiles-are : (rec : List ℕ) (n m : ℕ) (a : List Bool) → T (array_fits (job_of rec).rows (job_of rec).columns) → n ≡ (job_of rec).rows → m ≡ (job_of rec).columns
    → MapOf (λ r c. ltb r (n - 1) && ltb c (m - 1)) a → Tiles rec a
tiles-are rec n m a fits e f g =
    let (j, _, k, _) = array-range (job_of rec).rows (job_of rec).columns fits in
    record {
      array = fits;
      map = record { at = λ x l. g.at x l ∙ rw (e, f, before_last (row_of x) (job_of rec).rows j, before_last (column_of x) (job_of rec).columns k) refl };
    }

-- the last of n
last : (r n : ℕ) → r < n → eqb (suc r) n ≡ not (ltb (suc r) n)
last r n l = by (ltb (suc r) n) refl
  where
    by : (b : Bool) → ltb (suc r) n ≡ b → eqb (suc r) n ≡ not b
    by true e = let h : suc r < n = ltb-true _ _ e in ne_eqb (suc r) n (λ z. omega arith)
    by false e = let h : n ≤ suc r = ltb-false _ _ e in eq-eqb (suc r) n (omega arith)

both : (a b : Bool) → not ((a && b) && true) ≡ (false || (not a || (false || not b)))
both true true = refl
both true false = refl
both false b = refl

or-none : (b : Bool) → (b || false) ≡ b
or-none true = refl
or-none false = refl

either-row : (a b s : Bool) → (T a → T b) → ((a && s) || (b && s)) ≡ (b && s)
either-row true true true f = refl
either-row true true false f = refl
either-row true false s f = absurd (f tt)
either-row false b s f = refl

either-column : (s a b : Bool) → (T a → T b) → ((s && a) || (s && b)) ≡ (s && b)
either-column true true true f = refl
either-column true true false f = absurd (f tt)
either-column true false b f = refl
either-column false a b f = refl

-- ---- cells by number

module _ (J : Job) where
  pub tile_in : ℕ → Bool
  tile_in x = in_grid x && is_tile J (row_of x) (column_of x)

  pub open_in : ℕ → Bool
  open_in x = in_grid x && is_open J (row_of x) (column_of x)

  -- an open tile or no tile
  pub clear_in : ℕ → Bool
  clear_in x = not (tile_in x) || open_in x

-- as a program reads them, from a map of the tiles and the states
module _ (rec : List ℕ) (a : List Bool) (tiles : Tiles rec a) (x : ℕ) (l : x < 1641) where
  abbrev J : Job
  J = job_of rec

  open_is : (in_grid x && (is_tile J (row_of x) (column_of x) && eqb (get_or rec (2327 + x) 0) 0)) ≡ open_in J x
  unfolding open_in is_open job_of
  open_is = by (in_grid x) refl
    where
      by : (g : Bool) → in_grid x ≡ g → (g && (is_tile J (row_of x) (column_of x) && eqb (get_or rec (2327 + x) 0) 0)) ≡ (g && (is_tile J (row_of x) (column_of x) && eqb (cell rec 1 (row_of x) (column_of x)) 0))
      by true e = rw (cell-byte rec 1 x (grid-bounds x (so e)).0 l) refl
      by false e = refl

  pub open-read : (get_or a x false && eqb (get_or rec (2327 + x) 0) 0) ≡ open_in J x
  open-read = rw (tiles.map.at x l) (by (in_grid x) (is_tile J (row_of x) (column_of x)) (eqb (get_or rec (2327 + x) 0) 0) ∙ open_is)
    where
      by : (g t s : Bool) → ((g && t) && s) ≡ (g && (t && s))
      by true t s = refl
      by false t s = refl

  pub clear-read : (not (get_or a x false) || eqb (get_or rec (2327 + x) 0) 0) ≡ clear_in J x
  unfolding clear_in tile_in
  clear-read = rw (tiles.map.at x l, sym open_is) (by (in_grid x) (is_tile J (row_of x) (column_of x)) (eqb (get_or rec (2327 + x) 0) 0))
    where
      by : (g t s : Bool) → (not (g && t) || s) ≡ (not (g && t) || (g && (t && s)))
      by true true s = refl
      by true false s = refl
      by false t s = refl

module _ (J : Job) where
  -- at a cell of the grid
  module _ (x r c : ℕ) (e : x ≡ 41 + 40 * r + c) (k : r < 40) (l : c < 40) where
    cell_at : (f : ℕ → ℕ → Bool) → (in_grid x && f (row_of x) (column_of x)) ≡ f r c
    cell_at f = rw (grid-in x (omega arith) (omega arith), cell_row x r c e l, cell-column x r c e l) refl

    tile-at : tile_in J x ≡ is_tile J r c
    unfolding tile_in
    tile-at = cell_at (is_tile J)

    open_at : open_in J x ≡ is_open J r c
    unfolding open_in
    open_at = cell_at (is_open J)

    clear_at : clear_in J x ≡ (not (is_tile J r c) || is_open J r c)
    unfolding clear_in
    clear_at = rw (tile-at, open_at) refl

  pub own_open : (x : ℕ) → 41 ≤ x → x < 1641 → open_in J x ≡ is_open J (row_of x) (column_of x)
  unfolding open_in
  own_open x l h = rw (grid-in x l h) refl

  -- where no tile is
  no-open : (x : ℕ) → tile_in J x ≡ false → open_in J x ≡ false
  unfolding tile_in open_in is_open
  no-open x = by (in_grid x) (is_tile J (row_of x) (column_of x)) (eqb (J.state (row_of x) (column_of x)) 0)
    where
      by : (g t s : Bool) → (g && t) ≡ false → (g && (t && s)) ≡ false
      by true true s e = absurd (subst T e tt)
      by true false s e = refl
      by false t s e = refl

  all-clear : (x : ℕ) → tile_in J x ≡ false → clear_in J x ≡ true
  unfolding clear_in
  all-clear x e = rw e refl

  tile_low : (x : ℕ) → x < 41 → tile_in J x ≡ false
  unfolding tile_in
  tile_low x l = rw (grid-low x l) refl

  -- the last of a row
  tile-last : (x : ℕ) → J.columns ≤ 40 → x % 40 ≡ 0 → tile_in J x ≡ false
  unfolding tile_in
  tile-last x m e = by (in_grid x) refl
    where
      by : (g : Bool) → in_grid x ≡ g → (g && is_tile J (row_of x) (column_of x)) ≡ false
      by true p =
          let l : 41 ≤ x = (grid-bounds x (so p)).0 in
          sym (no-column (row_of x) J.rows (column_of x) J.columns (omega (arith, column-is x l)))
      by false p = refl

  -- ---- around a cell

  module _ (fits : T (array_fits J.rows J.columns)) (x : ℕ) (l : 41 ≤ x) (h : x < 1641) where
    abbrev r : ℕ
    r = row_of x

    abbrev c : ℕ
    c = column_of x

    -- x by its row and its column, which are p and q
    at_row : (p : ℕ) → r ≡ p → (p ≡ (x - 41) / 40) × (p < 40)
    at_row p e = let f = row_is x l in (sym e ∙ f, omega arith)

    at-column : (q : ℕ) → c ≡ q → (q ≡ (x - 41) % 40) × (q < 40)
    at-column q e = let f = column-is x l in (sym e ∙ f, omega arith)

    own : open_in J x ≡ is_open J r c
    own = own_open x l h

    own-clear : clear_in J x ≡ (not (is_tile J r c) || is_open J r c)
    own-clear = let (e, k) = at_row r refl in let (f, m) = at-column c refl in clear_at x r c (omega arith) k m

    columns-small : J.columns ≤ 40
    columns-small = (array-range J.rows J.columns fits).3

    -- the cell to the north, the one to the west, and the one between them
    north-none : r ≡ 0 → tile_in J (x - 40) ≡ false
    north-none e = let (f, k) = at_row 0 e in tile_low (x - 40) (omega arith)

    west-none : c ≡ 0 → tile_in J (x - 1) ≡ false
    west-none e = let (f, k) = at-column 0 e in tile-last (x - 1) columns-small (omega arith)

    corner-low : r ≡ 0 → tile_in J (x - 41) ≡ false
    corner-low e = let (f, k) = at_row 0 e in tile_low (x - 41) (omega arith)

    corner-none : c ≡ 0 → tile_in J (x - 41) ≡ false
    corner-none e = let (f, k) = at-column 0 e in tile-last (x - 41) columns-small (omega arith)

    north-at : (p : ℕ) → r ≡ suc p → (x - 40 ≡ 41 + 40 * p + c) × (p < 40) × (c < 40)
    north-at p e = let (f, k) = at_row (suc p) e in let (g, m) = at-column c refl in (omega arith, omega arith, m)

    west-at : (q : ℕ) → c ≡ suc q → (x - 1 ≡ 41 + 40 * r + q) × (r < 40) × (q < 40)
    west-at q e = let (f, k) = at_row r refl in let (g, m) = at-column (suc q) e in (omega arith, k, omega arith)

    corner-at : (p q : ℕ) → r ≡ suc p → c ≡ suc q → (x - 41 ≡ 41 + 40 * p + q) × (p < 40) × (q < 40)
    corner-at p q e f = let (i, k) = at_row (suc p) e in let (j, m) = at-column (suc q) f in (omega arith, omega arith, omega arith)

    pub north-go : (open_in J x && clear_in J (x - 40)) ≡ may J (go north_side r c)
    north-go = by r refl
      where
        by : (p : ℕ) → r ≡ p → (open_in J x && clear_in J (x - 40)) ≡ may J (go north_side r c)
        by zero e = rw (own, all-clear (x - 40) (north-none e)) (and-true _ ∙ north-rim J r c e)
        by (suc p) e =
            let (f, k, m) = north-at p e in
            rw (own, clear_at (x - 40) p c f k m) (before-open J r c p c (omega arith) (omega arith) ∙ north-in J r p c e)

    pub north-come : (open_in J (x - 40) && clear_in J x) ≡ may J (come north_side r c)
    north-come = by r refl
      where
        by : (p : ℕ) → r ≡ p → (open_in J (x - 40) && clear_in J x) ≡ may J (come north_side r c)
        by zero e = rw (no-open (x - 40) (north-none e)) (south-rim J r c e)
        by (suc p) e = let (f, k, m) = north-at p e in rw (open_at (x - 40) p c f k m, own-clear) (south-in J r p c e)

    pub west-go : (open_in J (x - 1) && clear_in J x) ≡ may J (go west_side r c)
    west-go = by c refl
      where
        by : (q : ℕ) → c ≡ q → (open_in J (x - 1) && clear_in J x) ≡ may J (go west_side r c)
        by zero e = rw (no-open (x - 1) (west-none e)) (east-rim J r c e)
        by (suc q) e = let (f, k, m) = west-at q e in rw (open_at (x - 1) r q f k m, own-clear) (east-in J r c q e)

    pub west-come : (open_in J x && clear_in J (x - 1)) ≡ may J (come west_side r c)
    west-come = by c refl
      where
        by : (q : ℕ) → c ≡ q → (open_in J x && clear_in J (x - 1)) ≡ may J (come west_side r c)
        by zero e = rw (own, all-clear (x - 1) (west-none e)) (and-true _ ∙ west-rim J r c e)
        by (suc q) e =
            let (f, k, m) = west-at q e in
            rw (own, clear_at (x - 1) r q f k m) (before-open J r c r q (omega arith) (omega arith) ∙ west-in J r c q e)

    own-tile : tile_in J x ≡ is_tile J r c
    own-tile = let (e, k) = at_row r refl in let (f, m) = at-column c refl in tile-at x r c (omega arith) k m

    -- a side is there where a tile lies on one side of it
    pub north-there : (tile_in J x || tile_in J (x - 40)) ≡ has_north J r c
    north-there = by r refl
      where
        by : (p : ℕ) → r ≡ p → (tile_in J x || tile_in J (x - 40)) ≡ has_north J r c
        by zero e =
            let (a, _, _, _) = array-range J.rows J.columns fits in
            rw (own-tile, north-none e, lt-ltb (suc r) J.rows (omega arith), lt-ltb r J.rows (omega arith)) (or-none (ltb (suc c) J.columns))
        by (suc p) e =
            let (f, k, m) = north-at p e in
            rw (own-tile, tile-at (x - 40) p c f k m, e)
            (either-row (ltb (suc (suc p)) J.rows) (ltb (suc p) J.rows) (ltb (suc c) J.columns)
            (λ t. lt→ltb (suc p) J.rows (omega (arith, ltb→lt (suc (suc p)) J.rows t))))

    pub west-there : (tile_in J x || tile_in J (x - 1)) ≡ has_west J r c
    west-there = by c refl
      where
        by : (q : ℕ) → c ≡ q → (tile_in J x || tile_in J (x - 1)) ≡ has_west J r c
        by zero e =
            let (_, _, b, _) = array-range J.rows J.columns fits in
            rw (own-tile, west-none e, lt-ltb (suc c) J.columns (omega arith), lt-ltb c J.columns (omega arith)) (or-none (ltb (suc r) J.rows && true))
        by (suc q) e =
            let (f, k, m) = west-at q e in
            rw (own-tile, tile-at (x - 1) r q f k m, e)
            (either-column (ltb (suc r) J.rows) (ltb (suc (suc q)) J.columns) (ltb (suc q) J.columns)
            (λ t. lt→ltb (suc q) J.columns (omega (arith, ltb→lt (suc (suc q)) J.columns t))))

    -- where the legs lead
    abbrev opens : Compass → Bool
    opens d = is_place J (ahead_of J (leg d) r c)

    pub north-leads : open_in J (x - 40) ≡ opens north
    north-leads = by r refl
      where
        by : (p : ℕ) → r ≡ p → open_in J (x - 40) ≡ opens north
        by zero e = no-open (x - 40) (north-none e) ∙ north-rim-leg J 10 r c (omega arith) (omega arith) (λ z. omega arith) (λ z. omega arith) e
        by (suc p) e = let (f, k, m) = north-at p e in open_at (x - 40) p c f k m ∙ north-leg J 10 r p c refl e

    pub east-leads : open_in J x ≡ opens east
    east-leads = own ∙ east-leg J 11 r c refl

    pub south-leads : open_in J (x - 1) ≡ opens south
    south-leads = by c refl
      where
        by : (q : ℕ) → c ≡ q → open_in J (x - 1) ≡ opens south
        by zero e = no-open (x - 1) (west-none e) ∙ south-rim-leg J 12 r c refl e
        by (suc q) e = let (f, k, m) = west-at q e in open_at (x - 1) r q f k m ∙ south-leg J 12 r c q refl e

    pub west-leads : open_in J (x - 41) ≡ opens west
    west-leads = by r refl c refl
      where
        by : (p : ℕ) → r ≡ p → (q : ℕ) → c ≡ q → open_in J (x - 41) ≡ opens west
        by zero e q f = no-open (x - 41) (corner-low e) ∙ north-rim-leg J 13 r c (omega arith) (omega arith) (λ z. omega arith) (λ z. omega arith) e
        by (suc p) e zero f = no-open (x - 41) (corner-none f) ∙ west-rim-leg J 13 r p c refl e f
        by (suc p) e (suc q) f = let (g, k, m) = corner-at p q e f in open_at (x - 41) p q g k m ∙ west-leg J 13 r p c q refl e f

    -- a pin is inside the rim where its own tile and the one between north and west are
    rim-read : r < J.rows → c < J.columns → not (tile_in J x && tile_in J (x - 41)) ≡ on_rim J r c
    rim-read a b = by r refl c refl
      where
        by : (p : ℕ) → r ≡ p → (q : ℕ) → c ≡ q → not (tile_in J x && tile_in J (x - 41)) ≡ on_rim J r c
        by zero e q f = rw (corner-low e, and-false (tile_in J x), eq-eqb r 0 e) refl
        by (suc p) e zero f =
            rw (corner-none f, and-false (tile_in J x), eq-eqb c 0 f, or-true (eqb (suc r) J.rows), or-true (eqb r 0)) refl
        by (suc p) e (suc q) f =
            let (g, k, m) = corner-at p q e f in
            let (i, j) = at_row r refl in
            let (i', j') = at-column c refl in
            let t : ltb (suc p) J.rows ≡ true = lt-ltb (suc p) J.rows (omega arith) in
            let u : ltb (suc q) J.columns ≡ true = lt-ltb (suc q) J.columns (omega arith) in
            rw (tile-at (x - 41) p q g k m, tile-at x r c (omega arith) j j', t, u, ne_eqb r 0 (λ z. omega arith), ne_eqb c 0 (λ z. omega arith), last r J.rows a, last c J.columns b)
            (both (ltb (suc r) J.rows) (ltb (suc c) J.columns))

    pub leaves-read : (is_chosen J r c && not (tile_in J x && tile_in J (x - 41))) ≡ may J (go direct r c)
    unfolding is_chosen
    leaves-read = by (is_pin J r c) refl ∙ sym (direct-go J r c)
      where
        by : (b : Bool) → is_pin J r c ≡ b
            → ((is_pin J r c && eqb (J.mark r c) 1) && not (tile_in J x && tile_in J (x - 41))) ≡ ((is_pin J r c && eqb (J.mark r c) 1) && on_rim J r c)
        by true e =
            ap (λ (z : Bool). (is_pin J r c && eqb (J.mark r c) 1) && z)
            (rim-read (ltb→lt _ _ (and_left (ltb r J.rows) (ltb c J.columns) (so e))) (ltb→lt _ _ (and_right (ltb r J.rows) (ltb c J.columns) (so e))))
        by false e = rw e refl

-- as a program reads it, from the maps and the mark
pub direct-read : (rec : List ℕ) (pin tile : List Bool) → Pins rec pin → Tiles rec tile → (x : ℕ) → 41 ≤ x → x < 1641
    → ((get_or pin x false && eqb (cell rec 0 (row_of x) (column_of x)) 1) && not (get_or tile x false && get_or tile (x - 41) false))
    ≡ may (job_of rec) (go direct (row_of x) (column_of x))
unfolding is_chosen job_of tile_in
direct-read rec pin tile pins tiles x l h =
    rw (map_read (is_pin (job_of rec)) pin pins x l h, tiles.map.at x h, tiles.map.at (x - 41) (omega arith)) (leaves-read (job_of rec) tiles.array x l h)

-- whether a side is there, as a program reads it from the map
module _ (rec : List ℕ) (tile : List Bool) (tiles : Tiles rec tile) (x : ℕ) (l : 41 ≤ x) (h : x < 1641) where
  pub north-read : (get_or tile x false || get_or tile (x - 40) false) ≡ has_north (job_of rec) (row_of x) (column_of x)
  unfolding tile_in
  north-read = rw (tiles.map.at x h, tiles.map.at (x - 40) (omega arith)) (north-there (job_of rec) tiles.array x l h)

  pub west-read : (get_or tile x false || get_or tile (x - 1) false) ≡ has_west (job_of rec) (row_of x) (column_of x)
  unfolding tile_in
  west-read = rw (tiles.map.at x h, tiles.map.at (x - 1) (omega arith)) (west-there (job_of rec) tiles.array x l h)
