-- The tests of a sheet's cells as a program makes them: what a load byte within a limit is, when a wire comes from the outside, which legs lead into the
-- array, how many marks a pin has; and what a legal record and a sheet that is not turned away give.
-- Assumes nothing.
use Rattle.std.specs.Prelude.{◌≡◌, ◌≢◌, ◌⊎◌, Bool, ◌&&◌, ◌||◌, List, T, leb, get_or}
use Rattle.std.proofs.Math.Path.{refl, sym}
use Rattle.std.proofs.Common.{ap, ap₂, subst, ◌∙◌, inl, inr, ⊎_elim, lt-ltb, eqb→eq, leb→le, le→leb, ltb→lt, lt→ltb}
use Rattle.std.proofs.Math.Bool.{true, false, not}
use Prim.Native.Nat.{ℕ, zero, suc, ◌+◌, ◌*◌, ◌≤◌, ◌<◌}
use native.Mathlib.Omega.{arith}
use Rattle.std.proofs.Math.Dec.{not_T, eqb, ltb, eqb-suc-zero}
use Rattle.sums.specs.Counting.{when, total}
use Rattle.sums.specs.Tests.{every, below, below_or, and_left, and_right, and_both, both_ways, or-by}
use Rattle.model.specs.Job.{Job, in_range, centre_limit, north_limit, west_limit, tile_d, is_tile, is_chosen, is_missing}
use Rattle.model.specs.Links.{north, east, south, west, outside, side, Place, at, the_outside, place_code, north_side, west_side, go, come, head, tail, behind_of, ahead_of, limit_of}
use Rattle.model.specs.Loads.{departures}
use Rattle.model.specs.Near.{size}
use Rattle.model.specs.Record.{job_of, kinds, forth_part, back_part, Legal}
use Rattle.model.specs.Sheet.{sheet_cell, sheet_load, everywhere, sheet_job, load_within, none_inward, leads_in, marks_within, marks_of, sheet_fits}
use Rattle.model.proofs.Own.{tile-range}
use Rattle.channel.specs.Map.{row_of, column_of}
use Rattle.channel.specs.Map.Darts.{cell_row, cell-column}
use Rattle.sheets.specs.Bytes.{LoadByte, load_byte_lem}
use Rattle.sheets.specs.Passage.{least_d}
use Rattle.sheets.specs.Tiles.{by_out, by_in, open_test, Ready}

-- ---- cells

pub sheet-on : (sheet : List ℕ) (p r c : ℕ) → r < 40 → c < 40 → get_or sheet (1600 * p + 40 * r + c) 0 ≡ sheet_cell sheet p r c
unfolding sheet_cell
sheet-on sheet p r c l m = simp (lt-ltb _ _ l, lt-ltb _ _ m)

-- the test of all numbers below 0, and below one more
pub below_none : (p : ℕ → Bool) → true ≡ below 0 p
unfolding below
below_none p = refl

pub below_next : (n : ℕ) (p : ℕ → Bool) → below (n + 1) p ≡ (below n p && p n)
unfolding below
below_next n p = let e : n + 1 ≡ suc n = omega arith in ap (λ (m : ℕ). below m p) e

-- ---- load bytes

abbrev pub within_by : ℕ → ℕ → Bool
within_by most b = leb b most || (ltb 32 b && leb b (32 + most))

within-so : (most b : ℕ) → most < 32 → T (within_by most b) → T (load_within most b)
within-so most b l t =
    let h : (b ≤ most) ⊎ ((32 < b) × (b ≤ 32 + most)) =
    or-by (leb b most) (ltb 32 b && leb b (32 + most)) (λ u. inl (leb→le b most u))
    (λ u. inr (ltb→lt 32 b (and_left (ltb 32 b) (leb b (32 + most)) u), leb→le b (32 + most) (and_right (ltb 32 b) (leb b (32 + most)) u))) t in
    let small : b < 64 = ⊎_elim (λ a. omega arith) (λ a. omega arith) h in
    let other : b ≡ 32 → ⊥ = λ e. ⊎_elim (λ a. omega arith) (λ a. omega arith) h in
    let few : forth_part b + back_part b ≤ most = ⊎_elim (λ a. omega arith) (λ a. omega arith) h in
    and_both (ltb b 64) (not (eqb b 32) && leb (forth_part b + back_part b) most) (lt→ltb b 64 small)
    (and_both (not (eqb b 32)) (leb (forth_part b + back_part b) most) (not_T (eqb b 32) (λ u. other (eqb→eq b 32 u)))
    (le→leb (forth_part b + back_part b) most few))

pub or_right : (a b : Bool) → T b → T (a || b)
or_right true b t = tt
or_right false b t = t

pub or_left : (a b : Bool) → T a → T (a || b)
or_left true b t = tt
or_left false b t = absurd t

so-within : (most b : ℕ) → T (load_within most b) → T (within_by most b)
so-within most b t =
    let l = load_byte_lem most b t in
    ⊎_elim (λ h. or_left (leb b most) (ltb 32 b && leb b (32 + most)) (le→leb b most (omega (arith, l.few))))
    (λ h.
    let more : 32 < b = omega (arith, l.proper) in
    or_right (leb b most) (ltb 32 b && leb b (32 + most))
    (and_both (ltb 32 b) (leb b (32 + most)) (lt→ltb 32 b more) (le→leb b (32 + most) (omega (arith, l.few))))) (below_or b 32)

pub within-is : (most b : ℕ) → most < 32 → within_by most b ≡ load_within most b
within-is most b l = both_ways (within_by most b) (load_within most b) (within-so most b l) (so-within most b)

-- the bytes of a side and of a mark, read by a program, as the amount that enters by them asks for
pub read-bytes : (b m x y : ℕ) → b ≡ x → m ≡ y → LoadByte 2 x → y ≤ 1 → (b < 64) × (b ≢ 32) × (forth_part b + back_part b ≤ 2) × (m ≤ 1)
read-bytes b m x y p q l h =
    let k = subst (LoadByte 2) (sym p) l in
    (k.small, k.proper, k.few, omega arith)

-- ---- what a side takes

module _ (J : Job) (r c : ℕ) (l : c < 40) where
  abbrev x : ℕ
  x = 41 + 40 * r + c

  pub north-most : size (limit_of J (get_or kinds 0 north_side) (row_of x) (column_of x)) ≡ north_limit J r c
  unfolding limit_of
  north-most = rw (cell_row x r c refl l, cell-column x r c refl l) refl

  pub west-most : size (limit_of J (get_or kinds 1 north_side) (row_of x) (column_of x)) ≡ west_limit J r c
  unfolding limit_of
  west-most = rw (cell_row x r c refl l, cell-column x r c refl l) refl

  -- what the centre of the tile passes
  pub cell-limit : centre_limit J.O (tile_d J (row_of x) (column_of x)) ≡ centre_limit J.O (tile_d J r c)
  cell-limit = ap (λ (i : ℕ). centre_limit J.O (tile_d J i (column_of x))) (cell_row x r c refl l) ∙ ap (λ (j : ℕ). centre_limit J.O (tile_d J r j)) (cell-column x r c refl l)

-- ---- wires from the outside

forth-some : (b : ℕ) → ltb 0 (forth_part b) ≡ (ltb 0 b && ltb b 32)
forth-some b =
    both_ways (ltb 0 (forth_part b)) (ltb 0 b && ltb b 32)
    (λ t.
    let h = ltb→lt 0 (forth_part b) t in
    and_both (ltb 0 b) (ltb b 32) (lt→ltb 0 b (omega arith)) (lt→ltb b 32 (omega arith)))
    (λ t.
    let h = ltb→lt 0 b (and_left (ltb 0 b) (ltb b 32) t) in
    let k = ltb→lt b 32 (and_right (ltb 0 b) (ltb b 32) t) in
    lt→ltb 0 (forth_part b) (omega arith))

back_some : (b : ℕ) → ltb 0 (back_part b) ≡ ltb 32 b
back_some b =
    both_ways (ltb 0 (back_part b)) (ltb 32 b) (λ t. let h = ltb→lt 0 (back_part b) t in lt→ltb 32 b (omega arith))
    (λ t. let h = ltb→lt 32 b t in lt→ltb 0 (back_part b) (omega arith))

and-true : (a : Bool) → (a && true) ≡ a
and-true true = refl
and-true false = refl

and-false : (a : Bool) → (a && false) ≡ false
and-false true = refl
and-false false = refl

some_below : (r : ℕ) → ltb 0 (suc r) ≡ true
some_below r = lt-ltb 0 (suc r) (omega arith)

module _ (J : Job) (sheet : List ℕ) where
  -- what lies behind a side, by its cell

  north-behind : (r c : ℕ) → eqb (place_code (tail J (go north_side r c)).kind) (place_code outside) ≡ not (is_tile J r c)
  unfolding head behind_of
  north-behind r c = go' (is_tile J r c)
    where
      go' : (b : Bool) → eqb (place_code (elim b as (λ x. Place) [ true ↦ at (side north) r c | false ↦ the_outside ]).kind) (place_code outside) ≡ not b
      go' true = refl
      go' false = refl

  north-ahead : (r c : ℕ) → eqb (place_code (tail J (come north_side r c)).kind) (place_code outside) ≡ eqb r 0
  unfolding head ahead_of
  north-ahead zero c = refl
  north-ahead (suc r) c = sym (eqb-suc-zero r)

  west-behind : (r c : ℕ) → eqb (place_code (tail J (go west_side r c)).kind) (place_code outside) ≡ eqb c 0
  unfolding head behind_of
  west-behind r zero = refl
  west-behind r (suc c) = sym (eqb-suc-zero c)

  west-ahead : (r c : ℕ) → eqb (place_code (tail J (come west_side r c)).kind) (place_code outside) ≡ not (is_tile J r c)
  unfolding head ahead_of
  west-ahead r c = go' (is_tile J r c)
    where
      go' : (b : Bool) → eqb (place_code (elim b as (λ x. Place) [ true ↦ at (side west) r c | false ↦ the_outside ]).kind) (place_code outside) ≡ not b
      go' true = refl
      go' false = refl

  abbrev pub inward_by : ℕ → ℕ → Bool
  inward_by r c =
      not (not (is_tile J r c) && (ltb 0 (sheet_cell sheet 0 r c) && ltb (sheet_cell sheet 0 r c) 32))
      && (not (eqb r 0 && ltb 32 (sheet_cell sheet 0 r c))
      && (not (eqb c 0 && (ltb 0 (sheet_cell sheet 1 r c) && ltb (sheet_cell sheet 1 r c) 32)) && not (not (is_tile J r c) && ltb 32 (sheet_cell sheet 1 r c))))

  pub inward-is : (r c : ℕ) → inward_by r c ≡ none_inward J sheet r c
  unfolding every sheet_load
  inward-is r c =
      sym
      (simp (
        north-behind r c,
        north-ahead r c,
        west-behind r c,
        west-ahead r c,
        forth-some (sheet_cell sheet 0 r c),
        back_some (sheet_cell sheet 0 r c),
        forth-some (sheet_cell sheet 1 r c),
        back_some (sheet_cell sheet 1 r c),
        and-true (not (not (is_tile J r c) && ltb 32 (sheet_cell sheet 1 r c))),
      ))

  -- ---- marks

  north-leads : (r c : ℕ) → leads_in J north r c ≡ ((ltb 0 r && ltb r J.rows) && ltb (suc c) J.columns)
  unfolding ahead_of
  north-leads zero c = refl
  north-leads (suc r) c = rw (some_below r) refl

  east-leads : (r c : ℕ) → leads_in J east r c ≡ (ltb (suc r) J.rows && ltb (suc c) J.columns)
  unfolding ahead_of
  east-leads r c = refl

  south-leads : (r c : ℕ) → leads_in J south r c ≡ (ltb (suc r) J.rows && (ltb 0 c && ltb c J.columns))
  unfolding ahead_of
  south-leads r zero = sym (and-false (ltb (suc r) J.rows))
  south-leads r (suc c) = rw (some_below c) refl

  west-leads : (r c : ℕ) → leads_in J west r c ≡ ((ltb 0 r && ltb r J.rows) && (ltb 0 c && ltb c J.columns))
  unfolding ahead_of
  west-leads zero c = refl
  west-leads (suc r) zero = sym (and-false (ltb 0 (suc r) && ltb (suc r) J.rows))
  west-leads (suc r) (suc c) = rw (some_below r, some_below c) refl

  abbrev pub marks_by : (chosen up down left right : Bool) (r c : ℕ) → Bool
  marks_by chosen up down left right r c =
      leb (sheet_cell sheet 2 r c) (when (chosen && (up && right)) 1)
      && (leb (sheet_cell sheet 3 r c) (when (chosen && (down && right)) 1)
      && (leb (sheet_cell sheet 4 r c) (when (chosen && (down && left)) 1) && leb (sheet_cell sheet 5 r c) (when (chosen && (up && left)) 1)))

  pub marks-are : (r c : ℕ)
      → marks_by (is_chosen J r c) (ltb 0 r && ltb r J.rows) (ltb (suc r) J.rows) (ltb 0 c && ltb c J.columns) (ltb (suc c) J.columns) r c
      ≡ marks_within J sheet r c
  unfolding every
  marks-are r c = rw (north-leads r c, east-leads r c, south-leads r c, west-leads r c, and-true (leb (sheet_cell sheet 5 r c) (when (is_chosen J r c && ((ltb 0 r && ltb r J.rows) && (ltb 0 c && ltb c J.columns))) 1))) refl

  -- as a program reads them
  pub marks-read : (r c : ℕ) {chosen : Bool} {h v b₂ b₃ b₄ b₅ h₂ h₃ h₄ h₅ : ℕ} → chosen ≡ is_chosen J r c → h ≡ J.rows → v ≡ J.columns
      → b₂ ≡ sheet_cell sheet 2 r c → h₂ ≡ when (chosen && ((ltb 0 r && ltb r h) && ltb (c + 1) v)) 1
      → b₃ ≡ sheet_cell sheet 3 r c → h₃ ≡ when (chosen && (ltb (r + 1) h && ltb (c + 1) v)) 1
      → b₄ ≡ sheet_cell sheet 4 r c → h₄ ≡ when (chosen && (ltb (r + 1) h && (ltb 0 c && ltb c v))) 1
      → b₅ ≡ sheet_cell sheet 5 r c → h₅ ≡ when (chosen && ((ltb 0 r && ltb r h) && (ltb 0 c && ltb c v))) 1
      → (leb b₂ h₂ && (leb b₃ h₃ && (leb b₄ h₄ && leb b₅ h₅))) ≡ marks_within J sheet r c
  marks-read r c k x y p₂ q₂ p₃ q₃ p₄ q₄ p₅ q₅ =
      let er : r + 1 ≡ suc r = omega arith in
      let ec : c + 1 ≡ suc c = omega arith in
      cc (marks-are r c)

  pub marks-of : (r c : ℕ) → sheet_cell sheet 2 r c + sheet_cell sheet 3 r c + sheet_cell sheet 4 r c + sheet_cell sheet 5 r c ≡ marks_of sheet r c
  unfolding departures total sheet_load
  marks-of r c = omega arith

-- ---- the test of an open tile, as a program reads its bytes

pub open-read : (J : Job) (sheet : List ℕ) (r c : ℕ) → c < 40 → {b₁ m₁ b₂ m₂ b₃ m₃ b₄ m₄ n e s w x y z : ℕ}
    → b₁ ≡ sheet_cell sheet 0 r c → m₁ ≡ sheet_cell sheet 3 r c → n ≡ by_out b₁ m₁
    → b₂ ≡ sheet_cell sheet 1 r (c + 1) → m₂ ≡ sheet_cell sheet 4 r (c + 1) → e ≡ by_out b₂ m₂
    → b₃ ≡ sheet_cell sheet 0 (r + 1) c → m₃ ≡ sheet_cell sheet 5 (r + 1) (c + 1) → s ≡ by_in b₃ m₃
    → b₄ ≡ sheet_cell sheet 1 r c → m₄ ≡ sheet_cell sheet 2 (r + 1) c → w ≡ by_in b₄ m₄
    → x ≡ least_d n e s w → y ≡ x → z ≡ centre_limit J.O (tile_d J (row_of (41 + 40 * r + c)) (column_of (41 + 40 * r + c)))
    → leb y (2 + z) ≡ open_test J sheet r c
open-read J sheet r c l p₁ q₁ k₁ p₂ q₂ k₂ p₃ q₃ k₃ p₄ q₄ k₄ u v h =
    let er : r + 1 ≡ suc r = omega arith in
    let ec : c + 1 ≡ suc c = omega arith in
    let a₁ = k₁ ∙ ap₂ (λ (b m : ℕ). by_out b m) p₁ q₁ in
    let a₂ = k₂ ∙ ap₂ (λ (b m : ℕ). by_out b m) (p₂ ∙ ap (λ (j : ℕ). sheet_cell sheet 1 r j) ec) (q₂ ∙ ap (λ (j : ℕ). sheet_cell sheet 4 r j) ec) in
    let a₃ = k₃ ∙ ap₂ (λ (b m : ℕ). by_in b m) (p₃ ∙ ap (λ (i : ℕ). sheet_cell sheet 0 i c) er) (q₃ ∙ ap₂ (λ (i j : ℕ). sheet_cell sheet 5 i j) er ec) in
    let a₄ = k₄ ∙ ap₂ (λ (b m : ℕ). by_in b m) p₄ (q₄ ∙ ap (λ (i : ℕ). sheet_cell sheet 2 i c) er) in
    ap₂ (λ (i j : ℕ). leb i (2 + j)) (v ∙ u ∙ λ i. least_d (a₁ i) (a₂ i) (a₃ i) (a₄ i)) (h ∙ cell-limit J r c l)

-- ---- a legal record and a sheet that is not turned away

tile-most : (rec : List ℕ) → Legal rec → (job_of rec).O ≡ 2 → (r c : ℕ) → tile_d (job_of rec) r c ≤ 4
tile-most rec g two r c =
    let J : Job = job_of rec in
    omega (arith, (tile-range J (record { job = g.values.caps; tiles = g.values.added }) r c).1, two)

pub ready_of : (rec sheet : List ℕ) → Legal rec → T (sheet_job (job_of rec)) → T (sheet_fits (job_of rec) sheet) → Ready (job_of rec) sheet
ready_of rec sheet g t u =
    let J : Job = job_of rec in
    let two = eqb→eq J.O 2 (and_left (eqb J.O 2) (everywhere (λ r c. not (is_missing J r c))) t) in
    record {
      two = two;
      rows =
          leb→le J.rows 40
          (and_right (leb 2 J.rows) (leb J.rows 40) (and_left (in_range 2 40 J.rows) (in_range 2 40 J.columns) g.values.array));
      columns =
          leb→le J.columns 40
          (and_right (leb 2 J.columns) (leb J.columns 40) (and_right (in_range 2 40 J.rows) (in_range 2 40 J.columns) g.values.array));
      states = g.values.states;
      diagonals = tile-most rec g two;
      fits = u;
    }
