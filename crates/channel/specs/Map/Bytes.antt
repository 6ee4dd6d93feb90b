-- The loads of darts and of places, read off the bytes of a record, for each way out of the code that reads them. Assumes nothing.
use Rattle.std.specs.Prelude.{◌≡◌, refl, ◌≢◌, Bool, true, false, not, ◌&&◌, ◌||◌, List, ℕ, ◌+◌, ◌*◌, ◌/◌, ◌%◌, ◌^◌, ◌≤◌, ◌<◌, T, eqb, get_or}
use Rattle.std.proofs.Common.{sym, subst, ◌∙◌, arith, eq-eqb, ne_eqb, eqb→eq}
use Rattle.std.proofs.Math.Path.{ap}
use Rattle.std.specs.Bool.{beq}
use Rattle.sums.specs.Counting.{when, total}
use Rattle.sums.specs.Tests.{and_right, so, below, below_at}
use Rattle.model.specs.Links.{pin, missing, centre, at, north_side, link_code, link}
use Rattle.model.specs.Loads.{arrivals, departures}
use Rattle.model.specs.Record.{forth_part, back_part, kinds, cell, load}
use Rattle.channel.specs.Map.{in_grid, row_of, column_of, owner_cell, step_of, carries, is_passage, is_stored, is_link_dart, is_pass_dart, passed_of, way_part, view, opposed, address, kind_of, owner_of, sign_of, code_of}
use Rattle.channel.specs.Map.Bools.{if-true, if-false, same_test, not_so}
use Rattle.channel.specs.Map.Bounds.{kind-bound, code-bound}
use Rattle.channel.specs.Map.Grid.{grid-low, grid-in, grid-high, grid-bounds, cell-byte}

-- ---- the byte of a dart's link

pub owner-is : (d o : ℕ) → o ≡ owner_of (d % 64) → d / 64 + o ≡ owner_cell d
unfolding owner_cell
owner-is d o e = ap (λ (x : ℕ). d / 64 + x) e

pub address_is : (d k o : ℕ) → k ≡ kind_of (d % 64) → o ≡ owner_of (d % 64) → 3927 + 1600 * k + (d / 64 + o) ≡ address d
unfolding address owner_cell
address_is d k o e f = omega (arith, e, f)

abbrev kept : List ℕ → ℕ → ℕ
kept rec d = when (in_grid (owner_cell d)) (get_or rec (address d) 0)

module _ (rec : List ℕ) (d o : ℕ) (e : o ≡ owner_of (d % 64)) where
  pub kept_low : d / 64 + o < 41 → 0 ≡ kept rec d
  kept_low l = rw (grid-low (owner_cell d) (subst (λ (x : ℕ). x < 41) (owner-is d o e) l))

  pub kept_high : 1641 ≤ d / 64 + o → 0 ≡ kept rec d
  kept_high l = rw (grid-high (owner_cell d) (subst (λ (x : ℕ). 1641 ≤ x) (owner-is d o e) l))

  pub kept_in : (k : ℕ) → k ≡ kind_of (d % 64) → 41 ≤ d / 64 + o → d / 64 + o < 1641 → get_or rec (3927 + 1600 * k + (d / 64 + o)) 0 ≡ kept rec d
  kept_in k f l m =
      rw (grid-in (owner_cell d) (subst (λ (x : ℕ). 41 ≤ x) (owner-is d o e) l) (subst (λ (x : ℕ). x < 1641) (owner-is d o e) m))
      (ap (λ (x : ℕ). get_or rec x 0) (address_is d k o f e))

-- ---- along it and against it

code-kind : (k : ℕ) → k < 15 → link_code (get_or kinds k north_side) ≡ k
unfolding below
code-kind k l = eqb→eq _ _ (below_at 15 (λ k. eqb (link_code (get_or kinds k north_side)) k) tt k l)

step-cell : (rec : List ℕ) (d : ℕ) → T (in_grid (owner_cell d))
    → cell rec (2 + link_code (get_or kinds (kind_of (d % 64)) north_side)) (row_of (owner_cell d)) (column_of (owner_cell d)) ≡ get_or rec (address d) 0
unfolding address
step-cell rec d t =
    let (l, m) = grid-bounds (owner_cell d) t in
    let k : link_code (get_or kinds (kind_of (d % 64)) north_side) ≡ kind_of (d % 64) = code-kind (kind_of (d % 64)) (kind-bound (d % 64) (omega arith)) in
    cell-byte rec _ (owner_cell d) l m ∙ ap (λ (x : ℕ). get_or rec x 0) (omega (arith, k))

pub way-forth : (f : Bool) (b : ℕ) → f ≡ true → forth_part b ≡ way_part f b
unfolding way_part
way-forth f b e = sym (if-true f _ _ e)

pub way_back : (f : Bool) (b : ℕ) → f ≡ false → back_part b ≡ way_part f b
unfolding way_part
way_back f b e = sym (if-false f _ _ e)

way-none : (f : Bool) → way_part f 0 ≡ 0
unfolding way_part
way-none true = refl
way-none false = refl

load-way : (rec : List ℕ) (d : ℕ) (f : Bool) → when (in_grid (owner_cell d)) (load rec (record { link = (step_of d).link; forth = f })) ≡ way_part f (kept rec d)
unfolding load way_part step_of
load-way rec d f = go (in_grid (owner_cell d)) (step-cell rec d)
  where
    go : (b : Bool) → (T b → cell rec (2 + link_code (get_or kinds (kind_of (d % 64)) north_side)) (row_of (owner_cell d)) (column_of (owner_cell d)) ≡ get_or rec
        (address d) 0)
        → when b (load rec (record { link = link (get_or kinds (kind_of (d % 64)) north_side) (row_of (owner_cell d)) (column_of (owner_cell d)); forth = f }))
        ≡ way_part f (when b (get_or rec (address d) 0))
    go true e = ap (way_part f) (e tt)
    go false e = sym (way-none f)

module _ (rec : List ℕ) (d b s : ℕ) (e : b ≡ kept rec d) (f : s ≡ sign_of (d % 64)) where
  byte-way : (w : Bool) → way_part w b ≡ when (in_grid (owner_cell d)) (load rec (record { link = (step_of d).link; forth = w }))
  byte-way w = ap (way_part w) e ∙ sym (load-way rec d w)

  pub along-way : way_part (eqb s 0) b ≡ when (in_grid (owner_cell d)) (load rec (step_of d))
  unfolding step_of
  along-way = ap (λ (n : ℕ). way_part (eqb n 0) b) f ∙ byte-way (eqb (sign_of (d % 64)) 0)

  pub against-way : way_part (not (eqb s 0)) b ≡ opposed rec d
  unfolding opposed step_of
  against-way = ap (λ (n : ℕ). way_part (not (eqb n 0)) b) f ∙ byte-way (not (eqb (sign_of (d % 64)) 0))

  pub along-forth : s ≡ 0 → forth_part b ≡ when (in_grid (owner_cell d)) (load rec (step_of d))
  along-forth z = way-forth (eqb s 0) b (eq-eqb s 0 z) ∙ along-way

  pub along-back : s ≢ 0 → back_part b ≡ when (in_grid (owner_cell d)) (load rec (step_of d))
  along-back z = way_back (eqb s 0) b (ne_eqb s 0 z) ∙ along-way

-- ---- through a place

module _ (rec : List ℕ) (x : ℕ) (l : 41 ≤ x) (m : x < 1641) where
  pub centre-arrivals : back_part (get_or rec (13527 + x) 0) + back_part (get_or rec (15127 + x) 0) + back_part (get_or rec (16727 + x) 0)
      + back_part (get_or rec (18327 + x) 0) ≡ arrivals (load rec) (at centre (row_of x) (column_of x))
  unfolding arrivals total load
  centre-arrivals =
      simp (cell-byte rec 8 x l m, cell-byte rec 9 x l m, cell-byte rec 10 x l m, cell-byte rec 11 x l m) (omega arith)

  pub missing-arrivals : back_part (get_or rec (19927 + x) 0) + back_part (get_or rec (21527 + x) 0) + back_part (get_or rec (23127 + x) 0)
      + back_part (get_or rec (24727 + x) 0) ≡ arrivals (load rec) (at missing (row_of x) (column_of x))
  unfolding arrivals total load
  missing-arrivals =
      simp (cell-byte rec 12 x l m, cell-byte rec 13 x l m, cell-byte rec 14 x l m, cell-byte rec 15 x l m) (omega arith)

  pub pin-departures : forth_part (get_or rec (19927 + x) 0) + forth_part (get_or rec (21527 + x) 0) + forth_part (get_or rec (23127 + x) 0)
      + forth_part (get_or rec (24727 + x) 0) + forth_part (get_or rec (26327 + x) 0) ≡ departures (load rec) (at pin (row_of x) (column_of x))
  unfolding departures total load
  pin-departures =
      simp (cell-byte rec 12 x l m, cell-byte rec 13 x l m, cell-byte rec 14 x l m, cell-byte rec 15 x l m, cell-byte rec 16 x l m) (omega arith)

  pub missing-departures : forth_part (get_or rec (19927 + x) 0) + forth_part (get_or rec (21527 + x) 0) + forth_part (get_or rec (23127 + x) 0)
      + forth_part (get_or rec (24727 + x) 0) ≡ departures (load rec) (at missing (row_of x) (column_of x))
  unfolding departures total load
  missing-departures =
      simp (cell-byte rec 12 x l m, cell-byte rec 13 x l m, cell-byte rec 14 x l m, cell-byte rec 15 x l m) (omega arith)

  pub centre-departures : forth_part (get_or rec (13527 + x) 0) + forth_part (get_or rec (15127 + x) 0) + forth_part (get_or rec (16727 + x) 0)
      + forth_part (get_or rec (18327 + x) 0) ≡ departures (load rec) (at centre (row_of x) (column_of x))
  unfolding departures total load
  centre-departures =
      simp (cell-byte rec 8 x l m, cell-byte rec 9 x l m, cell-byte rec 10 x l m, cell-byte rec 11 x l m) (omega arith)

-- ---- what a dart carries

pub mask-carries : (c : ℕ) → c < 16 → eqb (32990 / 2 ^ c % 2) 1 ≡ carries c
unfolding below carries
mask-carries c l = same_test _ _ (below_at 16 (λ c. beq (eqb (32990 / 2 ^ c % 2) 1) (carries c)) tt c l)

pub mask-stored : (c : ℕ) → c < 16 → eqb (46814 / 2 ^ c % 2) 1 ≡ is_stored c
unfolding below is_stored
mask-stored c l = same_test _ _ (below_at 16 (λ c. beq (eqb (46814 / 2 ^ c % 2) 1) (is_stored c)) tt c l)

pub pass-dart-is : (d c : ℕ) (b : Bool) → c ≡ code_of (d % 64) → b ≡ in_grid (d / 64) → ((eqb c 5 || eqb c 8) && b) ≡ is_pass_dart d
unfolding is_pass_dart is_passage
pass-dart-is d c b e f = rw (e, f)

pub pass-bounds : (d : ℕ) → T (is_pass_dart d) → (41 ≤ d / 64) × (d / 64 < 1641)
unfolding is_pass_dart
pass-bounds d t = grid-bounds (d / 64) (and_right (is_passage (code_of (d % 64))) (in_grid (d / 64)) t)

pub passed-centre : (d : ℕ) → code_of (d % 64) ≡ 5 → at centre (row_of (d / 64)) (column_of (d / 64)) ≡ passed_of d
unfolding passed_of
passed-centre d e = ap (λ k. at k (row_of (d / 64)) (column_of (d / 64))) (sym (if-true (eqb (code_of (d % 64)) 5) centre missing (eq-eqb _ _ e)))

pub passed-missing : (d : ℕ) → code_of (d % 64) ≢ 5 → at missing (row_of (d / 64)) (column_of (d / 64)) ≡ passed_of d
unfolding passed_of
passed-missing d e = ap (λ k. at k (row_of (d / 64)) (column_of (d / 64))) (sym (if-false (eqb (code_of (d % 64)) 5) centre missing (ne_eqb _ _ e)))

-- a dart of a code that carries is no passage
pub carries-no-pass : (c : ℕ) → c < 16 → T (carries c) → is_passage c ≡ false
unfolding below carries is_passage
carries-no-pass c l t = not_so (carries c) (is_passage c) (below_at 16 (λ c. not (carries c && is_passage c)) tt c l) t

pub view-link : (rec : List ℕ) (d : ℕ) → carries (code_of (d % 64)) ≡ true → when (in_grid (owner_cell d)) (load rec (step_of d)) ≡ view rec d
unfolding view is_link_dart is_pass_dart
view-link rec d e = rw (e, carries-no-pass (code_of (d % 64)) (code-bound (d % 64) (omega arith)) (so e)) (omega arith)

pub view-pass : (rec : List ℕ) (d : ℕ) → carries (code_of (d % 64)) ≡ false → is_pass_dart d ≡ true → arrivals (load rec) (passed_of d) ≡ view rec d
unfolding view is_link_dart
view-pass rec d e f = rw (e, f) (omega arith)

pub view-none : (rec : List ℕ) (d : ℕ) → carries (code_of (d % 64)) ≡ false → is_pass_dart d ≡ false → 0 ≡ view rec d
unfolding view is_link_dart
view-none rec d e f = rw (e, f)
