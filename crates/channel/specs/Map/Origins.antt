-- Where the wires of a load byte begin: the byte has the load of a step, and its wires leave the spot of the step's dart. Assumes nothing.
use Rattle.std.specs.Prelude.{◌≡◌, refl, ◌≢◌, Bool, true, false, List, ℕ, ◌+◌, ◌-◌, ◌*◌, ◌/◌, ◌%◌, ◌<◌, eqb, ltb}
use Rattle.std.proofs.Math.Path.{sym, ap}
use Rattle.std.proofs.Common.{subst, ◌∙◌, eq-eqb, ne_eqb, lt-ltb, le-ltb}
use native.Mathlib.Omega.{arith}
use Rattle.std.proofs.Math.ListN.{get_or}
use Rattle.model.specs.Links.{link_code, Step}
use Rattle.model.specs.Record.{load_plane, load}
use Rattle.channel.specs.Map.{spots, owner_of, seat_of, dart_of, way_part}
use Rattle.channel.specs.Map.Bools.{if-true, if-false}
use Rattle.channel.specs.Map.Darts.{OnGrid, kind-code}
use Rattle.channel.specs.Map.Grid.{cell-on}

-- ---- the spot of a load byte

-- the spot that a wire on the i-th link leaves, going its positive way or the other
seat_spot : ℕ → Bool → ℕ
seat_spot i f = 8 * (41 + i % 1600 - owner_of (seat_of (i / 1600) f)) + seat_of (i / 1600) f / 8

-- the spot that the wires of the i-th load byte leave; no spot where it is 0
pub origin_of : List ℕ → ℕ → ℕ
origin_of rec i = elim (eqb (get_or rec (3968 + i) 0) 0) [ true ↦ spots | false ↦ seat_spot i (ltb (get_or rec (3968 + i) 0) 32) ]

module _ (rec : List ℕ) (i : ℕ) where
  -- as a program reads it
  pub origin-none : get_or rec (3968 + i) 0 ≡ 0 → 13128 ≡ origin_of rec i
  unfolding origin_of spots
  origin-none e = sym (if-true (eqb (get_or rec (3968 + i) 0) 0) spots _ (eq-eqb _ _ e))

  pub origin-at : get_or rec (3968 + i) 0 ≢ 0 → (j o : ℕ) → j ≡ seat_of (i / 1600) (ltb (get_or rec (3968 + i) 0) 32) → o ≡ owner_of j
      → 8 * (41 + i % 1600 - o) + j / 8 ≡ origin_of rec i
  unfolding origin_of seat_spot
  origin-at n j o e f = rw (f, e) (sym (if-false (eqb (get_or rec (3968 + i) 0) 0) spots _ (ne_eqb _ _ n)))

-- ---- along a link

-- the wires of a byte go the way that its load goes
byte-way : (b : ℕ) (f : Bool) → 0 < way_part f b → (b ≢ 0) × (ltb b 32 ≡ f)
unfolding way_part
byte-way b true l = (λ e. omega arith, lt-ltb b 32 (omega arith))
byte-way b false l = (λ e. omega arith, le-ltb b 32 (omega arith))

-- which load byte a step's link has
pub step_byte : Step → ℕ
step_byte s = 1600 * link_code s.link.kind + (40 * s.link.row + s.link.column)

module _ (s : Step) (g : OnGrid s) where
  pub step-byte< : step_byte s < 24000
  unfolding step_byte
  step-byte< = omega (arith, (kind-code s.link.kind).0, g.row<, g.column<)

  -- the load of a step is in that byte
  pub step-load : (rec : List ℕ) → load rec s ≡ way_part s.forth (get_or rec (3968 + step_byte s) 0)
  unfolding step_byte load way_part
  step-load rec =
      let p : 768 + 1600 * load_plane s.link.kind + 40 * s.link.row + s.link.column ≡ 3968 + step_byte s = omega arith in
      ap (way_part s.forth)
      (sym (cell-on rec (load_plane s.link.kind) s.link.row s.link.column g.row< g.column<) ∙ ap (λ (a : ℕ). get_or rec a 0) p)

  pub step-origin : (rec : List ℕ) → 0 < load rec s → origin_of rec (step_byte s) ≡ dart_of s / 8
  unfolding step_byte dart_of
  step-origin rec l =
      let n = link_code s.link.kind in
      let x = 40 * s.link.row + s.link.column in
      let i = step_byte s in
      let h : n < 15 = (kind-code s.link.kind).0 in
      let k : i / 1600 ≡ n = omega (arith, g.row<, g.column<) in
      let m : i % 1600 ≡ x = omega (arith, g.row<, g.column<) in
      let (z, w) = byte-way (get_or rec (3968 + i) 0) s.forth (subst (λ (a : ℕ). 0 < a) (step-load rec) l) in
      let j : seat_of n s.forth ≡ seat_of (i / 1600) (ltb (get_or rec (3968 + i) 0) 32) = rw (k, w) in
      sym (origin-at rec i z (seat_of n s.forth) (owner_of (seat_of n s.forth)) j refl)
      ∙ rw m (whole x (seat_of n s.forth) (owner_of (seat_of n s.forth)) s.link.row s.link.column refl)
    where
      whole : (x j o r c : ℕ) → x ≡ 40 * r + c → 8 * (41 + x - o) + j / 8 ≡ (64 * (41 + 40 * r + c - o) + j) / 8
      whole x j o r c e = omega arith
