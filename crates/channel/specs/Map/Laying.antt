-- Where wires start and end, and what one move stores, for each way out of the code. Assumes nothing.
use Rattle.std.specs.Prelude.{◌≡◌, refl, ◌≢◌, Bool, true, false, ◌||◌, List, eqb, leb, ltb, get_or}
use Rattle.std.proofs.Math.Path.{sym, ap, ap₂}
use Rattle.std.proofs.Common.{◌∙◌}
use Rattle.std.proofs.Math.Bool.{not, ◌&&◌}
use Prim.Native.Nat.{ℕ, suc, ◌+◌, ◌-◌, ◌*◌, ◌/◌, ◌%◌, ◌≤◌, ◌<◌}
use native.Mathlib.Omega.{arith}
use borrow.Author.Tests.{lt-ltb, le-ltb, eq-eqb, ne_eqb}
use Rattle.std.proofs.Math.Dec.{leb→le, ltb→lt}
use Rattle.std.proofs.Math.ListN.{set}
use Rattle.sums.specs.Tests.{so, and_left, and_right, or-by}
use Rattle.model.specs.Job.{Job, is_tile, is_chosen, is_missing}
use Rattle.model.specs.Links.{pin, at}
use Rattle.model.specs.Loads.{departures}
use Rattle.model.specs.Record.{load}
use Rattle.channel.specs.Map.{in_grid, row_of, column_of, owner_cell, is_stored, is_start, outside, starts, bump, address, laid, kind_of, owner_of, sign_of, code_of}
use Rattle.channel.specs.Map.Bools.{if-true, if-false, and-false, or-false, between}
use Rattle.channel.specs.Map.Grid.{grid-bounds}
use Rattle.channel.specs.Map.Bytes.{owner-is, address_is}

-- ---- spots

module _ (J : Job) (u : ℕ) where
  pub not_start : u % 8 ≢ 1 → false ≡ is_start J u
  unfolding is_start
  not_start n = rw (ne_eqb (u % 8) 1 n)

  pub start_is : (b : Bool) → u % 8 ≡ 1 → b ≡ (in_grid (u / 8) && is_chosen J (row_of (u / 8)) (column_of (u / 8))) → b ≡ is_start J u
  unfolding is_start
  start_is b k e = rw (eq-eqb (u % 8) 1 k) e

  pub entry-outside : (b : Bool) → u % 8 ≡ 0 → b ≡ (in_grid (u / 8) && is_missing J (row_of (u / 8)) (column_of (u / 8))) → not b ≡ outside J u
  unfolding outside
  entry-outside b k e = rw (k, ap not e)

  pub not-outside : u % 8 ≢ 0 → (ltb (u % 8) 2 || leb 6 (u % 8)) ≡ true → false ≡ outside J u
  unfolding outside
  not-outside z e =
      or-by (ltb (u % 8) 2) (leb 6 (u % 8)) (λ t. let l : u % 8 ≤ 1 = omega (arith, ltb→lt (u % 8) 2 t) in rw (le-ltb 1 (u % 8) l, ne_eqb (u % 8) 0 z))
      (λ t. let l : 6 ≤ u % 8 = leb→le 6 (u % 8) t in rw (le-ltb (u % 8) 6 l, and-false, ne_eqb (u % 8) 0 z)) (so e)

  pub outside-is : (b : Bool) → (ltb (u % 8) 2 || leb 6 (u % 8)) ≡ false → b ≡ (in_grid (u / 8) && is_tile J (row_of (u / 8)) (column_of (u / 8)))
      → not b ≡ outside J u
  unfolding outside
  outside-is b k e = let (l, m) = between (u % 8) 2 6 k in let z : u % 8 ≢ 0 = omega arith in rw (lt-ltb 1 (u % 8) l, lt-ltb (u % 8) 6 m, ne_eqb (u % 8) 0 z) (ap not e ∙ sym (or-false (not (in_grid (u / 8) && is_tile J (row_of (u / 8)) (column_of (u / 8))))))

  pub start-bounds : is_start J u ≡ true → (41 ≤ u / 8) × (u / 8 < 1641)
  unfolding is_start
  start-bounds e =
      grid-bounds (u / 8)
      (and_left (in_grid (u / 8)) (is_chosen J (row_of (u / 8)) (column_of (u / 8)))
      (and_right (eqb (u % 8) 1) (in_grid (u / 8) && is_chosen J (row_of (u / 8)) (column_of (u / 8))) (so e)))

  pub starts-some : (rec : List ℕ) → is_start J u ≡ true → departures (load rec) (at pin (row_of (u / 8)) (column_of (u / 8))) ≡ starts J rec u
  unfolding starts
  starts-some rec e = rw e

  pub starts_none : (rec : List ℕ) → is_start J u ≡ false → 0 ≡ starts J rec u
  unfolding starts
  starts_none rec e = rw e

-- ---- one byte

module _ (s b : ℕ) where
  forth-bump : s ≡ 0 → bump s b ≡ elim (ltb b 32) [ true ↦ b + 1 | false ↦ elim (eqb b 33) [ true ↦ 0 | false ↦ b - 1 ] ]
  unfolding bump
  forth-bump e = ap (λ (x : ℕ). bump x b) e

  abbrev kept : ℕ
  kept = elim (ltb b 255) [ true ↦ b + 1 | false ↦ b ]

  back-bump : s ≢ 0 → bump s b ≡ elim (eqb b 0) [ true ↦ 33 | false ↦ elim (ltb b 32) [ true ↦ b - 1 | false ↦ kept ] ]
  unfolding bump
  back-bump n = let e : s ≡ suc (s - 1) = omega arith in ap (λ (x : ℕ). bump x b) e

  pub bump-more : s ≡ 0 → b < 32 → b + 1 ≡ bump s b
  bump-more e l = sym (forth-bump e ∙ if-true (ltb b 32) (b + 1) _ (lt-ltb b 32 l))

  pub bump-last : s ≡ 0 → 32 ≤ b → b ≡ 33 → 0 ≡ bump s b
  bump-last e l f = sym (forth-bump e ∙ if-false (ltb b 32) (b + 1) _ (le-ltb b 32 l) ∙ if-true (eqb b 33) 0 (b - 1) (eq-eqb b 33 f))

  pub bump-fewer : s ≡ 0 → 32 ≤ b → b ≢ 33 → b - 1 ≡ bump s b
  bump-fewer e l f = sym (forth-bump e ∙ if-false (ltb b 32) (b + 1) _ (le-ltb b 32 l) ∙ if-false (eqb b 33) 0 (b - 1) (ne_eqb b 33 f))

  pub drop-first : s ≢ 0 → b ≡ 0 → 33 ≡ bump s b
  drop-first n e = sym (back-bump n ∙ if-true (eqb b 0) 33 _ (eq-eqb b 0 e))

  pub drop-fewer : s ≢ 0 → b ≢ 0 → b < 32 → b - 1 ≡ bump s b
  drop-fewer n e l = sym (back-bump n ∙ if-false (eqb b 0) 33 _ (ne_eqb b 0 e) ∙ if-true (ltb b 32) (b - 1) kept (lt-ltb b 32 l))

  past-32 : s ≢ 0 → b ≢ 0 → 32 ≤ b → bump s b ≡ kept
  past-32 n e l = back-bump n ∙ if-false (eqb b 0) 33 _ (ne_eqb b 0 e) ∙ if-false (ltb b 32) (b - 1) kept (le-ltb b 32 l)

  pub drop_more : s ≢ 0 → b ≢ 0 → 32 ≤ b → b < 255 → b + 1 ≡ bump s b
  drop_more n e l m = sym (past-32 n e l ∙ if-true (ltb b 255) (b + 1) b (lt-ltb b 255 m))

  pub drop-full : s ≢ 0 → b ≢ 0 → 32 ≤ b → 255 ≤ b → b ≡ bump s b
  drop-full n e l m = sym (past-32 n e l ∙ if-false (ltb b 255) (b + 1) b (le-ltb b 255 m))

-- ---- the record

module _ (rec : List ℕ) (d : ℕ) where
  pub laid_none : (b : Bool) → b ≡ is_stored (code_of (d % 64)) → b ≡ false → rec ≡ laid rec d
  unfolding laid
  laid_none b e f =
      sym (if-false (is_stored (code_of (d % 64)) && in_grid (owner_cell d)) _ rec (ap (λ (t : Bool). t && in_grid (owner_cell d)) (sym e ∙ f)))

  and-off : (a b : Bool) → b ≡ false → (a && b) ≡ false
  and-off true b e = e
  and-off false b e = refl

  pub laid-off : (o : ℕ) (b : Bool) → o ≡ owner_of (d % 64) → b ≡ in_grid (d / 64 + o) → b ≡ false → rec ≡ laid rec d
  unfolding laid
  laid-off o b e f g =
      sym (if-false (is_stored (code_of (d % 64)) && in_grid (owner_cell d)) _ rec
      (and-off (is_stored (code_of (d % 64))) (in_grid (owner_cell d)) (ap in_grid (sym (owner-is d o e)) ∙ sym f ∙ g)))

  pub laid_on_lem : (o k s v : ℕ) (b g : Bool) → o ≡ owner_of (d % 64) → k ≡ kind_of (d % 64) → s ≡ sign_of (d % 64) → b ≡ is_stored (code_of (d % 64)) → b ≡ true
      → g ≡ in_grid (d / 64 + o) → g ≡ true → v ≡ bump s (get_or rec (3927 + 1600 * k + (d / 64 + o)) 0) → set rec (3927 + 1600 * k + (d / 64 + o)) v ≡ laid rec d
  unfolding laid
  laid_on_lem o k s v b g e f h p q t u w =
      let a : 3927 + 1600 * k + (d / 64 + o) ≡ address d = address_is d k o f e in
      ap₂ (λ (x y : ℕ). set rec x y) a (w ∙ ap₂ (λ (x y : ℕ). bump x (get_or rec y 0)) h a)
      ∙ sym (if-true (is_stored (code_of (d % 64)) && in_grid (owner_cell d)) _ rec
      (ap₂ ◌&&◌ (sym p ∙ q) (ap in_grid (sym (owner-is d o e)) ∙ sym t ∙ u)))
