-- Whether wires go along a dart, by one byte: that of its link, at a place that the row of the table and the dart's cell name. Assumes nothing.
use Rattle.std.specs.Prelude.{◌≡◌, refl, ◌≢◌, ◌⊎◌, Bool, true, false, not, ◌&&◌, ◌||◌, List, ℕ, zero, suc, ◌+◌, ◌*◌, ◌/◌, ◌%◌, ◌^◌, ◌≤◌, ◌<◌, T, eqb, ltb, get_or}
use Rattle.std.proofs.Common.{sym, subst, ◌∙◌, arith, eq-eqb, ne_eqb, lt-ltb, ltb→lt, lt→ltb}
use Rattle.std.proofs.Math.Path.{ap}
use Rattle.std.proofs.lemmas.Bool.{eqb-false}
use Rattle.std.proofs.Math.Dec.{eqb-suc-zero}
use Rattle.sums.specs.Counting.{when}
use Rattle.sums.specs.Tests.{Same, same, other, same?, below, below_at, and_left, and_right, and_both, both_ways}
use Rattle.model.specs.Record.{forth_part, back_part, load}
use Rattle.channel.specs.Map.{owner_cell, step_of, way_part, opposed, address}
use Rattle.channel.specs.Map.{in_grid, links, owners, signs, codes, carries, is_passage, is_pass_dart, view, kind_of, owner_of, sign_of, code_of, place_of}
use Rattle.channel.specs.Map.Bools.{if-so, is-off, or-false}
use Rattle.channel.specs.Map.Bounds.{owner-bound, sign-bound, code-bound}
use Rattle.channel.specs.Map.Bytes.{kept_in, along-way, against-way, along-forth, along-back, carries-no-pass, view-link, view-none}
use Rattle.channel.specs.Map.LoadedSlots.{loaded_from, from-five}
use Rattle.channel.specs.Map.Packed.{SlotWords, entry_place}

-- ---- tests of a load

pub load-test : (n : ℕ) → not (eqb n 0) ≡ ltb 0 n
load-test zero = refl
load-test (suc n) = rw (eqb-suc-zero n) (sym (lt-ltb 0 (suc n) (omega arith)))

pub forth-test : (b : ℕ) → (ltb 0 b && ltb b 32) ≡ ltb 0 (forth_part b)
forth-test b =
    both_ways (ltb 0 b && ltb b 32) (ltb 0 (forth_part b))
    (λ t. lt→ltb 0 (forth_part b) (omega (arith, ltb→lt 0 b (and_left (ltb 0 b) (ltb b 32) t), ltb→lt b 32 (and_right (ltb 0 b) (ltb b 32) t))))
    (λ t.
    let l : 0 < forth_part b = ltb→lt 0 (forth_part b) t in
    and_both (ltb 0 b) (ltb b 32) (lt→ltb 0 b (omega arith)) (lt→ltb b 32 (omega arith)))

pub back-test : (b : ℕ) → ltb 32 b ≡ ltb 0 (back_part b)
back-test b =
    both_ways (ltb 32 b) (ltb 0 (back_part b)) (λ t. lt→ltb 0 (back_part b) (omega (arith, ltb→lt 32 b t)))
    (λ t. let l : 0 < back_part b = ltb→lt 0 (back_part b) t in lt→ltb 32 b (omega arith))

-- ---- by the row

-- what a row is, by its word
data Row (i : ℕ) : ℕ → Type 0 where
  along : carries (code_of i) ≡ true → Row i (2 * (3927 + 1600 * kind_of i + owner_of i) + sign_of i)
  passage : Row i 1
  nothing : carries (code_of i) ≡ false → is_passage (code_of i) ≡ false → Row i 0

row? : (i : ℕ) → i < 64 → Row i (place_of i)
unfolding place_of
row? i l = by (carries (code_of i)) refl (is_passage (code_of i)) refl
  where
    by : (a : Bool) → carries (code_of i) ≡ a → (b : Bool) → is_passage (code_of i) ≡ b
        → Row i (when a (2 * (3927 + 1600 * kind_of i + owner_of i) + sign_of i) + when b 1)
    by true e b f =
        let z : b ≡ false = sym f ∙ carries-no-pass (code_of i) (code-bound i l) (subst T (sym e) tt) in
        let q : 2 * (3927 + 1600 * kind_of i + owner_of i) + sign_of i ≡ 2 * (3927 + 1600 * kind_of i + owner_of i) + sign_of i + when b 1 =
        rw z (omega arith) in
        subst (Row i) q (along e)
    by false e true f = passage
    by false e false f = nothing e f

-- a row carries the load of a link where its word is neither 0 nor 1
pub word-carries : (i w : ℕ) → place_of i ≡ w → w ≢ 1 → carries (code_of i) ≡ not (eqb w 0)
unfolding place_of
word-carries i w e n = by (carries (code_of i)) (is_passage (code_of i)) e
  where
    by : (a b : Bool) → when a (2 * (3927 + 1600 * kind_of i + owner_of i) + sign_of i) + when b 1 ≡ w → a ≡ not (eqb w 0)
    by true b q =
        let p : 2 * (3927 + 1600 * kind_of i + owner_of i) + sign_of i + when b 1 ≡ w = q in
        sym (ap not (ne_eqb w 0 (λ z. absurd (omega arith))))
    by false true q = let p : 0 + 1 ≡ w = q in absurd (n (omega arith))
    by false false q = let p : 0 + 0 ≡ w = q in sym (ap not (eq-eqb w 0 (omega arith)))

pub place-bound : (i : ℕ) → i < 64 → place_of i < 53000
unfolding below place_of carries is_passage codes code_of links kind_of owners owner_of signs sign_of
place-bound i l = ltb→lt _ _ (below_at 64 (λ i. ltb (place_of i) 53000) tt i l)

-- only slot 4 leads from an entry to its exit
pub no-passage : (i : ℕ) → i < 64 → i % 8 < 4 → place_of i ≢ 1
unfolding below place_of carries is_passage codes code_of links kind_of owners owner_of signs sign_of
no-passage i l h =
    eqb-false (place_of i) 1
    (is-off (eqb (place_of i) 1)
    (if-so (ltb (i % 8) 4) (not (eqb (place_of i) 1)) (below_at 64 (λ i. not (ltb (i % 8) 4) || not (eqb (place_of i) 1)) tt i l) (lt→ltb (i % 8) 4 h)))

module _ (rec : List ℕ) (d w : ℕ) (e : place_of (d % 64) ≡ w) where
  row : Row (d % 64) w
  row = subst (Row (d % 64)) e (row? (d % 64) (omega arith))

  no-pass : is_passage (code_of (d % 64)) ≡ false → is_pass_dart d ≡ false
  unfolding is_pass_dart
  no-pass f = ap (λ (b : Bool). b && in_grid (d / 64)) f

  unladen : w ≡ 0 → false ≡ ltb 0 (view rec d)
  unladen z = by w row z
    where
      by : (v : ℕ) → Row (d % 64) v → v ≡ 0 → false ≡ ltb 0 (view rec d)
      by _ (along c) z = absurd (omega arith)
      by _ passage z = absurd (omega arith)
      by _ (nothing c f) z = ap (ltb 0) (view-none rec d c (no-pass f))

  module _ (x : ℕ) (h : d / 64 ≡ x) (n : w ≢ 0) (p : w ≢ 1) (l : 41 ≤ x) (m : x < 1600) where
    -- the byte is that of the dart's link
    record Stands : Type 0 where
      carried : carries (code_of (d % 64)) ≡ true
      word : w ≡ 2 * (3927 + 1600 * kind_of (d % 64) + owner_of (d % 64)) + sign_of (d % 64)

    stands : Stands
    stands = by w row refl
      where
        by : (v : ℕ) → Row (d % 64) v → w ≡ v → Stands
        by _ (along c) q = record { carried = c; word = q }
        by _ passage q = absurd (p q)
        by _ (nothing c f) q = absurd (n q)

    at-link : get_or rec (w / 2 + x) 0 ≡ get_or rec (3927 + 1600 * kind_of (d % 64) + (d / 64 + owner_of (d % 64))) 0
    at-link = ap (λ (y : ℕ). get_or rec y 0) (omega (arith, stands.word, sign-bound (d % 64) (omega arith)))

    kept_at : (b : ℕ) → b ≡ get_or rec (w / 2 + x) 0 → b ≡ when (in_grid (owner_cell d)) (get_or rec (address d) 0)
    kept_at b q =
        q ∙ (at-link ∙ kept_in rec d (owner_of (d % 64)) refl (kind_of (d % 64)) refl (omega arith) (omega (arith, owner-bound (d % 64) (omega arith))))

    sign-is : w % 2 ≡ sign_of (d % 64)
    sign-is = omega (arith, stands.word, sign-bound (d % 64) (omega arith))

    -- what goes along the dart's link its way, and the other way, by the byte
    module _ (b : ℕ) (q : b ≡ get_or rec (w / 2 + x) 0) where
      pub word-along : way_part (eqb (w % 2) 0) b ≡ when (in_grid (owner_cell d)) (load rec (step_of d))
      word-along = along-way rec d b (w % 2) (kept_at b q) sign-is

      pub word-against : way_part (not (eqb (w % 2) 0)) b ≡ opposed rec d
      word-against = against-way rec d b (w % 2) (kept_at b q) sign-is

      laden-forth : w % 2 ≡ 0 → (ltb 0 b && ltb b 32) ≡ ltb 0 (view rec d)
      laden-forth z = forth-test b ∙ ap (ltb 0) (along-forth rec d b (w % 2) (kept_at b q) sign-is z ∙ view-link rec d stands.carried)

      laden-back : w % 2 ≢ 0 → ltb 32 b ≡ ltb 0 (view rec d)
      laden-back z = back-test b ∙ ap (ltb 0) (along-back rec d b (w % 2) (kept_at b q) sign-is z ∙ view-link rec d stands.carried)

  -- by the way that the word says, and the byte
  pub laden : (x : ℕ) → d / 64 ≡ x → w ≢ 1 → 41 ≤ x → x < 1600 → (b : ℕ) → b ≡ get_or rec (w / 2 + x) 0
      → (((not (eqb w 0) && eqb (w % 2) 0) && (ltb 0 b && ltb b 32)) || (not (eqb (w % 2) 0) && ltb 32 b)) ≡ ltb 0 (view rec d)
  laden x h p l m b q = by (eqb w 0) (same? w 0) (eqb (w % 2) 0) (same? (w % 2) 0)
    where
      by : (s : Bool) → Same w 0 s → (t : Bool) → Same (w % 2) 0 t
          → (((not s && t) && (ltb 0 b && ltb b 32)) || (not t && ltb 32 b)) ≡ ltb 0 (view rec d)
      by true (same y) true (same z) = unladen y
      by true (same y) false (other z) = absurd (z (omega arith))
      by false (other y) true (same z) = or-false (ltb 0 b && ltb b 32) ∙ laden-forth x h y p l m b q z
      by false (other y) false (other z) = laden-back x h y p l m b q z

-- ---- by the words of a spot

module _ {k w last : ℕ} (s : SlotWords k w last) (h : k < 8) where
  pub four-link : (j : ℕ) → j < 4 → (w / 2 ^ (j * 16) % 65536 < 53000) × (w / 2 ^ (j * 16) % 65536 ≢ 1)
  four-link j l = (
    omega (arith, s.four j l, place-bound (8 * k + j) (omega arith)),
    λ e. no-passage (8 * k + j) (omega arith) (omega arith) (sym (s.four j l) ∙ e),
  )

  pub fifth-link : (last % 65536 < 53000) × (last % 65536 ≢ 1)
  fifth-link = (omega (arith, s.fifth, place-bound (8 * k + 4) (omega arith)), s.link)

pub slot-test : (rec : List ℕ) (u k w : ℕ) (b : Bool) → k < 8 → w ≡ place_of (8 * (u % 8) + k)
    → ((d : ℕ) → d / 64 ≡ u / 8 → place_of (d % 64) ≡ w → b ≡ ltb 0 (view rec d)) → when b 1 ≡ when (ltb 0 (view rec (8 * u + k))) 1
slot-test rec u k w b h q f = ap (λ (b : Bool). when b 1) (f (8 * u + k) (omega arith) (ap place_of (omega arith) ∙ sym q))

-- of an entry only slot 4 is loaded
pub entry-slots : (rec : List ℕ) (u : ℕ) → (u % 8 ≡ 0) ⊎ (u % 8 ≡ 6) → 16 * when (ltb 0 (view rec (8 * u + 4))) 1 ≡ loaded_from rec u 0
entry-slots rec u e = omega (arith, from-five rec u, idle 0 (omega arith), idle 1 (omega arith), idle 2 (omega arith), idle 3 (omega arith))
  where
    idle : (k : ℕ) → k < 4 → 0 ≡ when (ltb 0 (view rec (8 * u + k))) 1
    idle k l = ap (λ (b : Bool). when b 1) (unladen rec (8 * u + k) 0 (ap place_of (omega arith) ∙ entry_place (u % 8) e k l) refl)
