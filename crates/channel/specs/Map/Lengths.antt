-- Document 01, "Length": "A wire counts 10 for each side crossed, the rim included, and 14 for each missing pin passed". What a dart counts, by its row of
-- the table: sides are left by slot 0 of n, e, s, w, and slot 4 of a missing pin's entry leads through it. Assumes nothing.
use Rattle.std.specs.Prelude.{◌≡◌, refl, ◌≢◌, ◌⊎◌, Bool, true, false, not, ◌||◌, ℕ, ◌+◌, ◌*◌, ◌/◌, ◌%◌, ◌<◌, T, eqb, leb, get_or}
use Rattle.std.proofs.Common.{ap, ◌∙◌, inl, inr, arith, eqb→eq}
use Rattle.sums.specs.Counting.{when}
use Rattle.sums.specs.Tests.{Same, same, same?, and_left, if-so, below, below_at}
use Rattle.model.specs.Links.{centre, missing, is_missing_kind, place_code, north_side, link_code}
use Rattle.model.specs.Record.{kinds}
use Rattle.model.specs.Length.{is_side}
use Rattle.channel.specs.Map.{darts, in_grid, ahead, rev, owner_cell, step_of, carries, is_passage, is_link_dart, is_pass_dart, passed_of, turns, links, codes, turn_of, kind_of, code_of, back_row}
use Rattle.channel.specs.Map.Back.{rev-mid, rev-ways, over-row}

abbrev side_row : ℕ → Bool
side_row i = eqb i 16 || (eqb i 24 || (eqb i 32 || eqb i 40))

abbrev pub length_of : ℕ → ℕ
length_of i = when (side_row i) 10 + when (eqb i 4) 14

-- and its way back
abbrev pub back_length_of : ℕ → ℕ
back_length_of i = when (side_row i) 10 + when (eqb i 13) 14

unfoldable pub dart_length : ℕ → ℕ
dart_length d = length_of (d % 64)

row< : (d : ℕ) → d % 64 < 64
row< d = omega arith

-- a dart along a side counts 10, and one along another link nothing
pub link-length : (d : ℕ) → T (is_link_dart d) → dart_length d ≡ 10 * when (is_side (step_of d).link) 1
unfolding dart_length below is_link_dart step_of carries code_of codes kind_of links
link-length d t =
    eqb→eq _ _
    (if-so (carries (code_of (d % 64))) _
    (below_at 64 (λ i. not (carries (code_of i)) || eqb (length_of i) (10 * when (leb (link_code (get_or kinds (kind_of i) north_side)) 1) 1)) tt (d % 64) (row< d))
    (and_left (carries (code_of (d % 64))) (in_grid (owner_cell d)) t))

-- one through a missing pin 14, and one through a centre nothing
pub pass-length : (d : ℕ) → T (is_pass_dart d) → dart_length d ≡ 14 * when (is_missing_kind (passed_of d)) 1
unfolding dart_length below is_pass_dart passed_of is_passage code_of codes
pass-length d t =
    eqb→eq _ _
    (if-so (is_passage (code_of (d % 64))) _
    (below_at 64
    (λ i. not (is_passage (code_of i)) || eqb (length_of i) (14 * when (eqb (place_code (elim (eqb (code_of i) 5) [ true ↦ centre | false ↦ missing ])) 1) 1)) tt
    (d % 64) (row< d))
    (and_left (is_passage (code_of (d % 64))) (in_grid (d / 64)) t))

over-length : (i : ℕ) → i < 64 → length_of (back_row i) ≡ back_length_of i
unfolding below back_row turn_of turns
over-length i k = eqb→eq _ _ (below_at 64 (λ i. eqb (length_of (back_row i)) (back_length_of i)) tt i k)

-- a way through a missing pin, there or back, does not lead out of range
there-over : (d : ℕ) → d < darts → d % 64 ≡ 4 → rev d ≢ d
unfolding darts ahead turn_of turns
there-over d l e q = let t : turn_of (d % 64) ≡ 2697 = ap turn_of e in omega (arith, rev-mid d (omega arith) (omega arith))

back-over : (d : ℕ) → d < darts → d % 64 ≡ 13 → rev d ≢ d
unfolding darts ahead turn_of turns
back-over d l e q = let t : turn_of (d % 64) ≡ 2679 = ap turn_of e in omega (arith, rev-mid d (omega arith) (omega arith))

-- What the way back counts, by the dart's own row.
pub back-length : (d : ℕ) → d < darts → dart_length (rev d) ≡ back_length_of (d % 64)
unfolding dart_length
back-length d l = by (rev-ways d)
  where
    own : rev d ≡ d → (a : Bool) → Same (d % 64) 4 a → (b : Bool) → Same (d % 64) 13 b
        → when (side_row (d % 64)) 10 + when a 14 ≡ when (side_row (d % 64)) 10 + when b 14
    own e true (same p) b q = absurd (there-over d l p e)
    own e false p true (same q) = absurd (back-over d l q e)
    own e false p false q = refl

    by : ((rev d + 2688 ≡ ahead d) × (rev d < darts)) ⊎ (rev d ≡ d) → length_of (rev d % 64) ≡ back_length_of (d % 64)
    by (inl (e, k)) = ap length_of (over-row d (rev d) e) ∙ over-length (d % 64) (row< d)
    by (inr e) = ap (λ (x : ℕ). length_of (x % 64)) e ∙ own e (eqb (d % 64) 4) (same? (d % 64) 4) (eqb (d % 64) 13) (same? (d % 64) 13)
