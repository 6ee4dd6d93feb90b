-- Every answer that an operation can give is read back from its word by the header's rules: the remainder by 256 is its code, the quotient its value, and of a
-- part kind, place, lane, row and column come back. So different answers of one operation have different words. Assumes nothing.
use mathlib.Core.Path.{◌≡◌, refl, sym, ap, ap₂, ◌∙◌}
use Rattle.std.specs.Prelude.{Bool, true, false, not, ◌&&◌, ◌||◌, ℕ, ◌+◌, ◌*◌, ◌^◌, ◌/◌, ◌%◌, ◌<◌, T, eqb, ltb}
use Rattle.std.proofs.Common.{arith, ne_eqb, T_not, eqb→eq, ltb→lt}
use Rattle.sums.specs.Tests.{and_left, and_right}
use Rattle.model.specs.Links.{north, east, south, west, PlaceKind, pin, missing, side, centre, outside, nowhere}
use Rattle.model.specs.Wires.{Part, unwired, to, out, past_the_end}
use Rattle.model.specs.Calls.{Call, new, mark, close, lay, diagonal, step, shortfall, part, read_text, write_text, listing, trial, extra, sheet}
use Rattle.model.specs.Calls.{Answer, refused, wrong_text, done, added, all_wired, short, lacks, lists, wrote, sheet_is}
use Rattle.talusdish.specs.Words.{place_number, number, part_number, value, code, word, place_of, part_with, part_read, step_read, value_read, code_read, word_read, verdict_number, verdict_with, verdict_read}
use Rattle.talusdish.specs.Words.{is_numbered, part_fits, operation, few, refusal_fits, fits, verdict_fits}
use Rattle.model.specs.Sheet.{SheetVerdict, carried, fails_at}

-- ---- places and parts

place-few : (p : PlaceKind) → place_number p < 8
place-few pin = omega arith
place-few missing = omega arith
place-few centre = omega arith
place-few outside = omega arith
place-few nowhere = omega arith
place-few (side north) = omega arith
place-few (side east) = omega arith
place-few (side south) = omega arith
place-few (side west) = omega arith

place-back : (p : PlaceKind) → T (is_numbered p) → place_of (place_number p) ≡ p
place-back pin t = refl
place-back missing t = refl
place-back centre t = refl
place-back outside t = absurd t
place-back nowhere t = absurd t
place-back (side north) t = refl
place-back (side east) t = refl
place-back (side south) t = refl
place-back (side west) t = refl

-- the five numbers of a part come back
number-back : (k p i r c : ℕ) → k < 4 → p < 8 → i < 32 → r < 64 → part_read (number k p i r c) ≡ part_with k p i r c
number-back k p i r c a b d e =
    let n : ℕ = number k p i r c in
    let y₁ : n / 4 ≡ p + 8 * (i + 32 * (r + 64 * c)) = omega arith in
    let y₂ : n / 32 ≡ i + 32 * (r + 64 * c) = omega arith in
    let y₃ : n / 1024 ≡ r + 64 * c = omega arith in
    let x₀ : n % 4 ≡ k = omega arith in
    let x₁ : n / 4 % 8 ≡ p = ap (λ (m : ℕ). m % 8) y₁ ∙ omega arith in
    let x₂ : n / 32 % 32 ≡ i = ap (λ (m : ℕ). m % 32) y₂ ∙ omega arith in
    let x₃ : n / 1024 % 64 ≡ r = ap (λ (m : ℕ). m % 64) y₃ ∙ omega arith in
    let x₄ : n / 65536 ≡ c = omega arith in
    λ j. part_with (x₀ j) (x₁ j) (x₂ j) (x₃ j) (x₄ j)

pub part-back : (p : Part) → T (part_fits p) → part_read (part_number p) ≡ p
part-back unwired t = refl
part-back past_the_end t = refl
part-back (to r c p i) t =
    let u = and_right (ltb r 64) (ltb c 64 && (ltb i 32 && is_numbered p)) t in
    let v = and_right (ltb c 64) (ltb i 32 && is_numbered p) u in
    number-back 2 (place_number p) i r c (omega arith) (place-few p) (ltb→lt i 32 (and_left (ltb i 32) (is_numbered p) v))
    (ltb→lt r 64 (and_left (ltb r 64) (ltb c 64 && (ltb i 32 && is_numbered p)) t))
    ∙ ap (λ (x : PlaceKind). to r c x i) (place-back p (and_right (ltb i 32) (is_numbered p) v))
part-back (out p i) t =
    number-back 3 (place_number p) i 0 0 (omega arith) (place-few p) (ltb→lt i 32 (and_left (ltb i 32) (is_numbered p) t)) (omega arith)
    ∙ ap (λ (x : PlaceKind). out x i) (place-back p (and_right (ltb i 32) (is_numbered p) t))

part_small : (p : Part) → T (part_fits p) → part_number p < 2 ^ 23
part_small unwired t = omega arith
part_small past_the_end t = omega arith
part_small (to r c p i) t =
    let u = and_right (ltb r 64) (ltb c 64 && (ltb i 32 && is_numbered p)) t in
    let v = and_right (ltb c 64) (ltb i 32 && is_numbered p) u in
    omega (
      arith,
      place-few p,
      ltb→lt r 64 (and_left (ltb r 64) (ltb c 64 && (ltb i 32 && is_numbered p)) t),
      ltb→lt c 64 (and_left (ltb c 64) (ltb i 32 && is_numbered p) u),
      ltb→lt i 32 (and_left (ltb i 32) (is_numbered p) v),
    )
part_small (out p i) t = omega (arith, place-few p, ltb→lt i 32 (and_left (ltb i 32) (is_numbered p) t))

-- ---- verdicts of sheets

pub verdict-back : (v : SheetVerdict) → T (verdict_fits v) → verdict_read (verdict_number v) ≡ v
verdict-back carried t = refl
verdict-back (fails_at r c) t =
    let l = ltb→lt r 64 (and_left (ltb r 64) (ltb c 64) t) in
    let n : ℕ = number 1 0 0 r c in
    let y : n / 1024 ≡ r + 64 * c = omega arith in
    let x₀ : n % 4 ≡ 1 = omega arith in
    let x₁ : n / 1024 % 64 ≡ r = ap (λ (m : ℕ). m % 64) y ∙ omega arith in
    let x₂ : n / 65536 ≡ c = omega arith in
    λ j. verdict_with (x₀ j) (x₁ j) (x₂ j)

verdict-small : (v : SheetVerdict) → T (verdict_fits v) → verdict_number v < 2 ^ 23
verdict-small carried t = omega arith
verdict-small (fails_at r c) t =
    omega (arith, ltb→lt r 64 (and_left (ltb r 64) (ltb c 64) t), ltb→lt c 64 (and_right (ltb r 64) (ltb c 64) t))

-- ---- code and value

split : (v k : ℕ) → k < 256 → ((256 * v + k) % 256 ≡ k) × ((256 * v + k) / 256 ≡ v)
split v k l = (omega arith, omega arith)

refusal-range : (k : ℕ) → T (refusal_fits k) → (0 < k) × (k < 256) × (k ≡ 6 → ⊥)
refusal-range k t =
    let u = and_right (ltb 0 k) (ltb k 256 && not (eqb k 6)) t in (
      ltb→lt 0 k (and_left (ltb 0 k) (ltb k 256 && not (eqb k 6)) t),
      ltb→lt k 256 (and_left (ltb k 256) (not (eqb k 6)) u),
      λ e. T_not (eqb k 6) (and_right (ltb k 256) (not (eqb k 6)) u) (six e),
    )
  where
    six : k ≡ 6 → T (eqb k 6)
    six e = mathlib.Core.Path.subst (λ (n : ℕ). T (eqb n 6)) (sym e) tt

code-few : (c : Call) (x : Answer) → T (fits c x) → code x < 256
code-few c (refused k) t = (refusal-range k t).1
code-few c (wrong_text o) t = omega arith
code-few c done t = omega arith
code-few c added t = omega arith
code-few c all_wired t = omega arith
code-few c short t = omega arith
code-few c (lacks k) t = omega arith
code-few c (lists p) t = omega arith
code-few c (wrote n) t = omega arith
code-few c (sheet_is v) t = omega arith

value-few : (c : Call) (x : Answer) → T (fits c x) → value x < 2 ^ 56
value-few c (refused k) t = omega arith
value-few c (wrong_text o) t = ltb→lt o (2 ^ 56) (and_right (eqb (operation c) 6) (few o) t)
value-few c done t = omega arith
value-few c added t = omega arith
value-few c all_wired t = omega arith
value-few c short t = omega arith
value-few c (lacks k) t = ltb→lt k (2 ^ 56) (and_right (eqb (operation c) 4) (few k) t)
value-few c (lists p) t = omega (arith, part_small p (and_right (eqb (operation c) 5) (part_fits p) t))
value-few c (wrote n) t = ltb→lt n (2 ^ 56) (and_right (eqb (operation c) 7) (few n) t)
value-few c (sheet_is v) t = omega (arith, verdict-small v (and_right (eqb (operation c) 8) (verdict_fits v) t))

-- "256 * value + code": the remainder by 256 is the code, the quotient the value
pub word-code : (c : Call) (x : Answer) → T (fits c x) → word x % 256 ≡ code x
word-code c x t = (split (value x) (code x) (code-few c x t)).0

pub word_value : (c : Call) (x : Answer) → T (fits c x) → word x / 256 ≡ value x
word_value c x t = (split (value x) (code x) (code-few c x t)).1

pub word_small : (c : Call) (x : Answer) → T (fits c x) → word x < 2 ^ 64
word_small c x t = omega (arith, code-few c x t, value-few c x t)

-- ---- the answer

-- what a value says, by the operation's number
abbrev value_by : ℕ → ℕ → Answer
value_by n v =
    elim (eqb n 3) [
      | true ↦ step_read v
      | false ↦ elim (eqb n 4) [ true ↦ lacks v | false ↦ elim (eqb n 5) [ true ↦ lists (part_read v) | false ↦ elim (eqb n 7) [ true ↦ wrote v | false ↦ elim (eqb n 8) [ true ↦ sheet_is (verdict_read v) | false ↦ done ] ] ] ]
    ]

value-by : (c : Call) (v : ℕ) → value_read c v ≡ value_by (operation c) v
value-by (new rows columns O D E) v = refl
value-by (mark r c m) v = refl
value-by (close r c m) v = refl
value-by (lay r c d n) v = refl
value-by (diagonal r c d) v = refl
value-by (step scratch) v = refl
value-by (shortfall scratch output) v = refl
value-by (part r c i) v = refl
value-by (read_text text) v = refl
value-by (write_text output) v = refl
value-by (listing output) v = refl
value-by (trial t) v = refl
value-by (extra e) v = refl
value-by (sheet loads) v = refl

value_of : (c : Call) (v n : ℕ) → T (eqb (operation c) n) → value_read c v ≡ value_by n v
value_of c v n t = value-by c v ∙ ap (λ (m : ℕ). value_by m v) (eqb→eq (operation c) n t)

done-back : (c : Call) → T (ltb (operation c) 3 || eqb (operation c) 6) → value_read c 0 ≡ done
done-back (new rows columns O D E) t = refl
done-back (mark r c m) t = refl
done-back (close r c m) t = refl
done-back (lay r c d n) t = refl
done-back (diagonal r c d) t = refl
done-back (step scratch) t = absurd t
done-back (shortfall scratch output) t = absurd t
done-back (part r c i) t = absurd t
done-back (read_text text) t = refl
done-back (write_text output) t = absurd t
done-back (listing output) t = absurd t
done-back (trial t) u = refl
done-back (extra e) t = refl
done-back (sheet loads) t = absurd t

code-back : (c : Call) (x : Answer) → T (fits c x) → code_read c (code x) (value x) ≡ x
code-back c (refused k) t =
    let (a, b, d) = refusal-range k t in
    ap (λ (y : Bool). elim y as (λ z. Answer) [ true ↦ value_read c 0 | false ↦ elim (eqb k 6) [ true ↦ wrong_text 0 | false ↦ refused k ] ])
    (ne_eqb k 0 (λ e. omega arith))
    ∙ ap (λ (y : Bool). elim y as (λ z. Answer) [ true ↦ wrong_text 0 | false ↦ refused k ]) (ne_eqb k 6 d)
code-back c (wrong_text o) t = refl
code-back c done t = done-back c t
code-back c added t = value_of c 0 3 t
code-back c all_wired t = value_of c 1 3 t
code-back c short t = value_of c 2 3 t
code-back c (lacks k) t = value_of c k 4 (and_left (eqb (operation c) 4) (few k) t)
code-back c (lists p) t =
    value_of c (part_number p) 5 (and_left (eqb (operation c) 5) (part_fits p) t) ∙ ap lists (part-back p (and_right (eqb (operation c) 5) (part_fits p) t))
code-back c (wrote n) t = value_of c n 7 (and_left (eqb (operation c) 7) (few n) t)
code-back c (sheet_is v) t =
    value_of c (verdict_number v) 8 (and_left (eqb (operation c) 8) (verdict_fits v) t) ∙ ap sheet_is (verdict-back v (and_right (eqb (operation c) 8) (verdict_fits v) t))

pub word_back : (c : Call) (x : Answer) → T (fits c x) → word_read c (word x) ≡ x
word_back c x t = ap₂ (code_read c) (word-code c x t) (word_value c x t) ∙ code-back c x t

-- different answers of one operation have different words
pub words-differ : (c : Call) (x y : Answer) → T (fits c x) → T (fits c y) → word x ≡ word y → x ≡ y
words-differ c x y t u e = sym (word_back c x t) ∙ (ap (word_read c) e ∙ word_back c y u)
