-- Numbers by their bits, and the slots of a spot that lead to spots with no mark, as the bits of a number. In a cell that has all its neighbours the marks
-- are read from 336 spots before on, as far ahead as the row says. Assumes nothing.
use Rattle.std.specs.Prelude.{◌≡◌, refl, ◌≢◌, Bool, true, false, not, ℕ, zero, suc, min, ◌+◌, ◌-◌, ◌*◌, ◌/◌, ◌%◌, ◌^◌, ◌≤◌, ◌<◌, eqb, length, take, drop}
use Rattle.std.proofs.Common.{sym, ◌∙◌, mul_comm, pow-suc, arith, length-drop, pow-add, take_all}
use Rattle.std.proofs.Math.Path.{ap}
use mathlib.Core.List.{List}
use Rattle.std.proofs.Math.Nat.{div-div-eq-div-mul}
use Rattle.std.specs.Int.Bits.{bit_and, and_step}
use Rattle.std.proofs.lemmas.Nat.{and_le_r}
use Rattle.std.proofs.Math.ListN.{get_or}
use Rattle.std.proofs.Math.Seq.{get_or-drop}
use Rattle.sums.specs.Counting.{when}
use Rattle.sums.specs.Tests.{Same, same, other, same?}
use Rattle.channel.specs.Map.{rev}
use Rattle.channel.specs.Map.Heads.{head_of, head-bound, HeadWords, rev-head}

-- ---- bits

-- r has n bits, f 0 to f (n - 1) from the lowest on
pub record Bits (n : ℕ) (f : ℕ → ℕ) (r : ℕ) : Type 0 where
  pub small : r < 2 ^ n
  pub each : (k : ℕ) → k < n → r / 2 ^ k % 2 ≡ f k

by-four : (P : ℕ → Type 0) → P 0 → P 1 → P 2 → P 3 → (j : ℕ) → j < 4 → P j
by-four P a b c d zero l = a
by-four P a b c d (suc zero) l = b
by-four P a b c d (suc (suc zero)) l = c
by-four P a b c d (suc (suc (suc zero))) l = d
by-four P a b c d (suc (suc (suc (suc j)))) l = absurd (omega arith)

pub by-eight : (P : ℕ → Type 0) → P 0 → P 1 → P 2 → P 3 → P 4 → P 5 → P 6 → P 7 → (j : ℕ) → j < 8 → P j
by-eight P a b c d e f g h zero l = a
by-eight P a b c d e f g h (suc zero) l = b
by-eight P a b c d e f g h (suc (suc zero)) l = c
by-eight P a b c d e f g h (suc (suc (suc zero))) l = d
by-eight P a b c d e f g h (suc (suc (suc (suc zero)))) l = e
by-eight P a b c d e f g h (suc (suc (suc (suc (suc zero))))) l = f
by-eight P a b c d e f g h (suc (suc (suc (suc (suc (suc zero)))))) l = g
by-eight P a b c d e f g h (suc (suc (suc (suc (suc (suc (suc zero))))))) l = h
by-eight P a b c d e f g h (suc (suc (suc (suc (suc (suc (suc (suc j)))))))) l = absurd (omega arith)

module _ {f : ℕ → ℕ} where
  pub four-bits : {a b c d : ℕ} → a ≡ f 0 → b ≡ f 1 → c ≡ f 2 → d ≡ f 3 → a < 2 → b < 2 → c < 2 → d < 2 → Bits 4 f (a + 2 * b + 4 * c + 8 * d)
  four-bits {a} {b} {c} {d} ea eb ec ed la lb lc ld =
      record {
        small = omega arith;
        each = by-four (λ j. (a + 2 * b + 4 * c + 8 * d) / 2 ^ j % 2 ≡ f j) (omega arith) (omega arith) (omega arith) (omega arith);
      }

  pub eight-bits : {g h : ℕ → ℕ} {a b : ℕ} → Bits 4 g a → Bits 4 h b → ((j : ℕ) → j < 4 → g j ≡ f j) → ((j : ℕ) → j < 4 → h j ≡ f (4 + j))
      → Bits 8 f (a + 16 * b)
  eight-bits {g} {h} {a} {b} p q eg eh = record { small = omega (arith, p.small, q.small); each = each }
    where
      low : (j : ℕ) → j < 4 → (a + 16 * b) / 2 ^ j % 2 ≡ a / 2 ^ j % 2
      low = by-four (λ j. (a + 16 * b) / 2 ^ j % 2 ≡ a / 2 ^ j % 2) (omega arith) (omega arith) (omega arith) (omega arith)

      high : (j : ℕ) → j < 4 → (a + 16 * b) / 2 ^ (4 + j) % 2 ≡ b / 2 ^ j % 2
      high = by-four (λ j. (a + 16 * b) / 2 ^ (4 + j) % 2 ≡ b / 2 ^ j % 2) (omega (arith, p.small)) (omega (arith, p.small)) (omega (arith, p.small))
          (omega (arith, p.small))

      first : (j : ℕ) → j < 4 → (a + 16 * b) / 2 ^ j % 2 ≡ f j
      first j l = low j l ∙ p.each j l ∙ eg j l

      last : (j : ℕ) → j < 4 → (a + 16 * b) / 2 ^ (4 + j) % 2 ≡ f (4 + j)
      last j l = high j l ∙ q.each j l ∙ eh j l

      each : (k : ℕ) → k < 8 → (a + 16 * b) / 2 ^ k % 2 ≡ f k
      each = by-eight (λ k. (a + 16 * b) / 2 ^ k % 2 ≡ f k) (first 0 (omega arith)) (first 1 (omega arith)) (first 2 (omega arith)) (first 3 (omega arith))
          (last 0 (omega arith)) (last 1 (omega arith)) (last 2 (omega arith)) (last 3 (omega arith))

-- the upper bits of a number are the bits of its upper half
pub high_bits : (w j : ℕ) → w / 16 / 2 ^ j ≡ w / 2 ^ (4 + j)
high_bits w j = div-div-eq-div-mul w 16 (2 ^ j) ∙ ap (λ (x : ℕ). w / x) (sym (pow-add 2 4 j))

-- ---- bits among those of another number

and-bit : (k a b : ℕ) → bit_and a b / 2 ^ k % 2 ≡ min (a / 2 ^ k % 2) (b / 2 ^ k % 2)
and-bit zero a b = omega (arith, and_step a b)
and-bit (suc k) a b =
    let half : (x : ℕ) → x / 2 ^ suc k ≡ x / 2 / 2 ^ k = λ x. ap (λ (y : ℕ). x / y) (pow-suc 2 k ∙ mul_comm (2 ^ k) 2) ∙ sym (div-div-eq-div-mul x 2 (2 ^ k)) in
    let next : bit_and a b / 2 ≡ bit_and (a / 2) (b / 2) = omega (arith, and_step a b) in
    rw (half (bit_and a b), half a, half b, next) (and-bit k (a / 2) (b / 2))

among : (w : ℕ) {a b : ℕ} → w < 2 → (w ≡ 1 → a ≡ b) → min w a ≡ min w b
among zero l e = omega arith
among (suc zero) l e = ap (min 1) (e refl)
among (suc (suc w)) l e = absurd (omega arith)

-- the bits of r that w has too: f says what they are there
pub bits-among : {f : ℕ → ℕ} (w : ℕ) {r : ℕ} → r < 256 → ((k : ℕ) → k < 8 → w / 2 ^ k % 2 ≡ 1 → r / 2 ^ k % 2 ≡ f k) → Bits 8 (λ k. min (w / 2 ^ k % 2) (f k)) (bit_and w r)
bits-among {f} w {r} s e =
    record {
      small = omega (arith, and_le_r w r);
      each = λ k l. and-bit k w r ∙ among (w / 2 ^ k % 2) (omega arith) (e k l);
    }

-- ---- marks

-- 1 where the spot v has no mark
pub unset : List ℕ → ℕ → ℕ
unset t v = when (not (eqb (get_or t v 0) 1)) 1

module _ (t : List ℕ) (v : ℕ) where
  by : (A : Bool → Type 0) → (get_or t v 0 ≡ 1 → A true) → (get_or t v 0 ≢ 1 → A false) → (b : Bool) → Same (get_or t v 0) 1 b → A b
  by A f g true (same e) = f e
  by A f g false (other n) = g n

  pub unset-marked : get_or t v 0 ≡ 1 → (0 ≡ unset t v) × (0 < 2)
  unfolding unset
  unset-marked e = (by (λ b. 0 ≡ when (not b) 1) (λ _. refl) (λ n. absurd (n e)) (eqb (get_or t v 0) 1) (same? (get_or t v 0) 1), omega arith)

  pub unset-bare : get_or t v 0 ≢ 1 → (1 ≡ unset t v) × (1 < 2)
  unfolding unset
  unset-bare n = (by (λ b. 1 ≡ when (not b) 1) (λ e. absurd (n e)) (λ _. refl) (eqb (get_or t v 0) 1) (same? (get_or t v 0) 1), omega arith)

  pub marked : unset t v ≡ 0 → get_or t v 0 ≡ 1
  unfolding unset
  marked = by (λ b. when (not b) 1 ≡ 0 → get_or t v 0 ≡ 1) (λ e _. e) (λ n z. absurd (omega arith)) (eqb (get_or t v 0) 1) (same? (get_or t v 0) 1)

-- ---- the rows

-- four rows that lead less than 662 ahead
abbrev pub Within : ℕ → Type 0
Within w = (j : ℕ) → j < 4 → w / 2 ^ (j * 16) % 65536 < 662

pub heads-within : {k p q : ℕ} → k < 8 → HeadWords k p q → Within p × Within q
heads-within {k} {p} {q} l w = (
  λ j h. omega (arith, w.low j h, head-bound (8 * k + j) (omega arith)),
  λ j h. omega (arith, w.high j h, head-bound (8 * k + (4 + j)) (omega arith)),
)

-- t from the spot on that is 336 before u
abbrev near : List ℕ → ℕ → List ℕ
near t u = take (length t - (u - 336)) (drop (u - 336) t)

module _ (t : List ℕ) (u : ℕ) (m : 336 ≤ u) (h : u < 12800) where
  same-near : near t u ≡ drop (u - 336) t
  same-near = take_all (length t - (u - 336)) (drop (u - 336) t) (omega (arith, length-drop (u - 336) t))

  pub near-length : 13128 ≤ length t → 662 ≤ length (near t u)
  near-length l = rw same-near (omega (arith, length-drop (u - 336) t))

  -- slot k of u leads as far as its row says
  head_near : (k : ℕ) → k < 8 → unset (near t u) (head_of (8 * (u % 8) + k)) ≡ unset t (rev (8 * u + k) / 8)
  unfolding unset
  head_near k l =
      let w = head_of (8 * (u % 8) + k) in
      ap (λ (m : ℕ). when (not (eqb m 1)) 1)
      (ap (λ (s : List ℕ). get_or s w 0) same-near ∙ get_or-drop (u - 336) t w 0 ∙ ap (λ (x : ℕ). get_or t x 0) (rev-head u k m h l))

  pub bits-near : {r : ℕ} → Bits 8 (λ k. unset (near t u) (head_of (8 * (u % 8) + k))) r → Bits 8 (λ k. unset t (rev (8 * u + k) / 8)) r
  bits-near b = record { small = b.small; each = λ k l. b.each k l ∙ head_near k l }
