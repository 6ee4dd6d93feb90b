-- How far ahead the spot lies that a dart leads to, by the dart's row, and these rows packed into words. In a cell that has all its neighbours no way back
-- leaves the range. Assumes nothing.
use Rattle.std.specs.Prelude.{◌≡◌, refl, List, [], ◌∷◌, ℕ, ◌+◌, ◌-◌, ◌*◌, ◌/◌, ◌%◌, ◌^◌, ◌≤◌, ◌<◌, ltb, get_or}
use Rattle.std.proofs.Common.{ap, subst, ◌∙◌, arith, ltb→lt}
use Rattle.sums.specs.Tests.{below, below_at}
use Rattle.channel.specs.Map.{turns, turn_of, rev}
use Rattle.channel.specs.Map.Packed.{part}
use Rattle.channel.specs.Map.Turning.{rev-mid}

-- how far ahead the spot lies that a dart of the row leads to, 336 more
pub head_of : ℕ → ℕ
head_of i = (turn_of i + i % 8) / 8

-- four rows to a word, 16 bits for each
abbrev head_words : List ℕ
head_words =
    0x000c_014b_0152_0015 ∷ 0x0150_0150_0151_0151 ∷ 0x000b_014a_0151_0014 ∷ 0x0150_0150_014f_014f ∷ 0x0153_0154_0151_0012 ∷ 0x014f_0150_0155_014e
    ∷ 0x014f_0153_0151_015a ∷ 0x0156_0150_0154_0155 ∷ 0x014f_0152_0151_028e ∷ 0x0295_0150_0153_0294 ∷ 0x014f_0151_014d_0146 ∷ 0x028c_0150_0152_028b
    ∷ 0x014f_014e_014d_014c ∷ 0x0150_0150_0150_0151 ∷ 0x014e_014d_014c_014b ∷ 0x0150_0150_014f_0150 ∷ []

head-word : {k w : ℕ} → k < 16 → k ≡ w → (j : ℕ) → j < 4 → get_or head_words w 0 / 2 ^ (j * 16) % 65536 ≡ head_of (4 * k + j)
unfolding below head_of turns turn_of
head-word = part 16 4 (λ w j. get_or head_words w 0 / 2 ^ (j * 16) % 65536) (λ k j. head_of (4 * k + j)) tt

pub head-bound : (i : ℕ) → i < 64 → head_of i < 662
unfolding below head_of turn_of turns
head-bound i l = ltb→lt _ _ (below_at 64 (λ i. ltb (head_of i) 662) tt i l)

-- the words have the eight rows of a spot of kind k
pub record HeadWords (k p q : ℕ) : Type 0 where
  pub low : (j : ℕ) → j < 4 → p / 2 ^ (j * 16) % 65536 ≡ head_of (8 * k + j)
  pub high : (j : ℕ) → j < 4 → q / 2 ^ (j * 16) % 65536 ≡ head_of (8 * k + (4 + j))

pub head-words : {k m : ℕ} → k < 8 → k ≡ m → HeadWords k (get_or head_words (2 * m) 0) (get_or head_words (2 * m + 1) 0)
head-words {k} {m} l e =
    record {
      low = λ j h. head-word {k = 2 * k} {w = 2 * m} (omega arith) (omega arith) j h ∙ ap head_of (omega arith);
      high = λ j h. head-word {k = 2 * k + 1} {w = 2 * m + 1} (omega arith) (omega arith) j h ∙ ap head_of (omega arith);
    }

-- slot k of u leads as far as its row says
pub rev-head : (u k : ℕ) → 336 ≤ u → u < 12800 → k < 8 → u - 336 + head_of (8 * (u % 8) + k) ≡ rev (8 * u + k) / 8
unfolding head_of
rev-head u k m h l =
    let b = head-bound ((8 * u + k) % 64) (omega arith) in
    let e : (8 * u + k) % 64 ≡ 8 * (u % 8) + k = omega arith in
    let r = rev-mid (8 * u + k) (turn_of ((8 * u + k) % 64)) refl (omega arith) (omega arith) in
    subst (λ (x : ℕ). u - 336 + (turn_of x + x % 8) / 8 ≡ rev (8 * u + k) / 8) e (omega arith)
