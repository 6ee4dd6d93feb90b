-- The rows of the table packed into words, as the code reads them: one computed test over the words says that each part of a word is the entry of its
-- row. Assumes nothing.
use Rattle.std.specs.Prelude.{◌≡◌, refl, ◌≢◌, ◌⊎◌, Bool, true, false, not, List, [], ◌∷◌, ℕ, zero, suc, ◌+◌, ◌*◌, ◌/◌, ◌%◌, ◌^◌, ◌≤◌, ◌<◌, T, eqb, ltb}
use Rattle.std.proofs.Common.{ap, subst, ◌∙◌, inl, inr, zero-le, arith, eqb→eq, ltb→lt}
use Rattle.std.proofs.lemmas.Bool.{eqb-false}
use Rattle.std.proofs.Math.ListN.{get_or}
use Rattle.sums.specs.Tests.{below, below_at}
use Rattle.channel.specs.Map.{turns, links, owners, signs, codes, turn_of, kind_of, owner_of, sign_of, code_of, seat_of, carries, is_passage, place_of}
use Rattle.channel.specs.Map.Bools.{is-off}

-- ---- the words

-- eight rows to a word, a byte for each: the code, and 16 times the kind of link
abbrev row_words : List ℕ
row_words =
    0x0000_ef08_dccc_bcac ∷ 0x0000_0eef_d7c7_b7a7 ∷ 0xbd00_6ab6_5263_2201 ∷ 0xcd00_7ac6_2273_3211 ∷ 0xdd00_8ad6_3283_4201 ∷ 0xad00_9aa6_4293_5211
    ∷ 0x0000_0005_9989_7969 ∷ 0x0000_0b00_9484_7464 ∷ []

-- four rows to a word, 16 bits for each: how far the way back lies ahead
abbrev turn_words : List ℕ
turn_words =
    0x0061_0a5a_0a93_00ac ∷ 0x0a80_0a80_0a87_0a89 ∷ 0x005c_0a55_0a8e_00a7 ∷ 0x0a80_0a80_0a77_0a79 ∷ 0x0a96_0a9e_0a8a_0090 ∷ 0x0a72_0a80_0aa3_0a6d
    ∷ 0x0a76_0a97_0a8a_0ad0 ∷ 0x0aab_0a80_0a9c_0aa6 ∷ 0x0a76_0a90_0a8a_1470 ∷ 0x14a4_0a80_0a95_149f ∷ 0x0a76_0a89_0a6a_0a30 ∷ 0x1459_0a80_0a8e_1454
    ∷ 0x0a77_0a70_0a69_0a62 ∷ 0x0a80_0a80_0a80_0a89 ∷ 0x0a72_0a6b_0a64_0a5d ∷ 0x0a80_0a80_0a77_0a80 ∷ []

-- and where the bytes of their links stand
abbrev place_words : List ℕ
place_words =
    0x0000_0000_0000_0000 ∷ 0x0000_0000_cdaf_0001 ∷ 0xc12e_b4ae_a82e_9bae ∷ 0x0000_0000_0000_cdae ∷ 0x5d2f_69af_37ae_1eae ∷ 0x0000_0000_0000_a82f
    ∷ 0x37af_762f_442e_2b30 ∷ 0x0000_0000_0000_b4b1 ∷ 0x442f_82af_50ae_1eff ∷ 0x0000_0000_0000_c181 ∷ 0x50af_8f2f_5d2e_2b2f ∷ 0x0000_0000_0000_9bff
    ∷ 0x0000_0000_0000_0000 ∷ 0x0000_0000_0000_0001 ∷ 0x8f2e_82ae_762e_69ae ∷ 0x0000_0000_0000_0000 ∷ []

-- the rows of the darts along links: two words for the positive way and two for the other, a byte for each kind
abbrev seat_words : List ℕ
seat_words =
    0x3938_2921_1911_1810 ∷ 0x000c_0b0a_0908_3b3a ∷ 0x1a12_132b_231b_2820 ∷ 0x0005_241c_142c_2a22 ∷ []

-- ---- the parts of a word

-- one computed test of the n parts of each of the m words
pub part : (m n : ℕ) (f g : ℕ → ℕ → ℕ) → T (below m (λ k. below n (λ j. eqb (f k j) (g k j)))) → {k w : ℕ} → k < m → k ≡ w → (j : ℕ) → j < n → f w j ≡ g k j
part m n f g t {k} l e j h =
    subst (λ (w : ℕ). f w j ≡ g k j) e
    (eqb→eq _ _ (below_at n (λ j. eqb (f k j) (g k j)) (below_at m (λ k. below n (λ j. eqb (f k j) (g k j))) t k l) j h))

-- the k-th word, by a number that is known
module _ {k w : ℕ} where
  pub turn-word : k < 16 → k ≡ w → (j : ℕ) → j < 4 → get_or turn_words w 0 / 2 ^ (j * 16) % 65536 ≡ turn_of (4 * k + j)
  unfolding below turns turn_of
  turn-word = part 16 4 (λ w j. get_or turn_words w 0 / 2 ^ (j * 16) % 65536) (λ k j. turn_of (4 * k + j)) tt

  place-word : k < 16 → k ≡ w → (j : ℕ) → j < 4 → get_or place_words w 0 / 2 ^ (j * 16) % 65536 ≡ place_of (4 * k + j)
  unfolding below place_of carries is_passage codes code_of links kind_of owners owner_of signs sign_of
  place-word = part 16 4 (λ w j. get_or place_words w 0 / 2 ^ (j * 16) % 65536) (λ k j. place_of (4 * k + j)) tt

  row-code : k < 8 → k ≡ w → (j : ℕ) → j < 8 → get_or row_words w 0 / 2 ^ (j * 8) % 16 ≡ code_of (8 * k + j)
  unfolding below codes code_of
  row-code = part 8 8 (λ w j. get_or row_words w 0 / 2 ^ (j * 8) % 16) (λ k j. code_of (8 * k + j)) tt

  row-kind : k < 8 → k ≡ w → (j : ℕ) → j < 8 → get_or row_words w 0 / 2 ^ (j * 8 + 4) % 16 ≡ kind_of (8 * k + j)
  unfolding below links kind_of
  row-kind = part 8 8 (λ w j. get_or row_words w 0 / 2 ^ (j * 8 + 4) % 16) (λ k j. kind_of (8 * k + j)) tt

  pub row_word : k < 8 → k ≡ w → (j : ℕ) → j < 8
      → (get_or row_words w 0 / 2 ^ (j * 8) % 16 ≡ code_of (8 * k + j)) × (get_or row_words w 0 / 2 ^ (j * 8 + 4) % 16 ≡ kind_of (8 * k + j))
  row_word l e j h = (row-code l e j h, row-kind l e j h)

  pub seat-word : k < 4 → k ≡ w → (j : ℕ) → j < 8 → get_or seat_words w 0 / 2 ^ (j * 8) % 256 ≡ seat_of (8 * (k % 2) + j) (ltb k 2)
  unfolding below seat_of
  seat-word = part 4 8 (λ w j. get_or seat_words w 0 / 2 ^ (j * 8) % 256) (λ k j. seat_of (8 * (k % 2) + j) (ltb k 2)) tt

pub seat-small : (k : ℕ) → k < 15 → (f : Bool) → seat_of k f < 64
unfolding below seat_of
seat-small k l true = ltb→lt _ _ (below_at 15 (λ k. ltb (seat_of k true) 64) tt k l)
seat-small k l false = ltb→lt _ _ (below_at 15 (λ k. ltb (seat_of k false) 64) tt k l)

-- ---- the slots of a spot

-- the words have the slots 0 to 4 of a spot of kind k, and slot 4 leads along a link
pub record SlotWords (k w last : ℕ) : Type 0 where
  pub four : (j : ℕ) → j < 4 → w / 2 ^ (j * 16) % 65536 ≡ place_of (8 * k + j)
  pub fifth : last % 65536 ≡ place_of (8 * k + 4)
  pub link : last % 65536 ≢ 1

-- the words of the k-th two, tested
pub slot-words : {k m : ℕ} → k < 8 → k ≡ m → T (not (eqb (get_or place_words (2 * m + 1) 0 % 65536) 1))
    → SlotWords k (get_or place_words (2 * m) 0) (get_or place_words (2 * m + 1) 0)
slot-words {k} {m} l e t =
    record {
      four = λ j h. place-word {k = 2 * k} {w = 2 * m} (omega arith) (omega arith) j h ∙ ap place_of (omega arith);
      fifth =
          ap (λ (n : ℕ). n % 65536) (omega arith) ∙ place-word {k = 2 * k + 1} {w = 2 * m + 1} (omega arith) (omega arith) 0 (omega arith) ∙ ap place_of (omega arith);
      link = eqb-false _ 1 (is-off _ t);
    }

-- the slots 0 to 3 of an entry carry nothing
pub entry_place : (k : ℕ) → (k ≡ 0) ⊎ (k ≡ 6) → (j : ℕ) → j < 4 → place_of (8 * k + j) ≡ 0
unfolding below place_of carries is_passage codes code_of links kind_of owners owner_of signs sign_of
entry_place k (inl e) j l =
    let q : 8 * k + j ≡ j = omega arith in ap place_of q ∙ eqb→eq _ _ (below_at 4 (λ j. eqb (place_of j) 0) tt j l)
entry_place k (inr e) j l =
    let q : 8 * k + j ≡ 48 + j = omega arith in ap place_of q ∙ eqb→eq _ _ (below_at 4 (λ j. eqb (place_of (48 + j)) 0) tt j l)

-- ---- the bits of a word

pub packed-sign : (i : ℕ) → i < 64 → 0x2000_bdbd_bcbc_2020 / 2 ^ i % 2 ≡ sign_of i
unfolding below signs sign_of
packed-sign i l = eqb→eq _ _ (below_at 64 (λ i. eqb (0x2000_bdbd_bcbc_2020 / 2 ^ i % 2) (sign_of i)) tt i l)

pub packed-owner : (i : ℕ) → i < 64 → 0x0000_0090_9100_0000 / 2 ^ i % 2 + 0x0000_9091_0000_0000 / 2 ^ i % 2 * 40 ≡ owner_of i
unfolding below owners owner_of
packed-owner i l = eqb→eq _ _ (below_at 64 (λ i. eqb (0x0000_0090_9100_0000 / 2 ^ i % 2 + 0x0000_9091_0000_0000 / 2 ^ i % 2 * 40) (owner_of i)) tt i l)

-- the last word is the one that is none of the others
pub not_least : (k a : ℕ) → a ≤ k → k ≢ a → suc a ≤ k
not_least k a l n = omega arith

pub from-three : (k : ℕ) → k < 4 → ((Unit {0} × (k ≢ 0)) × (k ≢ 1)) × (k ≢ 2) → k ≡ 3
from-three k l r = let m : 3 ≤ k = not_least k 2 (not_least k 1 (not_least k 0 zero-le r.0.0.1) r.0.1) r.1 in omega arith

pub from-seven : (k : ℕ) → k < 8 → ((((((Unit {0} × (k ≢ 0)) × (k ≢ 1)) × (k ≢ 2)) × (k ≢ 3)) × (k ≢ 4)) × (k ≢ 5)) × (k ≢ 6) → k ≡ 7
from-seven k l r = let m : 7 ≤ k = not_least k 6 (not_least k 5
    (not_least k 4 (not_least k 3 (not_least k 2 (not_least k 1 (not_least k 0 zero-le r.0.0.0.0.0.0.1) r.0.0.0.0.0.1)
    r.0.0.0.0.1) r.0.0.0.1) r.0.0.1) r.0.1) r.1 in omega arith

pub from-fifteen : (k : ℕ) → k < 16 → ((((((((((((((Unit {0} × (k ≢ 0)) × (k ≢ 1)) × (k ≢ 2)) × (k ≢ 3)) × (k ≢ 4)) × (k ≢ 5)) × (k ≢ 6)) × (k ≢ 7)) ×
    (k ≢ 8)) × (k ≢ 9)) × (k ≢ 10)) × (k ≢ 11)) × (k ≢ 12)) × (k ≢ 13)) × (k ≢ 14) → k ≡ 15
from-fifteen k l r = let m : 15 ≤ k = not_least k 14
    (not_least k 13 (not_least k 12 (not_least k 11 (not_least k 10
    (not_least k 9 (not_least k 8 (not_least k 7 (not_least k 6
    (not_least k 5 (not_least k 4 (not_least k 3 (not_least k 2
    (not_least k 1 (not_least k 0 zero-le r.0.0.0.0.0.0.0.0.0.0.0.0.0.0.1) r.0.0.0.0.0.0.0.0.0.0.0.0.0.1)
    r.0.0.0.0.0.0.0.0.0.0.0.0.1) r.0.0.0.0.0.0.0.0.0.0.0.1) r.0.0.0.0.0.0.0.0.0.0.1)
    r.0.0.0.0.0.0.0.0.0.1) r.0.0.0.0.0.0.0.0.1) r.0.0.0.0.0.0.0.1) r.0.0.0.0.0.0.1)
    r.0.0.0.0.0.1) r.0.0.0.0.1) r.0.0.0.1) r.0.0.1) r.0.1) r.1 in omega arith

-- the kinds of an entry are those that are none of the others
pub entry-kind : (k : ℕ) → k < 8 → (((((Unit {0} × (k ≢ 1)) × (k ≢ 2)) × (k ≢ 3)) × (k ≢ 4)) × (k ≢ 5)) × (k ≢ 7) → (k ≡ 0) ⊎ (k ≡ 6)
entry-kind zero l r = inl refl
entry-kind (suc k) l r =
    let m : 6 ≤ suc k = not_least (suc k) 5 (not_least (suc k) 4
    (not_least (suc k) 3 (not_least (suc k) 2 (not_least (suc k) 1 (omega arith) r.0.0.0.0.0.1) r.0.0.0.0.1) r.0.0.0.1) r.0.0.1) r.0.1 in
    inr (omega (arith, r.1))
