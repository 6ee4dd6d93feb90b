-- Document 01: numbers are "unsigned and decimal". The digits that a listing has for a number, read from left to right, are that number, for every number of
-- at most twenty digits; and rows with one digit up to twenty. Assumes nothing.
use mathlib.Core.Path.{◌≡◌, refl, sym, ap, ◌∙◌}
use mathlib.Core.Bool.{Bool, true, false, not}
use mathlib.Core.List.{List, [], ◌∷◌, ◌++◌, append_assoc}
use Prim.Native.Nat.{ℕ, zero, suc, ◌+◌, ◌-◌, ◌*◌, ◌^◌, ◌/◌, ◌%◌, ◌<◌}
use native.Mathlib.Nat.{pow-suc, div-div-eq-div-mul, div-eq_of_lt}
use native.Mathlib.Omega.{arith}
use lib.Dec.{T, leb, nleb→lt}
use Rattle.sums.specs.Counting.{only}
use Rattle.model.specs.Listing.{digit, tens, decimal}

-- the number that digits write, behind those that write v
abbrev pub value_of : ℕ → List ℕ → ℕ
value_of v [] = v
value_of v (b ∷ l) = value_of (10 * v + (b - 48)) l

-- one digit less is a tenth
tenth : (n k : ℕ) → n / 10 ^ suc k ≡ n / 10 ^ k / 10
tenth n k = ap (λ (m : ℕ). n / m) (pow-suc 10 k) ∙ sym (div-div-eq-div-mul n (10 ^ k) 10)

tens-value : (k n : ℕ) (r : List ℕ) → value_of (n / 10 ^ suc k) (tens k n ++ r) ≡ value_of (n / 10) r
unfolding tens
tens-value zero n r = refl
tens-value (suc k) n r =
    ap (value_of (n / 10 ^ suc (suc k))) (append_assoc (digit (10 ^ suc k) n) (tens k n) r)
    ∙ (by (leb (10 ^ suc k) n) (nleb→lt (10 ^ suc k) n) ∙ tens-value k n r)
  where
    by : (b : Bool) → (T (not b) → n < 10 ^ suc k)
        → value_of (n / 10 ^ suc (suc k)) (only b ((48 + n / 10 ^ suc k % 10) ∷ []) ++ (tens k n ++ r)) ≡ value_of (n / 10 ^ suc k) (tens k n ++ r)
    by true h =
        let q : ℕ = n / 10 ^ suc k in
        let e : n / 10 ^ suc (suc k) ≡ q / 10 = tenth n (suc k) in
        let all : 10 * (q / 10) + (48 + q % 10 - 48) ≡ q = omega arith in
        ap (λ (v : ℕ). value_of (10 * v + (48 + n / 10 ^ suc k % 10 - 48)) (tens k n ++ r)) e ∙ ap (λ (v : ℕ). value_of v (tens k n ++ r)) all
    by false h =
        let none : n / 10 ^ suc k ≡ 0 = div-eq_of_lt (h tt) in
        ap (λ (v : ℕ). value_of v (tens k n ++ r)) (tenth n (suc k) ∙ (ap (λ (v : ℕ). v / 10) none ∙ sym none))

pub decimal-value : (n : ℕ) → n < 10 ^ 20 → value_of 0 (decimal n) ≡ n
unfolding decimal
decimal-value n l =
    let none : n / 10 ^ 20 ≡ 0 = div-eq_of_lt l in
    let all : 10 * (n / 10) + (48 + n % 10 - 48) ≡ n = omega arith in
    ap (λ (v : ℕ). value_of v (tens 19 n ++ ((48 + n % 10) ∷ []))) (sym none) ∙ (tens-value 19 n ((48 + n % 10) ∷ []) ∙ all)

-- 0, 9, 10, 99999, 100000 and the greatest number of 64 bits
pub decimals :
    (decimal 0 ≡ 48 ∷ []) × (decimal 9 ≡ 57 ∷ []) × (decimal 10 ≡ 49 ∷ 48 ∷ [])
    × (decimal 99999 ≡ 57 ∷ 57 ∷ 57 ∷ 57 ∷ 57 ∷ []) × (decimal 100000 ≡ 49 ∷ 48 ∷ 48 ∷ 48 ∷ 48 ∷ 48 ∷ [])
    × (decimal 18446744073709551615
    ≡ 49 ∷ 56 ∷ 52 ∷ 52 ∷ 54 ∷ 55 ∷ 52 ∷ 52 ∷ 48 ∷ 55 ∷ 51 ∷ 55 ∷ 48 ∷ 57 ∷ 53 ∷ 53 ∷ 49 ∷ 54 ∷ 49 ∷ 53 ∷ [])
unfolding decimal tens
decimals = (refl, refl, refl, refl, refl, refl)
