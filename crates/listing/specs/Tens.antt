-- The digits of a number from the highest power down, one at a time. Assumes nothing.
use Rattle.std.specs.Prelude.{◌≡◌, refl, Bool, [], ◌∷◌, ◌++◌, ℕ, zero, suc, ◌+◌, ◌-◌, ◌^◌, ◌/◌, ◌%◌, ◌≤◌, ◌<◌}
use Rattle.std.proofs.Common.{ap, ◌∙◌, pow-suc, mul-div_cancel, arith}
use Rattle.std.proofs.Math.Nat.{one-le-pow, pow-le-pow_right}
use Rattle.std.proofs.lemmas.Bool.{lt-leb}
use Rattle.sums.specs.Counting.{only}
use Rattle.model.specs.Listing.{digit, tens}

pub ten-positive : (k : ℕ) → 0 < 10 ^ k
ten-positive k = one-le-pow k 10 (omega arith)

pub ten-less : (k : ℕ) → 0 < k → 10 ^ k / 10 ≡ 10 ^ (k - 1)
ten-less zero h = absurd (omega arith)
ten-less (suc k) h =
    let down : k ≡ suc k - 1 = omega arith in
    ap (λ (n : ℕ). n / 10) (pow-suc 10 k) ∙ (mul-div_cancel (10 ^ k) (omega arith) ∙ ap (λ (n : ℕ). 10 ^ n) down)

pub tens-first : (k n : ℕ) → 0 < k → tens k n ≡ digit (10 ^ k) n ++ tens (k - 1) n
unfolding tens
tens-first zero n h = absurd (omega arith)
tens-first (suc k) n h =
    let down : k ≡ suc k - 1 = omega arith in
    ap (λ (m : ℕ). digit (10 ^ suc k) n ++ tens m n) down

-- of a number below 100 there is one at most
pub tens-few : (k n : ℕ) → n < 100 → tens (suc k) n ≡ tens 1 n
unfolding tens
tens-few zero n h = refl
tens-few (suc k) n h =
    let large : 10 ^ 2 ≤ 10 ^ suc (suc k) = pow-le-pow_right {n = 10} (omega arith) {i = 2} {j = suc (suc k)} (omega arith) in
    ap (λ (b : Bool). only b ((48 + n / 10 ^ suc (suc k) % 10) ∷ []) ++ tens (suc k) n) (lt-leb (10 ^ suc (suc k)) n (omega arith)) ∙ tens-few k n h
