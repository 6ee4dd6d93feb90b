-- Networks with K slots at each node: slot k of node u is the dart u * K + k, so that what a load takes out of a node is a sum over its slots. Assumes
-- nothing.
use Rattle.std.specs.Prelude.{◌≡◌, Bool, ℕ, zero, suc, ◌+◌, ◌*◌, ◌/◌, ◌<◌, eqb}
use Rattle.std.proofs.Common.{sym, ap, ◌∙◌, not-suc-le-zero, mul-zero, zero-lt-suc, div-lt_iff_lt-mul, add-zero, arith}
use Rattle.std.proofs.Math.Nat.{mul-add-div_right, div-eq_of_lt}
use Rattle.sums.specs.Counting.{when, sum}
use Rattle.sums.specs.Tests.{eqb-iff}
use Rattle.sums.specs.Sums.{sum-cong, sum-when, sum-pick, sum_rows}
use Rattle.flow.specs.Network.{Net}
use Rattle.flow.specs.Balance.{out}

slot-node : (K u k : ℕ) → k < K → (u * K + k) / K ≡ u
slot-node K u k l = let p : 0 < K = omega arith in mul-add-div_right p u k ∙ ap (λ (x : ℕ). u + x) (div-eq_of_lt l) ∙ add-zero u

pub node-lt : (N K d : ℕ) → d < N * K → d / K < N
node-lt N zero d l = absurd (not-suc-le-zero (rw mul-zero at l))
node-lt N (suc K) d l = (div-lt_iff_lt-mul (zero-lt-suc K)).1 l

pub out-slots : (G : Net) (K : ℕ) → G.darts ≡ G.nodes * K → ((d : ℕ) → G.tail d ≡ d / K) → (g : ℕ → ℕ) (u : ℕ) → u < G.nodes
    → out G g u ≡ sum K (λ k. g (u * K + k))
unfolding out
out-slots G K e t g u l =
    ap (λ (m : ℕ). sum m (λ d. when (eqb (G.tail d) u) (g d))) e
    ∙ sum_rows G.nodes K (λ d. when (eqb (G.tail d) u) (g d))
    ∙ sum-cong G.nodes _ _
    (λ v m. sum-cong K _ _ (λ k h. ap (λ (b : Bool). when b (g (v * K + k))) (at v k h)) ∙ sum-when (eqb u v) K (λ k. g (v * K + k)))
    ∙ sum-pick G.nodes u (λ v. sum K (λ k. g (v * K + k))) l
  where
    at : (v k : ℕ) → k < K → eqb (G.tail (v * K + k)) u ≡ eqb u v
    at v k h = ap (λ (x : ℕ). eqb x u) (t (v * K + k) ∙ slot-node K v k h) ∙ eqb-iff v u u v sym sym
