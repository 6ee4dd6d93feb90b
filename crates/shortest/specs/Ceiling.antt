-- How high prices go: no unwired chosen pin has a price above what the loads of a record cost in which every chosen pin is wired. The 64 darts of a cell count
-- 54 together, and no dart has more than 16 wires, so that this is a small number. So raising ends. Assumes nothing.
use Rattle.std.specs.Prelude.{◌≡◌, refl, List, ℕ, ◌+◌, ◌*◌, ◌%◌, ◌≤◌, ◌<◌}
use Rattle.std.proofs.Common.{sym, ap, subst, ◌∙◌, mul-le-mul_left, arith}
use Rattle.sums.specs.Counting.{sum}
use Rattle.sums.specs.Sums.{sum-cong, sum-le, sum_rows, sum_ones}
use Rattle.flow.specs.Flow.{Unstarted}
use Rattle.price.specs.Cost.{sum-scale, cost}
use Rattle.price.specs.Priced.{Priced, all-started}
use Rattle.price.specs.Ceiling.{unstarted-le}
use Rattle.model.specs.Job.{Job}
use Rattle.model.specs.Route.{chosen_count}
use Rattle.model.specs.Record.{load}
use Rattle.model.specs.Wires.{wire_count}
use Rattle.channel.specs.Map.{view, starts}
use Rattle.channel.specs.Map.Numbers.{darts-is, is-dart}
use Rattle.channel.specs.Map.Lengths.{length_of, dart_length}
use Rattle.channel.specs.Map.Network.{net, net-darts, sum-nodes}
use Rattle.channel.specs.Map.Network.Flows.{feasible-flow, starts-count, view-small}
use Rattle.augment.specs.Pins.{Held}
use Rattle.shortest.specs.Shortest.{wanted-is}

-- ---- what loads cost

cell-length : sum 64 (λ i. 16 * length_of i) ≡ 864
unfolding sum
cell-length = refl

row-length : (u i : ℕ) → i < 64 → dart_length (u * 64 + i) ≡ length_of i
unfolding dart_length
row-length u i l = let e : (u * 64 + i) % 64 ≡ i = omega arith in ap length_of e

all-length : sum 105024 (λ d. 16 * dart_length d) ≡ 1417824
all-length =
    sum_rows 1641 64 (λ d. 16 * dart_length d)
    ∙ (sum-cong 1641 (λ u. sum 64 (λ i. 16 * dart_length (u * 64 + i))) (λ u. 864 * 1)
    (λ u l. sum-cong 64 (λ i. 16 * dart_length (u * 64 + i)) (λ i. 16 * length_of i) (λ i k. ap (λ (x : ℕ). 16 * x) (row-length u i k)) ∙ cell-length)
    ∙ (sum-scale 1641 864 (λ u. 1) ∙ ap (λ (x : ℕ). 864 * x) (sum_ones 1641)))

pub cost-most : {J : Job} {old : List ℕ} → Held J old → cost (net J) dart_length (view old) ≤ 1417824
unfolding cost
cost-most {J} {old} G =
    subst (λ (n : ℕ). sum n (λ d. dart_length d * view old d) ≤ 1417824) (sym (net-darts J ∙ darts-is))
    (omega (
      arith,
      all-length,
      sum-le 105024 (λ d. dart_length d * view old d) (λ d. 16 * dart_length d)
          (λ d l. omega (arith, mul-le-mul_left (dart_length d) (view-small J G.fits old G.feasible G.caps d (is-dart l)))),
    ))

-- ---- what an unwired pin's price is

-- `old` has a wire for every chosen pin
pub unwired-most : {J : Job} {rec old : List ℕ} {π : ℕ → ℕ} → Held J rec → Held J old → wire_count J (load old) ≡ chosen_count J
    → Priced (net J) dart_length (view rec) π → (u : ℕ) → Unstarted (net J) (starts J rec) u → π u ≤ 1417824
unwired-most {J} {rec} {old} H G all P u h =
    let L = (feasible-flow J G.fits old G.feasible).load in
    omega (
      arith,
      cost-most G,
      unstarted-le (feasible-flow J H.fits rec H.feasible).load L
          (all-started L (omega (arith, wanted-is J G.fits, all, sum-nodes J (starts J old), starts-count J G.fits old G.feasible))) h P,
    )
