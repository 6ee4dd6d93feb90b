-- A sum over all spots of what is 0 at every spot but the exits of pins is a sum over the cells. Wires are wanted at those exits alone. Assumes nothing.
use Rattle.std.specs.Prelude.{◌≡◌, ◌≢◌, Bool, true, false, ℕ, ◌+◌, ◌*◌, ◌%◌, ◌<◌, eqb}
use Rattle.std.proofs.Common.{sym, ap, ◌∙◌, arith, lit<}
use Rattle.sums.specs.Counting.{when, sum}
use Rattle.sums.specs.Tests.{Same, other, same?}
use Rattle.sums.specs.Sums.{sum-cong, sum-pick, sum_rows}
use Rattle.model.specs.Job.{Job}
use Rattle.channel.specs.Map.{spots, want}
use Rattle.channel.specs.Map.Starts.{want-start}
use Rattle.channel.specs.Map.Laying.{not_start}

pub sum-pins : (g : ℕ → ℕ) → ((u : ℕ) → u % 8 ≢ 1 → g u ≡ 0) → sum spots g ≡ sum 1641 (λ x. g (8 * x + 1))
unfolding spots
sum-pins g none =
    sum_rows 1641 8 g
    ∙ sum-cong 1641 _ (λ x. g (8 * x + 1)) (λ x l. sum-cong 8 _ (λ i. when (eqb 1 i) (g (8 * x + i))) (first x) ∙ sum-pick 8 1 (λ i. g (8 * x + i)) (lit< tt))
  where
    first : (x i : ℕ) → i < 8 → g (x * 8 + i) ≡ when (eqb 1 i) (g (8 * x + i))
    first x i l = by (eqb 1 i) (same? 1 i)
      where
        by : (b : Bool) → Same 1 i b → g (x * 8 + i) ≡ when b (g (8 * x + i))
        by true e = ap g (omega arith)
        by false (other n) = none (x * 8 + i) (omega arith)

pub want-none : (J : Job) (u : ℕ) → u % 8 ≢ 1 → want J u ≡ 0
want-none J u n = want-start J u ∙ ap (λ (b : Bool). when b 1) (sym (not_start J u n))
