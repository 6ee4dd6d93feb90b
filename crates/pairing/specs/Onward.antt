-- From the code's answer to document 01: where the numbers of lanes of five slots are those of the links round a place, and as many wires arrive there as
-- depart, a wire goes on by the lane that the code answers. Assumes nothing.
use Rattle.std.specs.Prelude.{◌≡◌, ℕ, ◌<◌}
use Rattle.std.proofs.Math.Path.{sym}
use Rattle.std.proofs.Common.{◌∙◌}
use Rattle.std.proofs.Math.Option.{some}
use Rattle.std.proofs.Math.ListN.{get_elem?}
use Rattle.sums.specs.Counting.{sum}
use Rattle.sums.specs.Sums.{sum-cong}
use Rattle.model.specs.Links.{Place, Step, turn, around}
use Rattle.model.specs.Loads.{arrivals, departures}
use Rattle.model.specs.Wires.{leaving}
use Rattle.model.proofs.Listed.{around-five}
use Rattle.pairing.specs.Lanes.{lanes_in, lanes_out, load-total}
use Rattle.pairing.specs.Leaving.{leaving-slot}
use Rattle.pairing.specs.Answer.{Partner}

-- the numbers of lanes of five slots are those of the links round the place
pub record Counts (f : Step → ℕ) (x : Place) (a d : ℕ → ℕ) : Type 0 where
  pub ins : (k : ℕ) → k < 5 → a k ≡ lanes_in f (around x) k
  pub outs : (k : ℕ) → k < 5 → d k ≡ lanes_out f (around x) k

module _ (f : Step → ℕ) (x : Place) (a d : ℕ → ℕ) (counts : Counts f x a d) (balance : arrivals f x ≡ departures f x) where
  pub counts-even : sum 5 a ≡ sum 5 d
  unfolding arrivals departures
  counts-even =
      sum-cong 5 a (lanes_in f (around x)) counts.ins
      ∙ (load-total (λ s. f (turn s)) (around x) 5 (around-five x)
      ∙ (balance ∙ (sym (load-total f (around x) 5 (around-five x)) ∙ sym (sum-cong 5 d (lanes_out f (around x)) counts.outs))))

  -- what `partner` ensures of its answer, in the words of document 01
  pub onward-leaves : (k i : ℕ) (s : Step) → get_elem? (around x) k ≡ some s → i < f (turn s) → (j q : ℕ) → (sum 5 a ≡ sum 5 d → Partner a d k i j q)
      → (t : Step) × (get_elem? (around x) j ≡ some t) × (leaving f x s.link i ≡ some (record { step = t; lane = q }))
  onward-leaves k i s g h j q r =
      let p = r counts-even in
      leaving-slot f x k i s g h a d counts.ins counts.outs j q p.slot p.lane p.place
