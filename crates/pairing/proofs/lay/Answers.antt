-- `pairing::lay` meets its contract. The loop's invariant: the ends of the links before slot k are laid, and no other. Assumes nothing.
use mathlib.Core.Path.{refl}
use native.Mathlib.Omega.{arith}
use Rattle.sums.specs.Counting.{sum}
use Rattle.pairing.proofs.lay.Goals as goal

pub loop-k-init : goal.loop-k-init
unfolding sum
loop-k-init c = (refl, refl, (λ q h. absurd (omega arith), λ q h. c.requires.0 q))
