-- `pairing::start_of` meets its contract: slot after slot. Assumes nothing.
use Rattle.std.proofs.Common.{refl, ap, arith, add-one}
use Rattle.sums.specs.Counting.{sum}
use Rattle.pairing.specs.Slots.{start}
use Rattle.pairing.specs.Answer.{lanes}
use Rattle.pairing.proofs.start_of.Goals as goal

pub loop-j-init : goal.loop-j-init
unfolding sum
loop-j-init c = (refl, omega arith)

pub loop-j-preserved : goal.loop-j-preserved
unfolding sum
loop-j-preserved c =
    let a = c.args.around.now in
    (omega (arith, ap (start (lanes a.arrive) (lanes a.depart)) (add-one c.loop-j.j)), omega arith)
