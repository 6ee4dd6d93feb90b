-- `loads::through_centre` meets its contract: what the four spokes carry towards the centre. Assumes nothing.
use native.Mathlib.Omega.{arith}
use Rattle.channel.specs.Map.Bytes.{centre-arrivals}
use Rattle.channel.proofs.loads.through_centre.Goals as goal

pub returns : goal.returns
returns c =
    (rw c.back_sum.ensures.0 (centre-arrivals c.args.rec.now c.args.x (omega arith) (omega arith)), omega arith)
