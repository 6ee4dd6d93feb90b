-- `loads::through_missing` meets its contract: what the four legs carry towards the pin. Assumes nothing.
use native.Mathlib.Omega.{arith}
use Rattle.channel.specs.Map.Bytes.{missing-arrivals}
use Rattle.channel.proofs.loads.through_missing.Goals as goal

pub returns : goal.returns
returns c =
    (rw c.back_sum.ensures.0 (missing-arrivals c.args.rec.now c.args.x (omega arith) (omega arith)), omega arith)
