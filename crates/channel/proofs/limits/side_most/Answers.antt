-- `limits::side_most` meets its contract: O less the byte of the side's count. Assumes nothing.
use native.Mathlib.Omega.{arith}
use Rattle.channel.specs.Laid.{side-most}
use Rattle.channel.proofs.limits.side_most.Goals as goal

pub returns : goal.returns
returns c =
    let e = side-most c.args.job.now c.args.x (omega arith) (omega arith) c.args.k (omega arith) in
    omega (arith, e, c.wide.ensures.0, c.orthogonal.ensures)
