-- `header::laid_on` meets its contract: the byte at the side's offset is its count. Assumes nothing.
use mathlib.Core.Path.{ap, ◌∙◌}
use Prim.Native.Nat.{ℕ}
use native.Mathlib.Omega.{arith}
use lib.ListN.{get_or}
use Rattle.model.specs.Job.{side_of}
use Rattle.channel.specs.Laid.{count-byte, side-inside}
use Rattle.channel.proofs.header.laid_on.Goals as goal

pub returns : goal.returns
returns c =
    let (lr, lc) = side-inside c.args.r c.args.c c.args.side (omega arith) (omega arith) in (
      c.wide.ensures.0
          ∙ (ap (λ (i : ℕ). get_or c.args.rec.now i 0) c.side_at.ensures.0
          ∙ count-byte c.args.rec.now (side_of c.args.r c.args.c c.args.side) lr lc),
      c.wide.ensures.1,
    )
