-- `side_lines` meets its contract: four lines one after another. Assumes nothing.
use Rattle.std.proofs.Common.{arith}
use Rattle.listing.specs.Near.{side_lines}
use Rattle.listing.specs.Puts.{puts_then}
use Rattle.listing.proofs.near.side_lines.Goals as goal

pub returns : goal.returns
unfolding side_lines
returns c = (
  puts_then c.near_line.ensures.0
      (puts_then c.near_line-2.ensures.0 (puts_then c.near_line-3.ensures.0 c.near_line-4.ensures.0)),
  omega arith,
)
