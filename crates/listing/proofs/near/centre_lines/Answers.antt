-- `centre_lines` meets its contract: two lines one after another. Assumes nothing.
use Rattle.std.proofs.Common.{arith}
use Rattle.listing.specs.Near.{centre_lines}
use Rattle.listing.specs.Puts.{puts_then}
use Rattle.listing.proofs.near.centre_lines.Goals as goal

pub returns : goal.returns
unfolding centre_lines
returns c = (puts_then c.near_line.ensures.0 c.near_line-2.ensures.0, omega arith)
