-- `tile_lines` meets its contract: the lines of the sides, then those of the centre. Assumes nothing.
use Rattle.std.proofs.Common.{arith}
use Rattle.listing.specs.Puts.{puts_then}
use Rattle.listing.proofs.near.tile_lines.Goals as goal

pub returns : goal.returns
returns c = (puts_then c.side_lines.ensures.0 c.centre_lines.ensures.0, omega arith)
