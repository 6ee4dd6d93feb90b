-- `refused_page` meets its contract: one line. Assumes nothing.
use Rattle.std.proofs.Common.{arith}
use Rattle.listing.specs.Near.{refused_listing}
use Rattle.listing.proofs.near.refused_page.Goals as goal

pub returns : goal.returns
unfolding refused_listing
returns c = (c.put_line.ensures.0, omega (arith, c.put_line.ensures.1))
