-- `bits::lowest` meets its contract: the zeros under the lowest bit of 1 are counted. Assumes nothing.
use Rattle.sums.specs.Lowest.{lowest-is}
use Rattle.channel.proofs.bits.lowest.Goals as goal

pub returns : goal.returns
returns c = lowest-is c.args.x c.requires.0 c.requires.1
