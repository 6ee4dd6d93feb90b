-- `unused::unused_clear` meets its contract, from its run. Assumes nothing.
use Rattle.cell.specs.Unused.{unused-is}
use Rattle.cell.proofs.unused.unused_clear.Goals as goal

pub returns : goal.returns
returns c = cc (unused-is c.args.rec.now)
