-- `wiring::least_wiring` meets its contract: taking loops out takes no wire, and keeps the prices. Assumes nothing.
use Rattle.shortest.specs.LeastWiring.{least-wired}
use Rattle.shortest.proofs.wiring.least_wiring.Goals as goal

pub returns : goal.returns
returns c = least-wired c.requires.0 c.wire_all.ensures c.unloop.ensures
