-- `route::shortfall` meets its contract: the filled copy without its loops, put over the record, has every wire that fits. Assumes nothing.
use mathlib.Core.Path.{refl}
use Rattle.search.specs.Routing.{routed-unlooped}
use Rattle.search.proofs.route.shortfall.Goals as goal

pub returns : goal.returns
returns c = (_, routed-unlooped c.requires.0 c.fill_copy-k.ensures c.unloop.ensures refl)
