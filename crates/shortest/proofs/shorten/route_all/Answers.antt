-- `shorten::route_all` meets its contract: where no chosen pin lacks a wire the least wiring is copied back, else the wires that fit. Assumes nothing.
use Rattle.shortest.specs.Shortening.{routed-short, routed-least}
use Rattle.shortest.proofs.shorten.route_all.Goals as goal

pub returns-then-k-eq0 : goal.returns-then-k-eq0
returns-then-k-eq0 c = routed-least c.requires.0 c.fill_copy-k.ensures c.if-k-eq0.true c.least_wiring.ensures c.copy.ensures

pub returns : goal.returns
returns c = routed-short c.requires.0 c.fill_copy-k.ensures c.if-k-eq0.false c.unloop.ensures c.copy-2.ensures
