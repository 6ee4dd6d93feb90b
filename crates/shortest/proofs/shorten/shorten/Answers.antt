-- `shorten::shorten` meets its contract. Assumes nothing.
use Rattle.shortest.specs.Shortening.{shortened-first}
use Rattle.shortest.proofs.shorten.shorten.Goals as goal

pub returns-then-t-first_total : goal.returns-then-t-first_total
returns-then-t-first_total c = let p = c.requires in shortened-first p.0 p.1 c.total_length-t.ensures.0 c.first_total.ensures c.if-t-first_total.true
