-- `shorten::replace` meets its contract: the least wiring is copied back where it is shorter. Assumes nothing.
use native.Mathlib.Omega.{arith}
use Rattle.shortest.specs.Shortening.{copy-legal, shortened_same, shortened-copied}
use Rattle.shortest.proofs.shorten.replace.Goals as goal

pub total_length-requires : goal.total_length-requires
total_length-requires c = let p = c.requires in copy-legal p.0 c.least_wiring.ensures

pub returns-then-total_length-t : goal.returns-then-total_length-t
returns-then-total_length-t c =
    let p = c.requires in
    shortened-copied p.0 p.1 p.2 c.least_wiring.ensures c.total_length.ensures.0 c.if-total_length-t.true c.copy.ensures

pub returns-else-total_length-t : goal.returns-else-total_length-t
returns-else-total_length-t c =
    let p = c.requires in
    shortened_same p.0 p.1 p.2 c.least_wiring.ensures c.total_length.ensures.0 (omega (arith, c.if-total_length-t.false))
