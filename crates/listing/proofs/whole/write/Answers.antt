-- `write` counts the listing first, and lays it only where there is room. Assumes nothing.
use native.Mathlib.Omega.{arith}
use Rattle.listing.specs.Whole.{lists-whole}
use Rattle.listing.proofs.whole.write.Goals as goal

pub returns : goal.returns
returns c =
    let a = c.args in
    lists-whole a.rec.now a.out.now (omega (arith, c.if-out-n.false, c.count_listing-n.ensures)) c.put_listing.ensures
