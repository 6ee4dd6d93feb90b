-- `trace` meets its contract: a load byte of 0 has no spot, and from that of any other the search goes on. Assumes nothing.
use borrow.Author.Rules.{rules}
use native.Mathlib.Omega.{arith}
use Rattle.channel.specs.Map.Numbers.{spots-is}
use Rattle.audit.specs.Loops.Fresh.{traced-from}
use Rattle.audit.proofs.loops.Search.trace.Goals as goal

pub returns-then-r-ge13128-clause-traced : goal.returns-then-r-ge13128-clause-traced
returns-then-r-ge13128-clause-traced c = (c.requires.0, λ u h. h, λ h. absurd (omega (arith, spots-is, c.if-r-ge13128.true, c.origin-r.ensures)))

pub explore-requires : goal.explore-requires
explore-requires c = search (rules, spots-is)

pub returns-clause-traced : goal.returns-clause-traced
returns-clause-traced c =
    traced-from c.args.rec.now c.args.i c.origin-r.result c.args.self.now.fin.now c.explore.new.self c.explore.result c.origin-r.ensures
    (omega (arith, spots-is, c.if-r-ge13128.false, c.requires.0.state.room.marks)) c.explore.ensures.searched
