-- The next page begins with a later entry. Assumes nothing.
use Rattle.std.proofs.Common.{ℕ, ◌<◌, ap, subst, arith, rules}
use Rattle.std.specs.Prelude.{Option, IfSome}
use Rattle.listing.specs.Near.{entry_of, near-further}
use Rattle.compare.proofs.listed.list_near.Goals as goal

pub near_page-next-requires : goal.near_page-next-requires
near_page-next-requires c = (search rules, search rules, subst (λ (o : Option ℕ). IfSome o (λ q. q < 4800)) c.in-Some.is c.loop-next.invariant)

pub loop-next-preserved : goal.loop-next-preserved
loop-next-preserved c =
    let here = subst (λ (o : Option ℕ). IfSome o (λ q. q < 4800)) c.in-Some.is c.loop-next.invariant in
    (near-further c.in-Some.entry c.near_page-next.result here c.near_page-next.ensures.from_lt_next).1

pub loop-next-smaller : goal.loop-next-smaller
loop-next-smaller c =
    let here = subst (λ (o : Option ℕ). IfSome o (λ q. q < 4800)) c.in-Some.is c.loop-next.invariant in
    omega (arith, here, (near-further c.in-Some.entry c.near_page-next.result here c.near_page-next.ensures.from_lt_next).0, ap entry_of c.in-Some.is)
