-- `count_listing` meets its contract. Assumes nothing.
use Rattle.std.proofs.Common.{ap, subst, length, arith}
use Rattle.model.specs.Record.{job_of, load}
use Rattle.model.proofs.ListingLength.{listing-short}
use Rattle.listing.specs.Left.{left_at, ahead_at, StandsAt}
use Rattle.listing.specs.Puts.{parts-length}
use Rattle.listing.specs.Passed.{stands-first}
use Rattle.listing.specs.Whole.{listing-begun}
use Rattle.listing.proofs.whole.count_listing.Goals as goal

pub loop-next-init : goal.loop-next-init
loop-next-init c =
    let rec = c.args.rec.now in
    let r = c.first_wire.ensures in
    (omega (arith, listing-begun (job_of rec) (load rec) r.0 r.1 c.count_page.ensures.0), stands-first rec c.first_wire.result (omega (arith, r.0)) r.1)

pub wires_page-next-requires : goal.wires_page-next-requires
wires_page-next-requires c = (c.requires, subst (StandsAt c.args.rec.now) c.in-Some.is c.loop-next.invariant.1)

pub overflow_add-n : goal.overflow_add-n
overflow_add-n c =
    let J = job_of c.args.rec.now in
    let f = load c.args.rec.now in
    omega (arith, c.loop-next.invariant.0, ap (λ o. length (left_at J f o)) c.in-Some.is, parts-length c.wires_page-next.ensures.passes.parts, listing-short J f)

pub loop-next-preserved : goal.loop-next-preserved
loop-next-preserved c =
    let J = job_of c.args.rec.now in
    let f = load c.args.rec.now in
    let r = c.wires_page-next.ensures in
    (omega (arith, c.loop-next.invariant.0, ap (λ o. length (left_at J f o)) c.in-Some.is, parts-length r.passes.parts), r.passes.stands)

pub loop-next-smaller : goal.loop-next-smaller
loop-next-smaller c = omega (arith, c.wires_page-next.ensures.length_bound.1, ap ahead_at c.in-Some.is)

pub overflow_add-result : goal.overflow_add-result
overflow_add-result c =
    let rec = c.args.rec.now in
    omega (arith, c.loop-next.invariant.0, c.totals_page.ensures.0.next, listing-short (job_of rec) (load rec))

pub returns : goal.returns
returns c =
    let J = job_of c.args.rec.now in
    let f = load c.args.rec.now in
    omega (arith, c.loop-next.invariant.0, ap (λ o. length (left_at J f o)) c.in_default.is, c.totals_page.ensures.0.next)
