-- `wires_page` meets its contract: each turn leads further. Assumes nothing.
use Rattle.std.proofs.Common.{subst, ap, arith}
use Rattle.std.specs.Prelude.{Some}
use Rattle.model.specs.Record.{job_of, load}
use Rattle.listing.specs.Left.{index_of, left_at, ahead_at, StandsAt, Passes}
use Rattle.listing.specs.Passed.{stands-few, ahead-none, passes_none, passes_then}
use Rattle.listing.proofs.wires.wires_page.Goals as goal

pub loop-next-init : goal.loop-next-init
loop-next-init c = (omega arith, omega arith, passes_none c.requires.1)

pub put_next-next-requires-clause-legal : goal.put_next-next-requires-clause-legal
put_next-next-requires-clause-legal c = (c.requires.0, subst (StandsAt c.args.rec.now) c.in-Some.is c.loop-next.invariant.2.stands)

pub loop-next-preserved : goal.loop-next-preserved
loop-next-preserved c =
    let l = c.loop-next in
    let r = c.put_next-next.ensures in
    let rec = c.args.rec.now in
    let e = ap ahead_at c.in-Some.is in
    let before = subst (Passes rec (left_at (job_of rec) (load rec) (Some c.args.from)) 0 c.args.page.now.bytes l.page.bytes l.page.length) c.in-Some.is l.invariant.2 in
    (omega (arith, c.if-page-gt32600.false, r.length_bound.0), omega (arith, l.invariant.1, r.length_bound, e), passes_then before r.passes)

pub returns-then-page-gt32600 : goal.returns-then-page-gt32600
returns-then-page-gt32600 c =
    let l = c.loop-next in
    let rec = c.args.rec.now in record {
      passes = subst (Passes rec (left_at (job_of rec) (load rec) (Some c.args.from)) 0 c.args.page.now.bytes l.page.bytes l.page.length) c.in-Some.is l.invariant.2;
      length_bound = (omega (arith, l.invariant.0), omega (arith, l.invariant.1, ap ahead_at c.in-Some.is, c.if-page-gt32600.true));
    }

pub returns : goal.returns
returns c =
    let l = c.loop-next in
    let rec = c.args.rec.now in record {
      passes = subst (Passes rec (left_at (job_of rec) (load rec) (Some c.args.from)) 0 c.args.page.now.bytes l.page.bytes l.page.length) c.in_default.is l.invariant.2;
      length_bound = (omega (arith, l.invariant.0), ahead-none c.args.from.cell (index_of c.args.from.inside) c.requires.1.cell (stands-few rec c.requires.0 c.args.from c.requires.1));
    }
