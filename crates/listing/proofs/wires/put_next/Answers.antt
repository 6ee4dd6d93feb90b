-- `put_next` meets its contract: a cursor is inside a line or at its begin. Assumes nothing.
use Rattle.std.proofs.Common.{ap, subst, ◌∙◌, arith}
use Rattle.model.specs.Record.{job_of, load}
use Rattle.listing.specs.Left.{left, ahead, index_of, Begins}
use Rattle.listing.specs.Passed.{left-first, left-hop, passes-as}
use Rattle.listing.proofs.wires.put_next.Goals as goal

pub returns-in_default : goal.returns-in_default
returns-in_default c =
    let a = c.args in
    let J = job_of a.rec.now in
    let f = load a.rec.now in
    let e = ap index_of c.in_default.is in record {
      passes = passes-as (left-first J f a.from.cell (index_of a.from.inside) e) c.put_cell.ensures.passes;
      length_bound = (c.put_cell.ensures.length_bound.0, omega (arith, ap (ahead a.from.cell) e, c.put_cell.ensures.length_bound.1));
    }

pub put_hop-requires : goal.put_hop-requires
put_hop-requires c =
    let s = subst (Begins c.args.rec.now c.args.from.cell) c.in-Some.is c.requires.legal.1.begins in
    record { legal = (c.requires.legal.0, s.1); page_bound = omega (arith, c.requires.page_bound) }

pub returns : goal.returns
returns c =
    let a = c.args in
    let J = job_of a.rec.now in
    let f = load a.rec.now in
    let s = subst (Begins a.rec.now a.from.cell) c.in-Some.is c.requires.legal.1.begins in
    let e = ap index_of c.in-Some.is in record {
      passes = passes-as (ap (left J f a.from.cell) e ∙ left-hop J f a.from.cell c.in-Some.at.index s.0) c.put_hop.ensures.passes;
      length_bound = (omega (arith, c.put_hop.ensures.length_bound.0), omega (arith, ap (ahead a.from.cell) e, c.put_hop.ensures.length_bound.1));
    }
