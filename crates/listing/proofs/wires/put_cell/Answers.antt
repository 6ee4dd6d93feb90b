-- `put_cell` meets its contract: the begin of the line and its first part, or nothing where the cell has no wire. Assumes nothing.
use Rattle.std.proofs.Common.{sym, subst, ◌∙◌, ◌<◌, arith}
use Rattle.std.specs.Prelude.{Option}
use Rattle.sums.specs.Tests.{so}
use Rattle.model.specs.Record.{job_of, load}
use Rattle.model.specs.Wires.{hop_at}
use Rattle.model.specs.Listing.{row, column}
use Rattle.wire.specs.Hops.{takes-as}
use Rattle.wire.specs.Walks.{wired-none, wired-some}
use Rattle.listing.specs.Puts.{puts_none}
use Rattle.listing.specs.Left.{ahead, ahead_at}
use Rattle.listing.specs.declared.wires.Cursor.{Cursor}
use Rattle.listing.specs.Passed.{unchosen, wires-none, wires-some, ahead-start, passes-as, passes-cell, passes-behind}
use Rattle.listing.proofs.wires.put_cell.Goals as goal

pub returns-then-not-is_chosen : goal.returns-then-not-is_chosen
returns-then-not-is_chosen c =
    let a = c.args in
    let J = job_of a.rec.now in
    let f = load a.rec.now in
    let e = c.line_start.ensures in
    let none = unchosen J f (row a.cell) (column a.cell) (sym c.is_chosen.ensures ∙ c.if-not-is_chosen.true) in record {
      passes = passes-as (wires-none J f a.cell c.requires.legal.1 none) (passes-cell c.requires.legal.1 e puts_none);
      length_bound = (omega arith, subst (λ (o : Option Cursor). ahead_at o < ahead a.cell 0) (sym e) (ahead-start a.cell 0 c.requires.legal.1 (omega arith)));
    }

pub returns-in_default : goal.returns-in_default
returns-in_default c =
    let a = c.args in
    let rec = a.rec.now in
    let e = c.line_start-in_default.ensures in
    let t = so (sym c.is_chosen.ensures ∙ c.if-not-is_chosen.false) in
    let none = wired-none rec c.requires.legal.0 (row a.cell) (column a.cell) t (takes-as c.in_default.is c.first_hop.ensures) in record {
      passes = passes-as (wires-none (job_of rec) (load rec) a.cell c.requires.legal.1 none) (passes-cell c.requires.legal.1 e puts_none);
      length_bound = (omega arith, subst (λ (o : Option Cursor). ahead_at o < ahead a.cell 0) (sym e) (ahead-start a.cell 0 c.requires.legal.1 (omega arith)));
    }

pub put_hop-requires : goal.put_hop-requires
unfolding hop_at
put_hop-requires c =
    let a = c.args in
    let rec = a.rec.now in
    let t = so (sym c.is_chosen.ensures ∙ c.if-not-is_chosen.false) in
    let v = takes-as c.in-Some.is c.first_hop.ensures in record {
      legal = (
        c.requires.legal.0,
        record {
          cell = c.requires.legal.1;
          wired = so (wired-some rec c.requires.legal.0 (row a.cell) (column a.cell) t _ v);
          hop = sym v.hop;
          runs = v.runs;
        },
      );
      page_bound = omega (arith, c.requires.page_bound, c.put_pair.ensures.1);
    }

pub returns : goal.returns
returns c =
    let a = c.args in
    let rec = a.rec.now in
    let t = so (sym c.is_chosen.ensures ∙ c.if-not-is_chosen.false) in
    let v = takes-as c.in-Some.is c.first_hop.ensures in
    let some = wired-some rec c.requires.legal.0 (row a.cell) (column a.cell) t _ v in record {
      passes = passes-as (wires-some (job_of rec) (load rec) a.cell c.requires.legal.1 some) (passes-behind c.put_pair.ensures.0 c.put_hop.ensures.passes);
      length_bound = (omega (arith, c.put_hop.ensures.length_bound.0, c.put_pair.ensures.1), c.put_hop.ensures.length_bound.1);
    }
