-- `put_hop` meets its contract: the part of the hop, and the next hop or the end of the line. Assumes nothing.
use Rattle.std.proofs.Common.{sym, subst, ◌<◌, arith}
use Rattle.std.specs.Prelude.{Option}
use Rattle.wire.specs.Hops.{takes-as}
use Rattle.wire.specs.Walks.{hop-after}
use Rattle.model.specs.Listing.{row, column}
use Rattle.listing.specs.Left.{ahead, ahead_at}
use Rattle.listing.specs.declared.wires.Cursor.{Cursor}
use Rattle.listing.specs.Passed.{inside-few, ahead-part, ahead-start, passes-part, passes-last}
use Rattle.listing.proofs.wires.put_hop.Goals as goal

pub overflow_add-index : goal.overflow_add-index
overflow_add-index c =
    let a = c.args in
    omega (arith, inside-few a.rec.now c.requires.legal.0 a.cell a.at.index a.at.hop.dart a.at.hop.lane c.requires.legal.1)

pub returns-in_default : goal.returns-in_default
returns-in_default c =
    let a = c.args in
    let inside = c.requires.legal.1 in
    let v = takes-as c.in_default.is c.next_hop.ensures in
    let ended = hop-after a.rec.now (row a.cell) (column a.cell) a.at.index a.at.hop.dart a.at.hop.lane _ inside.hop v.hop in
    let few = inside-few a.rec.now c.requires.legal.0 a.cell a.at.index a.at.hop.dart a.at.hop.lane inside in
    let e = c.line_start.ensures in record {
      passes = passes-last c.requires.legal.0 inside c.part_for.ensures c.put_part.ensures.0 ended c.put_word.ensures e;
      length_bound = (
        omega (arith, c.put_part.ensures.1, c.put_word.ensures.next),
        subst (λ (o : Option Cursor). ahead_at o < ahead a.cell a.at.index) (sym e) (ahead-start a.cell a.at.index inside.cell few),
      );
    }

pub returns : goal.returns
returns c =
    let a = c.args in
    let inside = c.requires.legal.1 in
    let v = takes-as c.in-Some.is c.next_hop.ensures in
    let after = hop-after a.rec.now (row a.cell) (column a.cell) a.at.index a.at.hop.dart a.at.hop.lane _ inside.hop v.hop in record {
      passes = passes-part c.requires.legal.0 inside c.part_for.ensures c.put_part.ensures.0 after v.runs;
      length_bound = (
        omega (arith, c.put_part.ensures.1),
        ahead-part a.cell a.at.index inside.cell (inside-few a.rec.now c.requires.legal.0 a.cell a.at.index a.at.hop.dart a.at.hop.lane inside),
      );
    }
