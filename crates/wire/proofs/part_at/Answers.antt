-- `wire::part_at` meets its contract: after i turns the hop is the wire's i-th, and carries a wire. Assumes nothing.
use Rattle.std.proofs.Common.{sym, ◌∙◌, arith}
use Rattle.model.specs.Wires.{hop_at}
use Rattle.wire.specs.Hops.{takes-as}
use Rattle.wire.specs.Walks.{hop-after, part-here, part-unwired, part-wired, part-past}
use Rattle.wire.proofs.part_at.Goals as goal

pub returns-in_default : goal.returns-in_default
returns-in_default c =
    part-unwired c.args.rec.now c.requires.0 c.args.row c.args.column c.requires.1 c.args.index
    (takes-as c.in_default.is c.first_hop.ensures)

pub loop-init : goal.loop-init
unfolding hop_at
loop-init c =
    let v = takes-as c.in-Some.is c.first_hop.ensures in
    (omega arith, v.runs, sym v.hop, part-wired c.args.rec.now c.requires.0 c.args.row c.args.column c.requires.1 c.args.index _ v)

pub returns-in_default-next_hop : goal.returns-in_default-next_hop
returns-in_default-next_hop c =
    let l = c.loop in
    let v = takes-as c.in_default-next_hop.is c.next_hop.ensures in
    part-past c.args.rec.now c.requires.0 c.args.row c.args.column c.requires.1 l.counter c.args.index
    (hop-after c.args.rec.now c.args.row c.args.column l.counter l.hop.dart l.hop.lane _ l.invariant.2 v.hop) (omega arith)
    ∙ l.invariant.3

pub loop-preserved : goal.loop-preserved
loop-preserved c =
    let l = c.loop in
    let v = takes-as c.in-Some-next_hop.is c.next_hop.ensures in
    (omega arith, v.runs, hop-after c.args.rec.now c.args.row c.args.column l.counter l.hop.dart l.hop.lane _ l.invariant.2 v.hop, l.invariant.3)

pub returns : goal.returns
returns c =
    let l = c.loop in
    part-here c.args.rec.now c.args.row c.args.column l.counter c.args.index l.hop.dart l.hop.lane _ (omega arith) l.invariant.2 c.part_for.ensures ∙ l.invariant.3
