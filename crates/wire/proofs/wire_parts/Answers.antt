-- `wire::wire_parts` meets its contract: a wire has no more than 11,201 hops, so the walk ends. Assumes nothing.
use Rattle.std.proofs.Common.{◌≡◌, sym, ap, subst, ◌∙◌, arith}
use Rattle.std.specs.Prelude.{◌+◌, ◌-◌}
use Rattle.model.specs.Record.{job_of, load}
use Rattle.model.specs.Wires.{hop_at}
use Rattle.wire.specs.Hops.{takes-as}
use Rattle.wire.specs.Walks.{hop-after}
use Rattle.wire.specs.Lengths.{Hops, none-listed, hops-few, hops-counted}
use Rattle.wire.proofs.wire_parts.Goals as goal

pub returns-in_default : goal.returns-in_default
returns-in_default c =
    none-listed c.args.rec.now c.requires.0 c.args.row c.args.column (takes-as c.in_default.is c.first_hop.ensures)

pub loop-next-init : goal.loop-next-init
unfolding hop_at
loop-next-init c =
    let v = takes-as c.in-Some.is c.first_hop.ensures in
    (omega arith, omega arith, v.runs, sym v.hop)

pub loop-next-preserved : goal.loop-next-preserved
loop-next-preserved c =
    let l = c.loop-next in
    let i = l.invariant in
    let v = takes-as c.in-Some-next_hop.is c.next_hop.ensures in
    let h = hop-after c.args.rec.now c.args.row c.args.column (l.n - 1) l.hop.dart l.hop.lane _ i.3 v.hop in
    let few = hops-few c.args.rec.now c.requires.0 c.args.row c.args.column _ (takes-as c.in-Some.is c.first_hop.ensures) _ _ h in
    let e : l.n + 1 - 1 ≡ l.n - 1 + 1 = omega (arith, i.0) in
    (omega arith, omega (arith, few, i.0), v.runs, ap (hop_at (job_of c.args.rec.now) (load c.args.rec.now) c.args.row c.args.column) e ∙ h)

pub returns : goal.returns
returns c =
    let l = c.loop-next in
    let i = l.invariant in
    let v = takes-as c.in_default-next_hop.is c.next_hop.ensures in
    let h = hop-after c.args.rec.now c.args.row c.args.column (l.n - 1) l.hop.dart l.hop.lane _ i.3 v.hop in
    let e : l.n - 1 + 1 ≡ l.n = omega (arith, i.0) in
    subst (Hops (job_of c.args.rec.now) (load c.args.rec.now) c.args.row c.args.column) e
    (hops-counted c.args.rec.now c.requires.0 c.args.row c.args.column _ (takes-as c.in-Some.is c.first_hop.ensures) (l.n - 1) _ i.3 h)
