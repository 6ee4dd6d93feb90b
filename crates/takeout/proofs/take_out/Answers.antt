-- `takeout::take_out` meets its contract: a wire has no more than 11,201 hops, so the walk ends. Assumes nothing.
use Rattle.std.proofs.Common.{◌+◌, sym, arith}
use Rattle.model.specs.Wires.{hop_at}
use Rattle.channel.specs.Map.Numbers.{darts-is}
use Rattle.wire.specs.Hops.{takes-as}
use Rattle.wire.specs.Walks.{hop-after}
use Rattle.wire.specs.Lengths.{hops-few}
use Rattle.takeout.specs.Taken.{walked_none, walked_more, walked-wired, unwired-out, wire-out}
use Rattle.takeout.proofs.take_out.Goals as goal

pub returns-in_default : goal.returns-in_default
returns-in_default c =
    unwired-out c.args.was.now c.args.row c.args.column c.requires.0 _ (takes-as c.in_default.is c.first_hop.ensures)

pub lessen-requires : goal.lessen-requires
lessen-requires c =
    let v = takes-as c.in-Some.is c.first_hop.ensures in
    (c.requires.2, omega (arith, darts-is, v.runs.range), v.runs.linked)

pub loop-hop-init : goal.loop-hop-init
unfolding hop_at
loop-hop-init c =
    let v = takes-as c.in-Some.is c.first_hop.ensures in
    let w = walked-wired c.args.was.now c.args.row c.args.column c.requires.0 c.requires.1 _ v in (
      omega arith,
      v.runs,
      sym v.hop,
      walked_more c.args.was.now c.args.row c.args.column c.requires.0 _ _ _ 0 _ _ w c.requires.2 v.runs (sym v.hop)
          (walked_none c.args.was.now c.args.row c.args.column c.requires.0 _) c.lessen.ensures,
    )

pub lessen-requires-in-Some-next_hop : goal.lessen-requires-in-Some-next_hop
lessen-requires-in-Some-next_hop c =
    let v = takes-as c.in-Some-next_hop.is c.next_hop.ensures in
    (omega (arith, c.loop-hop.invariant.3.behind.size, c.requires.2), omega (arith, darts-is, v.runs.range), v.runs.linked)

pub loop-hop-preserved : goal.loop-hop-preserved
loop-hop-preserved c =
    let l = c.loop-hop in
    let first = takes-as c.in-Some.is c.first_hop.ensures in
    let w = walked-wired c.args.was.now c.args.row c.args.column c.requires.0 c.requires.1 _ first in
    let v = takes-as c.in-Some-next_hop.is c.next_hop.ensures in
    let h = hop-after c.args.was.now c.args.row c.args.column l.n l.last.dart l.last.lane _ l.invariant.2 v.hop in (
      hops-few c.args.was.now c.requires.0 c.args.row c.args.column _ first _ _ h,
      v.runs,
      h,
      walked_more c.args.was.now c.args.row c.args.column c.requires.0 _ l.rec _ (l.n + 1) _ _ w (omega (arith, l.invariant.3.behind.size, c.requires.2))
          v.runs h l.invariant.3 c.lessen-in-Some-next_hop.ensures,
    )

pub returns : goal.returns
returns c =
    let l = c.loop-hop in
    let w = walked-wired c.args.was.now c.args.row c.args.column c.requires.0 c.requires.1 _ (takes-as c.in-Some.is c.first_hop.ensures) in
    let v = takes-as c.in_default-next_hop.is c.next_hop.ensures in
    wire-out c.args.was.now c.args.row c.args.column c.requires.0 _ _ l.n _ _ w l.invariant.2
    (hop-after c.args.was.now c.args.row c.args.column l.n l.last.dart l.last.lane _ l.invariant.2 v.hop) l.invariant.3
