-- `takeout::back::pin_of` meets its contract: a wire has no more than 11,201 hops, so the walk ends. Assumes nothing.
use Rattle.std.proofs.Common.{refl}
use Rattle.takeout.specs.Back.{precedes-as, leads-more, leads-few, leads-home}
use Rattle.takeout.proofs.back.pin_of.Goals as goal

pub loop-before-preserved : goal.loop-before-preserved
loop-before-preserved c =
    let l = c.loop-before in
    let v = precedes-as c.args.rec.now _ _ l.first.dart l.first.lane c.in-Some.is c.hop_before.ensures in
    let k = leads-more c.args.rec.now c.requires.0 l.n l.first.dart l.first.lane c.args.hop.dart c.args.hop.lane _ _ l.invariant.2 v.1 in
    (leads-few c.args.rec.now c.requires.0 _ _ _ _ _ v.0 k, v.0, k)

pub returns : goal.returns
returns c =
    let l = c.loop-before in
    let F = precedes-as c.args.rec.now _ _ l.first.dart l.first.lane c.in_default.is c.hop_before.ensures in
    leads-home c.args.rec.now c.requires.0 l.n l.first.dart l.first.lane c.args.hop.dart c.args.hop.lane _ l.invariant.1 l.invariant.2 F refl
