-- `untangle::take_out` meets its contract: the darts before the i-th are taken out. Assumes nothing.
use mathlib.Core.Path.{refl, ap, ◌∙◌}
use native.Mathlib.Omega.{arith}
use Rattle.channel.specs.Map.Numbers.{darts-is}
use Rattle.channel.specs.Map.{laid}
use Rattle.search.specs.Rings.{out_none, out-more}
use Rattle.search.proofs.untangle.take_out.Goals as goal

pub loop-i-init : goal.loop-i-init
loop-i-init c = record { size = refl; out = out_none _ _ _ _ }

pub reverse-requires : goal.reverse-requires
reverse-requires c = omega (arith, darts-is, c.requires.0.darts< c.loop-i.i c.loop-i-test.true)

pub loop-i-preserved : goal.loop-i-preserved
loop-i-preserved c =
    let l = c.loop-i.invariant in
    record {
      size = c.lay.auto.loads ∙ l.size;
      out = out-more _ _ _ _ _ _ _ (omega arith) l.out (c.lay.ensures ∙ ap (laid c.loop-i.loads) c.reverse.ensures.0);
    }
