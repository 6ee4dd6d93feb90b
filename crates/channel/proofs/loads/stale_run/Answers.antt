-- `loads::stale_run` meets its contract: `stale` says that none of the links passed is fresh. Assumes nothing.
use mathlib.Core.Path.{◌≡◌, ap, ◌∙◌}
use native.Mathlib.Omega.{arith}
use Rattle.channel.specs.Map.Fresh.{stale_to, stale-none, stale-more, stale-run}
use Rattle.channel.proofs.loads.stale_run.Goals as goal

pub returns : goal.returns
returns c =
    let l = c.loop-j in
    let e : l.j ≡ 16 = omega arith in
    stale-run _ _ _ _ (l.invariant.1 ∙ ap (stale_to _ _ _) e)

pub loop-j-init : goal.loop-j-init
loop-j-init c = (omega arith, stale-none _ _ _)

pub loop-j-preserved : goal.loop-j-preserved
loop-j-preserved c =
    let l = c.loop-j in
    (omega arith, stale-more _ _ _ l.j _ _ l.invariant.1 c.gains.ensures)
