-- `takeout::mark_missing` meets its contract. The loop's invariant: the pins of the wires that pass a missing pin of the cells before the i-th are marked.
use mathlib.Core.Path.{refl, ◌∙◌}
use native.Mathlib.Omega.{arith}
use Rattle.takeout.specs.Missing.{missing-first, missing-all}
use Rattle.takeout.proofs.mark_missing.Goals as goal

pub loop-i-init : goal.loop-i-init
loop-i-init c = (refl, λ M. missing-first c.args.was.now c.requires.0 _ M)

pub loop-i-preserved : goal.loop-i-preserved
loop-i-preserved c = (c.mark_missing_at.auto.taken ∙ c.loop-i.invariant.0, λ M. c.mark_missing_at.ensures (c.loop-i.invariant.1 M))

pub returns : goal.returns
returns c =
    let l = c.loop-i in
    λ M. missing-all c.args.was.now c.requires.0 l.i _ (omega arith) (l.invariant.1 M)
