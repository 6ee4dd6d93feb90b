-- `settle` meets its contract: with each spot that is taken from the stack, one spot more of the queue is not on it. Assumes nothing.
use mathlib.Core.Path.{refl, ◌∙◌}
use native.Mathlib.Omega.{arith}
use Rattle.std.proofs.lemmas.Result.{err_from_is_err_and}
use Rattle.augment.specs.Queue.{alike_refl}
use Rattle.shortest.specs.Growths.{growing-first}
use Rattle.shortest.specs.Search.{lent-then}
use Rattle.shortest.proofs.expand.Search.settle.Goals as goal

pub loop-self-init : goal.loop-self-init
loop-self-init c =
    record {
      lent = record { marks = refl; queue = refl; parent = refl; slot = refl; stack = refl; rim = refl; alike = alike_refl _ _ _ _; stacks = refl; rims = refl };
      first = refl;
      growing = c.requires.growing;
    }

pub returns-in_err-expand-clause-lent : goal.returns-in_err-expand-clause-lent
returns-in_err-expand-clause-lent c = lent-then c.loop-self.invariant.lent c.expand.ensures.lent

pub returns-in_err-expand-clause-outcome : goal.returns-in_err-expand-clause-outcome
returns-in_err-expand-clause-outcome c =
    let p = err_from_is_err_and c.from_residual.result c.from_residual.ensures.1 in
    rw (p.1, p.2) (rw (← c.loop-self.invariant.first) c.in_err-expand.ensures.outcome)

pub loop-self-smaller : goal.loop-self-smaller
loop-self-smaller c =
    let (G, e) = c.in_ok-expand.ensures.outcome in
    let K = c.loop-self.invariant.growing.kept in
    omega (arith, e, G.kept.few, G.kept.count, K.few, c.loop-self-test.true)

pub loop-self-preserved : goal.loop-self-preserved
loop-self-preserved c =
    let s = c.loop-self.invariant in
    let (G, e) = c.in_ok-expand.ensures.outcome in
    record { lent = lent-then s.lent c.expand.ensures.lent; first = G.kept.spread.first ∙ s.first; growing = growing-first G }

pub returns-clause-outcome : goal.returns-clause-outcome
returns-clause-outcome c = rw (← c.loop-self.invariant.first) (c.loop-self.invariant.growing, c.loop-self-test.false)
