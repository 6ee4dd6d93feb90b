-- `fill` meets its contract: each turn fills a row. Assumes nothing.
use Rattle.std.specs.Prelude.{◌≡◌, refl, ℕ, ◌+◌, ◌*◌}
use Rattle.std.proofs.Common.{ap, ◌∙◌, arith}
use Rattle.model.specs.Trial.{number_after}
use Rattle.trials.specs.Filling.{filling-none, none_after}
use Rattle.trials.proofs.fill.Goals as goal

pub loop-r-init : goal.loop-r-init
loop-r-init g c =
    let a = c.args in
    let k : a.width * 0 + 0 ≡ a.width * 0 = omega arith in
    (refl, none_after a.width _ ∙ ap (λ (n : ℕ). number_after n a.generator.now.number) k, filling-none g.P.Plane.tiles a.height a.width _ a.bounds.low a.bounds.high _)

pub loop-r-preserved : goal.loop-r-preserved
loop-r-preserved g c =
    let a = c.args in
    let l = c.loop-r in
    let (n, f) = c.fill_row.ensures a.height _ _ c.loop-r-test.true c.requires.array.0 l.invariant.1 l.invariant.2 in
    (c.fill_row.auto.rec ∙ l.invariant.0, n, f)
