-- `fill::lay_on` meets its contract: each turn lays a wire. Assumes nothing.
use mathlib.Core.Path.{refl, sym, ◌∙◌}
use native.Mathlib.Omega.{arith}
use Rattle.augment.specs.Queue.{alike_refl}
use Rattle.augment.specs.Work.{same-then}
use Rattle.search.specs.Filling.{more-refl, filling-on, some-laid, filling-laid, filling-less}
use Rattle.search.proofs.fill.lay_on.Goals as goal

pub loop-init : goal.loop-init
loop-init c =
    let p = c.requires in
    record {
      same = record { marks = refl; queue = refl; parent = refl; slot = refl; lists = refl; alike = alike_refl _ _ _ _; size = refl };
      lent = p.lent;
      filling = filling-on (more-refl p.held) p.dead;
    }

pub next_wire-requires : goal.next_wire-requires
next_wire-requires c = let l = c.loop.invariant in record { lent = l.lent; held = l.filling.more.held; dead = l.filling.dead }

pub loop-smaller : goal.loop-smaller
loop-smaller c =
    let (u, e) = some-laid c.next_wire.result (sym c.is_some.ensures ∙ c.loop-test.true) in
    omega (arith, filling-less c.loop.invariant.filling _ _ c.next_wire.result c.next_wire.ensures.answered e)

pub loop-preserved : goal.loop-preserved
loop-preserved c =
    let l = c.loop.invariant in
    let n = c.next_wire.ensures in
    let (u, e) = some-laid c.next_wire.result (sym c.is_some.ensures ∙ c.loop-test.true) in
    record { same = same-then l.same n.same; lent = n.lent; filling = filling-laid l.filling _ _ c.next_wire.result n.answered e }
