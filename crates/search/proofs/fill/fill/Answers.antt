-- `fill::fill` meets its contract: each turn lays a wire, and the last search began with no marks. Assumes nothing.
use borrow.Author.Rules.{rules}
use mathlib.Core.Path.{refl, sym, ◌∙◌}
use native.Mathlib.Omega.{arith}
use Rattle.augment.specs.Queue.{alike_refl}
use Rattle.augment.specs.Work.{same-then}
use Rattle.search.specs.Filling.{more-then, more-lacking, filling-start, filling-on, filling-clear, some-laid, none-laid, filling-laid, filling-less, filling-end}
use Rattle.search.proofs.fill.fill.Goals as goal

pub loop-work-init : goal.loop-work-init
loop-work-init c =
    let p = c.requires in
    let r = p.1 in
    record {
      filling = filling-start p.2 c.clear.ensures;
      cleared = c.clear.ensures;
      same = record { marks = refl; queue = refl; parent = refl; slot = refl; lists = refl; alike = alike_refl _ _ _ _; size = refl };
      lent = record {
        whole = p.0;
        room = record { marks = omega (arith, r.marks, c.clear.auto.marks); queue = r.queue; parents = r.parents; slots = r.slots };
        lists = p.3;
      };
    }

pub next_wire-requires : goal.next_wire-requires
next_wire-requires c = let l = c.loop-work.invariant in record { lent = l.lent; held = l.filling.more.held; dead = l.filling.dead }

pub loop-work-smaller : goal.loop-work-smaller
loop-work-smaller c =
    let (u, e) = some-laid c.next_wire.result (sym c.is_some.ensures ∙ c.loop-work-test.true) in
    omega (arith, filling-less c.loop-work.invariant.filling _ _ c.next_wire.result c.next_wire.ensures.answered e, more-lacking c.lay_on.ensures.more)

pub lay_on-requires : goal.lay_on-requires
lay_on-requires c =
    let n = c.next_wire.ensures in
    let (u, e) = some-laid c.next_wire.result (sym c.is_some.ensures ∙ c.loop-work-test.true) in
    let F = filling-laid c.loop-work.invariant.filling _ _ c.next_wire.result n.answered e in
    record { lent = n.lent; held = F.more.held; dead = F.dead }

pub loop-work-preserved : goal.loop-work-preserved
loop-work-preserved c =
    let l = c.loop-work.invariant in
    let n = c.next_wire.ensures in
    let o = c.lay_on.ensures in
    let (u, e) = some-laid c.next_wire.result (sym c.is_some.ensures ∙ c.loop-work-test.true) in
    let F = filling-laid l.filling _ _ c.next_wire.result n.answered e in
    let s = same-then (same-then l.same n.same) o.same in
    let k = c.clear-in-loop-work.auto.marks in
    let r = o.lent.room in
    record {
      filling = filling-clear (filling-on (more-then F.more o.more) o.dead) refl c.clear-in-loop-work.ensures;
      cleared = c.clear-in-loop-work.ensures;
      same = record {
        marks = s.marks;
        queue = s.queue;
        parent = s.parent;
        slot = s.slot;
        lists = s.lists;
        alike = record { marks = k ∙ s.alike.marks; queue = s.alike.queue; parents = s.alike.parents; slots = s.alike.slots };
        size = s.size;
      };
      lent = record {
        whole = o.lent.whole;
        room = record { marks = omega (arith, r.marks, k); queue = r.queue; parents = r.parents; slots = r.slots };
        lists = o.lent.lists;
      };
    }

pub returns : goal.returns
returns c =
    let y = c.next_wire.result in
    let f = filling-end c.loop-work.invariant.filling _ _ y c.next_wire.ensures.answered refl (none-laid y (sym c.is_some.ensures ∙ c.loop-work-test.false)) in
    search (rules, f)
