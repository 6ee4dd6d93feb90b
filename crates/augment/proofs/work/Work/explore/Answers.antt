-- `explore` meets its contract: the first h spots in the queue are expanded, and one of those behind them is the next. Assumes nothing.
use mathlib.Core.Path.{refl, ap, ◌∙◌}
use lib.ListN.{length, length-set}
use native.Mathlib.Omega.{arith}
use Rattle.channel.specs.Map.Numbers.{spots-is}
use Rattle.augment.specs.Queue.{front-start, front-ready, front-more, front-exit}
use Rattle.augment.specs.Work.{same-then, front-exchanged}
use Rattle.std.proofs.lemmas.Result.{err_from_is_err_and}
use Rattle.augment.proofs.work.Work.explore.Goals as goal

pub exchange-requires : goal.exchange-requires
exchange-requires c =
    let F = c.loop-h.invariant.front in
    let e = c.take-i.ensures in
    let l = c.loop-h-test.true in
    record {
      queue = (omega (arith, l, F.count, F.room.queue), omega (arith, e.1, F.count, F.room.queue));
      parent = (omega (arith, l, F.count, F.room.parents), omega (arith, e.1, F.count, F.room.parents));
      slot = (omega (arith, l, F.count, F.room.slots), omega (arith, e.1, F.count, F.room.slots));
      lists = omega (arith, c.take-i.auto.lists, c.loop-h.invariant.lists);
      spots = (omega (arith, spots-is, F.spread.spot c.loop-h.h l), omega (arith, spots-is, e.1, F.count));
    }

pub expand-requires : goal.expand-requires
expand-requires c =
    let e = c.take-i.ensures in
    front-ready (front-exchanged c.loop-h.invariant.front e.0 e.1 c.exchange.ensures.exchanged) c.requires.lent.whole c.loop-h-test.true

pub overflow_cast-self : goal.overflow_cast-self
overflow_cast-self c = omega (arith, spots-is, c.requires.fresh.spot)

pub loop-h-init : goal.loop-h-init
loop-h-init c =
    let p = c.requires in
    record {
      same = record {
        marks = refl;
        queue = refl;
        parent = refl;
        slot = refl;
        lists = refl;
        alike = record { marks = length-set _ _ _; queue = length-set _ _ _; parents = refl; slots = refl };
        size = c.no_lists.auto.lists;
      };
      lists = omega (arith, c.no_lists.auto.lists, p.lent.lists);
      front = front-start p.lent.room p.fresh;
    }

pub returns-in_err-m-clause-searched : goal.returns-in_err-m-clause-searched
returns-in_err-m-clause-searched c =
    let e = c.take-i.ensures in
    let p = err_from_is_err_and c.from_residual.result c.from_residual.ensures.1 in
    rw (p.1, p.2)
    (front-exit (front-exchanged c.loop-h.invariant.front e.0 e.1 c.exchange.ensures.exchanged) c.loop-h-test.true c.in_err-m.ensures.expanded)

pub enlist-low-requires-clause-count : goal.enlist-low-requires-clause-count
enlist-low-requires-clause-count c =
    let g = c.in_ok-m.ensures.expanded in
    (omega (arith, spots-is, g.count), omega (arith, g.count, g.room.queue))

pub enlist-low-requires-clause-spots : goal.enlist-low-requires-clause-spots
enlist-low-requires-clause-spots c =
    let e = c.take-i.ensures in
    let F = front-more (front-exchanged c.loop-h.invariant.front e.0 e.1 c.exchange.ensures.exchanged) c.loop-h-test.true c.in_ok-m.ensures.expanded in
    λ i l. omega (arith, spots-is, F.spread.spot i l)

pub loop-h-preserved : goal.loop-h-preserved
loop-h-preserved c =
    let e = c.take-i.ensures in
    let s = c.loop-h.invariant in
    let a = s.same in
    let r = c.enlist-low.ensures.rest in
    record {
      same = same-then (same-then (same-then (record { marks = a.marks; queue = a.queue; parent = a.parent; slot = a.slot; lists = a.lists; alike = a.alike; size = c.take-i.auto.lists ∙ a.size }) c.exchange.ensures.lent) c.expand.ensures.lent) c.enlist-low.ensures.lent;
      lists = omega (arith, r.lists, c.exchange.ensures.exchanged.lists, ap length c.expand.ensures.lists, c.take-i.auto.lists, s.lists);
      front = rw (r.marks, r.queue, r.parent, r.slot)
          (front-more (front-exchanged s.front e.0 e.1 c.exchange.ensures.exchanged) c.loop-h-test.true c.in_ok-m.ensures.expanded);
    }
