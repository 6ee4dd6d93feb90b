-- `expand` meets its contract: the slots below k were tried, or are no moves to spots with no mark as the spot was taken up. Assumes nothing.
use mathlib.Core.Path.{refl, ◌∙◌}
use native.Mathlib.Omega.{arith}
use Rattle.std.proofs.lemmas.Result.{err_from_is_err_and}
use Rattle.augment.specs.Slots.{rest_all, none_left, on-moves, next-slot, next-on, passed-off, rest_more, grown-past}
use Rattle.augment.specs.Queue.{alike_refl, grown-none, grown-more, grown-exit}
use Rattle.augment.specs.Work.{same-then}
use Rattle.augment.proofs.work.Work.expand.Goals as goal

pub loop-left-init : goal.loop-left-init
loop-left-init c =
    let p = c.requires in
    record {
      lent = record { marks = refl; queue = refl; parent = refl; slot = refl; lists = refl; alike = alike_refl _ _ _ _; size = refl };
      lists = refl;
      grown = grown-none p.room p.count;
      rest = rest_all _;
    }

pub overflow_add-k : goal.overflow_add-k
overflow_add-k c = omega (arith, next-slot c.ahead-left.ensures c.loop-left.invariant.rest c.lowest-skip.ensures)

pub attempt-requires : goal.attempt-requires
attempt-requires c =
    let p = c.requires in
    let s = c.loop-left.invariant in
    let g = s.grown in
    record {
      ready = record { whole = p.whole; room = g.room; count = g.count; early = omega (arith, p.early, g.up); spot = p.spot };
      slot = next-slot c.ahead-left.ensures s.rest c.lowest-skip.ensures;
      may = on-moves _ _ _ _ _ (next-on c.ahead-left.ensures s.rest c.lowest-skip.ensures);
    }

pub returns-in_err-m-clause-expanded : goal.returns-in_err-m-clause-expanded
returns-in_err-m-clause-expanded c =
    let w = c.lowest-skip.ensures in
    let b = c.ahead-left.ensures in
    let s = c.loop-left.invariant in
    let p = err_from_is_err_and c.from_residual.result c.from_residual.ensures.1 in
    rw (p.1, p.2) (grown-exit (grown-past s.grown (passed-off b s.rest w)) c.requires.early (next-slot b s.rest w) c.attempt.ensures.tried c.in_err-m.was)

pub overflow_add-k-in-loop-left : goal.overflow_add-k-in-loop-left
overflow_add-k-in-loop-left c = omega (arith, next-slot c.ahead-left.ensures c.loop-left.invariant.rest c.lowest-skip.ensures)

pub overflow_add-left : goal.overflow_add-left
overflow_add-left c = omega (arith, next-slot c.ahead-left.ensures c.loop-left.invariant.rest c.lowest-skip.ensures)

pub overflow_shr-left : goal.overflow_shr-left
overflow_shr-left c = omega (arith, next-slot c.ahead-left.ensures c.loop-left.invariant.rest c.lowest-skip.ensures)

pub loop-left-smaller : goal.loop-left-smaller
loop-left-smaller c = omega (arith, next-slot c.ahead-left.ensures c.loop-left.invariant.rest c.lowest-skip.ensures)

pub loop-left-preserved : goal.loop-left-preserved
loop-left-preserved c =
    let w = c.lowest-skip.ensures in
    let b = c.ahead-left.ensures in
    let s = c.loop-left.invariant in
    record {
      lent = same-then s.lent c.attempt.ensures.lent;
      lists = c.attempt.ensures.lists ∙ s.lists;
      grown = grown-more (grown-past s.grown (passed-off b s.rest w)) c.requires.early (next-slot b s.rest w) c.attempt.ensures.tried c.in_ok-m.was;
      rest = rest_more b s.rest w;
    }

pub returns-clause-expanded : goal.returns-clause-expanded
returns-clause-expanded c =
    let s = c.loop-left.invariant in
    grown-past s.grown (none_left c.ahead-left.ensures s.rest c.loop-left-test.false)
