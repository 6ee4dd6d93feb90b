-- `expand` meets its contract: the slots below k were tried, or are no moves to spots with no mark as the spot was taken up. Assumes nothing.
use mathlib.Core.Path.{refl, ap}
use native.Mathlib.Omega.{arith}
use lib.ListN.{length-set}
use Rattle.std.proofs.lemmas.Result.{err_from_is_err_and}
use Rattle.augment.specs.Queue.{alike_refl}
use Rattle.augment.specs.Slots.{rest_all, none_left, on-moves, next-slot, next-on, passed-off, rest_more}
use Rattle.shortest.specs.Growths.{since-refl, since-then, growing-taken, taken-past, taken_more, taken-exit, taken-grown}
use Rattle.shortest.specs.Search.{lent-then, at_growth}
use Rattle.shortest.proofs.expand.Search.expand.Goals as goal

pub loop-left-init : goal.loop-left-init
loop-left-init c =
    let p = c.requires in
    record {
      lent = record {
        marks = refl;
        queue = refl;
        parent = refl;
        slot = refl;
        stack = refl;
        rim = refl;
        alike = alike_refl _ _ _ _;
        stacks = refl;
        rims = length-set _ _ _;
      };
      taken = growing-taken p.growing p.some;
      since = since-refl _;
      rest = rest_all _;
    }

pub overflow_add-k : goal.overflow_add-k
overflow_add-k c = omega (arith, next-slot c.ahead-left.ensures c.loop-left.invariant.rest c.lowest-skip.ensures)

pub attempt-requires : goal.attempt-requires
attempt-requires c =
    let w = c.lowest-skip.ensures in
    let s = c.loop-left.invariant in
    let b = c.ahead-left.ensures in
    let H = s.taken in
    let K = H.kept in
    record {
      trial = record {
        whole = c.requires.whole;
        room = K.room;
        row = K.row;
        stack = K.stack;
        count = K.count;
        few = omega (arith, K.few);
        early = H.here;
        spot = omega (arith, H.spot, K.spread.spot _ H.here);
      };
      slot = next-slot b s.rest w;
      may = on-moves _ _ _ _ _ (next-on b s.rest w);
    }

pub returns-in_err-attempt-clause-lent : goal.returns-in_err-attempt-clause-lent
returns-in_err-attempt-clause-lent c = lent-then c.loop-left.invariant.lent c.attempt.ensures.lent

pub returns-in_err-attempt-clause-outcome : goal.returns-in_err-attempt-clause-outcome
returns-in_err-attempt-clause-outcome c =
    let w = c.lowest-skip.ensures in
    let s = c.loop-left.invariant in
    let b = c.ahead-left.ensures in
    let p = err_from_is_err_and c.from_residual.result c.from_residual.ensures.1 in
    rw (p.1, p.2)
    (taken-exit (taken-past s.taken s.since (passed-off b s.rest w)) (next-slot b s.rest w) c.attempt.ensures.tried
    (ap (at_growth c.attempt.new.self.growth) c.in_err-attempt.was))

pub overflow_add-k-in-loop-left : goal.overflow_add-k-in-loop-left
overflow_add-k-in-loop-left c = omega (arith, next-slot c.ahead-left.ensures c.loop-left.invariant.rest c.lowest-skip.ensures)

pub overflow_add-left : goal.overflow_add-left
overflow_add-left c = omega (arith, next-slot c.ahead-left.ensures c.loop-left.invariant.rest c.lowest-skip.ensures)

pub overflow_shr-left : goal.overflow_shr-left
overflow_shr-left c = omega (arith, next-slot c.ahead-left.ensures c.loop-left.invariant.rest c.lowest-skip.ensures)

pub loop-left-smaller : goal.loop-left-smaller
loop-left-smaller c = omega (arith, next-slot c.ahead-left.ensures c.loop-left.invariant.rest c.lowest-skip.ensures)

pub loop-left-preserved : goal.loop-left-preserved
loop-left-preserved c =
    let w = c.lowest-skip.ensures in
    let s = c.loop-left.invariant in
    let b = c.ahead-left.ensures in
    let (H, m) = taken_more (taken-past s.taken s.since (passed-off b s.rest w)) (next-slot b s.rest w) c.attempt.ensures.tried
    (ap (at_growth c.attempt.new.self.growth) c.in_ok-attempt.was) in
    record {
      lent = lent-then s.lent c.attempt.ensures.lent;
      taken = rw c.attempt.ensures.rim H;
      since = since-then s.since m;
      rest = rest_more b s.rest w;
    }

pub returns-clause-lent : goal.returns-clause-lent
returns-clause-lent c = c.loop-left.invariant.lent

pub returns-clause-outcome : goal.returns-clause-outcome
returns-clause-outcome c =
    let s = c.loop-left.invariant in
    let p = c.requires in
    (taken-grown (taken-past s.taken s.since (none_left c.ahead-left.ensures s.rest c.loop-left-test.false)), omega (arith, s.taken.rest, p.some, p.growing.kept.few))
