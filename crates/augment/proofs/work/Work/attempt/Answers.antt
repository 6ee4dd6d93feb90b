-- `attempt` meets its contract: a spot that is not marked leaves room in the queue. Assumes nothing.
use native.Mathlib.Omega.{arith}
use Rattle.channel.specs.Map.Numbers.{spots-is}
use Rattle.augment.specs.Answers.{yes, no}
use Rattle.augment.specs.Queue.{ready-more}
use Rattle.augment.specs.Steps.{exit, old, new}
use Rattle.augment.proofs.work.Work.attempt.Goals as goal

pub overflow_mul-u : goal.overflow_mul-u
overflow_mul-u c = omega (arith, spots-is, c.requires.ready.spot)

pub overflow_add-u : goal.overflow_add-u
overflow_add-u c = omega (arith, spots-is, c.requires.ready.spot, c.requires.slot)

pub head_of-v-requires : goal.head_of-v-requires
head_of-v-requires c = omega (arith, spots-is, c.requires.ready.spot, c.requires.slot)

pub bounds-self-v : goal.bounds-self-v
bounds-self-v c = omega (arith, spots-is, c.head_of-v.ensures.1, c.requires.ready.room.marks)

pub returns-then-self-v-eq1-clause-tried : goal.returns-then-self-v-eq1-clause-tried
returns-then-self-v-eq1-clause-tried c = old (λ m. rw (← c.head_of-v.ensures.0) c.if-self-v-eq1.true)

pub returns-then-is_outside-clause-tried : goal.returns-then-is_outside-clause-tried
returns-then-is_outside-clause-tried c = exit c.requires.may (rw (← c.head_of-v.ensures.0) (yes c.is_outside.ensures c.if-is_outside.true))

pub bounds-self-v-2 : goal.bounds-self-v-2
bounds-self-v-2 c = omega (arith, spots-is, c.head_of-v.ensures.1, c.requires.ready.room.marks)

pub bounds-self-n : goal.bounds-self-n
bounds-self-n c = omega (arith, ready-more c.requires.ready (omega (arith, spots-is, c.head_of-v.ensures.1)) c.if-self-v-eq1.false, c.requires.ready.room.queue)

pub overflow_cast-self-2 : goal.overflow_cast-self-2
overflow_cast-self-2 c = omega (arith, spots-is, c.requires.ready.count, c.requires.ready.early)

pub bounds-self-n-2 : goal.bounds-self-n-2
bounds-self-n-2 c = omega (arith, ready-more c.requires.ready (omega (arith, spots-is, c.head_of-v.ensures.1)) c.if-self-v-eq1.false, c.requires.ready.room.parents)

pub bounds-self-n-3 : goal.bounds-self-n-3
bounds-self-n-3 c = omega (arith, ready-more c.requires.ready (omega (arith, spots-is, c.head_of-v.ensures.1)) c.if-self-v-eq1.false, c.requires.ready.room.slots)

pub returns-clause-tried : goal.returns-clause-tried
returns-clause-tried c =
    let v = c.head_of-v in
    new v.result (omega (arith, spots-is, v.ensures.1)) v.ensures.0 c.requires.may (no c.is_outside.ensures c.if-is_outside.false) c.if-self-v-eq1.false
