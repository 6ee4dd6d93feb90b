-- `attempt` meets its contract: a spot that is not marked leaves room in the queue and on the stack. Assumes nothing.
use native.Mathlib.Omega.{arith}
use Rattle.channel.specs.Map.Numbers.{spots-is}
use Rattle.augment.specs.Answers.{yes, no}
use Rattle.shortest.specs.Growing.{exit, old, far, new}
use Rattle.shortest.specs.Growths.{tight-move, trial-more}
use Rattle.shortest.proofs.expand.Search.attempt.Goals as goal

pub head_of-v-requires : goal.head_of-v-requires
head_of-v-requires c = omega (arith, spots-is, c.requires.trial.spot, c.requires.slot)

pub bounds-self-v : goal.bounds-self-v
bounds-self-v c = omega (arith, spots-is, c.head_of-v.ensures.1, c.requires.trial.room.marks)

pub returns-then-self-v-eq1-clause-tried : goal.returns-then-self-v-eq1-clause-tried
returns-then-self-v-eq1-clause-tried c = old (rw (← c.head_of-v.ensures.0) c.if-self-v-eq1.true)

pub slack-x-requires : goal.slack-x-requires
slack-x-requires c =
    let p = c.requires in
    (p.trial.whole.loads, omega (arith, spots-is, p.trial.row), omega (arith, spots-is, p.trial.spot, p.slot))

pub returns-then-x-ne0-clause-tried : goal.returns-then-x-ne0-clause-tried
returns-then-x-ne0-clause-tried c =
    far c.min-self.result (omega (arith, c.slack-x.ensures, c.if-x-ne0.true)) (omega (arith, c.slack-x.ensures, c.min-self.ensures))

pub returns-then-is_outside-clause-tried : goal.returns-then-is_outside-clause-tried
returns-then-is_outside-clause-tried c =
    let p = c.requires in
    exit (tight-move _ _ c.args.prices.now _ p.may c.slack-x.ensures c.if-x-ne0.false)
    (rw (← c.head_of-v.ensures.0) (yes c.is_outside.ensures c.if-is_outside.true))

pub bounds-self-v-2 : goal.bounds-self-v-2
bounds-self-v-2 c = omega (arith, spots-is, c.head_of-v.ensures.1, c.requires.trial.room.marks)

pub bounds-self-n : goal.bounds-self-n
bounds-self-n c = omega (arith, spots-is, trial-more c.requires.trial (omega (arith, spots-is, c.head_of-v.ensures.1)) c.if-self-v-eq1.false, c.requires.trial.room.queue)

pub overflow_cast-self : goal.overflow_cast-self
overflow_cast-self c = omega (arith, spots-is, trial-more c.requires.trial (omega (arith, spots-is, c.head_of-v.ensures.1)) c.if-self-v-eq1.false, c.requires.trial.early)

pub bounds-self-n-2 : goal.bounds-self-n-2
bounds-self-n-2 c = omega (arith, spots-is, trial-more c.requires.trial (omega (arith, spots-is, c.head_of-v.ensures.1)) c.if-self-v-eq1.false, c.requires.trial.room.parents)

pub bounds-self-n-3 : goal.bounds-self-n-3
bounds-self-n-3 c = omega (arith, spots-is, trial-more c.requires.trial (omega (arith, spots-is, c.head_of-v.ensures.1)) c.if-self-v-eq1.false, c.requires.trial.room.slots)

pub overflow_cast-self-2 : goal.overflow_cast-self-2
overflow_cast-self-2 c = omega (arith, spots-is, trial-more c.requires.trial (omega (arith, spots-is, c.head_of-v.ensures.1)) c.if-self-v-eq1.false)

pub overflow_cast-self-4 : goal.overflow_cast-self-4
overflow_cast-self-4 c = omega (arith, spots-is, trial-more c.requires.trial (omega (arith, spots-is, c.head_of-v.ensures.1)) c.if-self-v-eq1.false)

pub bounds-self-top : goal.bounds-self-top
bounds-self-top c = omega (arith, spots-is, trial-more c.requires.trial (omega (arith, spots-is, c.head_of-v.ensures.1)) c.if-self-v-eq1.false, c.requires.trial.few, c.requires.trial.stack)

pub returns-clause-tried : goal.returns-clause-tried
returns-clause-tried c =
    let v = c.head_of-v in
    new v.result (omega (arith, spots-is, v.ensures.1)) v.ensures.0
    (tight-move _ _ c.args.prices.now _ c.requires.may c.slack-x.ensures c.if-x-ne0.false) (no c.is_outside.ensures c.if-is_outside.false) c.if-self-v-eq1.false
