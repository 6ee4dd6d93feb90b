-- `advance` meets its contract: the top of the stack is done, or meets a spot on the stack, or a new spot. Assumes nothing.
use borrow.Author.Rules.{rules}
use mathlib.Core.Path.{refl}
use Prim.Native.Nat.{◌-◌}
use native.Mathlib.Omega.{arith}
use Rattle.channel.specs.Map.Numbers.{spots-is}
use Rattle.audit.specs.Loops.Turns.{turn-pop, turn-next, turn-hit, turn-new}
use Rattle.audit.proofs.loops.Search.advance.Goals as goal

pub overflow_cast-self-then-s-ge5 : goal.overflow_cast-self-then-s-ge5
overflow_cast-self-then-s-ge5 c = omega (arith, spots-is, c.requires.standing.count, c.requires.any)

pub returns-then-i-eq0-clause-turned : goal.returns-then-i-eq0-clause-turned
returns-then-i-eq0-clause-turned c = turn-pop c.requires.standing c.requires.any c.scan-s.ensures c.if-s-ge5.true

pub returns-then-s-ge5-clause-turned : goal.returns-then-s-ge5-clause-turned
returns-then-s-ge5-clause-turned c =
    let p = c.requires in
    turn-next p.standing p.any c.scan-s.ensures c.if-s-ge5.true (c.args.self.now.height - 1 - 1) (omega arith)

pub head_of-v-requires : goal.head_of-v-requires
head_of-v-requires c = omega (arith, spots-is, (c.requires.standing.on (c.args.self.now.height - 1) (omega (arith, c.requires.any))).0, c.if-s-ge5.false)

pub bounds-self-v : goal.bounds-self-v
bounds-self-v c = omega (arith, spots-is, c.requires.standing.room.marks, c.head_of-v.ensures.1)

pub returns-then-self-v-eq1-clause-turned : goal.returns-then-self-v-eq1-clause-turned
returns-then-self-v-eq1-clause-turned c =
    let p = c.requires in
    let (d, e) = turn-hit p.standing p.any c.scan-s.ensures c.if-s-ge5.false c.head_of-v.ensures.0 in
    (record { state = d; edge = e; on = c.if-self-v-eq1.true }, refl, refl)

pub returns-clause-turned : goal.returns-clause-turned
returns-clause-turned c =
    let p = c.requires in
    (turn-new p.standing p.any c.scan-s.ensures c.if-s-ge5.false c.head_of-v.ensures.0 c.if-self-v-eq1.false, search rules, refl, refl)
