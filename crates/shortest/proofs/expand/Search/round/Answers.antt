-- `round` meets its contract: when the stack is empty, every spot in the queue is looked at. Assumes nothing.
use mathlib.Core.Path.{refl}
use native.Mathlib.Omega.{arith}
use Rattle.std.proofs.lemmas.Result.{err_from_is_err_and}
use Rattle.shortest.specs.Rounds.{growing-raisable, round-higher}
use Rattle.shortest.specs.Search.{lent-then}
use Rattle.shortest.proofs.expand.Search.round.Goals as goal

pub raise-requires : goal.raise-requires
raise-requires c = growing-raisable c.in_ok-settle.ensures.outcome.0 c.requires.arranged.1

pub restack-requires : goal.restack-requires
restack-requires c =
    let K = c.in_ok-settle.ensures.outcome.0.kept in
    record { stack = omega (arith, K.few, K.count, K.stack); rim = omega (arith, K.few, K.count, K.rim) }

pub returns-in_err-settle-clause-rounded : goal.returns-in_err-settle-clause-rounded
returns-in_err-settle-clause-rounded c =
    let p = err_from_is_err_and c.from_residual.result c.from_residual.ensures.1 in
    rw (p.1, p.2) (refl, c.in_err-settle.ensures.outcome)

pub returns-clause-lent : goal.returns-clause-lent
returns-clause-lent c = lent-then c.settle.ensures.lent c.restack.ensures.lent

pub returns-clause-rounded : goal.returns-clause-rounded
returns-clause-rounded c =
    let (G, z) = c.in_ok-settle.ensures.outcome in
    let r = c.restack.ensures.again in
    rw (r.marks, r.queue, r.parent, r.slot, r.rim, r.growth)
    (round-higher G z c.requires.arranged.0 c.raise.ensures c.raise.auto.prices r.size r.again)
