-- The scratch is cleared and the search's answer told. Assumes nothing.
use Rattle.std.proofs.Common.{sym, subst}
use Rattle.model.specs.Record.{Legal}
use Rattle.answers.specs.Outcomes.{on-legal}
use Rattle.routing.specs.Wiring.{step-enough, step_added, step-full, step-all, step-short, step-complete}
use Rattle.routing.proofs.step.Goals as goal

pub returns-in_default : goal.returns-in_default
returns-in_default c =
    on-legal (c.in_ok-undamaged.ensures)
    (step-enough c.if-scratch-lt65536.false c.clear.ensures (step_added c.step.ensures c.in_default.is))

pub lacking-requires : goal.lacking-requires
lacking-requires c = subst Legal (sym (step-full c.step.ensures c.in-Full.is).0) (c.in_ok-undamaged.ensures)

pub shorten-requires : goal.shorten-requires
shorten-requires c =
    let (q, G) = step-full c.step.ensures c.in-Full.is in
    (subst Legal (sym q) (c.in_ok-undamaged.ensures), step-complete q G c.lacking.ensures c.if-lacking-eq0.true)

pub returns-then-lacking-eq0 : goal.returns-then-lacking-eq0
returns-then-lacking-eq0 c =
    let (q, G) = step-full c.step.ensures c.in-Full.is in
    on-legal (c.in_ok-undamaged.ensures)
    (step-enough c.if-scratch-lt65536.false c.clear.ensures (step-all q G c.lacking.ensures c.if-lacking-eq0.true c.shorten.ensures))

pub returns : goal.returns
returns c =
    let (q, G) = step-full c.step.ensures c.in-Full.is in
    on-legal (c.in_ok-undamaged.ensures)
    (step-enough c.if-scratch-lt65536.false c.clear.ensures (step-short q G c.lacking.ensures c.if-lacking-eq0.false))
