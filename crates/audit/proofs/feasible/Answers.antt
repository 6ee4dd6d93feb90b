-- `feasible` meets its contract: a test that fails refutes feasibility, and once the header and the unused bytes are tested the cells decide.
use Rattle.std.proofs.Common.{ap, not}
use Rattle.audit.specs.Feasible.{decides-no, test-fails, test-holds}
use Rattle.audit.specs.Laws.{numbers_fit_lem, unused-clear, cells-decide}
use Rattle.audit.proofs.feasible.Goals as goal

pub returns-then-not-numbers_fit : goal.returns-then-not-numbers_fit
returns-then-not-numbers_fit c = decides-no (λ g. test-fails _ _ c.numbers_fit.ensures (ap not c.if-not-numbers_fit.true) (numbers_fit_lem _ g))

pub returns-then-not-unused_clear : goal.returns-then-not-unused_clear
returns-then-not-unused_clear c = decides-no (λ g. test-fails _ _ c.unused_clear.ensures (ap not c.if-not-unused_clear.true) (unused-clear _ g))

pub returns : goal.returns
returns c =
    cells-decide _ _ c.if-rec-lt32768.false (test-holds _ _ c.numbers_fit.ensures (ap not c.if-not-numbers_fit.false))
    (test-holds _ _ c.unused_clear.ensures (ap not c.if-not-unused_clear.false)) c.cells.ensures
