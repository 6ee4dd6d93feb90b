-- The scratch is cleared and the search's number told. Assumes nothing.
use Rattle.answers.specs.Outcomes.{on-legal}
use Rattle.routing.specs.Wiring.{lacks-enough}
use Rattle.routing.proofs.shortfall.Goals as goal

pub returns : goal.returns
returns c =
    on-legal (c.in_ok-undamaged.ensures)
    (lacks-enough _ _ _ c.if-scratch-lt65536.false c.if-output-lt32768.false _ _ _ c.clear.ensures c.shortfall-lack.ensures)
