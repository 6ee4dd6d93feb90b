-- `ahead::bare` meets its contract: one answer for each outcome of the test. Assumes nothing.
use Rattle.slots.specs.Ahead.{unset-marked, unset-bare}
use Rattle.slots.proofs.ahead.bare.Goals as goal

pub returns-then-marks-v-eq1 : goal.returns-then-marks-v-eq1
returns-then-marks-v-eq1 c = unset-marked _ _ c.if-marks-v-eq1.true

pub returns : goal.returns
returns c = unset-bare _ _ c.if-marks-v-eq1.false
