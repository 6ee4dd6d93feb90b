use Rattle.std.proofs.Common.{◌-◌}
use Rattle.sheet_check.proofs.judge.first_failing.Given as goal

abbrev pub decreases-loop-p : goal.decreases-loop-p
decreases-loop-p l = 1600 - l.p
