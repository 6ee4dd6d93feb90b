use Rattle.std.proofs.Common.{length, ◌-◌}
use Rattle.sheet_check.proofs.limits.bytes_fit.Given as goal

abbrev pub decreases-loop-i : goal.decreases-loop-i
decreases-loop-i l = length l.sheet - l.i
