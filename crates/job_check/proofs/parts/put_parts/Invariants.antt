use Rattle.std.proofs.Common.{◌-◌}
use Rattle.job_check.proofs.parts.put_parts.Given as goal

abbrev pub decreases-loop-i : goal.decreases-loop-i
decreases-loop-i l = 20000 - l.i
