use Rattle.std.proofs.Common.{length, ◌-◌}
use Rattle.service_check.proofs.lookup.past.Given as goal

abbrev pub decreases-loop-i : goal.decreases-loop-i
decreases-loop-i l = length l.list - l.i
