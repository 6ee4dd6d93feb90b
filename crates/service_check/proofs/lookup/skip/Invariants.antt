use Rattle.std.proofs.Common.{◌-◌}
use Rattle.service_check.proofs.lookup.skip.Given as goal

abbrev pub decreases-loop-k : goal.decreases-loop-k
decreases-loop-k l = l.index - l.k
