use Rattle.std.proofs.Common.{◌<◌}
use Rattle.sheet_check.proofs.tile.least_passage.Given as goal

abbrev pub invariant-loop-i : goal.invariant-loop-i
invariant-loop-i l = l.least < 10000
