use Rattle.std.proofs.Common.{◌-◌, ◌≤◌}
use Rattle.rules_check.proofs.plain.tried.Given as goal

abbrev pub invariant-loop-space : goal.invariant-loop-space
invariant-loop-space l = l.space ≤ 400000

abbrev pub decreases-loop-space : goal.decreases-loop-space
decreases-loop-space l = 400000 - l.space
