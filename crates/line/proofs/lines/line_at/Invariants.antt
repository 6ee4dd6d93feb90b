-- No opening of a group passed stands there. Assumes nothing.
use Rattle.std.proofs.Common.{ℕ, ◌<◌, get_or}
use Rattle.std.specs.Prelude.{None}
use Rattle.line.specs.declared.group.Group.TheVariants.{Chosen}
use Rattle.line.specs.Scan.{WordAt}
use Rattle.line.specs.Groups.{text_group}
use Rattle.line.specs.Lines.{opening}
use Rattle.line.proofs.lines.line_at.Given as goal

abbrev pub invariant-loop-group : goal.invariant-loop-group
invariant-loop-group l = (i : ℕ) → i < l.group-index → WordAt l.text l.at (opening (text_group (get_or l.group-items i Chosen))) None
