-- The ranks one by one. Assumes nothing.
use Rattle.std.proofs.Common.{sym, ap, arith}
use Rattle.model.specs.Text.{group_of}
use Rattle.line.proofs.Lined.{group-else}
use Rattle.line.proofs.group.GroupFromUsize.from.Goals as goal

pub returns-in-2 : goal.returns-in-2
unfolding group_of
returns-in-2 c = ap group_of (sym c.in-2.is)

pub returns-in-3 : goal.returns-in-3
unfolding group_of
returns-in-3 c = ap group_of (sym c.in-3.is)

pub returns-in-4 : goal.returns-in-4
unfolding group_of
returns-in-4 c = ap group_of (sym c.in-4.is)

pub returns-in-5 : goal.returns-in-5
unfolding group_of
returns-in-5 c = ap group_of (sym c.in-5.is)

pub returns-in_default : goal.returns-in_default
returns-in_default c = group-else c.args.rank (omega arith) (omega arith) (omega arith) (omega arith)
