-- `inset_of` meets its contract. Assumes nothing.
use native.Mathlib.Omega.{arith}
use Rattle.outward.specs.Outward.{inset-before, inset-beyond}
use Rattle.outward.proofs.inset_of.Goals as goal

pub returns-then-r-n : goal.returns-then-r-n
returns-then-r-n c = (inset-before _ _ c.if-r-n.true, omega arith)

pub returns-then-n-r : goal.returns-then-n-r
returns-then-n-r c = (omega (arith, inset-beyond _ _ c.if-r-n.false), omega arith)

pub returns : goal.returns
returns c = (inset-beyond _ _ c.if-r-n.false, omega arith)
