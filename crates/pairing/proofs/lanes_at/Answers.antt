-- `pairing::lanes_at` meets its contract: it reads the entry of a slot, and gives 0 past the last. Assumes nothing.
use mathlib.Core.Path.{sym}
use native.Mathlib.Omega.{arith}
use Rattle.pairing.specs.Answer.{lanes-in, lanes-past}
use Rattle.pairing.proofs.lanes_at.Goals as goal

pub returns-then-k-lt5 : goal.returns-then-k-lt5
returns-then-k-lt5 c = (omega (arith, lanes-in c.args.counts.now c.args.k (omega arith)), omega arith)

pub returns : goal.returns
returns c = (sym (lanes-past _ _ (omega arith)), omega arith)
