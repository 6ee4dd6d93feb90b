-- `next::inwards` meets its contract. Assumes nothing.
use native.Mathlib.Omega.{arith}
use Rattle.augment.specs.Pins.{inward-even, inward-odd}
use Rattle.augment.proofs.next.inwards.Goals as goal

pub returns-then-i-eq0 : goal.returns-then-i-eq0
returns-then-i-eq0 c = let s = c.args in (inward-even s.i s.n c.if-i-eq0.true, omega (arith, c.requires))

pub returns-else-i-eq0 : goal.returns-else-i-eq0
returns-else-i-eq0 c = let s = c.args in (inward-odd s.i s.n c.if-i-eq0.false, omega (arith, c.requires))
