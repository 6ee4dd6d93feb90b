-- `one_wire` meets its contract. Assumes nothing.
use Rattle.outward.specs.Outward.{one-forth, one-back}
use Rattle.outward.proofs.one_wire.Goals as goal

pub returns-then-forth : goal.returns-then-forth
returns-then-forth c = one-forth _ c.if-forth.true

pub returns-else-forth : goal.returns-else-forth
returns-else-forth c = one-back _ c.if-forth.false
