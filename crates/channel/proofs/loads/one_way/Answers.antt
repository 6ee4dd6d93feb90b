-- `loads::one_way` meets its contract, from the parts of a byte. Assumes nothing.
use mathlib.Core.Path.{◌∙◌}
use native.Mathlib.Omega.{arith}
use Rattle.channel.specs.Map.Bytes.{way-forth, way_back}
use Rattle.channel.proofs.loads.one_way.Goals as goal

pub returns-then-along : goal.returns-then-along
returns-then-along c = (c.forth.ensures.0 ∙ way-forth _ _ c.if-along.true, omega arith)

pub returns : goal.returns
returns c = (c.back.ensures.0 ∙ way_back _ _ c.if-along.false, omega arith)
