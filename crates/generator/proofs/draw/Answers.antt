-- The shifts and exclusive-ors are those of the definition. Assumes nothing.
use Rattle.std.proofs.Common.{refl, arith}
use Rattle.model.proofs.Draws.{draw-xor}
use Rattle.generator.proofs.draw.Goals as goal

pub returns : goal.returns
returns c = draw-xor c.args.x _ _ (omega arith) refl refl
