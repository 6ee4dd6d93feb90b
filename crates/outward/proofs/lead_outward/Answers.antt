-- `lead_outward` meets its contract: the rows passed lead outward. Assumes nothing.
use mathlib.Core.Path.{refl}
use Rattle.outward.specs.Outward.{legs-outward}
use Rattle.outward.proofs.lead_outward.Goals as goal

pub loop-r-init : goal.loop-r-init
loop-r-init c = (refl, legs-outward _ c.put.ensures c.requires.3)
