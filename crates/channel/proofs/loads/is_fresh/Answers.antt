-- `loads::is_fresh` meets its contract. Assumes nothing.
use mathlib.Core.Path.{◌∙◌}
use Rattle.channel.specs.Map.Fresh.{fresh-gains}
use Rattle.channel.proofs.loads.is_fresh.Goals as goal

pub returns : goal.returns
returns c = c.gains.ensures ∙ fresh-gains _ _ _
