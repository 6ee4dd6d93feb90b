-- `clear` leaves zeros. Assumes nothing.
use mathlib.Core.Path.{◌∙◌}
use lib.ListN.{length}
use Rattle.channel.specs.Written.{zeros-filled}
use Rattle.channel.proofs.write.clear.Goals as goal

pub returns : goal.returns
returns c = c.fill.ensures.after (λ y e. e) ∙ zeros-filled (length c.args.part.now)
