-- `places::pin_exit` meets its contract. Assumes nothing.
use native.Mathlib.Omega.{arith}
use Rattle.model.specs.Near.{exit_of}
use Rattle.channel.proofs.places.pin_exit.Goals as goal

pub returns : goal.returns
unfolding exit_of
returns c = omega arith
