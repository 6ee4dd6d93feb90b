-- `loads::gains` meets its contract. Assumes nothing.
use Rattle.channel.specs.Map.Fresh.{gains-test}
use Rattle.channel.proofs.loads.gains.Goals as goal

pub returns : goal.returns
returns c = gains-test c.args.a c.args.b
