-- `loads::is_pass_dart` meets its contract, from the code and the cell. Assumes nothing.
use Rattle.channel.specs.Map.Bytes.{pass-dart-is}
use Rattle.channel.proofs.loads.is_pass_dart.Goals as goal

pub returns : goal.returns
returns c = pass-dart-is c.args.d _ _ c.code_of-c.ensures c.in_grid.ensures
