-- `loads::load_along` meets its contract, from the dart's byte and sign. Assumes nothing.
use mathlib.Core.Path.{◌∙◌}
use native.Mathlib.Omega.{arith}
use Rattle.channel.specs.Map.Bytes.{along-way}
use Rattle.channel.proofs.loads.load_along.Goals as goal

pub returns : goal.returns
returns c =
    let s = c.args in (
      c.one_way.ensures.0 ∙ along-way s.rec.now s.d _ _ c.byte_of.ensures.0 c.sign_of.ensures,
      omega arith,
    )
