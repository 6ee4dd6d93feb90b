-- `slots::against` meets its contract: the word names the byte of the dart's link, and its way. Assumes nothing.
use mathlib.Core.Path.{◌∙◌}
use native.Mathlib.Omega.{arith}
use Rattle.channel.specs.Map.Laden.{word-against}
use Rattle.slots.proofs.slots.against.Goals as goal

pub returns : goal.returns
returns c d h e =
    let (_, g, _, l, m) = c.requires in
    c.one_way.ensures.0
    ∙ word-against c.args.loads.now d c.args.w e c.args.x h (omega arith) (omega arith) l m _ c.wide.ensures.0
