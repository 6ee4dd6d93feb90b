-- `loads::loaded_at` meets its contract: the word names the byte of the dart's link, and its way. Assumes nothing.
use Rattle.channel.specs.Map.Laden.{laden}
use Rattle.channel.proofs.loads.loaded_at.Goals as goal

pub returns : goal.returns
returns c d h e =
    let (_, _, p, l, m) = c.requires in
    laden c.args.rec.now d _ e _ h p l m _ c.wide-b.ensures.0
