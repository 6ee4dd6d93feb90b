-- `unwire` puts the zeros of `clear` in the place of the planes of loads. Assumes nothing.
use Rattle.channel.specs.Written.{unwired-put}
use Rattle.channel.proofs.write.unwire.Goals as goal

pub returns : goal.returns
returns c =
    unwired-put c.args.rec.now c.requires c.clear.new.part c.clear.ensures
