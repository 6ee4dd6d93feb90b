-- `limits::centre_free` meets its contract: the tile is open. Assumes nothing.
use mathlib.Core.Path.{sym, ◌∙◌}
use Rattle.model.specs.Record.{job_of}
use Rattle.channel.specs.Map.Codes.{three-four}
use Rattle.channel.specs.Map.Caps.{free-centre}
use Rattle.channel.proofs.limits.centre_free.Goals as goal

pub returns : goal.returns
returns c =
    c.open_at.ensures ∙ sym (free-centre (job_of c.args.job.now) c.args.d (three-four _ c.requires.2))
