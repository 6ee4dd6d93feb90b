-- `limits::corner_limit` meets its contract: half of O where the tile is open. Assumes nothing.
use mathlib.Core.Path.{sym, ◌∙◌, ap}
use Prim.Native.Nat.{ℕ, ◌/◌}
use Rattle.model.specs.Record.{job_of}
use Rattle.channel.specs.Map.Caps.{cap-corner}
use Rattle.channel.proofs.limits.corner_limit.Goals as goal

pub returns-then-open_at : goal.returns-then-open_at
returns-then-open_at c =
    rw (cap-corner (job_of c.args.job.now) c.args.d c.requires.2, sym c.open_at.ensures ∙ c.if-open_at.true)
    (ap (λ (n : ℕ). n / 2) c.orthogonal.ensures.0)

pub returns : goal.returns
returns c =
    rw (cap-corner (job_of c.args.job.now) c.args.d c.requires.2, sym c.open_at.ensures ∙ c.if-open_at.false)
