-- `moves::wire_starts` meets its contract: what leaves the pin, where a wire is to start. Assumes nothing.
use mathlib.Core.Path.{sym, ◌∙◌}
use native.Mathlib.Omega.{arith}
use Rattle.model.specs.Record.{job_of}
use Rattle.channel.specs.Map.Laying.{start-bounds, starts-some, starts_none}
use Rattle.channel.proofs.moves.wire_starts.Goals as goal

pub out_of_pin-requires : goal.out_of_pin-requires
out_of_pin-requires c =
    omega (arith, start-bounds (job_of c.args.job.now) c.args.u (sym c.is_start.ensures ∙ c.if-is_start.true))

pub returns-then-is_start : goal.returns-then-is_start
returns-then-is_start c =
    c.out_of_pin.ensures.0 ∙ starts-some (job_of c.args.job.now) c.args.u c.args.loads.now
    (sym c.is_start.ensures ∙ c.if-is_start.true)

pub returns : goal.returns
returns c =
    starts_none (job_of c.args.job.now) c.args.u c.args.loads.now (sym c.is_start.ensures ∙ c.if-is_start.false)
