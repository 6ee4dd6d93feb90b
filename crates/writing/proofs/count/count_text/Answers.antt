-- `count_text` adds up the lines. Assumes nothing.
use native.Mathlib.Omega.{arith}
use Rattle.model.specs.Record.{job_of}
use Rattle.writing.proofs.Counted.{text-counted}
use Rattle.writing.proofs.count.count_text.Goals as goal

pub returns : goal.returns
returns c =
    omega (arith, text-counted (job_of c.args.rec.now), c.count_array.ensures.0, c.count_groups.ensures.0)
