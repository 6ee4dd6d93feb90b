-- `limits::leg_open` meets its contract, leg by leg: none leads beyond the rim. Assumes nothing.
use mathlib.Core.Path.{◌∙◌}
use Prim.Native.Nat.{◌-◌}
use native.Mathlib.Omega.{arith}
use Rattle.model.specs.Record.{job_of}
use Rattle.channel.specs.Map.LinkTests.{east-leg, south-rim-leg, south-leg, north-rim-leg, north-leg, west-rim-leg, west-leg}
use Rattle.channel.proofs.limits.leg_open.Goals as goal

pub returns-then-k-eq11 : goal.returns-then-k-eq11
returns-then-k-eq11 c =
    c.open_in.ensures ∙ east-leg (job_of c.args.job.now) c.args.k c.args.r c.args.c (omega arith)

pub returns-then-c-eq0 : goal.returns-then-c-eq0
returns-then-c-eq0 c =
    south-rim-leg (job_of c.args.job.now) c.args.k c.args.r c.args.c (omega arith) (omega arith)

pub returns-then-k-eq12 : goal.returns-then-k-eq12
returns-then-k-eq12 c =
    c.open_in-then-k-eq12.ensures ∙ south-leg (job_of c.args.job.now) c.args.k c.args.r c.args.c (c.args.c - 1) (omega arith) (omega arith)

pub returns-then-r-eq0 : goal.returns-then-r-eq0
returns-then-r-eq0 c =
    north-rim-leg (job_of c.args.job.now) c.args.k c.args.r c.args.c (omega arith) (omega arith) (omega arith) (omega arith) (omega arith)

pub returns-then-k-eq10 : goal.returns-then-k-eq10
returns-then-k-eq10 c =
    c.open_in-then-k-eq10.ensures ∙ north-leg (job_of c.args.job.now) c.args.k c.args.r (c.args.r - 1) c.args.c (omega arith) (omega arith)

pub returns-then-c-eq0-2 : goal.returns-then-c-eq0-2
returns-then-c-eq0-2 c =
    west-rim-leg (job_of c.args.job.now) c.args.k c.args.r (c.args.r - 1) c.args.c (omega arith) (omega arith) (omega arith)

pub returns : goal.returns
returns c =
    c.open_in-2.ensures
    ∙ west-leg (job_of c.args.job.now) c.args.k c.args.r (c.args.r - 1) c.args.c (c.args.c - 1) (omega arith) (omega arith) (omega arith)
