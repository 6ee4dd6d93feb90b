-- `limits::side_way` meets its contract, by the dart's cell and the cell across. Assumes nothing.
use mathlib.Core.Path.{◌∙◌}
use native.Mathlib.Omega.{arith}
use Rattle.model.specs.Record.{job_of}
use Rattle.channel.specs.Map.Sides.{side?, side-off, side-low, side-first, side-high, side-last, side-between}
use Rattle.channel.proofs.limits.side_way.Goals as goal

pub returns-then-x-lt41 : goal.returns-then-x-lt41
returns-then-x-lt41 c =
    side-off (job_of c.args.job.now) c.args.d (side? c.args.d c.requires.2) c.if-x-lt41.true

pub returns-then-y-lt81 : goal.returns-then-y-lt81
returns-then-y-lt81 c =
    c.open_in-own.ensures
    ∙ side-low (job_of c.args.job.now) c.args.d c.if-x-lt41.false (omega arith) (side? c.args.d c.requires.2) c.if-y-lt81.true

pub returns-then-c-e : goal.returns-then-c-e
returns-then-c-e c =
    c.open_in-own.ensures
    ∙ side-first (job_of c.args.job.now) c.args.d c.if-x-lt41.false (omega arith) (side? c.args.d c.requires.2)
    c.if-c-e.true

pub returns-then-y-ge1681 : goal.returns-then-y-ge1681
returns-then-y-ge1681 c =
    side-high (job_of c.args.job.now) c.args.d c.if-x-lt41.false (omega arith) (side? c.args.d c.requires.2)
    c.if-y-ge1681.true

pub returns-then-e-c : goal.returns-then-e-c
returns-then-e-c c =
    side-last (job_of c.args.job.now) c.args.d c.if-x-lt41.false (omega arith)
    (side? c.args.d c.requires.2) c.if-y-ge1681.false c.if-e-c.true

pub returns : goal.returns
returns c =
    rw (c.open_in-own.ensures, c.clear_in.ensures)
    (side-between (job_of c.args.job.now) c.args.d c.if-x-lt41.false (omega arith) (side? c.args.d c.requires.2) c.if-y-lt81.false c.if-c-e.false
    c.if-y-ge1681.false c.if-e-c.false)
