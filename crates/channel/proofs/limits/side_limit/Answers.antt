-- `limits::side_limit` meets its contract: what the side takes, where it may be crossed. Assumes nothing.
use mathlib.Core.Path.{sym, ◌∙◌}
use Prim.Native.Nat.{◌%◌}
use native.Mathlib.Omega.{arith}
use Rattle.model.specs.Record.{job_of}
use Rattle.channel.specs.Map.Bounds.{owner-bound}
use Rattle.channel.specs.Map.Caps.{side-kind, cap-side, crossed-grid, cap-crossed}
use Rattle.channel.proofs.limits.side_limit.Goals as goal

pub returns-then-not-side_way : goal.returns-then-not-side_way
returns-then-not-side_way c =
    rw (cap-side (job_of c.args.job.now) c.args.d c.requires.2, sym c.side_way.ensures ∙ c.if-not-side_way.true)

pub overflow_add-x : goal.overflow_add-x
overflow_add-x c =
    omega (arith, c.owner_of.ensures, owner-bound (c.args.d % 64) (omega arith), c.requires.1)

pub side_most-requires : goal.side_most-requires
side_most-requires c =
    let t = sym c.side_way.ensures ∙ c.if-not-side_way.false in
    let (a, b) = crossed-grid (job_of c.args.job.now) c.args.d _ c.owner_of.ensures t in
    (c.requires.0, omega (arith, c.kind_of-k.ensures, side-kind (c.args.d % 64) (omega arith) c.requires.2), a, b)

pub returns : goal.returns
returns c =
    let t = sym c.side_way.ensures ∙ c.if-not-side_way.false in
    cap-crossed (job_of c.args.job.now) c.args.d _ c.owner_of.ensures t _ _ c.requires.2 c.kind_of-k.ensures
    c.side_most.ensures.0
