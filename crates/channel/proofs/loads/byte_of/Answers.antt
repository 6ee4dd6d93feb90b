-- `loads::byte_of` meets its contract: the byte stands in its kind's plane at the owner's cell, and is 0 where that cell is off the grid. Assumes nothing.
use mathlib.Core.Path.{◌∙◌}
use Prim.Native.Nat.{◌%◌}
use native.Mathlib.Omega.{arith}
use Rattle.channel.specs.Map.Bounds.{owner-bound, kind-bound}
use Rattle.channel.specs.Map.Bytes.{kept_low, kept_high, kept_in}
use Rattle.channel.proofs.loads.byte_of.Goals as goal

pub overflow_add-o : goal.overflow_add-o
overflow_add-o c = omega (arith, owner-bound (c.args.d % 64) (omega arith), c.owner_of.ensures)

pub returns-then-o-lt41 : goal.returns-then-o-lt41
returns-then-o-lt41 c =
    (kept_low c.args.rec.now c.args.d _ c.owner_of.ensures c.if-o-lt41.true, omega arith)

pub returns-then-o-ge1641 : goal.returns-then-o-ge1641
returns-then-o-ge1641 c =
    (kept_high c.args.rec.now c.args.d _ c.owner_of.ensures c.if-o-ge1641.true, omega arith)

pub overflow_mul-kind_of : goal.overflow_mul-kind_of
overflow_mul-kind_of c = omega (arith, kind-bound (c.args.d % 64) (omega arith), c.kind_of.ensures)

pub overflow_add-kind_of : goal.overflow_add-kind_of
overflow_add-kind_of c = omega (arith, kind-bound (c.args.d % 64) (omega arith), c.kind_of.ensures)

pub overflow_add-kind_of-2 : goal.overflow_add-kind_of-2
overflow_add-kind_of-2 c = omega (arith, kind-bound (c.args.d % 64) (omega arith), c.kind_of.ensures)

pub bounds-rec-kind_of : goal.bounds-rec-kind_of
bounds-rec-kind_of c = omega (
  arith,
  kind-bound (c.args.d % 64)
      (omega arith),
  c.kind_of.ensures,
)

pub returns : goal.returns
returns c =
    let o = c in (
      c.wide.ensures.0
          ∙ kept_in c.args.rec.now c.args.d _ o.owner_of.ensures _ c.kind_of.ensures (omega arith) (omega arith),
      omega arith,
    )
