-- `moves::lay` meets its contract: the byte of the dart's link is bumped, where it has one. Assumes nothing.
use mathlib.Core.Path.{sym, ap, ◌∙◌}
use Rattle.channel.specs.Map.{is_stored}
use Prim.Native.Nat.{◌+◌, ◌/◌, ◌%◌}
use native.Mathlib.Omega.{arith}
use Rattle.sums.specs.Tests.{so}
use Rattle.channel.specs.Map.Bounds.{code-bound, owner-bound, kind-bound}
use Rattle.channel.specs.Map.Grid.{grid-bounds}
use Rattle.channel.specs.Map.Laying.{laid_none, laid-off, laid_on_lem}
use Rattle.channel.proofs.moves.lay.Goals as goal

pub is_stored-requires : goal.is_stored-requires
is_stored-requires c = omega (arith, code-bound (c.args.d % 64) (omega arith), c.code_of.ensures)

pub returns-then-not-is_stored : goal.returns-then-not-is_stored
returns-then-not-is_stored c =
    laid_none c.args.loads.now c.args.d _ (c.is_stored.ensures ∙ ap is_stored c.code_of.ensures)
    c.if-not-is_stored.true

pub overflow_add-o : goal.overflow_add-o
overflow_add-o c =
    omega (arith, owner-bound (c.args.d % 64) (omega arith), c.owner_of.ensures)

pub returns-then-not-in_grid : goal.returns-then-not-in_grid
returns-then-not-in_grid c =
    laid-off c.args.loads.now c.args.d _ _ c.owner_of.ensures c.in_grid.ensures c.if-not-in_grid.true

pub overflow_mul-a : goal.overflow_mul-a
overflow_mul-a c =
    omega (arith, kind-bound (c.args.d % 64) (omega arith), c.kind_of.ensures)

pub overflow_add-a : goal.overflow_add-a
overflow_add-a c =
    omega (arith, kind-bound (c.args.d % 64) (omega arith), c.kind_of.ensures)

pub overflow_add-a-2 : goal.overflow_add-a-2
overflow_add-a-2 c =
    omega (arith, kind-bound (c.args.d % 64) (omega arith), c.kind_of.ensures, owner-bound (c.args.d % 64) (omega arith), c.owner_of.ensures)

pub bounds-loads-a : goal.bounds-loads-a
bounds-loads-a c =
    let g = grid-bounds (c.args.d / 64 + c.owner_of.result)
    (so (sym c.in_grid.ensures ∙ c.if-not-in_grid.false)) in
    omega (arith, kind-bound (c.args.d % 64) (omega arith), c.kind_of.ensures, g, c.requires)

pub bounds-loads-a-2 : goal.bounds-loads-a-2
bounds-loads-a-2 c =
    let g = grid-bounds (c.args.d / 64 + c.owner_of.result)
    (so (sym c.in_grid.ensures ∙ c.if-not-in_grid.false)) in
    omega (arith, kind-bound (c.args.d % 64) (omega arith), c.kind_of.ensures, g, c.requires)

pub returns : goal.returns
returns c =
    laid_on_lem c.args.loads.now c.args.d _ _ _ _ _ _ c.owner_of.ensures c.kind_of.ensures
    c.sign_of.ensures
    (c.is_stored.ensures ∙ ap is_stored c.code_of.ensures) c.if-not-is_stored.false
    c.in_grid.ensures c.if-not-in_grid.false c.bumped.ensures
