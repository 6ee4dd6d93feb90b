-- `lists::no_lists` meets its contract. Assumes nothing.
use native.Mathlib.Omega.{arith}
use Rattle.std.proofs.lemmas.List.{length-take-le}
use Rattle.augment.proofs.lists.no_lists.Goals as goal

pub slice_bounds-head-items-end-2 : goal.slice_bounds-head-items-end-2
slice_bounds-head-items-end-2 c = omega (arith, length-take-le 128 c.args.lists.now (omega arith))

pub offset_bounds-head-items-head-index : goal.offset_bounds-head-items-head-index
offset_bounds-head-items-head-index c = omega (arith, length-take-le 128 c.args.lists.now (omega arith))
