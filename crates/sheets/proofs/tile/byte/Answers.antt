-- `tile::byte` meets its contract. Assumes nothing.
use mathlib.Core.Path.{◌∙◌}
use native.Mathlib.Omega.{arith}
use Rattle.sheets.specs.Tests.{sheet-on}
use Rattle.sheets.proofs.tile.byte.Goals as goal

pub returns : goal.returns
returns c =
    let a = c.args in
    (c.wide.ensures.0 ∙ sheet-on a.sheet.now a.p a.r a.c (omega arith) (omega arith), c.wide.ensures.1)
