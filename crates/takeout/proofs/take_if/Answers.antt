-- `takeout::take_if` meets its contract: a pin that is not marked, or not chosen, has nothing to take out. Assumes nothing.
use mathlib.Core.Path.{sym, subst, ◌∙◌}
use Prim.Native.Nat.{◌/◌, ◌%◌}
use lib.Dec.{T}
use Rattle.takeout.specs.AllTaken.{takes-unchosen, takes-wire}
use Rattle.takeout.specs.Marks.{is_marked, cell-marked}
use Rattle.takeout.proofs.take_if.Goals as goal

pub returns-then-not-is_chosen : goal.returns-then-not-is_chosen
returns-then-not-is_chosen c =
    let a = c.args in
    takes-unchosen a.was.now (is_marked a.taken.now) c.requires.0 (a.i / 40) (a.i % 40) _
    (sym c.is_chosen.ensures ∙ c.if-not-is_chosen.true)

pub returns : goal.returns
returns c =
    let a = c.args in
    takes-wire a.was.now (is_marked a.taken.now) c.requires.0 (a.i / 40) (a.i % 40) _ _
    (subst T (sym c.if-not-is_chosen.false ∙ c.is_chosen.ensures) tt)
    (cell-marked a.taken.now a.i c.if-taken-i-ne1.false) c.take_out.ensures
