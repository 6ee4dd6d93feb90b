-- `takeout::mark_centre` meets its contract: no wire passes the centre of a closed tile, and that of an open one is a place. Assumes nothing.
use mathlib.Core.Path.{sym, ◌∙◌}
use Rattle.takeout.specs.Edited.{centre-closed, centre-open}
use Rattle.takeout.proofs.mark_centre.Goals as goal

pub returns-then-not-is_open : goal.returns-then-not-is_open
returns-then-not-is_open c =
    centre-closed c.args.was.now c.requires.0 c.args.r c.args.c _ (sym c.is_open.ensures ∙ c.if-not-is_open.true)

pub returns : goal.returns
returns c =
    centre-open c.args.was.now c.requires.0 c.args.r c.args.c _ _ (sym c.is_open.ensures ∙ c.if-not-is_open.false)
    c.mark_place.ensures
