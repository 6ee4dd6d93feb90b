-- `takeout::mark_tile` meets its contract: no wire meets a closed tile, and one that meets an open tile has come into it. Assumes nothing.
use mathlib.Core.Path.{sym, ◌∙◌}
use Rattle.takeout.specs.Edited.{tile-closed, tile-open}
use Rattle.takeout.proofs.mark_tile.Goals as goal

pub returns-then-not-is_open : goal.returns-then-not-is_open
returns-then-not-is_open c =
    tile-closed c.args.was.now c.requires.0 c.args.r c.args.c _ (sym c.is_open.ensures ∙ c.if-not-is_open.true)

pub returns : goal.returns
returns c =
    tile-open c.args.was.now c.requires.0 c.args.r c.args.c _ _ _ _ _ (sym c.is_open.ensures ∙ c.if-not-is_open.false)
    c.mark_entries.ensures c.mark_entries-2.ensures c.mark_entries-3.ensures c.mark_entries-4.ensures
