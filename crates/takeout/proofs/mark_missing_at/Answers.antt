-- `takeout::mark_missing_at` meets its contract: a missing pin is a place, and any other cell adds none. Assumes nothing.
use mathlib.Core.Path.{sym, ◌∙◌}
use Rattle.takeout.specs.Missing.{missing-more, missing-none}
use Rattle.takeout.proofs.mark_missing_at.Goals as goal

pub returns-then-not-is_missing : goal.returns-then-not-is_missing
returns-then-not-is_missing c =
    missing-none c.args.was.now c.requires.0 c.args.i _ (sym c.is_missing.ensures ∙ c.if-not-is_missing.true)

pub returns : goal.returns
returns c =
    missing-more c.args.was.now c.requires.0 c.args.i _ _ _
    (sym c.is_missing.ensures ∙ c.if-not-is_missing.false)
    c.pin_exit.ensures.0 c.mark_place.ensures
