-- `takeout::mark_pin` meets its contract: a chosen pin starts one wire, a missing pin is a place, and no wire meets another pin. Assumes nothing.
use mathlib.Core.Path.{refl, sym, ◌∙◌}
use mathlib.Core.List.{[]}
use native.Mathlib.Omega.{arith}
use Rattle.takeout.specs.Edited.{pin-chosen, pin-missing, pin-idle}
use Rattle.takeout.proofs.mark_pin.Goals as goal

pub returns-then-is_chosen : goal.returns-then-is_chosen
returns-then-is_chosen c =
    let a = c.args in
    λ M. pin-chosen a.was.now c.requires.0 a.r a.c [] _ _ M _ (sym c.is_chosen.ensures ∙ c.if-is_chosen.true) refl c.requires.3
    (omega (arith, c.requires.1, c.requires.2, c.requires.3)) refl

pub returns-then-not-is_missing : goal.returns-then-not-is_missing
returns-then-not-is_missing c =
    let a = c.args in
    pin-idle a.was.now c.requires.0 a.r a.c [] _ (sym c.is_chosen.ensures ∙ c.if-is_chosen.false)
    (sym c.is_missing.ensures ∙ c.if-not-is_missing.true)

pub returns : goal.returns
returns c =
    let a = c.args in
    λ M. pin-missing a.was.now c.requires.0 a.r a.c [] _ _ M _ (sym c.is_missing.ensures ∙ c.if-not-is_missing.false)
    c.pin_exit.ensures.0 c.mark_place.ensures
