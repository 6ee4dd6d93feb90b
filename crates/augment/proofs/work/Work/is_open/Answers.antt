-- `is_open` meets its contract. Assumes nothing.
use borrow.Author.Rules.{rules}
use mathlib.Core.Path.{sym, ◌∙◌}
use Rattle.channel.specs.Map.Numbers.{spots-is}
use Rattle.augment.specs.Answers.{yes, no}
use Rattle.augment.specs.Marks.{is-marked}
use Rattle.augment.specs.Pins.{open-pin, no_pin_lem}
use Rattle.augment.specs.Shut.{unwired-start, start-unwired}
use Rattle.augment.proofs.work.Work.is_open.Goals as goal

pub is_start-requires : goal.is_start-requires
is_start-requires c = search (rules, spots-is)

pub returns-then-not-is_start : goal.returns-then-not-is_start
returns-then-not-is_start c = no_pin_lem (λ h. absurd (no c.is_start.ensures c.if-not-is_start.true (start-unwired _ _ _ h).0))

pub wire_starts-requires : goal.wire_starts-requires
wire_starts-requires c = search (rules, spots-is)

pub returns-then-wire_starts-ne0 : goal.returns-then-wire_starts-ne0
returns-then-wire_starts-ne0 c = no_pin_lem (λ h. absurd (c.if-wire_starts-ne0.true (c.wire_starts.ensures ∙ (start-unwired _ _ _ h).1)))

pub returns-then-self-u-eq1 : goal.returns-then-self-u-eq1
returns-then-self-u-eq1 c = no_pin_lem (λ h. is-marked _ _ c.requires.2 c.if-self-u-eq1.true)

pub returns : goal.returns
returns c =
    let t = yes c.is_start.ensures c.if-not-is_start.false in
    open-pin t (unwired-start _ _ _ t (sym c.wire_starts.ensures ∙ c.if-wire_starts-ne0.false)) c.if-self-u-eq1.false
