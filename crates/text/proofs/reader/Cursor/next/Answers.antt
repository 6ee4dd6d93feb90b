-- `next` reads the line at the cursor and makes the tests of `admit`. Assumes nothing.
use mathlib.Core.Path.{sym, ◌∙◌}
use Rattle.text.proofs.Standing.{step-group, step-out-of-turn, step-unnamed, step_end, step-wrong}
use Rattle.text.proofs.reader.Cursor.next.Goals as goal

pub returns-in_err-line : goal.returns-in_err-line
returns-in_err-line c =
    let s = c.requires in
    λ R w. rw c.from_residual.ensures (step-wrong w s.1 s.2 s.3 c.args.text.now c.args.self.at c.in_err-line.ensures)

pub returns-then-not-in_turn : goal.returns-then-not-in_turn
returns-then-not-in_turn c =
    let s = c.requires in
    λ R w.
    step-out-of-turn w s.1 s.2 s.3 c.args.text.now c.args.self.at c.in-Tells.entry c.in_ok-line.line.next (rw c.in-Tells.is at c.in_ok-line.ensures)
    (rw c.key.ensures at (sym c.in_turn.ensures ∙ c.if-not-in_turn.true))

pub returns-then-not-names : goal.returns-then-not-names
returns-then-not-names c =
    let s = c.requires in
    λ R w.
    step-unnamed w s.1 s.2 s.3 c.args.text.now c.args.self.at c.in-Tells.entry c.in_ok-line.line.next (rw c.in-Tells.is at c.in_ok-line.ensures)
    (sym c.names.ensures ∙ c.if-not-names.true)

pub returns-else-not-names : goal.returns-else-not-names
returns-else-not-names c =
    let s = c.requires in
    λ R w.
    rw c.in-Tells.is
    (step-group w s.1 s.2 s.3 c.args.text.now c.args.self.at c.in-Tells.entry c.in_ok-line.line.next (rw c.in-Tells.is at c.in_ok-line.ensures)
    (rw c.key.ensures at (sym c.in_turn.ensures ∙ c.if-not-in_turn.false)) (sym c.names.ensures ∙ c.if-not-names.false))

pub returns-in_default : goal.returns-in_default
returns-in_default c =
    let s = c.requires in
    λ R w. rw c.in_default.is (step_end w s.1 s.2 s.3 c.args.text.now c.args.self.at c.in_ok-line.line.next (rw c.in_default.is at c.in_ok-line.ensures))
