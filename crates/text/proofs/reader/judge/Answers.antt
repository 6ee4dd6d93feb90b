-- `judge` reads line after line: at the loop's head the verdict on what is left is the verdict on the whole text. The measure is what is left of the text.
-- Assumes nothing.
use mathlib.Core.Path.{sym, subst, ◌∙◌}
use Prim.Native.Nat.{ℕ, ◌+◌}
use native.Mathlib.Omega.{arith}
use Rattle.std.specs.Prelude.{Some}
use Rattle.std.proofs.Common.{rules}
use denote.Enum.Bare.{same_true, same_false}
use Rattle.model.specs.Text.{Reader}
use Rattle.line.specs.contracts.group.Group.{the_type}
use Rattle.line.specs.declared.lines.Line.TheVariants.{Tells}
use Rattle.text.specs.declared.reader.Cursor.{Cursor}
use Rattle.text.specs.Reader.{Follows, LeadsOn}
use Rattle.text.proofs.Midway.{Midway, midway-open, midway-wrong, step-further, entry-cell, midway-chosen, midway-other, midway-ended, midway-longer}
use Rattle.text.proofs.reader.judge.Goals as goal
use Rattle.text.proofs.reader.judge.Goals.{then-eq, else-eq}

pub loop-line-init : goal.loop-line-init
loop-line-init c = midway-open c.args.text.now c.in-Some.opening c.in-Some.ensures

pub returns-in_default-next : goal.returns-in_default-next
returns-in_default-next c = midway-wrong c.loop-line.invariant c.in_default-next.ensures

pub returns-then-line-text : goal.returns-then-line-text
returns-then-line-text c =
    midway-longer c.loop-line.invariant c.in-Some-next.line.next (λ S w. rw c.in_default-value.is at (c.in-Some-next.ensures S w)) c.if-line-text.true

pub returns-else-line-text : goal.returns-else-line-text
returns-else-line-text c =
    midway-ended c.loop-line.invariant c.in-Some-next.line.next (λ S w. rw c.in_default-value.is at (c.in-Some-next.ensures S w)) c.if-line-text.false

pub overflow_mul-chosen : goal.overflow_mul-chosen
overflow_mul-chosen c =
    omega (arith, entry-cell c.loop-line.invariant c.in-Tells.entry c.in-Some-next.line.next (λ S w. rw c.in-Tells.is at (c.in-Some-next.ensures S w)))

pub overflow_add-chosen : goal.overflow_add-chosen
overflow_add-chosen c =
    omega (arith, entry-cell c.loop-line.invariant c.in-Tells.entry c.in-Some-next.line.next (λ S w. rw c.in-Tells.is at (c.in-Some-next.ensures S w)))

pub bounds-chosen-entry : goal.bounds-chosen-entry
bounds-chosen-entry c =
    omega (arith, entry-cell c.loop-line.invariant c.in-Tells.entry c.in-Some-next.line.next (λ S w. rw c.in-Tells.is at (c.in-Some-next.ensures S w)))

pub key-requires : goal.key-requires
key-requires c =
    let b = entry-cell c.loop-line.invariant c.in-Tells.entry c.in-Some-next.line.next (λ S w. rw c.in-Tells.is at (c.in-Some-next.ensures S w)) in
    (omega (arith, b.0), omega (arith, b.1), b.2)

pub overflow_add-cursor : goal.overflow_add-cursor
overflow_add-cursor c =
    omega (
      arith,
      c.key.ensures,
      entry-cell c.loop-line.invariant c.in-Tells.entry c.in-Some-next.line.next (λ S w. rw c.in-Tells.is at (c.in-Some-next.ensures S w)),
    )

pub loop-line-smaller : goal.loop-line-smaller
loop-line-smaller c =
    let f = step-further c.loop-line.invariant c.in-Tells.entry c.in-Some-next.line.next (λ S w. rw c.in-Tells.is at (c.in-Some-next.ensures S w)) in
    omega (arith, f.0, f.1)

pub loop-line-preserved : goal.loop-line-preserved
loop-line-preserved c =
    let m = c.loop-line.invariant in
    let e = c.in-Tells.entry in
    let next = c.in-Some-next.line.next in
    let told : (S : Reader) → Follows S c.loop-line.cursor c.in-Some.opening.value c.loop-line.chosen → LeadsOn c.args.text.now S c.loop-line.cursor.at (Tells e) next =
    λ S v. rw c.in-Tells.is at (c.in-Some-next.ensures S v) in
    let to : ℕ → Cursor = λ n. record { at = next; group = Some e.group; from = n + 1 } in
    subst (λ (n : ℕ). Midway c.args.text.now (to n) c.in-Some.opening.value c.if-eq.chosen) (sym c.key.ensures)
    (elim c.if-eq.branch [
      | then-eq w ↦ rw w.chosen-is (midway-chosen m e next told (same_true the_type (search rules) _ _ (sym c.eq.ensures ∙ w.if-eq.true)))
      | else-eq w ↦ rw w.chosen-is (midway-other m e next told (same_false the_type _ _ (sym c.eq.ensures ∙ w.if-eq.false)))
    ])
