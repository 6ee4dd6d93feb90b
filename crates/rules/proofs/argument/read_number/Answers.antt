-- Each way out is the case of the definition that the tests say. Assumes nothing.
use Rattle.std.specs.Prelude.{◌≡◌, false, ℕ, zero, suc, ◌+◌, ◌*◌, ◌<◌, min, eqb}
use Rattle.std.proofs.Common.{refl, sym, ap, subst, ◌∙◌, T, length, arith, eqb→eq}
use Rattle.sums.specs.Tests.{so}
use Rattle.rules.specs.Arguments.{decimal, empty, other}
use Rattle.rules.proofs.Digits.{digits_more, decimal-more, written}
use Rattle.rules.proofs.argument.read_number.Goals as goal

some-left : (n : ℕ) → eqb n 0 ≡ false → 0 < n
some-left zero e = absurd (subst T e tt)
some-left (suc n) e = omega arith

pub returns-then-is_empty : goal.returns-then-is_empty
returns-then-is_empty c = empty (eqb→eq (length c.args.text.now) 0 (so (sym c.is_empty.ensures ∙ c.if-is_empty.true)))

pub loop-b-init : goal.loop-b-init
unfolding decimal
loop-b-init c = (refl, λ j l. absurd (omega arith))

pub returns-then-not-is_ascii_digit : goal.returns-then-not-is_ascii_digit
returns-then-not-is_ascii_digit c =
    other c.loop-b.b-index c.loop-b-test.true (λ t. subst T (sym c.is_ascii_digit.ensures.value ∙ c.if-not-is_ascii_digit.true) t)

pub loop-b-preserved : goal.loop-b-preserved
loop-b-preserved c =
    let x = c.args.text.now in
    let l = c.loop-b in (
      c.min-n.ensures ∙ (ap (λ (d : ℕ). min (10 * l.n + d) 10000000000) c.from.ensures ∙ decimal-more x l.b-index l.n l.invariant.0),
      digits_more x l.b-index l.invariant.1 (so (sym c.is_ascii_digit.ensures.value ∙ c.if-not-is_ascii_digit.false)),
    )

pub returns : goal.returns
returns c =
    let l = c.loop-b in
    written c.args.text.now l.b-index l.n (omega arith) (some-left (length c.args.text.now) (sym c.is_empty.ensures ∙ c.if-is_empty.false)) l.invariant.0 l.invariant.1
