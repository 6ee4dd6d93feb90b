-- Each way out is the case of the definition that the tests say. Assumes nothing.
use Rattle.std.proofs.Common.{sym, subst, ◌∙◌, T}
use borrow.Author.Tests.{ltb-true}
use Rattle.sums.specs.Tests.{so}
use Rattle.rules.specs.Rules.{beyond, under}
use Rattle.rules.proofs.rules.Goals as goal

pub returns-then-not-measures : goal.returns-then-not-measures
returns-then-not-measures c = beyond (λ t. subst T (sym c.are_measures-measures.ensures ∙ c.if-not-measures.true) t)

pub returns-then-under : goal.returns-then-under
returns-then-under c =
    under (so (sym c.are_measures-measures.ensures ∙ c.if-not-measures.false))
    (ltb-true _ _ (sym c.is_under-under.ensures ∙ c.if-under.true))
