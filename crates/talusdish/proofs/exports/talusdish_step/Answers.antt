-- `talusdish_step` meets its contract: the answer of Step fits a word. Assumes nothing.
use Rattle.std.specs.Prelude.{ℕ, ◌^◌, ◌<◌}
use Rattle.std.proofs.Common.{sym, subst, ◌∙◌}
use Rattle.model.specs.Calls.{step}
use Rattle.talusdish.specs.Results.{word-stepped}
use Rattle.talusdish.specs.Small.{did-small}
use Rattle.talusdish.proofs.exports.talusdish_step.Goals as goal

pub word_of-requires : goal.word_of-requires
word_of-requires c =
    subst (λ (n : ℕ). n < 2 ^ 64) (sym (word-stepped _)) (did-small (step _) _ _ c.step.ensures)

pub returns : goal.returns
returns c = (_, c.word_of.ensures ∙ word-stepped _, c.step.ensures)
