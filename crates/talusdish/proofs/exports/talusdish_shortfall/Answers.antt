-- `talusdish_shortfall` meets its contract: the answer of Shortfall fits a word. Assumes nothing.
use Rattle.std.specs.Prelude.{ℕ, ◌^◌, ◌<◌}
use Rattle.std.proofs.Common.{sym, subst, ◌∙◌}
use Rattle.model.specs.Calls.{shortfall}
use Rattle.talusdish.specs.Results.{word-lacks}
use Rattle.talusdish.specs.Small.{did-small}
use Rattle.talusdish.proofs.exports.talusdish_shortfall.Goals as goal

pub word_of-requires : goal.word_of-requires
word_of-requires c =
    subst (λ (n : ℕ). n < 2 ^ 64) (sym (word-lacks _)) (did-small (shortfall _ _) _ _ c.shortfall.ensures)

pub returns : goal.returns
returns c = (_, c.word_of.ensures ∙ word-lacks _, c.shortfall.ensures)
