-- `talusdish_write_text` meets its contract: the answer of Write text fits a word. Assumes nothing.
use Rattle.std.specs.Prelude.{ℕ, ◌^◌, ◌<◌}
use Rattle.std.proofs.Common.{sym, subst, ◌∙◌}
use Rattle.model.specs.Calls.{write_text}
use Rattle.talusdish.specs.Results.{word-wrote}
use Rattle.talusdish.specs.Small.{did-small}
use Rattle.talusdish.proofs.exports.talusdish_write_text.Goals as goal

pub word_of-requires : goal.word_of-requires
word_of-requires c =
    subst (λ (n : ℕ). n < 2 ^ 64) (sym (word-wrote _)) (did-small (write_text _) _ _ c.write_text.ensures)

pub returns : goal.returns
returns c = (_, c.word_of.ensures ∙ word-wrote _, c.write_text.ensures)
