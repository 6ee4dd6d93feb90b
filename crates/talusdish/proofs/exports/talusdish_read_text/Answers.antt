-- `talusdish_read_text` meets its contract: the answer of Read text fits a word. Assumes nothing.
use Rattle.std.specs.Prelude.{ℕ, ◌^◌, ◌<◌}
use Rattle.std.proofs.Common.{sym, subst, ◌∙◌}
use Rattle.model.specs.Calls.{read_text}
use Rattle.talusdish.specs.Results.{word-done}
use Rattle.talusdish.specs.Small.{did-small}
use Rattle.talusdish.proofs.exports.talusdish_read_text.Goals as goal

pub word_of-requires : goal.word_of-requires
word_of-requires c =
    subst (λ (n : ℕ). n < 2 ^ 64) (sym (word-done _)) (did-small (read_text _) _ _ c.read_text.ensures)

pub returns : goal.returns
returns c = (_, c.word_of.ensures ∙ word-done _, c.read_text.ensures)
