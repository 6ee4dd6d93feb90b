-- `talusdish_part` meets its contract: the answer of Part fits a word. Assumes nothing.
use Rattle.std.specs.Prelude.{ℕ, ◌^◌, ◌<◌}
use Rattle.std.proofs.Common.{sym, subst, ◌∙◌}
use Rattle.model.specs.Calls.{part}
use Rattle.talusdish.specs.Results.{word-listed}
use Rattle.talusdish.specs.Small.{did-small}
use Rattle.talusdish.proofs.exports.talusdish_part.Goals as goal

pub word_of-requires : goal.word_of-requires
word_of-requires c =
    let a = c.args in
    subst (λ (n : ℕ). n < 2 ^ 64) (sym (word-listed _)) (did-small (part a.row a.column a.index) _ _ c.part.ensures)

pub returns : goal.returns
returns c = (_, c.word_of.ensures ∙ word-listed _, c.part.ensures)
