-- `talusdish_diagonal` meets its contract: the answer of giving a tile its D fits a word. Assumes nothing.
use Rattle.std.specs.Prelude.{ℕ, ◌^◌, ◌<◌}
use Rattle.std.proofs.Common.{sym, subst, ◌∙◌}
use Rattle.model.specs.Calls.{diagonal}
use Rattle.talusdish.specs.Results.{word-done}
use Rattle.talusdish.specs.Small.{did-small}
use Rattle.talusdish.proofs.exports.talusdish_diagonal.Goals as goal

pub word_of-requires : goal.word_of-requires
word_of-requires c =
    let a = c.args in
    subst (λ (n : ℕ). n < 2 ^ 64) (sym (word-done _)) (did-small (diagonal a.row a.column a.d) _ _ c.diagonal.ensures)

pub returns : goal.returns
returns c = (_, c.word_of.ensures ∙ word-done _, c.diagonal.ensures)
