-- `talusdish_close` meets its contract: the answer of Close fits a word. Assumes nothing.
use Rattle.std.specs.Prelude.{ℕ, ◌^◌, ◌<◌}
use Rattle.std.proofs.Common.{sym, subst, ◌∙◌}
use Rattle.model.specs.Calls.{close}
use Rattle.talusdish.specs.Results.{word-done}
use Rattle.talusdish.specs.Small.{did-small}
use Rattle.talusdish.proofs.exports.talusdish_close.Goals as goal

pub word_of-requires : goal.word_of-requires
word_of-requires c =
    let a = c.args in
    subst (λ (n : ℕ). n < 2 ^ 64) (sym (word-done _)) (did-small (close a.row a.column a.state) _ _ c.close.ensures)

pub returns : goal.returns
returns c = (_, c.word_of.ensures ∙ word-done _, c.close.ensures)
