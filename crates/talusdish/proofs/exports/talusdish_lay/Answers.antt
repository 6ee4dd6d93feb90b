-- `talusdish_lay` meets its contract: the answer of setting a count fits a word. Assumes nothing.
use Rattle.std.specs.Prelude.{ℕ, ◌^◌, ◌<◌}
use Rattle.std.proofs.Common.{sym, subst, ◌∙◌}
use Rattle.model.specs.Calls.{lay}
use Rattle.talusdish.specs.Results.{word-done}
use Rattle.talusdish.specs.Small.{did-small}
use Rattle.talusdish.proofs.exports.talusdish_lay.Goals as goal

pub word_of-requires : goal.word_of-requires
word_of-requires c =
    let a = c.args in
    subst (λ (n : ℕ). n < 2 ^ 64) (sym (word-done _)) (did-small (lay a.row a.column a.side a.count) _ _ c.lay.ensures)

pub returns : goal.returns
returns c = (_, c.word_of.ensures ∙ word-done _, c.lay.ensures)
