-- `talusdish_new` meets its contract: the answer of New fits a word. Assumes nothing.
use Rattle.std.specs.Prelude.{ℕ, ◌^◌, ◌<◌}
use Rattle.std.proofs.Common.{sym, subst, ◌∙◌}
use Rattle.model.specs.Calls.{new}
use Rattle.talusdish.specs.Results.{word-done}
use Rattle.talusdish.specs.Small.{did-small}
use Rattle.talusdish.proofs.exports.talusdish_new.Goals as goal

pub word_of-requires : goal.word_of-requires
word_of-requires c =
    let a = c.args in
    subst (λ (n : ℕ). n < 2 ^ 64) (sym (word-done _)) (did-small (new a.rows a.columns a.o a.d a.e) a.rec.now _ c.new.ensures)

pub returns : goal.returns
returns c = (_, c.word_of.ensures ∙ word-done _, c.new.ensures)
