-- `talusdish_sheet` meets its contract: the verdict of a sheet fits a word. Assumes nothing.
use Rattle.std.specs.Prelude.{ℕ, ◌^◌, ◌<◌}
use Rattle.std.proofs.Common.{sym, subst, ◌∙◌}
use Rattle.model.specs.Calls.{sheet}
use Rattle.talusdish.specs.Results.{word-verdict}
use Rattle.talusdish.specs.Small.{did-small}
use Rattle.talusdish.proofs.exports.talusdish_sheet.Goals as goal

pub word_of-requires : goal.word_of-requires
word_of-requires c =
    let a = c.args in
    subst (λ (n : ℕ). n < 2 ^ 64) (sym (word-verdict _)) (did-small (sheet a.sheet.now) _ _ c.sheet.ensures)

pub returns : goal.returns
returns c = (_, c.word_of.ensures ∙ word-verdict _, c.sheet.ensures)
