-- `talusdish_trial` meets its contract: the answer of a trial fits a word. Assumes nothing.
use Rattle.std.specs.Prelude.{ℕ, ◌^◌, ◌<◌}
use Rattle.std.proofs.Common.{sym, subst, ◌∙◌}
use Rattle.model.specs.Calls.{trial}
use Rattle.model.specs.Trial.{trial_of}
use Rattle.talusdish.specs.Results.{word-done}
use Rattle.talusdish.specs.Small.{did-small}
use Rattle.talusdish.proofs.exports.talusdish_trial.Goals as goal

pub word_of-requires : goal.word_of-requires
word_of-requires c =
    let a = c.args in
    subst (λ (n : ℕ). n < 2 ^ 64) (sym (word-done _)) (did-small (trial (trial_of a.rows a.columns a.o a.d a.e a.seed a.chosen a.missing a.closed)) a.rec.now _ c.trial.ensures)

pub returns : goal.returns
returns c = (_, c.word_of.ensures ∙ word-done _, c.trial.ensures)
