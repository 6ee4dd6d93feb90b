-- The word of a result is that of the answer: the value of what an accepted call gives, with code 0, or the word of the refusal. Assumes nothing.
use Rattle.std.specs.Prelude.{◌≡◌, refl, ℕ, ◌+◌, ◌*◌, Result, Ok, Err}
use Rattle.model.specs.Calls.{lacks, wrote}
use Rattle.wire.specs.Hops.{as_part}
use Rattle.wire.specs.declared.Part.{Part}
use Rattle.answers.specs.Answers.{answered, refused_as, as_done, as_stepped, as_listed, as_verdict}
use Rattle.answers.specs.declared.Refusal.{Refusal}
use Rattle.answers.specs.declared.Stepped.{Stepped}
use Rattle.answers.specs.declared.Stepped.TheVariants.{Added, AllWired, Short}
use Rattle.answers.specs.declared.Verdict.{Verdict}
use Rattle.answers.specs.declared.Verdict.TheVariants.{Carried, Fails}
use Rattle.talusdish.specs.Words.{number, part_number, word}

-- an accepted call that gives nothing
abbrev pub no_value : Unit {0} → ℕ
no_value u = 0

-- of Step "0 added, 1 all wired, 2 short"
abbrev pub step_number : Stepped → ℕ
step_number Added = 0
step_number AllWired = 1
step_number Short = 2

-- 0 carried, else 1 and the row and the column of the first failing tile
abbrev pub tile_number : Verdict → ℕ
tile_number Carried = 0
tile_number (Fails r c) = number 1 0 0 r c

-- the word of a result, where `number` is the value of what an accepted call gives
abbrev pub word_in : {A : Type 0} → (number : A → ℕ) → Result A Refusal → ℕ
word_in number (Ok x) = 256 * number x + 0
word_in number (Err e) = word (refused_as e)

pub word-done : (r : Result (Unit {0}) Refusal) → word_in no_value r ≡ word (answered as_done r)
word-done (Ok u) = refl
word-done (Err e) = refl

pub word-stepped : (r : Result Stepped Refusal) → word_in step_number r ≡ word (answered as_stepped r)
word-stepped (Ok Added) = refl
word-stepped (Ok AllWired) = refl
word-stepped (Ok Short) = refl
word-stepped (Err e) = refl

pub word-lacks : (r : Result ℕ Refusal) → word_in (λ n. n) r ≡ word (answered lacks r)
word-lacks (Ok n) = refl
word-lacks (Err e) = refl

pub word-wrote : (r : Result ℕ Refusal) → word_in (λ n. n) r ≡ word (answered wrote r)
word-wrote (Ok n) = refl
word-wrote (Err e) = refl

pub word-listed : (r : Result Part Refusal) → word_in (λ p. part_number (as_part p)) r ≡ word (answered as_listed r)
word-listed (Ok p) = refl
word-listed (Err e) = refl

pub word-verdict : (r : Result Verdict Refusal) → word_in tile_number r ≡ word (answered as_verdict r)
word-verdict (Ok Carried) = refl
word-verdict (Ok (Fails r c)) = refl
word-verdict (Err e) = refl
