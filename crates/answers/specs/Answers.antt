-- Document 01, "Language forms in the code": "Where an answer is an enum, a definition sets out this paper's number and values for each of its cases."
-- Assumes nothing.
use Rattle.std.specs.Prelude.{ℕ, Result, Ok, Err}
use Rattle.model.specs.Calls.{Answer, refused, wrong_text, done, added, all_wired, short, lists, sheet_is}
use Rattle.model.specs.Sheet.{carried, fails_at}
use Rattle.wire.specs.Hops.{as_part}
use Rattle.wire.specs.declared.Part.{Part}
use Rattle.answers.specs.declared.Refusal.{Refusal}
use Rattle.answers.specs.declared.Refusal.TheVariants.{Damaged, Size, Capacities, NoSuchPlace, UnknownValue, WrongText, ShortOutput, ShortScratch, CountAboveO, Seed, Percentages, UnfitJob, UnfitSheet}
use Rattle.answers.specs.declared.Stepped.{Stepped}
use Rattle.answers.specs.declared.Stepped.TheVariants.{Added, AllWired, Short}
use Rattle.answers.specs.declared.Verdict.{Verdict}
use Rattle.answers.specs.declared.Verdict.TheVariants.{Carried, Fails}

-- the number of a refusal
abbrev pub number_of : Refusal → ℕ
number_of Damaged = 1
number_of Size = 2
number_of Capacities = 3
number_of NoSuchPlace = 4
number_of UnknownValue = 5
number_of (WrongText o) = 6
number_of ShortOutput = 7
number_of ShortScratch = 8
number_of CountAboveO = 11
number_of Seed = 12
number_of Percentages = 13
number_of UnfitJob = 14
number_of UnfitSheet = 15

-- the answer that a refusal is: that by 6 has the offset of the line
abbrev pub refused_as : Refusal → Answer
refused_as Damaged = refused 1
refused_as Size = refused 2
refused_as Capacities = refused 3
refused_as NoSuchPlace = refused 4
refused_as UnknownValue = refused 5
refused_as (WrongText o) = wrong_text o
refused_as ShortOutput = refused 7
refused_as ShortScratch = refused 8
refused_as CountAboveO = refused 11
refused_as Seed = refused 12
refused_as Percentages = refused 13
refused_as UnfitJob = refused 14
refused_as UnfitSheet = refused 15

-- the answer of an operation, where `says` is what its value says of an accepted call
abbrev pub answered : {A : Type 0} → (says : A → Answer) → Result A Refusal → Answer
answered says (Ok x) = says x
answered says (Err e) = refused_as e

-- of New, Read text, Mark, Close and the other edits, and a trial
abbrev pub as_done : Unit {0} → Answer
as_done u = done

-- of Step
abbrev pub as_stepped : Stepped → Answer
as_stepped Added = added
as_stepped AllWired = all_wired
as_stepped Short = short

-- of Part
abbrev pub as_listed : Part → Answer
as_listed p = lists (as_part p)

-- of a sheet
abbrev pub as_verdict : Verdict → Answer
as_verdict Carried = sheet_is carried
as_verdict (Fails r c) = sheet_is (fails_at r c)
