-- What laying one wire more, and laying all, leave of a record: the contracts of the functions that operations call. Assumes nothing.
use Rattle.std.specs.Prelude.{◌≡◌, List, ℕ, ◌-◌, T, length}
use Rattle.model.specs.Route.{chosen_count, Greatest}
use Rattle.model.specs.Record.{record_size, job_of, load, Legal, over}
use Rattle.model.specs.Calls as calls
use Rattle.model.specs.Calls.{wired_in, wires_in, Shown}
use Rattle.model.specs.Wires.{wire_count}
use Rattle.channel.specs.Copies.{front}
use Rattle.search.specs.Fill.{Filled}
use Rattle.search.specs.declared.step.Progress.{Progress}
use Rattle.search.specs.declared.step.Progress.TheVariants.{Added, Full}

-- "one more pin wired, those wired stay wired"; or no byte is changed, and the record has the greatest number of wires
pub data StepDid (rec rec' : List ℕ) : Progress → Type 0 where
  more : calls.OneMore rec rec' → StepDid rec rec' Added
  full : rec' ≡ rec → Greatest (job_of rec) (wires_in rec) → StepDid rec rec' Full

-- As many wires as fit are laid in a copy of the record, in which loops may stand; k is how many chosen pins stay unwired, and the near bytes are those of
-- the smallest near side, or untouched where k is 0.
pub record FilledCopy (rec loads near near' : List ℕ) (k : ℕ) : Type 0 where
  pub marks : List ℕ
  pub filled : Filled (job_of rec) (front rec) loads marks
  pub lacks : k ≡ chosen_count (job_of rec) - wire_count (job_of rec) (load loads)
  pub shown : Shown (job_of rec) (wire_count (job_of rec) (load loads)) near near'

-- Every wire that fits is laid: a legal record of the same job, in which the pins that were wired still are, with the greatest number of wires; k is how
-- many chosen pins stay unwired, and the near bytes are those of the smallest near side, or untouched where k is 0.
pub record RoutedAll (rec rec' near near' : List ℕ) (k : ℕ) : Type 0 where
  pub legal : Legal rec'
  pub job : job_of rec' ≡ job_of rec
  pub rest : (new : List ℕ) × (length new ≡ record_size) × (rec' ≡ over new rec)
  pub kept : (r c : ℕ) → T (wired_in rec r c) → T (wired_in rec' r c)
  pub greatest : Greatest (job_of rec) (wires_in rec')
  pub lacks : k ≡ chosen_count (job_of rec) - wires_in rec'
  pub shown : Shown (job_of rec) (wires_in rec') near near'

-- what is lacking, shown by some record with every wire that fits
abbrev pub Lacks : List ℕ → List ℕ → List ℕ → ℕ → Type 0
Lacks rec near near' k = (rec' : List ℕ) × RoutedAll rec rec' near near' k
