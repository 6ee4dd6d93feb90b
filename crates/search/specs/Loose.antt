-- What taking loops out keeps and answers. Assumes nothing.
use Rattle.std.specs.Prelude.{◌≡◌, List, ◌∷◌, ℕ, ◌+◌, ◌*◌, ◌≤◌, ◌<◌, length, get_or}
use Rattle.model.specs.Job.{Job}
use Rattle.model.specs.Links.{Place, Step}
use Rattle.model.specs.Loads.{Feasible, Trail, Sound}
use Rattle.model.specs.Record.{load}
use Rattle.channel.specs.Map.{spots, darts, view, starts}
use Rattle.augment.specs.Laid.{BytesFit, SameButLoads}
use Rattle.audit.specs.Loops.{Room}
use Rattle.augment.specs.Pins.{Held}

-- rec' has the wires of rec's pins, and no more load anywhere
pub record Loosened (J : Job) (rec rec' : List ℕ) : Type 0 where
  pub feasible : Feasible J (load rec')
  pub bytes : BytesFit rec'
  pub begun : (x : ℕ) → x < spots → starts J rec' x ≡ starts J rec x
  pub less : (d : ℕ) → d < darts → view rec' d ≤ view rec d
  pub kept : SameButLoads rec rec'

-- the darts to be taken out are darts
pub record Ringed (rec st sl : List ℕ) (n : ℕ) : Type 0 where
  pub whole : 32768 ≤ length rec
  pub stack : n ≤ length st
  pub slots : n ≤ length sl
  pub darts< : (i : ℕ) → i < n → 8 * get_or st i 0 + get_or sl i 0 < darts

-- what is lent to the untangling, and that the loads are those of some job
pub record Tangled (old rec fin st sl : List ℕ) : Type 0 where
  pub before : 32768 ≤ length old
  pub room : Room rec fin st sl
  pub job : Job
  pub held : Held job rec

-- for every job of which the loads are feasible they still are, with the same starts; and if no loop of theirs
-- is one of the old loads, none stands
pub record Freed (old rec rec' : List ℕ) : Type 0 where
  pub loose : (J : Job) → Held J rec → Loosened J rec rec'
  pub sound : (J : Job) → Held J rec
      → ((x : Place) (s : Step) (ss : List Step) → Trail J (load rec') x (s ∷ ss) x → Trail J (load old) x (s ∷ ss) x → ⊥) → Sound J (load rec')

-- for every job of which the loads are feasible they still are, with the same starts, and no loop stands
pub record Unlooped (rec rec' : List ℕ) : Type 0 where
  pub loose : (J : Job) → Held J rec → Loosened J rec rec'
  pub sound : (J : Job) → Held J rec → Sound J (load rec')
