-- Laying wires until no more fits: what it keeps and what it leaves. Assumes nothing.
use Rattle.std.specs.Prelude.{◌≡◌, Bool, true, not, List, ℕ, ◌+◌, ◌-◌, ◌*◌, ◌≤◌, ◌<◌, T, get_or}
use Rattle.sums.specs.Counting.{when, sum}
use Rattle.model.specs.Job.{Job}
use Rattle.channel.specs.Map.{spots, want, starts}
use Rattle.augment.specs.Laid.{SameButLoads}
use Rattle.augment.specs.Marks.{marked}
use Rattle.augment.specs.Pins.{Held, Dead, Unwired, AllReached}

-- no spot is marked
pub record Cleared (t : List ℕ) : Type 0 where
  pub all : (u : ℕ) → u < spots → get_or t u 0 ≡ 0

-- rec' starts the wires of rec and more
pub record More (J : Job) (rec rec' : List ℕ) : Type 0 where
  pub held : Held J rec'
  pub begun : (x : ℕ) → x < spots → starts J rec x ≤ starts J rec' x
  pub kept : SameButLoads rec rec'

-- the marked spots are dead; and if no wire was laid since the marks were cleared, all of them are reached from unwired pins
pub record Filling (J : Job) (rec rec' t : List ℕ) (fresh : Bool) : Type 0 where
  pub more : More J rec rec'
  pub dead : Dead J rec' t
  pub reached : fresh ≡ true → AllReached J rec' t

-- No wire more fits: the marked spots are those that moves reach from the unwired pins, and none of them is outside.
pub record Saturated (J : Job) (rec t : List ℕ) : Type 0 where
  pub dead : Dead J rec t
  pub unwired : (u : ℕ) → u < spots → Unwired J rec u → T (marked t u)
  pub reached : AllReached J rec t

-- as many wires as fit
pub record Filled (J : Job) (rec rec' t : List ℕ) : Type 0 where
  pub more : More J rec rec'
  pub full : Saturated J rec' t

-- how many wires are wanted and not there
abbrev pub lacking : Job → List ℕ → ℕ
lacking J rec = sum spots (want J) - sum spots (starts J rec)

-- how many chosen pins have no wire
abbrev pub unwired_count : Job → List ℕ → ℕ
unwired_count J rec = sum spots (λ u. want J u - starts J rec u)

-- what is left to do: two turns for each wire, and one turn to look again
abbrev pub left : Job → List ℕ → Bool → ℕ
left J rec fresh = 2 * lacking J rec + when (not fresh) 1
