-- What the loop finder answers: an order along which loaded darts fall behind fresh links; or a ring, with nothing left on the stack. Assumes nothing.
use Rattle.std.specs.Prelude.{List, ℕ, Option, Some, None}
use Rattle.audit.specs.Loops.{Closed, Settled}
use Rattle.audit.specs.Loops.Dfs.{Dfs}
use Rattle.audit.specs.declared.loops.Ring.{Ring}

abbrev pub Answer : (old rec fin st sl : List ℕ) → Option Ring → Type 0
Answer old rec fin st sl None = Settled old rec fin
Answer old rec fin st sl (Some r) = Closed rec st sl r.from r.to × Dfs rec fin st sl 0 r.done
