-- What a host's five numbers are after `talusdish_rules`: the figures of the answer, or what they were. Assumes nothing.
use Rattle.std.specs.Prelude.{ℕ, Ok, Err}
use Rattle.rules.specs.declared.Figures.{Figures}
use Rattle.rules.specs.Rules.{Answer}

-- O and its remainder, k and what it leaves, D
abbrev pub figures : ℕ → ℕ → ℕ → ℕ → ℕ → Figures
figures O remainder k left D = record { orthogonal = O; remainder = remainder; count = k; left = left; diagonal = D }

abbrev pub stored : Answer → Figures → Figures
stored (Ok f) before = f
stored (Err e) before = before
