-- The bytes passed are digits, and n is their number, capped. Assumes nothing.
use Rattle.std.proofs.Common.{◌≡◌, ℕ, ◌<◌, T, get_or}
use Rattle.rules.specs.Arguments.{is_digit, decimal, capped}
use Rattle.rules.proofs.argument.read_number.Given as goal

abbrev pub invariant-loop-b : goal.invariant-loop-b
invariant-loop-b l = (l.n ≡ capped (decimal l.text l.b-index)) × ((j : ℕ) → j < l.b-index → T (is_digit (get_or l.text j 0)))
