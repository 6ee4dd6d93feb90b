-- The bytes passed are those of the word. Assumes nothing.
use Rattle.std.proofs.Common.{◌≡◌, ℕ, ◌+◌, ◌<◌, ◌≤◌, length, get_or}
use Rattle.line.proofs.scan.word_at.Given as goal

abbrev pub invariant-loop-i : goal.invariant-loop-i
invariant-loop-i l = (l.at + length l.word ≤ length l.text) × ((j : ℕ) → j < l.i → get_or l.text (l.at + j) 0 ≡ get_or l.word j 0)
