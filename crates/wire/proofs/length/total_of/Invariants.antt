-- What each turn of `length::total_of` keeps: `n` is the sum of the bytes passed. Assumes nothing.
use Rattle.std.specs.Prelude.{◌≡◌, ℕ, ◌*◌, ◌≤◌, length, get_or}
use Rattle.sums.specs.Counting.{sum}
use Rattle.wire.proofs.length.total_of.Given as goal

abbrev pub invariant-loop-b : goal.invariant-loop-b
invariant-loop-b g l =
    (l.b-index ≤ length l.bytes) × (l.n ≤ 255 * l.b-index) × goal.P-IsAlwaysCallable g l.part
    × ((count : ℕ → ℕ) → ((b n : ℕ) → goal.P-post g l.part b n → n ≡ count b) → l.n ≡ sum l.b-index (λ i. count (get_or l.bytes i 0)))
