-- The bounds of the table's entries, each by one computed test over the 64 rows. Assumes nothing.
use Rattle.std.specs.Prelude.{ℕ, ◌<◌, ltb}
use Rattle.std.proofs.Common.{ltb→lt}
use Rattle.sums.specs.Tests.{below, below_at}
use Rattle.channel.specs.Map.{turns, links, owners, signs, codes, turn_of, kind_of, owner_of, sign_of, code_of}

pub turn-bound : (i : ℕ) → i < 64 → turn_of i < 5400
unfolding below turn_of turns
turn-bound i l = ltb→lt _ _ (below_at 64 (λ i. ltb (turn_of i) 5400) tt i l)

pub kind-bound : (i : ℕ) → i < 64 → kind_of i < 15
unfolding below kind_of links
kind-bound i l = ltb→lt _ _ (below_at 64 (λ i. ltb (kind_of i) 15) tt i l)

pub owner-bound : (i : ℕ) → i < 64 → owner_of i < 42
unfolding below owner_of owners
owner-bound i l = ltb→lt _ _ (below_at 64 (λ i. ltb (owner_of i) 42) tt i l)

pub sign-bound : (i : ℕ) → i < 64 → sign_of i < 2
unfolding below sign_of signs
sign-bound i l = ltb→lt _ _ (below_at 64 (λ i. ltb (sign_of i) 2) tt i l)

pub code-bound : (i : ℕ) → i < 64 → code_of i < 16
unfolding below code_of codes
code-bound i l = ltb→lt _ _ (below_at 64 (λ i. ltb (code_of i) 16) tt i l)
