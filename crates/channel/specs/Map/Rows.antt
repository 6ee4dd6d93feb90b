-- What the 64 rows of the table say, each fact by one computed test over all rows: a row and the row of its way back name the same link, from the same
-- owner, in opposite directions. Assumes nothing.
use Rattle.std.specs.Prelude.{◌≡◌, ◌||◌, ℕ, ◌+◌, ◌≤◌, ◌<◌, T}
use Rattle.std.proofs.Math.Bool.{not, beq}
use Rattle.std.proofs.Math.Dec.{eqb, eqb→eq, leb, leb→le}
use Rattle.sums.specs.Tests.{below, below_at}
pub use Rattle.sums.specs.Tests.{if-so}
use Rattle.channel.specs.Map.{turns, links, owners, signs, codes, turn_of, kind_of, owner_of, sign_of, code_of, back_row, back_cell, carries, is_stored}
use Rattle.channel.specs.Map.Bools.{same_test}

module _ (i : ℕ) (l : i < 64) where
  pub row-turn : turn_of (back_row i) + turn_of i ≡ 5376
  unfolding below back_row turn_of turns
  row-turn = eqb→eq _ _ (below_at 64 (λ i. eqb (turn_of (back_row i) + turn_of i) 5376) tt i l)

  pub row-kind : kind_of (back_row i) ≡ kind_of i
  unfolding below back_row turn_of turns kind_of links
  row-kind = eqb→eq _ _ (below_at 64 (λ i. eqb (kind_of (back_row i)) (kind_of i)) tt i l)

  pub row-owner : owner_of i + 42 ≡ owner_of (back_row i) + back_cell i
  unfolding below back_row back_cell turn_of turns owner_of owners
  row-owner = eqb→eq _ _ (below_at 64 (λ i. eqb (owner_of i + 42) (owner_of (back_row i) + back_cell i)) tt i l)

  pub owner-le : owner_of i ≤ 41
  unfolding below owner_of owners
  owner-le = leb→le _ _ (below_at 64 (λ i. leb (owner_of i) 41) tt i l)

  pub row-sign : T (is_stored (code_of i)) → eqb (sign_of (back_row i)) 0 ≡ not (eqb (sign_of i) 0)
  unfolding below back_row turn_of turns sign_of signs code_of codes is_stored
  row-sign s =
      same_test _ _ (if-so (is_stored (code_of i)) _
      (below_at 64 (λ i. not (is_stored (code_of i)) || beq (eqb (sign_of (back_row i)) 0) (not (eqb (sign_of i) 0))) tt i l) s)

  pub row-stored : T (is_stored (code_of i)) → T (is_stored (code_of (back_row i)))
  unfolding below back_row turn_of turns code_of codes is_stored
  row-stored s =
      if-so (is_stored (code_of i)) (is_stored (code_of (back_row i)))
      (below_at 64 (λ i. not (is_stored (code_of i)) || is_stored (code_of (back_row i))) tt i l) s

  pub carries-stored : T (carries (code_of i)) → T (is_stored (code_of i))
  unfolding below code_of codes is_stored carries
  carries-stored c =
      if-so (carries (code_of i)) (is_stored (code_of i)) (below_at 64 (λ i. not (carries (code_of i)) || is_stored (code_of i)) tt i l) c
