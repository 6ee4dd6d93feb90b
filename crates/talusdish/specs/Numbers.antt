-- The numbers of places as the code's table has them. Assumes nothing.
use Rattle.std.specs.Prelude.{◌≡◌, List, [], ◌∷◌, ℕ, ◌≤◌, ◌<◌, eqb, get_or}
use Rattle.std.proofs.Common.{sym, ◌∙◌, eqb→eq}
use Rattle.std.proofs.Math.ListN.{get_or-eq_default}
use Rattle.sums.specs.Tests.{below, below_at}
use Rattle.channel.specs.Map.Entered.{kind_at, by_kind}
use Rattle.talusdish.specs.Words.{place_number}

abbrev table : List ℕ
table = 5 ∷ 6 ∷ 0 ∷ 1 ∷ 2 ∷ 3 ∷ 4 ∷ 4 ∷ []

pub place-table : (k : ℕ) → k < 8 → get_or table k 0 ≡ place_number (kind_at k)
unfolding below
place-table k l = eqb→eq _ _ (below_at 8 (λ k. eqb (get_or table k 0) (get_or table k 6)) tt k l) ∙ by_kind place_number k

pub place-past : (k : ℕ) → 8 ≤ k → 6 ≡ place_number (kind_at k)
place-past k l = sym (get_or-eq_default table 6 l) ∙ by_kind place_number k
