-- The state of the loop finder. fin has 0 for a spot that is not seen, 1 for one on the stack, and 2 more than the number of those done before it for one
-- that is done; st has the spots on the stack, and sl the slots at which they stand, each with 8 times the loaded slots from it on, as bits. Assumes nothing.
use Rattle.std.specs.Prelude.{◌≡◌, ◌≢◌, ◌⊎◌, List, ℕ, ◌+◌, ◌*◌, ◌/◌, ◌%◌, ◌≤◌, ◌<◌, T, eqb, get_or, set}
use Rattle.sums.specs.Counting.{when, sum}
use Rattle.channel.specs.Map.{spots, rev, view}
use Rattle.channel.specs.Map.Fresh.{is_fresh}
use Rattle.channel.specs.Map.LoadedSlots.{loaded_from}
use Rattle.channel.specs.Map.Origins.{origin_of}
use Rattle.audit.specs.Loops.{Room}

-- slot k of u is loaded, and leads to v
pub record Edge (rec : List ℕ) (u k v : ℕ) : Type 0 where
  pub spot : u < spots
  pub slot : k < 5
  pub laden : 0 < view rec (8 * u + k)
  pub leads : rev (8 * u + k) / 8 ≡ v

-- no spot is seen
pub record Cleared (fin : List ℕ) : Type 0 where
  pub all : (u : ℕ) → u < spots → get_or fin u 0 ≡ 0

-- k is the first slot of u from k0 on that leads to a spot that is not done, or 5 or more
pub record Scanned (rec fin : List ℕ) (u k0 k : ℕ) : Type 0 where
  pub past : (j v : ℕ) → k0 ≤ j → j < k → Edge rec u j v → 2 ≤ get_or fin v 0
  pub edge : k < 5 → Edge rec u k (rev (8 * u + k) / 8)
  pub live : k < 5 → get_or fin (rev (8 * u + k) / 8) 0 < 2

-- beside a slot of u, s has 8 times the loaded slots from it on
abbrev pub Rest : List ℕ → ℕ → ℕ → Type 0
Rest rec u s = s / 8 ≡ loaded_from rec u (s % 8)

-- the slot of s is found from that of s0 on
pub record Picked (rec fin : List ℕ) (u s0 s : ℕ) : Type 0 where
  pub found : Scanned rec fin u (s0 % 8) (s % 8)
  pub rest : Rest rec u s
  pub byte : s < 256

-- the slots alone, of the first n
pub record Bared (sl : List ℕ) (n : ℕ) (sl' : List ℕ) : Type 0 where
  pub slot : (i : ℕ) → i < n → get_or sl' i 0 ≡ get_or sl i 0 % 8

-- i is where v first stands among the first n of st, or n
pub record Placed (st : List ℕ) (n v i : ℕ) : Type 0 where
  pub within : i ≤ n
  pub before : (j : ℕ) → j < i → get_or st j 0 ≢ v
  pub here : i < n → get_or st i 0 ≡ v

-- how many spots are not seen
abbrev pub unseen : List ℕ → ℕ
unseen fin = sum spots (λ u. when (eqb (get_or fin u 0) 0) 1)

-- the first n spots of st are not seen any more
pub record Forgotten (st : List ℕ) (n : ℕ) (fin fin' : List ℕ) : Type 0 where
  pub gone : (i : ℕ) → i < n → get_or fin' (get_or st i 0) 0 ≡ 0
  pub each : (u : ℕ) → (get_or fin' u 0 ≡ 0) ⊎ (get_or fin' u 0 ≡ get_or fin u 0)
  pub same : (u : ℕ) → ((i : ℕ) → i < n → get_or st i 0 ≢ u) → get_or fin' u 0 ≡ get_or fin u 0
  pub count : unseen fin' ≤ unseen fin + n

-- n spots on the stack, and m done
pub record Dfs (rec fin st sl : List ℕ) (n m : ℕ) : Type 0 where
  pub room : Room rec fin st sl
  pub count : unseen fin + n + m ≤ spots
  pub small : (u : ℕ) → u < spots → get_or fin u 0 < m + 2
  pub on : (i : ℕ) → i < n → (get_or st i 0 < spots) × (get_or fin (get_or st i 0) 0 ≡ 1)
  pub off : (u : ℕ) → u < spots → get_or fin u 0 ≡ 1 → (i : ℕ) × (i < n) × (get_or st i 0 ≡ u)
  pub apart : (i j : ℕ) → i < j → j < n → get_or st i 0 ≢ get_or st j 0
  pub link : (i : ℕ) → i + 1 < n → Edge rec (get_or st i 0) (get_or sl i 0 % 8) (get_or st (i + 1) 0)
  pub past : (i : ℕ) → i < n → (k v : ℕ) → k < get_or sl i 0 % 8 → Edge rec (get_or st i 0) k v → 2 ≤ get_or fin v 0
  pub rest : (i : ℕ) → i < n → Rest rec (get_or st i 0) (get_or sl i 0)
  pub falls : (u : ℕ) → u < spots → 2 ≤ get_or fin u 0 → (k v : ℕ) → Edge rec u k v → (2 ≤ get_or fin v 0) × (get_or fin v 0 < get_or fin u 0)

-- what was seen stays seen
abbrev pub Kept : List ℕ → List ℕ → Type 0
Kept fin fin' = (u : ℕ) → get_or fin u 0 ≢ 0 → get_or fin' u 0 ≢ 0

-- besides, no other is seen
pub record Still (fin fin' : List ℕ) : Type 0 where
  pub kept : Kept fin fin'
  pub count : unseen fin' ≡ unseen fin

-- v is not seen, and the top of n spots on the stack leads to it
pub record Aimed (rec fin st sl : List ℕ) (n m v : ℕ) : Type 0 where
  pub state : Dfs rec fin st sl n m
  pub spot : v < spots
  pub blank : get_or fin v 0 ≡ 0
  pub edge : (i : ℕ) → n ≡ i + 1 → Edge rec (get_or st i 0) (get_or sl i 0 % 8) v

-- v is the n-th on the stack, at its first slot
pub record Entered (rec fin st sl : List ℕ) (n v : ℕ) (fin' st' sl' : List ℕ) : Type 0 where
  pub marks : fin' ≡ set fin v 1
  pub stack : st' ≡ set st n v
  pub slots : sl' ≡ set sl n (8 * loaded_from rec v 0)

-- the spot of the i-th load byte is seen, if its link is fresh
abbrev pub Begun : List ℕ → List ℕ → List ℕ → ℕ → Type 0
Begun old rec fin i = T (is_fresh old rec i) → origin_of rec i < spots → get_or fin (origin_of rec i) 0 ≢ 0
