-- How a search from one spot along darts that pass a test stands: n spots in the queue, each with the place in the queue of the spot from which it was reached
-- and the slot that led to it; they were not marked when the search began, and they alone are marked since. Assumes nothing.
use Rattle.std.specs.Prelude.{◌≡◌, ◌≢◌, ◌⊎◌, Bool, List, ℕ, ◌+◌, ◌*◌, ◌/◌, ◌≤◌, ◌<◌, T, length, get_or}
use Rattle.model.specs.Job.{Job}
use Rattle.channel.specs.Map.{spots, rev, outside}

-- what is lent to the search is long enough
pub record Room (t q f w : List ℕ) : Type 0 where
  pub marks : spots ≤ length t
  pub queue : spots ≤ length q
  pub parents : spots ≤ length f
  pub slots : spots ≤ length w

-- the dart by which the i-th spot was reached
abbrev pub dart_to : List ℕ → List ℕ → List ℕ → ℕ → ℕ
dart_to q f w i = 8 * get_or q (get_or f i 0) 0 + get_or w i 0

-- how the i-th spot was reached
pub record Came (go : ℕ → Bool) (q f w : List ℕ) (i : ℕ) : Type 0 where
  pub falls : get_or f i 0 < i
  pub slot : get_or w i 0 < 8
  pub may : T (go (dart_to q f w i))
  pub leads : rev (dart_to q f w i) / 8 ≡ get_or q i 0

-- the marks were t₀ and are t
pub record Spread (J : Job) (go : ℕ → Bool) (start : ℕ) (t₀ t q f w : List ℕ) (n : ℕ) : Type 0 where
  pub some : 0 < n
  pub first : get_or q 0 0 ≡ start
  pub spot : (i : ℕ) → i < n → get_or q i 0 < spots
  pub fresh : (i : ℕ) → i < n → get_or t₀ (get_or q i 0) 0 ≢ 1
  pub inside : (i : ℕ) → i < n → T (outside J (get_or q i 0)) → ⊥
  pub apart : (i j : ℕ) → i < j → j < n → get_or q i 0 ≢ get_or q j 0
  pub came : (i : ℕ) → 0 < i → i < n → Came go q f w i
  pub hit : (i : ℕ) → i < n → get_or t (get_or q i 0) 0 ≡ 1
  pub kept : (x : ℕ) → get_or t₀ x 0 ≡ 1 → get_or t x 0 ≡ 1
  pub owed : (x : ℕ) → get_or t x 0 ≡ 1 → (get_or t₀ x 0 ≡ 1) ⊎ ((i : ℕ) × (i < n) × (get_or q i 0 ≡ x))
  pub same : (x : ℕ) → ((i : ℕ) → i < n → get_or q i 0 ≢ x) → get_or t x 0 ≡ get_or t₀ x 0

-- both are as long
pub record Alike (t q f w t' q' f' w' : List ℕ) : Type 0 where
  pub marks : length t' ≡ length t
  pub queue : length q' ≡ length q
  pub parents : length f' ≡ length f
  pub slots : length w' ≡ length w
