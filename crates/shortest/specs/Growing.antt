-- How the search that raises prices as it goes stands, as its code keeps it: n spots in the queue, of which some wait on a stack and some stand on a rim; each
-- spot in the queue waits, or all its moves lead to marked spots, or it stands on the rim and its other moves leave `least` or more. Assumes nothing.
use Rattle.std.specs.Prelude.{◌≡◌, ◌≢◌, ◌⊎◌, Bool, List, ℕ, min, ◌+◌, ◌*◌, ◌/◌, ◌≤◌, ◌<◌, T, Result, Ok, Err, length, get_or, set}
use Rattle.price.specs.Priced.{Priced}
use Rattle.model.specs.Job.{Job}
use Rattle.channel.specs.Map.{spots, rev, moves, view, outside}
use Rattle.channel.specs.Map.Lengths.{dart_length}
use Rattle.channel.specs.Map.Network.{net}
use Rattle.augment.specs.Marks.{unmarked}
use Rattle.augment.specs.Spread.{Room, Spread}
use Rattle.augment.specs.Steps.{Whole}
use Rattle.search.specs.Fill.{Cleared}
use Rattle.shortest.specs.Grow.{slack_of, tight_moves}
use Rattle.shortest.specs.Wiring.{price_at}
use Rattle.shortest.specs.declared.expand.Growth.{Growth}
use Rattle.augment.specs.declared.reach.Way.{Way}

-- what the move by slot k of u leaves, and the moves that leave nothing
abbrev pub slack_by : List ℕ → List ℕ → ℕ → ℕ → ℕ
slack_by rec prices u k = slack_of dart_length (price_at prices) rec (8 * u + k)

abbrev pub tight : Job → List ℕ → List ℕ → ℕ → Bool
tight J rec prices = tight_moves J dart_length (price_at prices) rec

-- ---- one slot

-- slot k of u is to be tried, which is the i-th in the queue
pub record Trial (job rec prices t q f w st : List ℕ) (u i : ℕ) (g : Growth) : Type 0 where
  pub whole : Whole job rec
  pub room : Room t q f w
  pub row : spots ≤ length prices
  pub stack : spots ≤ length st
  pub count : g.n + unmarked t ≤ spots
  pub few : g.top ≤ g.n
  pub early : i < g.n
  pub spot : u < spots

-- It leads outside and leaves nothing; it leads to a marked spot; it leaves something; or its spot is marked, queued and put on the stack.
pub data Tried (J : Job) (rec prices : List ℕ) (u k i edge : ℕ) (t q f w st : List ℕ) (g : Growth)
    : List ℕ → List ℕ → List ℕ → List ℕ → List ℕ → Result Growth Way → Type 0 where
  exit : T (tight J rec prices (8 * u + k)) → T (outside J (rev (8 * u + k) / 8)) → Tried J rec prices u k i edge t q f w st g t q f w st (Err (record { place = i; slot = k; count = g.n }))
  old : get_or t (rev (8 * u + k) / 8) 0 ≡ 1 → Tried J rec prices u k i edge t q f w st g t q f w st (Ok g)
  far : (l : ℕ) → 0 < slack_by rec prices u k → l ≡ min g.least (slack_by rec prices u k)
      → Tried J rec prices u k i edge t q f w st g t q f w st (Ok (record { n = g.n; top = g.top; rims = edge; least = l }))
  new : (v : ℕ) → v < spots → v ≡ rev (8 * u + k) / 8 → T (tight J rec prices (8 * u + k)) → (T (outside J v) → ⊥) → get_or t v 0 ≢ 1
      → Tried J rec prices u k i edge t q f w st g (set t v 1) (set q g.n v) (set f g.n i) (set w g.n k) (set st g.top g.n)
      (Ok (record { n = g.n + 1; top = g.top + 1; rims = g.rims; least = g.least }))

-- ---- the state

-- what was marked is marked
pub record Since (t t' : List ℕ) : Type 0 where
  pub kept : (x : ℕ) → get_or t x 0 ≡ 1 → get_or t' x 0 ≡ 1

-- each move of u by a slot below m leads to a marked spot
abbrev pub ShutTo : Job → List ℕ → List ℕ → ℕ → ℕ → Type 0
ShutTo J rec t u m = (k : ℕ) → k < m → T (moves J rec (8 * u + k)) → get_or t (rev (8 * u + k) / 8) 0 ≡ 1

-- or leaves `least` or more
abbrev pub LookedTo : Job → List ℕ → List ℕ → List ℕ → ℕ → ℕ → ℕ → Type 0
LookedTo J rec prices t u least m =
    (k : ℕ) → k < m → T (moves J rec (8 * u + k)) → (get_or t (rev (8 * u + k) / 8) 0 ≡ 1) ⊎ (least ≤ slack_by rec prices u k)

-- u, the i-th spot in the queue: it waits on the stack; it is shut; or it stands on the rim
pub data Place (J : Job) (rec prices t st rm : List ℕ) (g : Growth) (i u : ℕ) : Type 0 where
  waits : (j : ℕ) → j < g.top → get_or st j 0 ≡ i → Place J rec prices t st rm g i u
  shut : ShutTo J rec t u 8 → Place J rec prices t st rm g i u
  edge : (j : ℕ) → j < g.rims → get_or rm j 0 ≡ i → LookedTo J rec prices t u g.least 8 → Place J rec prices t st rm g i u

-- the queue, the stack and the rim
pub record Kept (J : Job) (rec prices : List ℕ) (start : ℕ) (t q f w st rm : List ℕ) (g : Growth) : Type 0 where
  pub room : Room t q f w
  pub row : spots ≤ length prices
  pub stack : spots ≤ length st
  pub rim : spots ≤ length rm
  pub count : g.n + unmarked t ≤ spots
  pub blank : List ℕ
  pub cleared : Cleared blank
  pub spread : Spread J (tight J rec prices) start blank t q f w g.n
  pub some : 1 ≤ g.least
  pub most : g.least ≤ 1500000
  pub few : g.top + g.rims ≤ g.n
  pub stacked : (j : ℕ) → j < g.top → get_or st j 0 < g.n
  pub edged : (j : ℕ) → j < g.rims → get_or rm j 0 < g.n

-- every spot in the queue has its place
pub record Growing (J : Job) (rec prices : List ℕ) (start : ℕ) (t q f w st rm : List ℕ) (g : Growth) : Type 0 where
  pub kept : Kept J rec prices start t q f w st rm g
  pub all : (i : ℕ) → i < g.n → Place J rec prices t st rm g i (get_or q i 0)

-- The i-th spot is taken from the stack, and its slots below k were tried; it is the m-th on the rim if one of them leaves something. `gap` is how many
-- spots of the queue are not on the stack.
pub record Taken (J : Job) (rec prices : List ℕ) (start : ℕ) (t q f w st rm : List ℕ) (g : Growth) (i u k m gap : ℕ) : Type 0 where
  pub kept : Kept J rec prices start t q f w st rm g
  pub here : i < g.n
  pub spot : get_or q i 0 ≡ u
  pub rest : g.n ≡ g.top + gap
  pub low : m < gap
  pub rims : (g.rims ≡ m) ⊎ (g.rims ≡ m + 1)
  pub last : get_or rm m 0 ≡ i
  pub all : (j : ℕ) → j < g.n → (j ≡ i) ⊎ Place J rec prices t st rm g j (get_or q j 0)
  pub looked : LookedTo J rec prices t u g.least k
  pub shut : g.rims ≡ m → ShutTo J rec t u k

-- ---- what comes of it

-- the way out: slot k of the i-th spot
pub record Out (J : Job) (rec prices : List ℕ) (start : ℕ) (t q f w : List ℕ) (i k n : ℕ) : Type 0 where
  pub blank : List ℕ
  pub cleared : Cleared blank
  pub spread : Spread J (tight J rec prices) start blank t q f w n
  pub within : n ≤ spots
  pub place : i < n
  pub slot : k < 8
  pub may : T (tight J rec prices (8 * get_or q i 0 + k))
  pub exit : T (outside J (rev (8 * get_or q i 0 + k) / 8))

-- a way out; or the search stands so that P holds
abbrev pub Outcome : Job → (rec prices : List ℕ) → ℕ → (t q f w st rm : List ℕ) → (Growth → Type 0) → Result Growth Way → Type 0
Outcome J rec prices start t q f w st rm P (Ok g) = Growing J rec prices start t q f w st rm g × P g
Outcome J rec prices start t q f w st rm P (Err y) = Out J rec prices start t q f w y.place y.slot y.count

-- no price rose by more than that of the spot s
pub record Lifted (s : ℕ) (prices prices' : List ℕ) : Type 0 where
  pub up : get_or prices s 0 ≤ get_or prices' s 0
  pub most : (u : ℕ) → get_or prices' u 0 + get_or prices s 0 ≤ get_or prices u 0 + get_or prices' s 0

-- the prices of the first n spots of q are raised by δ, and the others are as they were
pub record Raised (q : List ℕ) (n δ : ℕ) (prices prices' : List ℕ) : Type 0 where
  pub more : (i : ℕ) → i < n → get_or prices' (get_or q i 0) 0 ≡ get_or prices (get_or q i 0) 0 + δ
  pub same : (x : ℕ) → ((i : ℕ) → i < n → get_or q i 0 ≢ x) → get_or prices' x 0 ≡ get_or prices x 0

-- each of the first n spots of q has a price that may be raised by δ, and they differ
pub record Raisable (q : List ℕ) (n δ : ℕ) (prices : List ℕ) : Type 0 where
  pub count : n ≤ length q
  pub byte : (i : ℕ) → i < n → get_or q i 0 < length prices
  pub apart : (i j : ℕ) → i < j → j < n → get_or q i 0 ≢ get_or q j 0
  pub fits : (u : ℕ) → get_or prices u 0 + δ < 4294967296

-- the prices are raised, that of the start too, and the search stands as before
pub record Higher (J : Job) (rec prices : List ℕ) (start : ℕ) (prices' t q f w st rm : List ℕ) (g : Growth) : Type 0 where
  pub growing : Growing J rec prices' start t q f w st rm g
  pub priced : Priced (net J) dart_length (view rec) (price_at prices')
  pub lifted : Lifted start prices prices'
  pub rose : get_or prices start 0 < get_or prices' start 0

-- a round ends with a way out; or with prices that are raised
abbrev pub Rounded : Job → (rec prices : List ℕ) → ℕ → (prices' t q f w st rm : List ℕ) → Result Growth Way → Type 0
Rounded J rec prices start prices' t q f w st rm (Ok g) = Higher J rec prices start prices' t q f w st rm g
Rounded J rec prices start prices' t q f w st rm (Err y) = (prices' ≡ prices) × Out J rec prices start t q f w y.place y.slot y.count

-- the search found a way out, and its prices are prices of the loads
pub record Opened (J : Job) (rec prices : List ℕ) (start : ℕ) (prices' t q f w : List ℕ) (y : Way) : Type 0 where
  pub out : Out J rec prices' start t q f w y.place y.slot y.count
  pub priced : Priced (net J) dart_length (view rec) (price_at prices')
  pub lifted : Lifted start prices prices'
