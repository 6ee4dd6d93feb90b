-- What one slot, one spot and the whole search do to the marks and the queue. Assumes nothing.
use Rattle.std.specs.Prelude.{◌≡◌, ◌≢◌, Bool, ◌&&◌, List, ℕ, ◌+◌, ◌*◌, ◌/◌, ◌≤◌, ◌<◌, T, Result, Ok, Err, length, get_or, set}
use Rattle.model.specs.Job.{Job}
use Rattle.channel.specs.Map.{spots, rev, outside, moves}
use Rattle.augment.specs.Marks.{unmarked}
use Rattle.augment.specs.Spread.{Room, Spread}
use Rattle.augment.specs.declared.reach.Way.{Way}

-- both records are whole
pub record Whole (job rec : List ℕ) : Type 0 where
  pub asked : 32768 ≤ length job
  pub loads : 32768 ≤ length rec

-- the h-th of n spots in the queue is to be expanded
pub record Ready (job rec t q f w : List ℕ) (u h n : ℕ) : Type 0 where
  pub whole : Whole job rec
  pub room : Room t q f w
  pub count : n + unmarked t ≤ spots
  pub early : h < n
  pub spot : u < spots

-- slot k of u: it leads outside; it leads nowhere new; or its spot is marked and queued
pub data Tried (J : Job) (rec : List ℕ) (u k h : ℕ) (t q f w : List ℕ) (n : ℕ) : List ℕ → List ℕ → List ℕ → List ℕ → Result ℕ Way → Type 0 where
  exit : T (moves J rec (8 * u + k)) → T (outside J (rev (8 * u + k) / 8)) → Tried J rec u k h t q f w n t q f w (Err (record { place = h; slot = k; count = n }))
  old : (T (moves J rec (8 * u + k)) → get_or t (rev (8 * u + k) / 8) 0 ≡ 1) → Tried J rec u k h t q f w n t q f w (Ok n)
  new : (v : ℕ) → v < spots → v ≡ rev (8 * u + k) / 8 → T (moves J rec (8 * u + k)) → (T (outside J v) → ⊥) → get_or t v 0 ≢ 1
      → Tried J rec u k h t q f w n (set t v 1) (set q n v) (set f n h) (set w n k) (Ok (n + 1))

-- the slots of u below k were tried
pub record Grown (J : Job) (rec : List ℕ) (u k h : ℕ) (t q f w : List ℕ) (n : ℕ) (t' q' f' w' : List ℕ) (n' : ℕ) : Type 0 where
  pub room : Room t' q' f' w'
  pub count : n' + unmarked t' ≤ spots
  pub up : n ≤ n'
  pub keep : (i : ℕ) → i < n → get_or q' i 0 ≡ get_or q i 0
  pub marks : (x : ℕ) → get_or t x 0 ≡ 1 → get_or t' x 0 ≡ 1
  pub early : (b : ℕ) → h < b → ((i : ℕ) → 0 < i → i < n → get_or f i 0 < b) → (i : ℕ) → 0 < i → i < n' → get_or f' i 0 < b
  pub done : (j : ℕ) → j < k → T (moves J rec (8 * u + j)) → get_or t' (rev (8 * u + j) / 8) 0 ≡ 1
  pub spread : (start : ℕ) (t₀ : List ℕ) → get_or q h 0 ≡ u → Spread J (moves J rec) start t₀ t q f w n → Spread J (moves J rec) start t₀ t' q' f' w' n'

-- slot k of u leads outside, and those before it were tried
pub record Left (J : Job) (rec : List ℕ) (u h : ℕ) (t q f w : List ℕ) (n : ℕ) (t' q' f' w' : List ℕ) (y : Way) : Type 0 where
  pub place : y.place ≡ h
  pub slot : y.slot < 8
  pub may : T (moves J rec (8 * u + y.slot))
  pub exit : T (outside J (rev (8 * u + y.slot) / 8))
  pub grown : Grown J rec u y.slot h t q f w n t' q' f' w' y.count

-- the slots of u were tried, up to one that leads outside if there is one
abbrev pub Expanded : Job → List ℕ → ℕ → ℕ → (t q f w : List ℕ) → ℕ → (t' q' f' w' : List ℕ) → Result ℕ Way → Type 0
Expanded J rec u h t q f w n t' q' f' w' (Ok n') = Grown J rec u 8 h t q f w n t' q' f' w' n'
Expanded J rec u h t q f w n t' q' f' w' (Err y) = Left J rec u h t q f w n t' q' f' w' y

-- the first h spots in the queue are expanded: each of their moves leads to a marked spot
abbrev pub Done : Job → List ℕ → List ℕ → List ℕ → ℕ → Type 0
Done J rec t q h = (i : ℕ) → i < h → (k : ℕ) → k < 8 → T (moves J rec (8 * get_or q i 0 + k)) → get_or t (rev (8 * get_or q i 0 + k) / 8) 0 ≡ 1

-- the state of the search: each spot in the queue was reached from one that is expanded
pub record Front (J : Job) (rec : List ℕ) (start : ℕ) (t₀ t q f w : List ℕ) (h n : ℕ) : Type 0 where
  pub room : Room t q f w
  pub count : n + unmarked t ≤ spots
  pub le : h ≤ n
  pub spread : Spread J (moves J rec) start t₀ t q f w n
  pub early : (i : ℕ) → 0 < i → i < n → get_or f i 0 < h
  pub done : Done J rec t q h

-- slot k of u is a move that leads outside
unfoldable pub leaves : Job → List ℕ → ℕ → ℕ → Bool
leaves J rec u k = moves J rec (8 * u + k) && outside J (rev (8 * u + k) / 8)

-- slot k of the j-th spot leads outside
pub record Found (J : Job) (rec : List ℕ) (start : ℕ) (t₀ t q f w : List ℕ) (j k n : ℕ) : Type 0 where
  pub spread : Spread J (moves J rec) start t₀ t q f w n
  pub within : n ≤ spots
  pub place : j < n
  pub slot : k < 8
  pub may : T (moves J rec (8 * get_or q j 0 + k))
  pub exit : T (outside J (rev (8 * get_or q j 0 + k) / 8))

-- what moves reach: n spots, which are all expanded
pub record Exhausted (J : Job) (rec : List ℕ) (start : ℕ) (t₀ t q f w : List ℕ) (n : ℕ) : Type 0 where
  pub spread : Spread J (moves J rec) start t₀ t q f w n
  pub within : n ≤ spots
  pub done : Done J rec t q n

-- a way out; or none
abbrev pub Searched : Job → List ℕ → ℕ → (t₀ t q f w : List ℕ) → Result ℕ Way → Type 0
Searched J rec start t₀ t q f w (Ok n) = Exhausted J rec start t₀ t q f w n
Searched J rec start t₀ t q f w (Err y) = Found J rec start t₀ t q f w y.place y.slot y.count

-- where a search may begin
pub record Fresh (J : Job) (t : List ℕ) (start : ℕ) : Type 0 where
  pub spot : start < spots
  pub new : get_or t start 0 ≢ 1
  pub inside : T (outside J start) → ⊥
