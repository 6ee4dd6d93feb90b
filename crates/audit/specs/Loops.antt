-- What the loop finder answers: that behind fresh links every loaded dart falls along an order of the spots, so that no chain of loaded darts is closed there;
-- or a closed path of loaded darts, by its spots and slots. Assumes nothing.
pub mod Dfs
pub mod Search
pub mod Answers
pub mod Slots
pub mod Marks
pub mod Stack
pub mod Rings
pub mod Turns
pub mod Fresh
pub mod Stands
use Rattle.std.specs.Prelude.{◌≡◌, Bool, true, false, List, [], ◌∷◌, ℕ, zero, suc, ◌+◌, ◌-◌, ◌*◌, ◌≤◌, ◌<◌, T, length, get_or}
use Rattle.flow.specs.Network.{Path}
use Rattle.flow.specs.Cancel.{Loaded}
use Rattle.model.specs.Job.{Job, array_fits}
use Rattle.model.specs.Links.{Place, Step}
use Rattle.model.specs.Loads.{Feasible, Trail}
use Rattle.model.specs.Record.{load}
use Rattle.channel.specs.Map.{spots, darts, view}
use Rattle.channel.specs.Map.Fresh.{is_fresh}
use Rattle.channel.specs.Map.Network.Loops.{FallsFrom}
use Rattle.channel.specs.Map.Network.{net}
use Rattle.channel.specs.Map.Origins.{origin_of}

-- what is lent to the finder is long enough: the record, the marks, the stack's spots and its slots
pub record Room (rec fin st sl : List ℕ) : Type 0 where
  pub whole : 32768 ≤ length rec
  pub marks : spots ≤ length fin
  pub stack : spots ≤ length st
  pub slots : spots ≤ length sl

-- c darts from the j-th on, their spots in st and their slots in sl
unfoldable pub ring_darts : List ℕ → List ℕ → ℕ → ℕ → List ℕ
ring_darts st sl j zero = []
ring_darts st sl j (suc c) = (8 * get_or st j 0 + get_or sl j 0) ∷ ring_darts st sl (suc j) c

-- a closed path of loaded darts from the j-th to before the n-th
pub record Closed (rec st sl : List ℕ) (j n : ℕ) : Type 0 where
  pub any : j < n
  pub within : n ≤ spots
  pub darts< : (i : ℕ) → i < n → 8 * get_or st i 0 + get_or sl i 0 < darts
  pub path : (J : Job) → Path (net J) (Loaded (view rec)) (ring_darts st sl j (n - j)) (get_or st j 0) (get_or st j 0)

-- Along fin every loaded dart from a spot of 2 or more falls, to a spot of 2 or more, and the wires of fresh links leave such spots.
pub record Settled (old rec fin : List ℕ) : Type 0 where
  pub falls : FallsFrom 2 rec (λ u. get_or fin u 0)
  pub fresh : (i : ℕ) → i < 24000 → T (is_fresh old rec i) → origin_of rec i < spots → 2 ≤ get_or fin (origin_of rec i) 0

-- b says whether a loop stands, for every job with feasible loads
pub record LoopStands (rec : List ℕ) (b : Bool) : Type 0 where
  pub yes : b ≡ true → (J : Job) → T (array_fits J.rows J.columns) → Feasible J (load rec)
      → (x : Place) × (s : Step) × (ss : List Step) × Trail J (load rec) x (s ∷ ss) x
  pub no : b ≡ false → (J : Job) → T (array_fits J.rows J.columns) → Feasible J (load rec)
      → (x : Place) (s : Step) (ss : List Step) → Trail J (load rec) x (s ∷ ss) x → ⊥
