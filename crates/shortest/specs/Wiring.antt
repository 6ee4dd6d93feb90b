-- Request K8: what the search that raises prices and the least wiring keep and leave. Loads have prices throughout; a pin more is wired along tight moves, and
-- when every chosen pin is, the wires have the least length. Assumes nothing.
use Rattle.std.specs.Prelude.{◌≡◌, List, ℕ, ◌+◌, ◌≤◌, get_or}
use Rattle.price.specs.Priced.{Priced}
use Rattle.model.specs.Job.{Job}
use Rattle.model.specs.Loads.{Sound}
use Rattle.model.specs.Length.{LeastLength, held_length}
use Rattle.model.specs.Record.{job_of, load}
use Rattle.model.specs.Route.{chosen_count}
use Rattle.model.specs.Wires.{wire_count}
use Rattle.channel.specs.Map.{view}
use Rattle.channel.specs.Map.Lengths.{dart_length}
use Rattle.channel.specs.Map.Network.{net}
use Rattle.channel.specs.Copies.{front}
use Rattle.augment.specs.Laid.{BytesFit, SameButLoads}
use Rattle.augment.specs.OneMore.{OneMore}
use Rattle.augment.specs.Pins.{Held}
use Rattle.search.specs.Fill.{Cleared}
use Rattle.search.specs.Outcome.{RoutedAll}

-- the prices that a row of numbers holds
abbrev pub price_at : List ℕ → ℕ → ℕ
price_at prices u = get_or prices u 0

-- no price is above m
abbrev pub AtMost : List ℕ → ℕ → Type 0
AtMost prices m = (u : ℕ) → get_or prices u 0 ≤ m

-- loads that have these prices
pub record Arranged (J : Job) (rec prices : List ℕ) : Type 0 where
  pub held : Held J rec
  pub priced : Priced (net J) dart_length (view rec) (price_at prices)

-- some loads of the job have a wire for every chosen pin
pub record Wireable (J : Job) : Type 0 where
  pub loads : List ℕ
  pub held : Held J loads
  pub all : wire_count J (load loads) ≡ chosen_count J

-- One wire more starts, at u, the loads have prices still, no spot is marked, and no price rose by more than any complete wiring costs.
pub record Grew (J : Job) (rec prices : List ℕ) (u : ℕ) (rec' prices' marks' : List ℕ) : Type 0 where
  pub more : OneMore J rec rec' u
  pub priced : Priced (net J) dart_length (view rec') (price_at prices')
  pub cleared : Cleared marks'
  pub most : (m : ℕ) → AtMost prices m → AtMost prices' (m + 1417824)

-- The loads have prices, and a wire for every chosen pin of the record's job; only load bytes differ from the record's.
pub record Complete (rec loads : List ℕ) : Type 0 where
  pub prices : List ℕ
  pub arranged : Arranged (job_of rec) loads prices
  pub all : wire_count (job_of rec) (load loads) ≡ chosen_count (job_of rec)
  pub kept : SameButLoads (front rec) loads

-- The loads are those of a wire for every chosen pin of the record's job, together of the least length; only load bytes differ from the record's.
pub record Least (rec loads : List ℕ) : Type 0 where
  pub kept : SameButLoads (front rec) loads
  pub bytes : BytesFit loads
  pub sound : Sound (job_of rec) (load loads)
  pub all : wire_count (job_of rec) (load loads) ≡ chosen_count (job_of rec)
  pub least : LeastLength (job_of rec) (held_length (job_of rec) (load loads))

-- every wire that fits is laid, and where that is one for each chosen pin they have the least length
pub record RoutedLeast (rec rec' near near' : List ℕ) (k : ℕ) : Type 0 where
  pub routed : RoutedAll rec rec' near near' k
  pub least : k ≡ 0 → LeastLength (job_of rec) (held_length (job_of rec) (load rec'))
