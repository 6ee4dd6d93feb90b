-- What the code calls a hop and a part of a wire's list, in the words of the definitions: a hop is the step of a dart on a lane. Assumes nothing.
use Rattle.std.specs.Prelude.{◌≡◌, List, [], ◌∷◌, ℕ, ◌+◌, ◌<◌, T, Option as Maybe, Some, None}
use Rattle.std.proofs.Common.{subst}
use Rattle.std.proofs.Math.Option.{Option, none, some}
use Rattle.sums.specs.Counting.{when}
use Rattle.model.specs.Links.{Step, PlaceKind, pin, missing, side, centre, north, east, south, west}
use Rattle.model.specs.Record.{load}
use Rattle.model.specs.Wires.{Hop, Part, unwired, to, out, past_the_end}
use Rattle.channel.specs.Map.{darts, step_of, is_link_dart}
use Rattle.wire.specs.declared.Hop.{Hop as Taken}
use Rattle.wire.specs.declared.Place.{Place}
use Rattle.wire.specs.declared.Place.TheVariants.{Missing, Pin, North, East, South, West, Centre}
use Rattle.wire.specs.declared.Part.{Part as Listed}
use Rattle.wire.specs.declared.Part.TheVariants.{Unwired, To, Out, PastTheEnd}

abbrev pub hop : ℕ → ℕ → Hop
hop d i = record { step = step_of d; lane = i }

abbrev pub hop_of : Taken → Hop
hop_of h = hop h.dart h.lane

abbrev pub as_hop : Maybe Taken → Option Hop
as_hop None = none
as_hop (Some h) = some (hop_of h)

-- the dart is a link's, and its lane carries a wire
pub record Runs (rec : List ℕ) (d i : ℕ) : Type 0 where
  pub range : d < darts
  pub linked : T (is_link_dart d)
  pub loaded : i < load rec (step_of d)

abbrev pub Running : List ℕ → Maybe Taken → Type 0
Running rec None = Unit {0}
Running rec (Some h) = Runs rec h.dart h.lane

-- the answer r is the hop o, and it carries a wire
pub record Takes (rec : List ℕ) (r : Maybe Taken) (o : Option Hop) : Type 0 where
  pub hop : as_hop r ≡ o
  pub runs : Running rec r

pub takes-as : {rec : List ℕ} {r q : Maybe Taken} {o : Option Hop} → r ≡ q → Takes rec r o → Takes rec q o
takes-as {rec} {r} {q} {o} e t = subst (λ (z : Maybe Taken). Takes rec z o) e t

-- what the five slots from a dart on have
abbrev pub lanes_at : (Step → ℕ) → ℕ → ℕ
lanes_at f d = when (is_link_dart d) (f (step_of d))

abbrev pub lanes_of : (Step → ℕ) → ℕ → List ℕ
lanes_of f d = lanes_at f d ∷ lanes_at f (d + 1) ∷ lanes_at f (d + 2) ∷ lanes_at f (d + 3) ∷ lanes_at f (d + 4) ∷ []

abbrev pub as_kind : Place → PlaceKind
as_kind Missing = missing
as_kind Pin = pin
as_kind North = side north
as_kind East = side east
as_kind South = side south
as_kind West = side west
as_kind Centre = centre

abbrev pub as_part : Listed → Part
as_part Unwired = unwired
as_part (To r c p i) = to r c (as_kind p) i
as_part (Out s i) = out (as_kind s) i
as_part PastTheEnd = past_the_end
