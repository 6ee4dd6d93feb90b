-- Document 02, "Rim pins leave directly": which pins have a link straight to the outside, on rows of jobs; and of the 64-byte job's one wire, "its part is
-- listed as (out p 0) and its length is 0". Assumes nothing.
use mathlib.Core.Path.{◌≡◌, refl}
use mathlib.Core.Bool.{◌&&◌}
use mathlib.Core.List.{List, [], ◌∷◌, Memᴰ}
use Prim.Native.Nat.{ℕ}
use lib.Dec.{eqb, eqb→eq}
use Rattle.sums.specs.Counting.{each, those, total, count}
use Rattle.sums.specs.Tests.{every, every-at}
use Rattle.model.specs.Job.{Job, is_open, is_chosen, is_missing}
use Rattle.model.specs.Links.{pin, outside, at, places, place_code, direct, behind_of, ahead_of, Step, go, head, may, around}
use Rattle.model.specs.Loads.{departures}
use Rattle.model.specs.Wires.{falling_ends, ends_on, arrival_at, leaving, first_loaded, hop_at, is_wired, wire_count, out, past_the_end, part_at}
use Rattle.model.specs.Length.{wire_length}
use Rattle.model.specs.Examples.{Exits, job64, directs}
use Rattle.model.proofs.FourPins.{wires_along}

abbrev exits_of : Job → ℕ → ℕ → ℕ
exits_of J r c = count (around (at pin r c)) (λ s. may J s && eqb (place_code (head J s).kind) (place_code outside))

pub directs-hold : (x : Exits) → Memᴰ x directs → exits_of x.job x.row x.column ≡ x.gives
unfolding every total may is_chosen is_missing is_open head ahead_of behind_of
directs-hold x m =
    eqb→eq (exits_of x.job x.row x.column) x.gives (every-at directs (λ y. eqb (exits_of y.job y.row y.column) y.gives) tt m)

-- the one wire of the 64-byte job
abbrev steps64 : List Step
steps64 = go direct 0 0 ∷ []

pub direct-listed :
    (wire_count job64 (wires_along steps64) ≡ 1)
    × (part_at job64 (wires_along steps64) 0 0 0 ≡ out pin 0)
    × (part_at job64 (wires_along steps64) 0 0 1 ≡ past_the_end)
    × (wire_length job64 steps64 ≡ 0)
unfolding part_at hop_at leaving first_loaded arrival_at ends_on falling_ends each is_wired wire_count departures total places those
    is_chosen is_missing is_open head ahead_of behind_of
direct-listed = (refl, refl, refl, refl)
