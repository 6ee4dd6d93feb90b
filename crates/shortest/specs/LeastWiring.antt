-- The least wiring, from what was done to the copy: first prices are prices of the copy without its loads, the wires are laid along them, and loops are taken
-- out, which takes no wire. So the wires have the least length. Assumes nothing.
use Rattle.std.specs.Prelude.{◌≡◌, List, ℕ, zero, suc, ◌*◌, replicate}
use Rattle.std.proofs.Common.{sym, subst, ◌∙◌, arith}
use Rattle.price.specs.Priced.{Priced}
use Rattle.model.specs.Job.{Job}
use Rattle.model.specs.Loads.{Sound}
use Rattle.model.specs.Length.{LeastLength, held_length}
use Rattle.model.specs.Record.{job_of, load, Legal}
use Rattle.model.specs.Route.{chosen_count}
use Rattle.model.specs.Wires.{wire_count}
use Rattle.model.specs.Calls.{wires_in}
use Rattle.channel.specs.Map.{spots, view}
use Rattle.channel.specs.Map.Lengths.{dart_length}
use Rattle.channel.specs.Map.Network.{net}
use Rattle.channel.specs.Written.{unwired}
use Rattle.channel.specs.Copies.{front}
use Rattle.augment.specs.Laid.{SameButLoads}
use Rattle.augment.specs.Pins.{Held, InRows}
use Rattle.search.specs.Loose.{Loosened, Unlooped}
use Rattle.search.specs.Rings.{loose-wires}
use Rattle.search.specs.Fill.{Cleared}
use Rattle.search.specs.Copies.{new-job, new-legal}
use Rattle.search.specs.Routing.{legal-held}
use Rattle.shortest.specs.Shortest.{shortest}
use Rattle.shortest.specs.PricedLaid.{priced-less}
use Rattle.shortest.specs.FirstPrices.{first-priced}
use Rattle.shortest.specs.FirstRow.{FirstRow, row-priced, row-few}
use Rattle.shortest.specs.Wiring.{price_at, AtMost, Wireable, Complete, Least}
use Rattle.shortest.specs.Lines.{Standing, same_then, Advanced, advanced-all}
use Rattle.shortest.specs.Emptied.{emptied-none, emptied-kept, emptied-held}

-- a row of zeros
zeros-most : (n : ℕ) → AtMost (replicate n 0) 214
zeros-most zero u = omega arith
zeros-most (suc n) zero = omega arith
zeros-most (suc n) (suc u) = zeros-most n u

module _ {rec : List ℕ} (legal : Legal rec) where
  abbrev J : Job
  J = job_of rec

  -- the record's own wires
  pub own-wires : wires_in rec ≡ chosen_count J → Wireable J
  own-wires all = record { loads = rec; held = legal-held legal; all = all }

  -- how the wiring stands when it begins
  pub begun-standing : (n : ℕ) {loads loads' prices' marks : List ℕ} → loads ≡ front rec → loads' ≡ unwired loads → FirstRow J spots (replicate n 0) prices'
      → Cleared marks → Standing J loads' prices' marks
  begun-standing n {loads' = loads'} q e R C =
      record {
        arranged = record {
          held = emptied-held legal q e;
          priced = row-priced R (first-priced J legal.values.array loads' (emptied-none legal q e));
        };
        cleared = C;
        most = λ u. omega (arith, row-few R legal.values.array (zeros-most n) u);
      }

  -- and when it ends
  pub all-wired : {loads loads₁ loads₂ prices marks : List ℕ} → loads ≡ front rec → loads₁ ≡ unwired loads
      → Advanced J (InRows J 0 (2 * J.rows)) loads₁ loads₂ prices marks → Complete rec loads₂
  all-wired {prices = prices} q e A =
      record { prices = prices; arranged = A.standing.arranged; all = advanced-all A; kept = same_then (emptied-kept legal q e) A.more.kept }

  -- loops are taken out
  module _ {loads loads' : List ℕ} (C : Complete rec loads) (U : Unlooped loads loads') where
    H : Held J loads
    H = C.arranged.held

    L : Loosened J loads loads'
    L = U.loose J H

    sound : Sound J (load loads')
    sound = U.sound J H

    kept : SameButLoads (front rec) loads'
    kept = same_then C.kept L.kept

    all : wire_count J (load loads') ≡ chosen_count J
    all = loose-wires H L ∙ C.all

    priced : Priced (net J) dart_length (view loads') (price_at C.prices)
    priced = priced-less H C.arranged.priced loads' L.feasible L.begun L.less

    same-job : job_of loads' ≡ J
    same-job = new-job rec legal loads' kept

    least : LeastLength J (held_length J (load loads'))
    least =
        subst (λ (K : Job). LeastLength K (held_length K (load loads'))) same-job
        (shortest loads' (new-legal rec legal loads' kept L.bytes sound)
        (subst (λ (K : Job). Priced (net K) dart_length (view loads') (price_at C.prices)) (sym same-job) priced)
        (subst (λ (K : Job). wire_count K (load loads') ≡ chosen_count K) (sym same-job) all))

    pub least-wired : Least rec loads'
    least-wired = record { kept = kept; bytes = L.bytes; sound = sound; all = all; least = least }
