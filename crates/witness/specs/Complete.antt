-- Request K8: loads with prices are wired along tight moves, pin after pin, until every chosen pin has a wire; then loops are taken out, and the prices stay.
-- That there is an end to it rests on some loads that have a wire for every chosen pin. Assumes nothing.
use Rattle.std.specs.Prelude.{◌≡◌, ◌⊎◌, List, ℕ, zero, suc, ◌+◌, ◌≤◌, ◌<◌}
use Rattle.std.proofs.Common.{◌∙◌, inl, inr, arith}
use Rattle.sums.specs.Tests.{below_or}
use Rattle.sums.specs.Sums.{sum-le}
use Rattle.price.specs.Priced.{Priced}
use Rattle.model.specs.Job.{Job}
use Rattle.model.specs.Route.{chosen_count}
use Rattle.model.specs.Record.{load}
use Rattle.model.specs.Wires.{wire_count}
use Rattle.channel.specs.Map.{spots, view, want, starts}
use Rattle.channel.specs.Map.Lengths.{dart_length}
use Rattle.channel.specs.Map.Network.{net}
use Rattle.channel.specs.Map.Network.Flows.{starts-count, want-count}
use Rattle.augment.specs.Laid.{SameButLoads}
use Rattle.augment.specs.OneMore.{wires-more}
use Rattle.augment.specs.Pins.{Held, Unwired}
use Rattle.search.specs.Filling.{held_more}
use Rattle.search.specs.Rings.{loose-held, loose-wires}
use Rattle.shortest.specs.PricedLaid.{priced-less}
use Rattle.witness.specs.Decide.{some-or-all}
use Rattle.witness.specs.Damage.{LoopFree}
use Rattle.witness.specs.Untangled.{Loopless, loopless}
use Rattle.witness.specs.Most.{wires-chosen}
use Rattle.witness.specs.Tight.{Grown, grown}

-- loads that have prices; all other bytes are those of `bare`
pub record Wiring (J : Job) (bare loads : List ℕ) : Type 0 where
  pub held : Held J loads
  pub prices : ℕ → ℕ
  pub priced : Priced (net J) dart_length (view loads) prices
  pub kept : SameButLoads bare loads

-- with a wire for every chosen pin
pub record Complete (J : Job) (bare : List ℕ) : Type 0 where
  pub loads : List ℕ
  pub wiring : Wiring J bare loads
  pub all : wire_count J (load loads) ≡ chosen_count J

kept_on : {rec rec' rec'' : List ℕ} → SameButLoads rec rec' → SameButLoads rec' rec'' → SameButLoads rec rec''
kept_on k m =
    record {
      size = m.size ∙ k.size;
      job = m.job ∙ k.job;
      front = λ i l. m.front i l ∙ k.front i l;
      rest = λ i l. m.rest i l ∙ k.rest i l;
    }

-- `old` has a wire for every chosen pin
module _ {J : Job} {old : List ℕ} (G : Held J old) (whole : wire_count J (load old) ≡ chosen_count J) (bare : List ℕ) where
  add : {now : List ℕ} → Wiring J bare now → (u : ℕ) → u < spots → Unwired J now u
      → (next : List ℕ) × Wiring J bare next × (wire_count J (load next) ≡ suc (wire_count J (load now)))
  add {now} W u l h =
      let H : Held J now = W.held in
      let N : Grown J now u = grown H l h G whole W.priced in (
        N.loads,
        record { held = held_more H l N.more; prices = N.prices; priced = N.priced; kept = kept_on W.kept N.more.kept },
        wires-more J H.fits now H.feasible N.loads u l N.more,
      )

  -- every chosen pin is wired, or loads with one wire more decide
  fill : (now : List ℕ) → Wiring J bare now
      → ((next : List ℕ) → Wiring J bare next → wire_count J (load next) ≡ suc (wire_count J (load now)) → Complete J bare) → Complete J bare
  fill now W more = by (some-or-all (Unwired J now) (λ u. want J u ≤ starts J now u) (λ u. below_or (starts J now u) (want J u)) spots)
    where
      by : ((u : ℕ) × (u < spots) × Unwired J now u) ⊎ ((u : ℕ) → u < spots → want J u ≤ starts J now u) → Complete J bare
      by (inl (u, l, h)) = let (next, N, e) = add W u l h in more next N e
      by (inr f) =
          record {
            loads = now;
            wiring = W;
            all = omega (
              arith,
              wires-chosen J (load now),
              want-count J W.held.fits,
              starts-count J W.held.fits now W.held.feasible,
              sum-le spots (want J) (starts J now) f,
            );
          }

  fills : (k : ℕ) (now : List ℕ) → Wiring J bare now → chosen_count J ≤ k + wire_count J (load now) → Complete J bare
  fills zero now W l = fill now W (λ next N e. absurd (omega (arith, wires-chosen J (load next))))
  fills (suc k) now W l = fill now W (λ next N e. fills k next N (omega arith))

  -- loops are taken out
  untied : (C : Complete J bare) → (D : Complete J bare) × LoopFree J D.loads
  untied C =
      let W : Wiring J bare C.loads = C.wiring in
      let U : Loopless J C.loads W.held = loopless J C.loads W.held in (
        record {
          loads = U.loads;
          wiring = record {
            held = loose-held W.held U.loose;
            prices = W.prices;
            priced = priced-less W.held W.priced U.loads U.loose.feasible U.loose.begun U.loose.less;
            kept = kept_on W.kept U.loose.kept;
          };
          all = loose-wires W.held U.loose ∙ C.all;
        },
        U.free,
      )

  pub complete : Wiring J bare bare → (C : Complete J bare) × LoopFree J C.loads
  complete W = untied (fills (chosen_count J) bare W (omega arith))
