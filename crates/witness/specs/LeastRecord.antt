-- Request K8, "the total length is exactly the least over all families of routes": of a legal record in which every chosen pin is wired, one of the least
-- length. Of the record without its wires first prices are prices; loads that keep them and wire every chosen pin have the least length. Where they are no
-- shorter than the record's own wires, those have it too, and the record stays as it is. Assumes nothing.
use Rattle.std.specs.Prelude.{◌≡◌, refl, Bool, true, false, not, List, ◌++◌, ℕ, ◌≤◌, ◌<◌, T, length, drop}
use Rattle.std.proofs.Common.{sym, ap, subst, ◌∙◌, arith, drop_at}
use Rattle.std.proofs.Math.Decide.{dec_lt}
use Rattle.sums.specs.Sums.{sum-tight}
use Rattle.price.specs.Priced.{Priced}
use Rattle.model.specs.Job.{Job, is_chosen}
use Rattle.model.specs.Links.{pin, at, Step}
use Rattle.model.specs.Near.{exit}
use Rattle.model.specs.Loads.{Feasible}
use Rattle.model.specs.Length.{LeastLength, held_length}
use Rattle.model.specs.Route.{chosen_count}
use Rattle.model.specs.Record.{record_size, job_of, load, Legal, record_of, no_loads, unwired_record, over}
use Rattle.model.specs.Wires.{is_wired, wire_count}
use Rattle.model.specs.Calls.{wired_in, wires_in, Shortened}
use Rattle.model.proofs.RecordOf.{length-record, load-back}
use Rattle.model.proofs.Over.{load-over, anew-legal, anew-job, legal-proper}
use Rattle.model.proofs.LegalRecord.{legal-record}
use Rattle.channel.specs.Map.{spots, view, want, starts}
use Rattle.channel.specs.Map.Lengths.{dart_length}
use Rattle.channel.specs.Map.Starts.{pin-spot}
use Rattle.channel.specs.Map.Network.{net}
use Rattle.channel.specs.Map.Network.Flows.{starts-wanted, starts-count, want-count}
use Rattle.augment.specs.Wired.{same-wired}
use Rattle.augment.specs.Pins.{Held}
use Rattle.wire.specs.Held.{wire_routes, routes-length, routes-together, routes-held}
use Rattle.wire.specs.Families.{wires-family}
use Rattle.shortest.specs.FirstPrices.{first_price, first-priced}
use Rattle.shortest.specs.Shortest.{shortest}
use Rattle.witness.specs.Damage.{LoopFree}
use Rattle.witness.specs.Added.{held, kept-legal, kept-rest, idle}
use Rattle.witness.specs.Complete.{Wiring, Complete, complete}

-- as many wires start at a spot as are wanted there
record-started : {J : Job} {rec : List ℕ} → Held J rec → wire_count J (load rec) ≡ chosen_count J → (u : ℕ) → u < spots → starts J rec u ≡ want J u
record-started {J} {rec} H all =
    sum-tight spots (starts J rec) (want J) (starts-wanted J H.fits rec H.feasible)
    (omega (arith, want-count J H.fits, starts-count J H.fits rec H.feasible))

module _ (rec : List ℕ) (g : Legal rec) (all : wires_in rec ≡ chosen_count (job_of rec)) where
  abbrev J : Job
  J = job_of rec

  -- ---- the record without wires

  abbrev bare : List ℕ
  bare = over (unwired_record J) rec

  bare-legal : Legal bare
  bare-legal = anew-legal J (legal-proper rec g) rec

  bare-job : job_of bare ≡ J
  bare-job = anew-job J (legal-proper rec g) rec

  bare-none : (s : Step) → load bare s ≡ 0
  bare-none s =
      ap (λ (f : Step → ℕ). f s) (load-over (unwired_record J) (drop (length (unwired_record J)) rec) (length-record J no_loads))
      ∙ load-back J no_loads (record { small = λ x. omega arith; one_way = λ x l. refl; inside = λ x t. refl }) s

  bare-wiring : Wiring J bare bare
  bare-wiring =
      record {
        held = subst (λ (K : Job). Held K bare) bare-job (held bare bare-legal);
        prices = first_price J;
        priced = first-priced J g.values.array bare bare-none;
        kept = record { size = refl; job = refl; front = λ i l. refl; rest = λ i l. refl };
      }

  -- ---- the loads of the least length

  best : (C : Complete J bare) × LoopFree J C.loads
  best = complete (held rec g) all bare bare-wiring

  abbrev new : List ℕ
  new = best.0.loads

  W : Wiring J bare new
  W = best.0.wiring

  new-job : job_of new ≡ J
  new-job = W.kept.job ∙ bare-job

  new-legal : Legal new
  new-legal =
      kept-legal bare bare-legal new W.kept W.held.bytes (subst (λ (K : Job). Feasible K (load new)) (sym bare-job) W.held.feasible)
      (subst (λ (K : Job). LoopFree K new) (sym bare-job) best.1)

  new-least : LeastLength J (held_length J (load new))
  new-least =
      subst (λ (K : Job). LeastLength K (held_length K (load new))) new-job
      (shortest new new-legal (subst (λ (K : Job). Priced (net K) dart_length (view new) W.prices) (sym new-job) W.priced)
      (subst (λ (K : Job). wire_count K (load new) ≡ chosen_count K) (sym new-job) best.0.all))

  new-rest : (x : List ℕ) × (length x ≡ record_size) × (new ≡ over x rec)
  new-rest =
      let (x, e, q) = kept-rest bare bare-legal new W.kept new-legal in
      let s : length (unwired_record J) ≡ length x = length-record J no_loads ∙ sym e in (
        x,
        e,
        q ∙ ap (λ (l : List ℕ). x ++ l) (drop_at (unwired_record J) (drop (length (unwired_record J)) rec) (length x) s ∙ ap (λ (n : ℕ). drop n rec) s),
      )

  -- every chosen pin is wired in both, and no other pin is
  new-wired : (r c : ℕ) → wired_in new r c ≡ wired_in rec r c
  new-wired r c = ap (λ (K : Job). is_wired K (load new) r c) new-job ∙ by (is_chosen J r c) (λ t. t) (λ t. t)
    where
      by : (b : Bool) → (T b → T (is_chosen J r c)) → (T (not b) → T (not (is_chosen J r c))) → is_wired J (load new) r c ≡ is_wired J (load rec) r c
      by true p q =
          let l : exit (at pin r c) < spots = pin-spot J g.values.array r c (p tt) in
          same-wired J g.values.array rec new g.sound.feasible W.held.feasible r c (p tt)
          (record-started W.held best.0.all (exit (at pin r c)) l ∙ sym (record-started (held rec g) all (exit (at pin r c)) l))
      by false p q = idle rec g (load new) r c (q tt) ∙ sym (idle rec g (load rec) r c (q tt))

  -- ---- the shorter of the two

  -- wires no longer than the least length have it
  own-least : held_length J (load rec) ≤ held_length J (load new) → LeastLength J (held_length J (load rec))
  own-least l =
      record {
        routes = wire_routes J (load rec) g.sound;
        family =
            wires-family J (load rec) (wire_routes J (load rec) g.sound) (routes-held J (load rec) g.sound) (routes-together J (load rec) g.sound) all;
        meets = routes-length J (load rec) g.sound;
        least = λ rs F. omega (arith, new-least.least rs F);
      }

  moved : held_length J (load new) < held_length J (load rec) → Shortened rec new
  moved l =
      record {
        legal = new-legal;
        job = new-job;
        rest = new-rest;
        wired = new-wired;
        least = new-least;
        still = λ L. absurd (omega (arith, L.least new-least.routes new-least.family, new-least.meets));
      }

  left : held_length J (load rec) ≤ held_length J (load new) → Shortened rec rec
  left l =
      record {
        legal = g;
        job = refl;
        rest = (record_of J (load rec), length-record J (load rec), legal-record rec g);
        wired = λ r c. refl;
        least = own-least l;
        still = λ L. refl;
      }

  -- A record of the least length, which is the record itself where that has it.
  pub shortened : (rec' : List ℕ) × Shortened rec rec'
  shortened = by (dec_lt (held_length J (load new)) (held_length J (load rec)))
    where
      by : Dec (held_length J (load new) < held_length J (load rec)) → (rec' : List ℕ) × Shortened rec rec'
      by (yes l) = (new, moved l)
      by (no n) = (rec, left (omega arith))
