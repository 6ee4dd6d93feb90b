-- What shortening did to a record, from the least wiring of its copy: nothing where that is no shorter, since the record's own wires are then of the least
-- length; else its loads are copied back, and every chosen pin is wired as before. And what laying all wires did. Assumes nothing.
use Rattle.std.specs.Prelude.{◌≡◌, refl, ◌≢◌, List, ◌++◌, ℕ, ◌*◌, ◌≤◌, ◌<◌, T, drop}
use Rattle.std.proofs.Common.{sym, ap, subst, ◌∙◌, arith, take-append-drop}
use Rattle.sums.specs.Counting.{sum}
use Rattle.sums.specs.Tests.{both_ways}
use Rattle.sums.specs.Sums.{sum-tight}
use Rattle.model.specs.Job.{Job, is_chosen}
use Rattle.model.specs.Links.{Step}
use Rattle.model.specs.Route.{Route, chosen_count}
use Rattle.model.specs.Length.{LeastLength, held_length}
use Rattle.model.specs.Record.{record_size, job_of, load, Legal, over}
use Rattle.model.specs.Wires.{is_wired, wire_count}
use Rattle.model.specs.Calls.{wired_in, wires_in, Shortened}
use Rattle.channel.specs.Map.{spots, want, starts}
use Rattle.channel.specs.Map.Starts.{pin-spot}
use Rattle.channel.specs.Map.Network.Flows.{starts-wanted, starts-count, want-count}
use Rattle.channel.specs.Copies.{front, front-whole, front_length}
use Rattle.wire.specs.Held.{wire_routes, routes-length, routes-together, routes-held}
use Rattle.wire.specs.Families.{wires-family}
use Rattle.wire.specs.Threads.{wired-chosen}
use Rattle.augment.specs.Wired.{same-wired}
use Rattle.augment.specs.Pins.{Held}
use Rattle.search.specs.Loose.{Unlooped}
use Rattle.search.specs.Fill.{More}
use Rattle.search.specs.Copies.{front-held, new-length, new-job, new-legal, put-job, put-load, put-wired, put-legal}
use Rattle.search.specs.Routing.{wires-few, legal-held, routed-as, routed-unlooped}
use Rattle.search.specs.Outcome.{FilledCopy}
use Rattle.shortest.specs.FirstPrices.{first_price, first-shortest}
use Rattle.shortest.specs.Wiring.{Wireable, Least, RoutedLeast}

-- ---- with every chosen pin wired, a pin is wired exactly if it is chosen

starts-all : {J : Job} {rec : List ℕ} → Held J rec → wire_count J (load rec) ≡ chosen_count J → (u : ℕ) → u < spots → starts J rec u ≡ want J u
starts-all {J} {rec} H all =
    sum-tight spots (starts J rec) (want J) (starts-wanted J H.fits rec H.feasible)
    (omega (arith, want-count J H.fits, starts-count J H.fits rec H.feasible))

module _ {J : Job} {rec rec' : List ℕ} (H : Held J rec) (H' : Held J rec') (all : wire_count J (load rec) ≡ chosen_count J)
    (all' : wire_count J (load rec') ≡ chosen_count J) (r c : ℕ) where
  as-wired : T (is_chosen J r c) → is_wired J (load rec') r c ≡ is_wired J (load rec) r c
  as-wired t =
      let l = pin-spot J H.fits r c t in
      same-wired J H.fits rec rec' H.feasible H'.feasible r c t (starts-all H' all' _ l ∙ sym (starts-all H all _ l))

  pub wired-alike : is_wired J (load rec') r c ≡ is_wired J (load rec) r c
  wired-alike =
      both_ways (is_wired J (load rec') r c) (is_wired J (load rec) r c) (λ w. subst T (as-wired (wired-chosen J (load rec') r c w)) w)
      (λ w. subst T (sym (as-wired (wired-chosen J (load rec) r c w))) w)

-- ---- the least wiring of a record's copy

module _ {rec : List ℕ} (legal : Legal rec) {loads : List ℕ} (W : Least rec loads) where
  pub copy-legal : Legal loads
  copy-legal = new-legal rec legal loads W.kept W.bytes W.sound

  least-held : Held (job_of rec) loads
  least-held = subst (λ (K : Job). Held K loads) (new-job rec legal loads W.kept) (legal-held copy-legal)

  module _ {rec' : List ℕ} (back : rec' ≡ over (front loads) rec) where
    least-put : rec' ≡ over loads rec
    least-put = back ∙ ap (λ (x : List ℕ). over x rec) (front-whole loads (new-length rec legal loads W.kept))

    put-least : LeastLength (job_of rec) (held_length (job_of rec) (load rec'))
    put-least =
        subst (λ (f : Step → ℕ). LeastLength (job_of rec) (held_length (job_of rec) f)) (sym (ap load least-put ∙ put-load rec legal loads W.kept)) W.least

-- ---- the record's own wires, and the least

-- t is the length of the record's wires
module _ {rec : List ℕ} (legal : Legal rec) (all : wires_in rec ≡ chosen_count (job_of rec)) {t : ℕ} (et : t ≡ held_length (job_of rec) (load rec)) where
  abbrev J : Job
  J = job_of rec

  -- no wires for every chosen pin are shorter than the least
  least-le : (n : ℕ) → LeastLength J n → n ≤ t
  least-le n L =
      let rs : List (Route J) = wire_routes J (load rec) legal.sound in
      omega (
        arith,
        et,
        routes-length J (load rec) legal.sound,
        L.least rs (wires-family J (load rec) rs (routes-held J (load rec) legal.sound) (routes-together J (load rec) legal.sound) all),
      )

  -- its first bytes over itself
  whole : rec ≡ over (front rec) rec
  whole = sym (take-append-drop record_size rec) ∙ ap (λ (n : ℕ). front rec ++ drop n rec) (sym (front_length rec legal.long))

  left_so : LeastLength J (held_length J (load rec)) → Shortened rec rec
  left_so L =
      record {
        legal = legal;
        job = refl;
        rest = (front rec, front_length rec legal.long, whole);
        wired = λ r c. refl;
        least = L;
        still = λ M. refl;
      }

  -- wires as short as the first prices say
  pub shortened-first : {n : ℕ} → n ≡ sum spots (λ u. first_price J u * want J u) → t ≤ n → Shortened rec rec
  shortened-first e l = left_so (first-shortest rec legal all (omega (arith, et, e)))

  module _ {loads : List ℕ} (W : Least rec loads) {n : ℕ} (en : n ≡ held_length (job_of loads) (load loads)) where
    copied-length : n ≡ held_length J (load loads)
    copied-length = en ∙ ap (λ (K : Job). held_length K (load loads)) (new-job rec legal loads W.kept)

    -- The copy's wires are no shorter.
    pub shortened_same : t ≤ n → Shortened rec rec
    shortened_same l =
        let e : held_length J (load loads) ≡ held_length J (load rec) = omega (arith, et, copied-length, least-le (held_length J (load loads)) W.least) in
        left_so (subst (LeastLength J) e W.least)

    -- They are, and are copied back.
    pub shortened-copied : {rec' : List ℕ} → n < t → rec' ≡ over (front loads) rec → Shortened rec rec'
    shortened-copied {rec'} l back =
        record {
          legal = subst Legal (sym put) (put-legal rec legal loads W.kept W.bytes W.sound);
          job = ap job_of put ∙ put-job rec legal loads W.kept;
          rest = (loads, new-length rec legal loads W.kept, put);
          wired = λ r c.
              ap (λ (x : List ℕ). wired_in x r c) put ∙ put-wired rec legal loads W.kept r c
              ∙ wired-alike (legal-held legal) (least-held legal W) all W.all r c;
          least = put-least legal W back;
          still = λ M. absurd (omega (arith, et, copied-length, M.least W.least.routes W.least.family, W.least.meets));
        }
      where
        put : rec' ≡ over loads rec
        put = least-put legal W back

-- ---- all wires that fit, of the least length where none is lacking

module _ {rec : List ℕ} (legal : Legal rec) {loads near near' : List ℕ} {k : ℕ} (C : FilledCopy rec loads near near' k) where
  -- Some chosen pin stays unwired; loops are taken out.
  pub routed-short : {loads' rec' : List ℕ} → k ≢ 0 → Unlooped loads loads' → rec' ≡ over (front loads') rec → RoutedLeast rec rec' near near' k
  routed-short n U back = record { routed = routed-unlooped legal C U back; least = λ z. absurd (n z) }

  module _ (z : k ≡ 0) where
    all-filled : wire_count (job_of rec) (load loads) ≡ chosen_count (job_of rec)
    all-filled = omega (arith, C.lacks, wires-few C.filled.more.held)

    pub filled-wires : Wireable (job_of rec)
    filled-wires = record { loads = loads; held = C.filled.more.held; all = all-filled }

    -- The least wiring is copied back: every chosen pin is wired, and so are those that were.
    pub routed-least : {loads' rec' : List ℕ} → Least rec loads' → rec' ≡ over (front loads') rec → RoutedLeast rec rec' near near' k
    routed-least {loads'} W back =
        record { routed = routed-as legal C more W.sound (W.all ∙ sym all-filled) back; least = λ w. put-least legal W back }
      where
        H : Held (job_of rec) (front rec)
        H = front-held rec legal

        more : More (job_of rec) (front rec) loads'
        more =
            record {
              held = least-held legal W;
              begun = λ x l.
                  omega (arith, starts-wanted (job_of rec) H.fits (front rec) H.feasible x l, starts-all (least-held legal W) W.all x l);
              kept = W.kept;
            }
