-- One wire more in the loads of a copy, without loops, is one wire more in the record; and where none fits, the record has the greatest number of wires.
-- Assumes nothing.
use Rattle.std.specs.Prelude.{◌≡◌, refl, ◌≢◌, Bool, true, false, not, ◌&&◌, List, ℕ, zero, suc, ◌+◌, ◌*◌, ◌/◌, ◌<◌, T, eqb, ltb, get_or, replicate}
use Rattle.std.proofs.Common.{sym, ap, subst, ◌∙◌, arith, eq-eqb}
use Rattle.sums.specs.Tests.{and_both, so}
use Rattle.model.specs.Job.{Job, is_chosen}
use Rattle.model.specs.Links.{pin, at, Step}
use Rattle.model.specs.Route.{Greatest}
use Rattle.model.specs.Near.{exit_of, exit}
use Rattle.model.specs.Loads.{departures, Sound}
use Rattle.model.specs.Record.{job_of, load, Legal, over}
use Rattle.model.specs.Wires.{is_wired, wire_count}
use Rattle.model.specs.Calls as calls
use Rattle.model.specs.Calls.{wired_in, wires_in}
use Rattle.wire.specs.Held.{sound-holds}
use Rattle.channel.specs.Map.{spots}
use Rattle.channel.specs.Map.Starts.{wanted-pin}
use Rattle.channel.specs.Copies.{front, front-load}
use Rattle.augment.specs.OneMore.{OneMore, wires-more, pin-gains, pin-keeps}
use Rattle.augment.specs.Pins.{Held, Unwired}
use Rattle.augment.specs.Passing.{array_size, chosen-within}
use Rattle.search.specs.Loose.{Loosened}
use Rattle.search.specs.Fill.{Cleared, Saturated}
use Rattle.search.specs.Filling.{saturated-greatest}
use Rattle.search.specs.Copies.{front-held, new-length, put-job, put-wired, put-wires, put-legal}

zeros-at : (n u : ℕ) → ◌≡◌ {A = ℕ} (get_or (replicate n 0) u 0) 0
zeros-at zero u = refl
zeros-at (suc n) zero = refl
zeros-at (suc n) (suc u) = zeros-at n u

-- marks that begin at 0 are cleared
pub zeros-cleared : (n : ℕ) → Cleared (replicate n 0)
zeros-cleared n = record { all = λ u l. zeros-at n u }

-- taking loops out takes no wire
pub loose-one : {J : Job} {rec rec' rec'' : List ℕ} {u : ℕ} → OneMore J rec rec' u → Loosened J rec' rec'' → OneMore J rec rec'' u
loose-one M L =
    record {
      feasible = L.feasible;
      bytes = L.bytes;
      begun = λ x l. L.begun x l ∙ M.begun x l;
      kept = record {
        size = L.kept.size ∙ M.kept.size;
        job = L.kept.job ∙ M.kept.job;
        front = λ i l. L.kept.front i l ∙ M.kept.front i l;
        rest = λ i l. L.kept.rest i l ∙ M.kept.rest i l;
      };
    }

-- a pin that is not chosen is not wired
unchosen-unwired : (J : Job) (f : Step → ℕ) (r c : ℕ) → T (not (is_chosen J r c)) → is_wired J f r c ≡ false
unfolding is_wired
unchosen-unwired J f r c n = by (is_chosen J r c) n
  where
    by : (b : Bool) → T (not b) → (b && ltb 0 (departures f (at pin r c))) ≡ false
    by true n = absurd n
    by false n = refl

-- a cell has one row and one column
cell-once : (r c i j : ℕ) → c < 40 → j < 40 → 40 * r + c ≡ 40 * i + j → (r ≡ i) × (c ≡ j)
cell-once r c i j l m e =
    let a : (40 * r + c) / 40 ≡ r = omega arith in
    let b : (40 * i + j) / 40 ≡ i = omega arith in
    let q : r ≡ i = sym a ∙ ap (λ (n : ℕ). n / 40) e ∙ b in
    (q, omega arith)

-- two chosen pins with one spot are the same
pin-of-spot : {J : Job} {rec : List ℕ} → Held J rec → (r c i j : ℕ) → T (is_chosen J r c) → T (is_chosen J i j) → exit (at pin r c) ≡ exit (at pin i j)
    → (r ≡ i) × (c ≡ j)
unfolding exit_of
pin-of-spot {J} H r c i j s t e =
    let (a, b) = chosen-within J r c s in
    let (p, q) = chosen-within J i j t in
    let (m, n) = array_size J H.fits in
    cell-once r c i j (omega arith) (omega arith) (omega arith)

module _ (rec : List ℕ) (legal : Legal rec) where
  abbrev J : Job
  J = job_of rec

  -- ---- one wire more

  module _ (new : List ℕ) (u : ℕ) (l : u < spots) (h : Unwired J (front rec) u) (M : OneMore J (front rec) new u) (sound : Sound J (load new)) where
    H : Held J (front rec)
    H = front-held rec legal

    added : (r c : ℕ) → T (is_chosen J r c) → u ≡ exit (at pin r c) → calls.OneMore rec (over new rec)
    added row column t e =
        record {
          row = row;
          column = column;
          legal = put-legal rec legal new M.kept M.bytes sound;
          job = put-job rec legal new M.kept;
          rest = (new, new-length rec legal new M.kept, refl);
          was = subst (λ (b : Bool). T (not b)) (front-wired row column) gains.0;
          wired = subst T (sym (put-wired rec legal new M.kept row column)) gains.1;
          number = omega (
            arith,
            put-wires rec legal new M.kept,
            wires-more J H.fits (front rec) H.feasible new u l M,
            front-wires,
          );
          others = λ r c n. put-wired rec legal new M.kept r c ∙ by r c n (is_chosen J r c) (λ s. s) (λ s. s) ∙ front-wired r c;
        }
      where
        front-wired : (r c : ℕ) → is_wired J (load (front rec)) r c ≡ wired_in rec r c
        front-wired r c = λ i. is_wired J (front-load rec legal.long i) r c

        front-wires : wire_count J (load (front rec)) ≡ wires_in rec
        front-wires = λ i. wire_count J (front-load rec legal.long i)

        gains : T (not (is_wired J (load (front rec)) row column)) × T (is_wired J (load new) row column)
        gains = pin-gains J H.fits (front rec) H.feasible new u l M row column t e

        apart : (r c : ℕ) → (T (eqb r row && eqb c column) → ⊥) → T (is_chosen J r c) → u ≢ exit (at pin r c)
        apart r c n s q =
            let (a, b) = pin-of-spot H r c row column s t (sym q ∙ e) in
            n (and_both (eqb r row) (eqb c column) (so (eq-eqb r row a)) (so (eq-eqb c column b)))

        by : (r c : ℕ) → (T (eqb r row && eqb c column) → ⊥) → (b : Bool) → (T b → T (is_chosen J r c)) → (T (not b) → T (not (is_chosen J r c)))
            → is_wired J (load new) r c ≡ is_wired J (load (front rec)) r c
        by r c n true s z = pin-keeps J H.fits (front rec) H.feasible new u l M r c (s tt) (apart r c n (s tt))
        by r c n false s z = unchosen-unwired J (load new) r c (z tt) ∙ sym (unchosen-unwired J (load (front rec)) r c (z tt))

    pub wire-added : calls.OneMore rec (over new rec)
    wire-added = let (r, c, t, e) = wanted-pin J u (omega arith) in added r c t e

  -- ---- none fits

  pub none-fits : (t : List ℕ) → Saturated J (front rec) t → Greatest J (wires_in rec)
  none-fits t S =
      let (rs, holds, together) = sound-holds J (load rec) legal.sound in
      let e : wire_count J (load (front rec)) ≡ wires_in rec = λ i. wire_count J (front-load rec legal.long i) in
      subst (λ (g : ℕ). Greatest J g) e (saturated-greatest (front-held rec legal) S rs together (holds.number ∙ sym e))
