-- Document 01, "Step": of a legal record the search gives a legal record with one more pin wired, or else the wires are the greatest number and what moves
-- reach is the smallest near side. Assumes nothing.
use Rattle.std.specs.Prelude.{◌≡◌, ◌⊎◌, Bool, not, ◌&&◌, List, ◌++◌, ℕ, ◌+◌, ◌≤◌, eqb, ltb, length, drop}
use Rattle.std.proofs.Math.Path.{refl}
use Rattle.std.proofs.Common.{sym, ap, subst, ◌∙◌, inl, inr, length-drop, ext_get_or, get_or-drop}
use Rattle.std.proofs.Math.Bool.{true, false}
use native.Mathlib.Omega.{arith}
use Rattle.std.proofs.Math.Dec.{T, eqb_refl}
use Rattle.sums.specs.Tests.{and_both}
use Rattle.model.specs.Job.{Job, array_fits, caps_fit, is_pin, is_tile, is_chosen, AddedFits}
use Rattle.model.specs.Links.{pin, at, Step}
use Rattle.model.specs.Near.{exit_of, exit, Smallest}
use Rattle.model.specs.Loads.{departures, Feasible, Sound}
use Rattle.model.specs.Record.{record_size, job_of, load, Legal, record_of, over}
use Rattle.model.specs.Route.{Greatest}
use Rattle.model.specs.Wires.{is_wired, wire_count}
use Rattle.model.specs.Calls.{OneMore as Added, wires_in}
use Rattle.model.proofs.RecordOf.{length-record}
use Rattle.model.proofs.LegalRecord.{legal-record}
use Rattle.channel.specs.Map.Places.{chosen-cell}
use Rattle.channel.specs.Map.Network.{unstarted-at}
use Rattle.augment.specs.Laid.{BytesFit, SameButLoads}
use Rattle.augment.specs.OneMore.{OneMore, unstarted-pin, wires-more, pin-gains, pin-keeps}
use Rattle.augment.specs.NoMore.{reached-smallest, reached-greatest}
use Rattle.augment.specs.Pins.{Held}
use Rattle.wire.specs.Held.{sound-holds}
use Rattle.witness.specs.Damage.{LoopFree}
use Rattle.witness.specs.NextWire.{NoWay, Wired, next-wire}

module _ (rec : List ℕ) (g : Legal rec) where
  abbrev J : Job
  J = job_of rec

  pub held : Held J rec
  held =
      record {
        fits = g.values.array;
        caps = record { job = g.values.caps; tiles = g.values.added };
        long = g.long;
        bytes = g.values.loads;
        feasible = g.sound.feasible;
      }

  -- ---- other loads

  module _ (rec' : List ℕ) (k : SameButLoads rec rec') where
    -- where only load bytes differ, it is the loads that make the record legal
    pub kept-legal : BytesFit rec' → Feasible J (load rec') → LoopFree J rec' → Legal rec'
    kept-legal bytes feasible free =
        record {
          long = omega (arith, g.long, k.size);
          values = record {
            array = to (λ K. T (array_fits K.rows K.columns)) g.values.array;
            caps = to (λ K. T (caps_fit K.O K.D K.E)) g.values.caps;
            marks = to (λ K. (r c : ℕ) → K.mark r c ≤ 2) g.values.marks;
            states = to (λ K. (r c : ℕ) → K.state r c ≤ 1) g.values.states;
            added = to AddedFits g.values.added;
            loads = bytes;
          };
          sound = to (λ K. Sound K (load rec')) (record { feasible = feasible; loops = free });
          unused = record {
            header = λ i a b. k.front i (omega arith) ∙ g.unused.header i a b;
            marks = to (λ K. (r c : ℕ) → T (not (is_pin K r c)) → K.mark r c ≡ 0) g.unused.marks;
            states = to (λ K. (r c : ℕ) → T (not (is_tile K r c)) → K.state r c ≡ 0) g.unused.states;
          };
        }
      where
        to : (P : Job → Type 0) → P J → P (job_of rec')
        to P p = subst P (sym k.job) p

    -- nothing is written behind the record
    pub kept-rest : Legal rec' → (new : List ℕ) × (length new ≡ record_size) × (rec' ≡ over new rec)
    kept-rest h = (new, size, legal-record rec' h ∙ ap (λ (l : List ℕ). new ++ l) same)
      where
        new : List ℕ
        new = record_of (job_of rec') (load rec')

        size : length new ≡ record_size
        size = length-record (job_of rec') (load rec')

        same : drop (length new) rec' ≡ drop (length new) rec
        same =
            ext_get_or 0 (drop (length new) rec') (drop (length new) rec)
            (omega (arith, length-drop (length new) rec', length-drop (length new) rec, k.size))
            (λ i l. get_or-drop (length new) rec' i 0 ∙ (k.rest (length new + i) (omega (arith, size)) ∙ sym (get_or-drop (length new) rec i 0)))

  -- ---- one wire more

  pins-apart : (r c i j : ℕ) → T (is_chosen J r c) → T (is_chosen J i j) → exit (at pin r c) ≡ exit (at pin i j) → T (eqb i r && eqb j c)
  unfolding exit_of
  pins-apart r c i j s t e =
      let (a, b) = chosen-cell J g.values.array r c s in
      let (p, q) = chosen-cell J g.values.array i j t in
      let m : i ≡ r = omega arith in
      let n : j ≡ c = omega arith in
      and_both (eqb i r) (eqb j c) (subst (λ (x : ℕ). T (eqb i x)) m (eqb_refl i)) (subst (λ (x : ℕ). T (eqb j x)) n (eqb_refl j))

  -- a pin that is not chosen has no wire
  pub idle : (f : Step → ℕ) (r c : ℕ) → T (not (is_chosen J r c)) → is_wired J f r c ≡ false
  unfolding is_wired
  idle f r c n = by (is_chosen J r c) (ltb 0 (departures f (at pin r c))) n
    where
      by : (a b : Bool) → T (not a) → (a && b) ≡ false
      by true b t = absurd t
      by false b t = refl

  added : (w : Wired J rec held) → Added rec w.loads
  added w =
      record {
        row = r;
        column = c;
        legal = legal;
        job = M.kept.job;
        rest = kept-rest rec' M.kept legal;
        was = (pin-gains J fits rec feasible rec' u w.spot M r c chosen here).0;
        wired = subst (λ (K : Job). T (is_wired K (load rec') r c)) (sym M.kept.job) (pin-gains J fits rec feasible rec' u w.spot M r c chosen here).1;
        number = ap (λ (K : Job). wire_count K (load rec')) M.kept.job ∙ wires-more J fits rec feasible rec' u w.spot M;
        others = λ i j n. ap (λ (K : Job). is_wired K (load rec') i j) M.kept.job ∙ other i j n (is_chosen J i j) (λ t. t) (λ t. t);
      }
    where
      rec' : List ℕ
      rec' = w.loads

      u : ℕ
      u = w.pin

      M : OneMore J rec rec' u
      M = w.more

      fits : T (array_fits J.rows J.columns)
      fits = g.values.array

      feasible : Feasible J (load rec)
      feasible = g.sound.feasible

      legal : Legal rec'
      legal = kept-legal rec' M.kept M.bytes M.feasible w.free

      start : (r c : ℕ) × T (is_chosen J r c) × (u ≡ exit (at pin r c))
      start = unstarted-pin J fits rec feasible u (unstarted-at J w.spot w.unwired)

      r : ℕ
      r = start.0

      c : ℕ
      c = start.1

      chosen : T (is_chosen J r c)
      chosen = start.2

      here : u ≡ exit (at pin r c)
      here = start.3

      other : (i j : ℕ) → (T (eqb i r && eqb j c) → ⊥) → (b : Bool) → (T b → T (is_chosen J i j)) → (T (not b) → T (not (is_chosen J i j)))
          → is_wired J (load rec') i j ≡ is_wired J (load rec) i j
      other i j n true p q =
          pin-keeps J fits rec feasible rec' u w.spot M i j (p tt) (λ e. n (pins-apart r c i j chosen (p tt) (sym here ∙ e)))
      other i j n false p q = idle (load rec') i j (q tt) ∙ sym (idle (load rec) i j (q tt))

  -- ---- none more

  -- the wires are the greatest number, and there is the smallest near side
  pub record Full : Type 0 where
    pub near : ℕ → Bool
    pub smallest : Smallest J near (wires_in rec)
    pub greatest : Greatest J (wires_in rec)

  full : NoWay J rec held → Full
  full n =
      let (rs, h, together) = sound-holds J (load rec) g.sound in
      record {
        near = n.set;
        smallest =
            reached-smallest J g.values.array rec g.sound.feasible n.set n.unwired n.closed n.inside n.reached;
        greatest =
            reached-greatest J g.values.array rec g.sound.feasible n.set n.unwired n.closed n.inside n.reached rs together h.number;
      }

  pub add-or-full : ((rec' : List ℕ) × Added rec rec') ⊎ Full
  add-or-full = by (next-wire J rec held)
    where
      by : Wired J rec held ⊎ NoWay J rec held → ((rec' : List ℕ) × Added rec rec') ⊎ Full
      by (inl w) = inl (w.loads, added w)
      by (inr n) = inr (full n)
