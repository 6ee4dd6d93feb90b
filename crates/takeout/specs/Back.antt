-- From a hop of a wire back to its pin: the hop before it has the lane whose partner it leaves by, and going on from there comes to it again. Where a chosen
-- pin is left, the hop is the first of that pin's wire. No wire has more than 11,201 hops, so the walk ends. Assumes nothing.
use Rattle.std.specs.Prelude.{◌≡◌, refl, ◌⊎◌, Bool, true, false, ◌&&◌, List, eqb, Option as Maybe, Some, None}
use Rattle.std.proofs.Common.{sym, subst, ◌∙◌, inl, inr, eq-eqb}
use Rattle.std.proofs.Math.Path.{ap}
use Rattle.std.proofs.Math.Option.{Option, none, some}
use Prim.Native.Nat.{ℕ, suc, ◌+◌, ◌-◌, ◌*◌, ◌/◌, ◌%◌, ◌≤◌, ◌<◌}
use native.Mathlib.Omega.{arith}
use Rattle.std.proofs.Math.Dec.{T, eqb→eq}
use Rattle.std.proofs.Math.ListN.{get_elem?}
use Rattle.sums.specs.Counting.{sum}
use Rattle.sums.specs.Entries.{entry-below, entry-member, some_one}
use Rattle.sums.specs.Tests.{so, and_left, and_right, and_both}
use Rattle.model.specs.Job.{Job, array_fits, is_pin, is_chosen, is_missing}
use Rattle.model.specs.Links.{PlaceKind, pin, missing, centre, outside, nowhere, side, Place, at, is_place, is_entered, Step, head, tail, turn, around}
use Rattle.model.specs.Near.{exit, exit_of}
use Rattle.model.specs.Record.{job_of, load, Legal}
use Rattle.model.specs.Wires.{leaving, onward, hop_at, is_wired}
use Rattle.model.proofs.Listed.{around-five, may-leaves}
use Rattle.channel.specs.Map.{darts, in_grid, row_of, column_of, step_of, is_link_dart, dart_of}
use Rattle.channel.specs.Map.Back.{link-stored}
use Rattle.channel.specs.Map.Darts.{cell_row, cell-column, cell-grid, step-grid, dart-step}
use Rattle.channel.specs.Map.Places.{chosen-cell, missing-cell, side-kind}
use Rattle.channel.specs.Map.Steps.{slot_step, link-tail}
use Rattle.pairing.specs.Answer.{lanes, Arrival}
use Rattle.pairing.specs.Lanes.{load_of}
use Rattle.pairing.specs.Onward.{Counts, counts-even, onward-leaves}
use Rattle.wire.specs.declared.Hop.{Hop as Taken}
use Rattle.wire.specs.Around.{around-leaves}
use Rattle.wire.specs.Filled.{OnWire, pin-or-entered, pin-first, lane-wired}
use Rattle.wire.specs.Hops.{hop, hop_of, Runs, lanes_of}
use Rattle.wire.specs.Lengths.{places-few}
use Rattle.wire.specs.Walks.{run-may, counts-at}
use Rattle.keep.specs.Staying.{hop-below}

-- the dart d leaves a chosen pin
pub record FirstOf (J : Job) (d : ℕ) : Type 0 where
  pub row : ℕ
  pub column : ℕ
  pub row< : row < 40
  pub column< : column < 40
  pub cell : d / 64 ≡ 41 + 40 * row + column
  pub from : tail J (step_of d) ≡ at pin row column

-- the answer r is the hop before the hop d, i, and it carries a wire; or d, i is the first of a wire
abbrev pub Precedes : List ℕ → Maybe Taken → ℕ → ℕ → Type 0
Precedes rec None d i = FirstOf (job_of rec) d
Precedes rec (Some h) d i =
    Runs rec h.dart h.lane × (onward (job_of rec) (load rec) (some (hop_of h)) ≡ some (hop d i))

pub precedes-as : (rec : List ℕ) (r q : Maybe Taken) (d i : ℕ) → r ≡ q → Precedes rec r d i → Precedes rec q d i
precedes-as rec r q d i e = subst (λ (z : Maybe Taken). Precedes rec z d i) e

-- the x-th cell is that of the pin whose wire has the hop d, i
pub record Home (rec : List ℕ) (d i x : ℕ) : Type 0 where
  pub below : x < 1600
  pub wired : T (is_wired (job_of rec) (load rec) (x / 40) (x % 40))
  pub index : ℕ
  pub listed : hop_at (job_of rec) (load rec) (x / 40) (x % 40) index ≡ some (hop d i)

-- n hops after the hop d, i comes the hop e, j
abbrev pub Leads : List ℕ → ℕ → ℕ → ℕ → ℕ → ℕ → Type 0
Leads rec n d i e j =
    (r c m : ℕ) → hop_at (job_of rec) (load rec) r c m ≡ some (hop d i) → hop_at (job_of rec) (load rec) r c (m + n) ≡ some (hop e j)

-- ---- the pins, by their spots

module _ (J : Job) (fits : T (array_fits J.rows J.columns)) where
  -- a pin is not both
  chosen-missing : {A : Type 0} (r c : ℕ) → T (is_chosen J r c) → T (is_missing J r c) → A
  unfolding is_chosen is_missing
  chosen-missing r c a b =
      let x : J.mark r c ≡ 1 = eqb→eq (J.mark r c) 1 (and_right (is_pin J r c) (eqb (J.mark r c) 1) a) in
      let y : J.mark r c ≡ 2 = eqb→eq (J.mark r c) 2 (and_right (is_pin J r c) (eqb (J.mark r c) 2) b) in
      absurd (omega arith)

  module _ (d : ℕ) where
    abbrev u : ℕ
    u = d / 8

    abbrev chosen_here : Bool
    chosen_here = in_grid (u / 8) && is_chosen J (row_of (u / 8)) (column_of (u / 8))

    at-cell : (r c : ℕ) → u / 8 ≡ 41 + 40 * r + c → c < 40 → T chosen_here → T (is_chosen J r c)
    at-cell r c e b t =
        subst (λ (n : ℕ). T (is_chosen J n c)) (cell_row (u / 8) r c e b)
        (subst (λ (n : ℕ). T (is_chosen J (row_of (u / 8)) n)) (cell-column (u / 8) r c e b)
        (and_right (in_grid (u / 8)) (is_chosen J (row_of (u / 8)) (column_of (u / 8))) t))

    spot-pin : (k : PlaceKind) (r c : ℕ) → tail J (step_of d) ≡ at k r c → T (is_place J (at k r c)) → exit_of k r c ≡ u → u % 8 ≡ 1 → T chosen_here → FirstOf J d
    unfolding exit_of
    spot-pin pin r c e p s k t =
        let (a, b) = chosen-cell J fits r c p in
        record { row = r; column = c; row< = a; column< = b; cell = omega arith; from = e }
    spot-pin missing r c e p s k t =
        let (a, b) = missing-cell J fits r c p in
        chosen-missing r c (at-cell r c (omega arith) b t) p
    spot-pin centre r c e p s k t = absurd (omega arith)
    spot-pin outside r c e p s k t = absurd p
    spot-pin nowhere r c e p s k t = absurd p
    spot-pin (side d) r c e p s k t = absurd (omega (arith, side-kind d r c))

    pin-spot : (r c : ℕ) → T (is_chosen J r c) → exit_of pin r c ≡ u → (u % 8 ≡ 1) × T chosen_here
    unfolding exit_of
    pin-spot r c p s =
        let (a, b) = chosen-cell J fits r c p in
        let e : u / 8 ≡ 41 + 40 * r + c = omega arith in (
          omega arith,
          and_both (in_grid (u / 8)) (is_chosen J (row_of (u / 8)) (column_of (u / 8))) (cell-grid (u / 8) r c e b a)
              (subst (λ (n : ℕ). T (is_chosen J n (column_of (u / 8)))) (sym (cell_row (u / 8) r c e b))
              (subst (λ (n : ℕ). T (is_chosen J r n)) (sym (cell-column (u / 8) r c e b)) p)),
        )

module _ (rec : List ℕ) (g : Legal rec) where
  abbrev J : Job
  J = job_of rec

  abbrev f : Step → ℕ
  f = load rec

  abbrev fits : T (array_fits J.rows J.columns)
  fits = g.values.array

  -- ---- the hop before a hop

  module _ (d i : ℕ) (r : Runs rec d i) where
    abbrev x : Place
    x = tail J (step_of d)

    here : T (is_place J x)
    here = may-leaves J (step_of d) (run-may rec g r)

    place : (exit x ≡ d / 8) × (get_elem? (around x) (d % 8) ≡ some (step_of d))
    place = link-tail J fits d r.range r.linked (run-may rec g r)

    pub slot-five : d % 8 < 5
    slot-five = omega (arith, entry-below (around x) (d % 8) (step_of d) place.1, around-five x)

    -- the test of the code
    module _ (b : Bool) (test : b ≡ (eqb (d / 8 % 8) 1 && (in_grid (d / 8 / 8) && is_chosen J (row_of (d / 8 / 8)) (column_of (d / 8 / 8))))) where
      pub from-pin : b ≡ true → FirstOf J d
      from-pin e =
          let t = so (sym test ∙ e) in
          let c : Bool = chosen_here J fits d in
          spot-pin J fits d x.kind x.row x.column refl here place.0 (eqb→eq (d / 8 % 8) 1 (and_left (eqb (d / 8 % 8) 1) c t))
          (and_right (eqb (d / 8 % 8) 1) c t)

      entered : b ≡ false → T (is_entered J x)
      entered e = by (pin-or-entered J x.kind x.row x.column here)
        where
          by : T (is_entered J x) ⊎ (x ≡ at pin x.row x.column) → T (is_entered J x)
          by (inl t) = t
          by (inr q) =
              let (k, t) = pin-spot J fits d x.row x.column (subst (λ (y : Place). T (is_place J y)) q here) (ap exit (sym q) ∙ place.0) in
              absurd (subst T (sym test ∙ e) (and_both (eqb (d / 8 % 8) 1) (chosen_here J fits d) (so (eq-eqb (d / 8 % 8) 1 k)) t))

      module _ (inner : b ≡ false) (arrive depart : List ℕ) (ins : arrive ≡ lanes_of (λ s. f (turn s)) (d / 8 * 8)) (outs : depart ≡ lanes_of f (d / 8 * 8)) where
        counts : Counts f x (lanes arrive) (lanes depart)
        counts = counts-at rec g x here (d / 8 * 8) (omega (arith, place.0)) arrive depart ins outs

        pub lane-leaves : i < lanes depart (d % 8)
        lane-leaves = subst (λ (n : ℕ). i < n) (sym (counts.outs (d % 8) slot-five ∙ ap (load_of f) place.1)) r.loaded

        -- what `partner_back` answers
        module _ (j q : ℕ) (answer : sum 5 (lanes arrive) ≡ sum 5 (lanes depart) → Arrival (lanes arrive) (lanes depart) (d % 8) i j q) where
          found : Arrival (lanes arrive) (lanes depart) (d % 8) i j q
          found = answer (counts-even f x (lanes arrive) (lanes depart) counts (g.sound.feasible.balance x here (entered inner)))

          pub answer-five : j < 5
          answer-five = found.slot

          came : (s : Step) × (get_elem? (around x) j ≡ some s) × (q < f (turn s))
          came = by (get_elem? (around x) j) refl (subst (λ (n : ℕ). q < n) (counts.ins j found.slot) found.lane)
            where
              by : (o : Option Step) → get_elem? (around x) j ≡ o → q < load_of (λ s. f (turn s)) o → (s : Step) × (get_elem? (around x) j ≡ some s) × (q < f (turn s))
              by none e l = absurd (omega arith)
              by (some s) e l = (s, e, l)

          pub back-linked : (d / 8 * 8 + j < darts) × T (is_link_dart (d / 8 * 8 + j))
          back-linked =
              let (s, e, l) = came in
              let (a, b, q) = slot_step J fits x here j s e in
              let z : 8 * exit x + j ≡ d / 8 * 8 + j = omega (arith, place.0) in
              (subst (λ (n : ℕ). n < darts) z a, subst (λ (n : ℕ). T (is_link_dart n)) z b)

          pub goes_before : (e : ℕ) → e ≡ dart_of (turn (step_of (d / 8 * 8 + j))) → Precedes rec (Some (record { dart = e; lane = q })) d i
          goes_before e z =
              let (s, there, l) = came in
              let w : step_of (d / 8 * 8 + j) ≡ s = ap step_of (omega (arith, place.0)) ∙ (slot_step J fits x here j s there).2 in
              let o = step-grid (d / 8 * 8 + j) (link-stored (d / 8 * 8 + j) back-linked.1).1 in
              let (a, b, t) = dart-step (turn (step_of (d / 8 * 8 + j))) (record { row< = o.row<; column< = o.column< }) in
              let back : step_of e ≡ turn s = ap step_of z ∙ (t ∙ ap turn w) in (
                record {
                  range = subst (λ (n : ℕ). n < darts) (sym z) a;
                  linked = subst (λ (n : ℕ). T (is_link_dart n)) (sym z) b;
                  loaded = subst (λ (u : Step). q < f u) (sym back) l;
                },
                goes_on_lem s there l back,
              )
            where
              goes_on_lem : (s : Step) → get_elem? (around x) j ≡ some s → q < f (turn s) → step_of e ≡ turn s → onward J f (some (hop e q)) ≡ some (hop d i)
              goes_on_lem s there l back =
                  let (t, slot, on) =
                  onward-leaves f x (lanes arrive) (lanes depart) counts (g.sound.feasible.balance x here (entered inner)) j q s there l (d % 8) i (λ k. found.partner) in
                  ap (λ (u : Step). leaving f (head J u) u.link q) back
                  ∙ (ap (λ (y : Place). leaving f y s.link q) (around-leaves J x here s (entry-member (around x) j s there))
                  ∙ (on ∙ ap (λ (u : Step). some (record { step = u; lane = i })) (some_one t (step_of d) (sym slot ∙ place.1))))

  -- ---- the walk back

  pub leads-none : (d i : ℕ) → Leads rec 0 d i d i
  leads-none d i r c m h = let z : m + 0 ≡ m = omega arith in ap (hop_at J f r c) z ∙ h

  pub leads-more : (n d i e j b q : ℕ) → Leads rec n d i e j → onward J f (some (hop b q)) ≡ some (hop d i) → Leads rec (n + 1) b q e j
  unfolding hop_at
  leads-more n d i e j b q k o r c m h =
      let z : m + (n + 1) ≡ suc m + n = omega arith in ap (hop_at J f r c) z ∙ k r c (suc m) (ap (onward J f) h ∙ o)

  pub leads-few : (n d i e j : ℕ) → Runs rec d i → Leads rec n d i e j → n ≤ 11200
  leads-few n d i e j v k =
      let W : OnWire J f (hop d i) = lane-wired J f g.sound (hop d i) v.loaded in
      omega (
        arith,
        hop-below J f g.sound W.row W.column (W.index + n) (hop e j) W.wired (k W.row W.column W.index W.listed),
        places-few J fits,
      )

  pub leads-home : (n d i e j x : ℕ) → Runs rec d i → Leads rec n d i e j → FirstOf J d → x ≡ d / 64 - 41 → Home rec e j x
  leads-home n d i e j x v k F z =
      let (w, first) = pin-first J f g.sound (hop d i) F.row F.column F.from v.loaded in
      let a : F.row ≡ x / 40 = omega (arith, F.cell, F.column<) in
      let b : F.column ≡ x % 40 = omega (arith, F.cell, F.column<) in
      record {
        below = omega (arith, F.cell, F.row<, F.column<);
        wired = subst (λ (y : Place). T (is_wired J f y.row y.column)) (λ i. at pin (a i) (b i)) w;
        index = 0 + n;
        listed = ap (λ (y : Place). hop_at J f y.row y.column (0 + n)) (λ i. at pin (sym a i) (sym b i)) ∙ k F.row F.column 0 first;
      }
