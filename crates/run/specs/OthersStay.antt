-- Document 02, K5: the record that an edit leaves. It is legal, of the edited job, and the wires that it holds are those of the record before that stay: each on
-- its places, with lanes no higher; so there are no more than before. Assumes nothing.
use Rattle.std.specs.Prelude.{◌≡◌, refl, Bool, true, false, ◌&&◌, List, [], ◌∷◌, ℕ, ◌*◌, ◌≤◌, T, leb, length, drop}
use Rattle.std.proofs.Common.{sym, ap, subst, ◌∙◌, arith}
use Rattle.sums.specs.Counting.{when}
use Rattle.sums.specs.Totals.{total-le, total-cong}
use Rattle.model.specs.Job.{Job, Proper, is_pin, is_tile, marked, closed, side_of, laid_by, in_range, diagonal_by, with_extra}
use Rattle.model.specs.Links.{is_pin_kind, places, pin_at, Step, centre, at}
use Rattle.model.specs.Record.{job_of, load, Legal, record_of, over}
use Rattle.model.specs.Wires.{is_wired, wire_count}
use Rattle.model.specs.Left.{avoids, tile_places, mark_left, close_left, laid_left, centre_left, missing_places, extra_left}
use Rattle.model.specs.Calls.{wired_in, wires_in}
use Rattle.model.proofs.RecordOf.{Storable, length-record, job-back, load-back}
use Rattle.model.proofs.Over.{job-over, load-over, legal-over, legal-proper}
use Rattle.model.proofs.Own.{diagonal-proper}
use Rattle.model.proofs.Sides.{laid-proper}
use Rattle.model.proofs.TextProper.{marked-proper, closed-proper}
use Rattle.keep.specs.Edits.{Keeps}
use Rattle.keep.specs.Edited.{mark-edit, close-edit, diagonal-edit, extra-edit}
use Rattle.keep.specs.Laid.{laid_stays, laid-edit}
use Rattle.keep.specs.Legality.{mark-storable, close-storable, laid-storable, centre-storable, mark-legal, close-legal, laid-legal, diagonal-legal, extra-storable, extra-legal}
use Rattle.model.proofs.Admitted.{extra-proper}

-- `stays` says of each pin whether its wire stays
pub record OthersStay (rec rec' : List ℕ) (K : Job) (stays : ℕ → ℕ → Bool) : Type 0 where
  pub legal : Legal rec'
  pub job : job_of rec' ≡ K
  pub keeps : Keeps (job_of rec) (job_of rec') (load rec) (load rec') stays

module _ (rec : List ℕ) (K : Job) (left : Step → ℕ) (proper : Proper K) (g : Legal (record_of K left)) where
  abbrev rest : List ℕ
  rest = drop (length (record_of K left)) rec

  pub left-legal : Legal (over (record_of K left) rec)
  left-legal = legal-over (record_of K left) rest (length-record K left) g

  pub left-job : job_of (over (record_of K left) rec) ≡ K
  left-job = job-over (record_of K left) rest (length-record K left) ∙ job-back K left proper

  left-load : Storable left → load (over (record_of K left) rec) ≡ left
  left-load s = load-over (record_of K left) rest (length-record K left) ∙ (λ i t. load-back K left s t i)

  left-stays : (stays : ℕ → ℕ → Bool) → Storable left → Keeps (job_of rec) K (load rec) left stays → OthersStay rec (over (record_of K left) rec) K stays
  left-stays stays s k =
      record {
        legal = left-legal;
        job = left-job;
        keeps =
            subst (λ (L : Job). Keeps (job_of rec) L (load rec) (load (over (record_of K left) rec)) stays) (sym left-job)
            (subst (λ (h : Step → ℕ). Keeps (job_of rec) K (load rec) h stays) (sym (left-load s)) k);
      }

module _ (rec : List ℕ) (g : Legal rec) (r c : ℕ) where
  abbrev J : Job
  J = job_of rec

  abbrev f : Step → ℕ
  f = load rec

  proper : Proper J
  proper = legal-proper rec g

  pub mark-stays : (m : ℕ) → T (is_pin J r c) → T (leb m 2)
      → OthersStay rec (over (record_of (marked J r c m) (mark_left J f r c)) rec) (marked J r c m) (avoids J f (pin_at J r c ∷ []))
  mark-stays m t u =
      left-stays rec (marked J r c m) (mark_left J f r c) (marked-proper J r c m proper t u) (mark-legal rec g proper r c m t u) (avoids J f (pin_at J r c ∷ []))
      (mark-storable rec g r c) (mark-edit J f g.sound r c m)

  pub close-stays : (v : ℕ) → T (is_tile J r c) → T (leb v 1)
      → OthersStay rec (over (record_of (closed J r c v) (close_left J f r c)) rec) (closed J r c v) (avoids J f (tile_places r c))
  close-stays v t u =
      left-stays rec (closed J r c v) (close_left J f r c) (closed-proper J r c v proper t u) (close-legal rec g proper r c v t u) (avoids J f (tile_places r c))
      (close-storable rec g r c) (close-edit J f g.sound r c v t)

  pub lay-stays : (d n : ℕ) → T (is_tile J r c) → T (leb n J.O)
      → OthersStay rec (over (record_of (laid_by J (side_of r c d) n) (laid_left J f (side_of r c d) n)) rec) (laid_by J (side_of r c d) n)
      (laid_stays J f g.sound (side_of r c d) n)
  lay-stays d n t u =
      left-stays rec (laid_by J (side_of r c d) n) (laid_left J f (side_of r c d) n) (laid-proper J r c d n proper t u) (laid-legal rec g proper r c d n t u)
      (laid_stays J f g.sound (side_of r c d) n) (laid-storable rec g (side_of r c d) n) (laid-edit J f g.sound (side_of r c d) n)

  pub diagonal-stays : (d : ℕ) → T (is_tile J r c) → T (in_range J.O (2 * J.O) d)
      → OthersStay rec (over (record_of (diagonal_by J r c d) (centre_left J f r c)) rec) (diagonal_by J r c d) (avoids J f (at centre r c ∷ []))
  diagonal-stays d t u =
      left-stays rec (diagonal_by J r c d) (centre_left J f r c) (diagonal-proper J r c d proper t u) (diagonal-legal rec g proper r c d t u)
      (avoids J f (at centre r c ∷ [])) (centre-storable rec g r c) (diagonal-edit J f g.sound r c d)

  -- the loads
  pub mark-loads : (m : ℕ) → T (is_pin J r c) → T (leb m 2) → load (over (record_of (marked J r c m) (mark_left J f r c)) rec) ≡ mark_left J f r c
  mark-loads m t u =
      left-load rec (marked J r c m) (mark_left J f r c) (marked-proper J r c m proper t u) (mark-legal rec g proper r c m t u) (mark-storable rec g r c)

  pub close-loads : (v : ℕ) → T (is_tile J r c) → T (leb v 1) → load (over (record_of (closed J r c v) (close_left J f r c)) rec) ≡ close_left J f r c
  close-loads v t u =
      left-load rec (closed J r c v) (close_left J f r c) (closed-proper J r c v proper t u) (close-legal rec g proper r c v t u) (close-storable rec g r c)

  pub lay-loads : (d n : ℕ) → T (is_tile J r c) → T (leb n J.O)
      → load (over (record_of (laid_by J (side_of r c d) n) (laid_left J f (side_of r c d) n)) rec) ≡ laid_left J f (side_of r c d) n
  lay-loads d n t u =
      left-load rec (laid_by J (side_of r c d) n) (laid_left J f (side_of r c d) n) (laid-proper J r c d n proper t u) (laid-legal rec g proper r c d n t u)
      (laid-storable rec g (side_of r c d) n)

pub extra-stays : (rec : List ℕ) → Legal rec → (e : ℕ) → T (leb e (job_of rec).E)
    → OthersStay rec (over (record_of (with_extra (job_of rec) e) (extra_left (job_of rec) (load rec))) rec) (with_extra (job_of rec) e)
    (avoids (job_of rec) (load rec) (missing_places (job_of rec)))
extra-stays rec g e t =
    let J : Job = job_of rec in
    let p : Proper J = legal-proper rec g in
    left-stays rec (with_extra J e) (extra_left J (load rec)) (extra-proper J e p t) (extra-legal rec g p e t) (avoids J (load rec) (missing_places J))
    (extra-storable rec g) (extra-edit J (load rec) g.sound e)

-- no wire is new
pub stays-fewer : (rec rec' : List ℕ) (K : Job) (stays : ℕ → ℕ → Bool) → OthersStay rec rec' K stays → wires_in rec' ≤ wires_in rec
unfolding wire_count
stays-fewer rec rec' K stays e =
    let J : Job = job_of rec in
    omega (
      arith,
      e.keeps.number,
      total-le (places J) _ _ (λ x. some_stay (is_pin_kind x) (is_wired J (load rec) x.row x.column) (stays x.row x.column)),
    )
  where
    some_stay : (a b c : Bool) → when (a && (b && c)) 1 ≤ when (a && b) 1
    some_stay true true true = omega arith
    some_stay true true false = omega arith
    some_stay true false c = omega arith
    some_stay false b c = omega arith

-- where every wire stays, there are as many
pub stays-as-many : (rec rec' : List ℕ) (K : Job) (stays : ℕ → ℕ → Bool) → OthersStay rec rec' K stays → ((q d : ℕ) → T (wired_in rec q d) → stays q d ≡ true)
    → wires_in rec' ≡ wires_in rec
unfolding wire_count
stays-as-many rec rec' K stays e h =
    let J : Job = job_of rec in
    e.keeps.number
    ∙ total-cong (places J) _ _
    (λ x. all_stay (is_pin_kind x) (is_wired J (load rec) x.row x.column) (stays x.row x.column) (h x.row x.column))
  where
    all_stay : (a b c : Bool) → (T b → c ≡ true) → when (a && (b && c)) 1 ≡ when (a && b) 1
    all_stay true true c k = ap (λ (x : Bool). when x 1) (k tt)
    all_stay true false c k = refl
    all_stay false b c k = refl
