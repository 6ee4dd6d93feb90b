-- Document 02, K5, of the record after a call: an edit that is accepted and changes a value leaves every other wire on its places, with lanes no higher. Which
-- wires go is said by pins; where none goes, the loads are as they were; and a raised count takes exactly the wires in the highest lanes. Assumes nothing.
use Rattle.std.specs.Prelude.{◌≡◌, refl, ◌≢◌, Bool, true, false, not, ◌&&◌, List, [], ◌∷◌, ℕ, ◌-◌, ◌*◌, ◌≤◌, T, eqb, leb}
use Rattle.std.proofs.Common.{sym, ap, subst, ◌∙◌, ne_eqb}
use Rattle.std.proofs.Math.Option.{some}
use Rattle.sums.specs.Tests.{and_both, and_right}
use Rattle.model.specs.Job.{Job, Side, in_range, is_pin, is_tile, marked, closed, side_of, laid_on, laid_by, tile_d, diagonal_by, with_extra}
use Rattle.model.specs.Links.{centre, at, pin_at, Step}
use Rattle.model.specs.Record.{job_of, load, Legal, record_of, over}
use Rattle.model.specs.Wires.{Hop, hop_at, is_wired}
use Rattle.model.specs.Left.{avoids, tile_places, link_of, mark_left, close_left, laid_left, centre_left, missing_places, extra_left}
use Rattle.model.specs.Calls.{mark, close, lay, diagonal, extra, done, After, after, Test, test, asked, edited, wired_in, wires_in, Did}
use Rattle.model.proofs.Asked.{all_hold, hold-both, asked-all}
use Rattle.wire.specs.Filled.{OnWire}
use Rattle.wire.specs.Counts.{on}
use Rattle.keep.specs.Edited.{idle-stays, idle-keeps, open_stays, open-keeps}
use Rattle.keep.specs.Laid.{laid_stays, laid-goes, laid-just, laid-lanes, lower-stays, lower-keeps}
use Rattle.run.specs.OthersStay.{OthersStay, mark-stays, close-stays, lay-stays, diagonal-stays, extra-stays, mark-loads, close-loads, lay-loads, stays-as-many}

is_true : (b : Bool) → T b → b ≡ true
is_true true t = refl
is_true false t = absurd t

-- nothing is taken out
abbrev pub NoneGoes : List ℕ → List ℕ → Type 0
NoneGoes rec rec' = (load rec' ≡ load rec) × (wires_in rec' ≡ wires_in rec)

module _ (rec : List ℕ) (g : Legal rec) (a : After) where
  abbrev J : Job
  J = job_of rec

  abbrev f : Step → ℕ
  f = load rec

  -- what is left where every test holds and the value is another
  changed : (ts : List Test) (v m : ℕ) (K : Job) (left : Step → ℕ) → T (all_hold ts) → v ≢ m → a ≡ asked ts rec [] (edited (eqb v m) K left rec)
      → a ≡ after done (over (record_of K left) rec) [] []
  changed ts v m K left t n e = e ∙ (asked-all rec [] (edited (eqb v m) K left rec) ts t ∙ ap (λ (b : Bool). edited b K left rec) (ne_eqb v m n))

  module _ (r c m : ℕ) (d : Did (mark r c m) rec a) (t : T (is_pin J r c)) (u : T (leb m 2)) (n : J.mark r c ≢ m) where
    pub mark-done : a ≡ after done (over (record_of (marked (job_of rec) r c m) (mark_left (job_of rec) (load rec) r c)) rec) [] []
    mark-done =
        changed (test (is_pin J r c) 4 ∷ test (leb m 2) 5 ∷ []) (J.mark r c) m (marked J r c m) (mark_left J f r c) (hold-both (is_pin J r c) (leb m 2) t u) n
        (d.legal g)

    -- "only the wires that start at the edited pin, pass the edited missing pin"
    pub mark-others : OthersStay rec a.rec (marked J r c m) (avoids J f (pin_at J r c ∷ []))
    mark-others =
        subst (λ (x : List ℕ). OthersStay rec x (marked J r c m) (avoids J f (pin_at J r c ∷ []))) (ap (λ (y : After). y.rec) (sym mark-done)) (mark-stays rec g r c m t u)

    -- "Choosing an idle pin and making an idle pin missing take out none."
    pub idle-none : J.mark r c ≡ 0 → NoneGoes rec a.rec
    idle-none e = (
      ap (λ (y : After). load y.rec) mark-done ∙ (mark-loads rec g r c m t u ∙ (λ i s. idle-keeps J f g.sound r c e s i)),
      stays-as-many rec a.rec (marked J r c m) (avoids J f (pin_at J r c ∷ [])) mark-others (idle-stays J f g.sound r c e),
    )

  module _ (r c v : ℕ) (d : Did (close r c v) rec a) (t : T (is_tile J r c)) (u : T (leb v 1)) (n : J.state r c ≢ v) where
    pub close-done : a ≡ after done (over (record_of (closed (job_of rec) r c v) (close_left (job_of rec) (load rec) r c)) rec) [] []
    close-done =
        changed (test (is_tile J r c) 4 ∷ test (leb v 1) 5 ∷ []) (J.state r c) v (closed J r c v) (close_left J f r c) (hold-both (is_tile J r c) (leb v 1) t u) n
        (d.legal g)

    -- "or meet a place of the tile being closed"
    pub close-others : OthersStay rec a.rec (closed J r c v) (avoids J f (tile_places r c))
    close-others =
        subst (λ (x : List ℕ). OthersStay rec x (closed J r c v) (avoids J f (tile_places r c))) (ap (λ (y : After). y.rec) (sym close-done))
        (close-stays rec g r c v t u)

    -- "Opening a tile takes out none."
    pub open_none : J.state r c ≡ 1 → NoneGoes rec a.rec
    open_none e = (
      ap (λ (y : After). load y.rec) close-done ∙ (close-loads rec g r c v t u ∙ (λ i s. open-keeps J f g.sound r c e s i)),
      stays-as-many rec a.rec (closed J r c v) (avoids J f (tile_places r c)) close-others (open_stays J f g.sound r c e),
    )

  module _ (r c d n : ℕ) (did : Did (lay r c d n) rec a) (t : T (is_tile J r c)) (w : T (leb d 3)) (u : T (leb n J.O)) (x : laid_on J (side_of r c d) ≢ n) where
    abbrev s : Side
    s = side_of r c d

    -- the new limit
    abbrev k : ℕ
    k = J.O - n

    abbrev stays : ℕ → ℕ → Bool
    stays = laid_stays J f g.sound s n

    pub lay_done : a ≡ after done (over (record_of (laid_by (job_of rec) (side_of r c d) n) (laid_left (job_of rec) (load rec) (side_of r c d) n)) rec) [] []
    lay_done =
        changed (test (is_tile J r c) 4 ∷ test (leb d 3) 5 ∷ test (leb n J.O) 11 ∷ []) (laid_on J s) n (laid_by J s n) (laid_left J f s n)
        (and_both (is_tile J r c) (leb d 3 && (leb n J.O && true)) t (hold-both (leb d 3) (leb n J.O) w u)) x (did.legal g)

    laid-load : load a.rec ≡ laid_left J f s n
    laid-load = ap (λ (y : After). load y.rec) lay_done ∙ lay-loads rec g r c d n t u

    pub lay-others : OthersStay rec a.rec (laid_by J s n) (laid_stays J f g.sound s n)
    lay-others =
        subst (λ (y : List ℕ). OthersStay rec y (laid_by J s n) stays) (ap (λ (y : After). y.rec) (sym lay_done)) (lay-stays rec g r c d n t u)

    -- "takes out the highest lanes": of the wires on the side exactly those below the new limit stay wired
    pub lay-highest : (e : Step) → link_of s ≡ e.link → (i : ℕ) (W : OnWire J f (on e i)) → wired_in a.rec W.row W.column ≡ not (leb k i)
    lay-highest e o i W =
        lay-others.keeps.wired W.row W.column
        ∙ (ap (λ (b : Bool). b && stays W.row W.column) (is_true (is_wired J f W.row W.column) W.wired) ∙ laid-goes J f g.sound s n e o i W)

    -- "just enough": where the load is not below the new limit, it is the limit
    pub lay-enough : (e : Step) → link_of s ≡ e.link → k ≤ f e → load a.rec e ≡ k
    lay-enough e o l = ap (λ (h : Step → ℕ). h e) laid-load ∙ laid-just J f g.sound s n e o l

    -- the wires that stay keep their lanes on the side
    pub lay-lanes : (q p i : ℕ) (h : Hop) → T (is_wired J f q p) → T (wired_in a.rec q p) → hop_at J f q p i ≡ some h → link_of s ≡ h.step.link
        → hop_at (job_of a.rec) (load a.rec) q p i ≡ some h
    lay-lanes q p i h y z e o =
        (λ j. hop_at (lay-others.job j) (laid-load j) q p i)
        ∙ laid-lanes J f g.sound s n q p i h y
        (is_true (stays q p) (and_right (is_wired J f q p) (stays q p) (subst T (lay-others.keeps.wired q p) z))) e o

    -- a lower count takes out none
    pub lower-none : n ≤ laid_on J s → NoneGoes rec a.rec
    lower-none l = (
      laid-load ∙ (λ i e. lower-keeps J f g.sound s n l e i),
      stays-as-many rec a.rec (laid_by J s n) stays lay-others (lower-stays J f g.sound s n l),
    )

  module _ (r c d : ℕ) (did : Did (diagonal r c d) rec a) (t : T (is_tile J r c)) (u : T (in_range J.O (2 * J.O) d)) (n : tile_d J r c ≢ d) where
    pub diagonal-done : a ≡ after done (over (record_of (diagonal_by (job_of rec) r c d) (centre_left (job_of rec) (load rec) r c)) rec) [] []
    diagonal-done =
        changed (test (is_tile J r c) 4 ∷ test (in_range J.O (2 * J.O) d) 3 ∷ []) (tile_d J r c) d (diagonal_by J r c d) (centre_left J f r c)
        (hold-both (is_tile J r c) (in_range J.O (2 * J.O) d) t u) n (did.legal g)

    -- K7: "A changed value takes out the wires through that tile's centre."
    pub diagonal-others : OthersStay rec a.rec (diagonal_by J r c d) (avoids J f (at centre r c ∷ []))
    diagonal-others =
        subst (λ (x : List ℕ). OthersStay rec x (diagonal_by J r c d) (avoids J f (at centre r c ∷ []))) (ap (λ (y : After). y.rec) (sym diagonal-done))
        (diagonal-stays rec g r c d t u)

  module _ (e : ℕ) (did : Did (extra e) rec a) (u : T (leb e J.E)) (n : J.E ≢ e) where
    pub extra-done : a ≡ after done (over (record_of (with_extra (job_of rec) e) (extra_left (job_of rec) (load rec))) rec) [] []
    extra-done =
        changed (test (leb e J.E) 3 ∷ []) J.E e (with_extra J e) (extra_left J f) (and_both (leb e J.E) true u tt) n (did.legal g)

    -- K9: "It takes out every wire that passes a missing pin."
    pub extra-others : OthersStay rec a.rec (with_extra J e) (avoids J f (missing_places J))
    extra-others =
        subst (λ (x : List ℕ). OthersStay rec x (with_extra J e) (avoids J f (missing_places J))) (ap (λ (y : After). y.rec) (sym extra-done)) (extra-stays rec g e u)
