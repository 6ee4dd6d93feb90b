-- Document 01, "Runs": edits within the array are accepted by every service, one after the other, and give the job that they name, with nothing wired.
-- Assumes nothing.
use Rattle.std.specs.Prelude.{◌≡◌, refl, Bool, true, false, ◌&&◌, List, [], ◌∷◌, ◌++◌, ℕ, ◌*◌, ◌≤◌, T, eqb, leb}
use Rattle.std.proofs.Common.{sym, ap, subst, ◌∙◌, arith}
use Rattle.sums.specs.Tests.{and_both}
use Rattle.model.specs.Job.{Job, marked, closed, side_of, laid_on, laid_by, diagonal_by, tile_d, in_range, is_pin, is_tile}
use Rattle.model.specs.Links.{Step}
use Rattle.model.specs.Record.{job_of, load, record_of, over}
use Rattle.model.specs.Left.{mark_left, close_left, laid_left, centre_left}
use Rattle.model.specs.Calls.{Call, mark, close, lay, diagonal, refusal, Accepted, After, Did, Test, test, asked, edited, wires_in}
use Rattle.model.specs.Run.{Lent, Service, Sets, Follows}
use Rattle.model.proofs.Asked.{all_hold, hold-both, asked-all}
use Rattle.run.specs.Invariant.{call-leaves}
use Rattle.run.specs.Runs.{accepted-kept, becomes_set, rec_after}
use Rattle.run.specs.OthersStay.{mark-stays, close-stays, lay-stays, diagonal-stays, stays-fewer}
use Rattle.run.specs.Blank.{Blank}

-- edits within the array, from the job J to the job K
pub data Edits : Job → List Call → Job → Type 0 where
  end : {J : Job} → Edits J [] J
  marks : {J K : Job} {calls : List Call} (r c m : ℕ) → Lent (mark r c m) → T (is_pin J r c) → T (leb m 2) → Edits (marked J r c m) calls K
      → Edits J (mark r c m ∷ calls) K
  closes : {J K : Job} {calls : List Call} (r c v : ℕ) → Lent (close r c v) → T (is_tile J r c) → T (leb v 1) → Edits (closed J r c v) calls K
      → Edits J (close r c v ∷ calls) K
  lays : {J K : Job} {calls : List Call} (r c d n : ℕ) → Lent (lay r c d n) → T (is_tile J r c) → T (leb d 3) → T (leb n J.O)
      → Edits (laid_by J (side_of r c d) n) calls K → Edits J (lay r c d n ∷ calls) K
  gives : {J K : Job} {calls : List Call} (r c d : ℕ) → Lent (diagonal r c d) → T (is_tile J r c) → T (in_range J.O (2 * J.O) d)
      → Edits (diagonal_by J r c d) calls K → Edits J (diagonal r c d ∷ calls) K

-- where nothing is wired an edit takes nothing out
edited-done : (ts : List Test) (already : Bool) (K : Job) (left : Step → ℕ) (rec : List ℕ) → T (all_hold ts) → wires_in rec ≡ 0
    → wires_in (over (record_of K left) rec) ≤ wires_in rec
    → Accepted (asked ts rec [] (edited already K left rec)).answer × (wires_in (asked ts rec [] (edited already K left rec)).rec ≡ 0)
edited-done ts already K left rec t u l =
    subst (λ (a : After). Accepted a.answer × (wires_in a.rec ≡ 0)) (sym (asked-all rec [] _ ts t)) (by already)
  where
    by : (b : Bool) → Accepted (edited b K left rec).answer × (wires_in (edited b K left rec).rec ≡ 0)
    by true = (refl, u)
    by false = (refl, omega arith)

module _ (S : Service) where
  -- one edit
  abbrev Goes : Call → List ℕ → Job → Type 0
  Goes c rec K = Accepted (S.does c rec).answer × Blank (S.does c rec).rec K

  edit-goes : (c : Call) (rec : List ℕ) (J K : Job) → Blank rec J → Did c rec (S.does c rec) → Sets S c J K → (ts : List Test) (already : Bool) (L : Job)
      (left : Step → ℕ) → S.does c rec ≡ asked ts rec [] (edited already L left rec) → T (all_hold ts) → wires_in (over (record_of L left) rec) ≤ wires_in rec
      → Goes c rec K
  edit-goes c rec J K k d s ts already L left e t l =
      let (x, w) = edited-done ts already L left rec t k.unwired l in
      let y : Accepted (S.does c rec).answer = ap (λ (a : After). refusal a.answer) e ∙ x in (
        y,
        record {
          kept = accepted-kept S c rec J K (S.does c rec) (call-leaves S rec J k.kept c (S.does c rec) d) y s;
          unwired = ap (λ (a : After). wires_in a.rec) e ∙ w;
        },
      )

  mark-goes : (rec : List ℕ) (J : Job) (r c m : ℕ) → Blank rec J → Lent (mark r c m) → T (is_pin J r c) → T (leb m 2) → Goes (mark r c m) rec (marked J r c m)
  mark-goes rec J r c m k w t u =
      let I : Job = job_of rec in
      let d : Did (mark r c m) rec (S.does (mark r c m) rec) = S.did (mark r c m) rec w k.kept.buffer in
      let v : T (is_pin I r c) = subst (λ (X : Job). T (is_pin X r c)) (sym k.kept.job) t in
      edit-goes (mark r c m) rec J (marked J r c m) k d refl (test (is_pin I r c) 4 ∷ test (leb m 2) 5 ∷ []) (eqb (I.mark r c) m) (marked I r c m)
      (mark_left I (load rec) r c) (d.legal k.kept.legal) (hold-both (is_pin I r c) (leb m 2) v u)
      (stays-fewer rec _ _ _ (mark-stays rec k.kept.legal r c m v u))

  close-goes : (rec : List ℕ) (J : Job) (r c v : ℕ) → Blank rec J → Lent (close r c v) → T (is_tile J r c) → T (leb v 1)
      → Goes (close r c v) rec (closed J r c v)
  close-goes rec J r c v k w t u =
      let I : Job = job_of rec in
      let d : Did (close r c v) rec (S.does (close r c v) rec) = S.did (close r c v) rec w k.kept.buffer in
      let x : T (is_tile I r c) = subst (λ (X : Job). T (is_tile X r c)) (sym k.kept.job) t in
      edit-goes (close r c v) rec J (closed J r c v) k d refl (test (is_tile I r c) 4 ∷ test (leb v 1) 5 ∷ []) (eqb (I.state r c) v) (closed I r c v)
      (close_left I (load rec) r c) (d.legal k.kept.legal) (hold-both (is_tile I r c) (leb v 1) x u)
      (stays-fewer rec _ _ _ (close-stays rec k.kept.legal r c v x u))

  lay-goes : (rec : List ℕ) (J : Job) (r c d n : ℕ) → Blank rec J → Lent (lay r c d n) → T (is_tile J r c) → T (leb d 3) → T (leb n J.O)
      → Goes (lay r c d n) rec (laid_by J (side_of r c d) n)
  lay-goes rec J r c d n k w t u v =
      let I : Job = job_of rec in
      let x : Did (lay r c d n) rec (S.does (lay r c d n) rec) = S.did (lay r c d n) rec w k.kept.buffer in
      let y : T (is_tile I r c) = subst (λ (X : Job). T (is_tile X r c)) (sym k.kept.job) t in
      let z : T (leb n I.O) = subst (λ (X : Job). T (leb n X.O)) (sym k.kept.job) v in
      edit-goes (lay r c d n) rec J (laid_by J (side_of r c d) n) k x refl (test (is_tile I r c) 4 ∷ test (leb d 3) 5 ∷ test (leb n I.O) 11 ∷ [])
      (eqb (laid_on I (side_of r c d)) n) (laid_by I (side_of r c d) n) (laid_left I (load rec) (side_of r c d) n) (x.legal k.kept.legal)
      (and_both (is_tile I r c) (leb d 3 && (leb n I.O && true)) y (hold-both (leb d 3) (leb n I.O) u z))
      (stays-fewer rec _ _ _ (lay-stays rec k.kept.legal r c d n y z))

  diagonal-goes : (rec : List ℕ) (J : Job) (r c d : ℕ) → Blank rec J → Lent (diagonal r c d) → T (is_tile J r c) → T (in_range J.O (2 * J.O) d)
      → Goes (diagonal r c d) rec (diagonal_by J r c d)
  diagonal-goes rec J r c d k w t u =
      let I : Job = job_of rec in
      let x : Did (diagonal r c d) rec (S.does (diagonal r c d) rec) = S.did (diagonal r c d) rec w k.kept.buffer in
      let y : T (is_tile I r c) = subst (λ (X : Job). T (is_tile X r c)) (sym k.kept.job) t in
      let z : T (in_range I.O (2 * I.O) d) = subst (λ (X : Job). T (in_range X.O (2 * X.O) d)) (sym k.kept.job) u in
      edit-goes (diagonal r c d) rec J (diagonal_by J r c d) k x refl (test (is_tile I r c) 4 ∷ test (in_range I.O (2 * I.O) d) 3 ∷ []) (eqb (tile_d I r c) d)
      (diagonal_by I r c d) (centre_left I (load rec) r c) (x.legal k.kept.legal) (hold-both (is_tile I r c) (in_range I.O (2 * I.O) d) y z)
      (stays-fewer rec _ _ _ (diagonal-stays rec k.kept.legal r c d y z))

  pub edits-blank : {J K : Job} {calls : List Call} → Edits J calls K → (rec : List ℕ) → Blank rec J → Blank (rec_after S calls rec) K
  edits-blank end rec k = k
  edits-blank (marks {J = J} r c m w t u es) rec k = edits-blank es (S.does (mark r c m) rec).rec (mark-goes rec J r c m k w t u).1
  edits-blank (closes {J = J} r c v w t u es) rec k = edits-blank es (S.does (close r c v) rec).rec (close-goes rec J r c v k w t u).1
  edits-blank (lays {J = J} r c d n w t u v es) rec k = edits-blank es (S.does (lay r c d n) rec).rec (lay-goes rec J r c d n k w t u v).1
  edits-blank (gives {J = J} r c d w t u es) rec k = edits-blank es (S.does (diagonal r c d) rec).rec (diagonal-goes rec J r c d k w t u).1

  -- followed by more calls
  pub edits-follow : {J K : Job} {calls : List Call} → Edits J calls K → (rec : List ℕ) → Blank rec J → (others : List Call) (rec' : List ℕ) (L : Job)
      → Follows S (rec_after S calls rec) K others rec' L → Follows S rec J (calls ++ others) rec' L
  edits-follow end rec k others rec' L f = f
  edits-follow (marks {J = J} r c m w t u es) rec k others rec' L f =
      let (x, k') = mark-goes rec J r c m k w t u in
      let a : After = S.does (mark r c m) rec in
      (w, (marked J r c m, becomes_set S (mark r c m) J (marked J r c m) a.answer x refl, edits-follow es a.rec k' others rec' L f))
  edits-follow (closes {J = J} r c v w t u es) rec k others rec' L f =
      let (x, k') = close-goes rec J r c v k w t u in
      let a : After = S.does (close r c v) rec in
      (w, (closed J r c v, becomes_set S (close r c v) J (closed J r c v) a.answer x refl, edits-follow es a.rec k' others rec' L f))
  edits-follow (lays {J = J} r c d n w t u v es) rec k others rec' L f =
      let (x, k') = lay-goes rec J r c d n k w t u v in
      let a : After = S.does (lay r c d n) rec in
      let K : Job = laid_by J (side_of r c d) n in
      (w, (K, becomes_set S (lay r c d n) J K a.answer x refl, edits-follow es a.rec k' others rec' L f))
  edits-follow (gives {J = J} r c d w t u es) rec k others rec' L f =
      let (x, k') = diagonal-goes rec J r c d k w t u in
      let a : After = S.does (diagonal r c d) rec in
      let K : Job = diagonal_by J r c d in
      (w, (K, becomes_set S (diagonal r c d) J K a.answer x refl, edits-follow es a.rec k' others rec' L f))
