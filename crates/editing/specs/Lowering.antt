-- K9, "Extra above the diagonal": the answer of lowering E by its test, and the record that it leaves. Assumes nothing.
use Rattle.std.specs.Prelude.{◌≡◌, ◌≢◌, Bool, true, false, List, [], ℕ, ◌≤◌, ◌<◌, eqb, leb}
use Rattle.std.proofs.Common.{sym, ap, ◌∙◌, arith, le-leb, eq-eqb, ne_eqb}
use Rattle.std.proofs.lemmas.Bool.{lt-leb}
use Rattle.model.specs.Job.{Job, with_extra}
use Rattle.model.specs.Links.{Step}
use Rattle.model.specs.Record.{job_of, load, record_of, over}
use Rattle.model.specs.Left.{extra_left}
use Rattle.model.specs.Calls.{refused, done, After, after, edited, extra_in}
use Rattle.model.proofs.Asked.{asked-fails, asked-holds}

-- the record of the job with the E, with the wires that stay
abbrev pub lowered_to : ℕ → List ℕ → List ℕ
lowered_to e rec = over (record_of (with_extra (job_of rec) e) (extra_left (job_of rec) (load rec))) rec

module _ (rec : List ℕ) (e w : ℕ) (q : w ≡ (job_of rec).E) where
  abbrev J : Job
  J = job_of rec

  abbrev left : Step → ℕ
  left = extra_left J (load rec)

  abbrev lowered : After
  lowered = edited (eqb J.E e) (with_extra J e) left rec

  pub extra-above : w < e → after (refused 3) rec [] [] ≡ extra_in e rec
  extra-above l = sym (asked-fails rec [] lowered (leb e J.E) 3 [] (lt-leb e J.E (omega arith)))

  module _ (h : e ≤ w) where
    lowered-as : (z : Bool) → eqb w e ≡ z → edited z (with_extra J e) left rec ≡ extra_in e rec
    lowered-as z s =
        ap (λ (y : Bool). edited y (with_extra J e) left rec) (sym s ∙ ap (λ (m : ℕ). eqb m e) q)
        ∙ sym (asked-holds rec [] lowered (leb e J.E) 3 [] (le-leb e J.E (omega arith)))

    pub extra-same : w ≡ e → after done rec [] [] ≡ extra_in e rec
    extra-same s = lowered-as true (eq-eqb w e s)

    pub extra-anew : (rec' : List ℕ) → w ≢ e → rec' ≡ lowered_to e rec → after done rec' [] [] ≡ extra_in e rec
    extra-anew rec' s y = ap (λ z. after done z [] []) y ∙ lowered-as false (ne_eqb w e s)
