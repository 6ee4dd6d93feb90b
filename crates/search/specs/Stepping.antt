-- What a step did to a record, from what was done to the copy of its first bytes. Assumes nothing.
use Rattle.std.specs.Prelude.{◌≡◌, refl, List, ℕ, replicate}
use Rattle.std.proofs.Common.{sym, ap, subst, ◌∙◌}
use Rattle.std.proofs.lemmas.List.{length-replicate}
use Rattle.model.specs.Record.{record_size, job_of, Legal, over}
use Rattle.model.specs.Calls as calls
use Rattle.channel.specs.Copies.{front, over-whole, front-whole, front_length}
use Rattle.augment.specs.OneMore.{OneMore}
use Rattle.augment.specs.Pins.{Held, Unwired, AnySpot, LaidAt, Passed}
use Rattle.search.specs.Loose.{Freed}
use Rattle.search.specs.Rings.{freed-sound}
use Rattle.search.specs.Fill.{Cleared, Saturated}
use Rattle.search.specs.Filling.{cleared-none, held_more}
use Rattle.search.specs.Copies.{front-held, new-length}
use Rattle.search.specs.Outcome.{StepDid, more, full}
use Rattle.search.specs.Added.{loose-one, wire-added, none-fits}
use Rattle.search.specs.declared.step.Progress.TheVariants.{Added, Full}

-- the loads are a copy of the first bytes, over zeros
module _ {rec : List ℕ} (legal : Legal rec) {loads : List ℕ} (q : loads ≡ over (front rec) (replicate record_size 0)) where
  pub copied : loads ≡ front rec
  copied = q ∙ over-whole (front rec) (replicate record_size 0) (front_length rec legal.long) (length-replicate {A = ℕ} record_size 0)

  pub copied-held : Held (job_of rec) loads
  copied-held = subst (λ (x : List ℕ). Held (job_of rec) x) (sym copied) (front-held rec legal)

  -- t are the marks before the search for the next wire, t' those after it
  pub step-full : {t t' : List ℕ} → Cleared t → Passed (job_of rec) AnySpot loads t t' → StepDid rec rec Full
  step-full {t' = t'} c p =
      let S : Saturated (job_of rec) loads t' = record { dead = p.dead; unwired = p.shut; reached = p.reached (λ x m. absurd (cleared-none c x m)) } in
      full refl (none-fits rec legal t' (subst (λ (z : List ℕ). Saturated (job_of rec) z t') copied S))

  module _ {loads' t' : List ℕ} {u : ℕ} (A : LaidAt (job_of rec) loads loads' t' u) where
    pub laid-held : Held (job_of rec) loads'
    laid-held = held_more copied-held A.spot A.more

    -- loops are taken out, and the bytes are copied back
    pub step_added : {loads'' rec' : List ℕ} → Freed rec loads' loads'' → rec' ≡ over (front loads'') rec → StepDid rec rec' Added
    step_added {loads''} F back =
        let N = subst (λ (z : List ℕ). OneMore (job_of rec) z loads'' u) copied (loose-one A.more (F.loose (job_of rec) laid-held)) in
        let i : front loads'' ≡ loads'' = front-whole loads'' (new-length rec legal loads'' N.kept) in
        more
        (subst (λ (z : List ℕ). calls.OneMore rec z) (sym (back ∙ ap (λ (z : List ℕ). over z rec) i))
        (wire-added rec legal loads'' u A.spot (subst (λ (z : List ℕ). Unwired (job_of rec) z u) copied A.unwired) N (freed-sound F laid-held legal.sound)))
