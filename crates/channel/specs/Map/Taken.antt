-- A step that may be taken has a dart, which leads from the exit of the step's tail to the entry of its head, or outside. Assumes nothing.
use Rattle.std.specs.Prelude.{◌≡◌, ℕ, ◌+◌, ◌*◌, ◌/◌, ◌<◌, T}
use Rattle.std.proofs.Common.{sym, ap, ◌∙◌}
use Rattle.std.proofs.Math.Path.{subst}
use Rattle.sums.specs.Entries.{has-entry}
use Rattle.model.specs.Job.{Job, array_fits}
use Rattle.model.specs.Links.{Step, head, tail, may}
use Rattle.model.specs.Near.{exit}
use Rattle.model.proofs.Listed.{step-listed, may-leaves}
use Rattle.channel.specs.Map.{darts, rev, step_of, is_link_dart, EndsAt}
use Rattle.channel.specs.Map.Steps.{dart_of, step-dart, slot_step, link-tail, link-head}

module _ (J : Job) (fits : T (array_fits J.rows J.columns)) (s : Step) (m : T (may J s)) where
  pub may-dart : (dart_of s < darts) × T (is_link_dart (dart_of s)) × (step_of (dart_of s) ≡ s)
  may-dart =
      let t = may-leaves J s m in
      let (k, e) = has-entry (step-listed J s t) in
      let (l, u, q) = slot_step J fits (tail J s) t k s e in
      let f : 8 * exit (tail J s) + k ≡ dart_of s = sym (step-dart _ l u) ∙ ap dart_of q in
      subst (λ (d : ℕ). (d < darts) × T (is_link_dart d) × (step_of d ≡ s)) f (l, u, q)

  pub step-tail : dart_of s / 8 ≡ exit (tail J s)
  step-tail =
      let (l, t, q) = may-dart in
      sym (link-tail J fits (dart_of s) l t (rw q m)).0 ∙ ap (λ (y : Step). exit (tail J y)) q

  pub step-head : EndsAt J (head J s) (rev (dart_of s) / 8)
  unfolding EndsAt
  step-head =
      let (l, t, q) = may-dart in
      subst (λ (y : Step). EndsAt J (head J y) (rev (dart_of s) / 8)) q (link-head J fits (dart_of s) l t (rw q m))
