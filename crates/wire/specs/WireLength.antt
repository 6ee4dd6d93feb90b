-- How long the wire of a pin is: counted by index up to the most hops that a wire can have, as the definition does, or hop by hop along its thread. Assumes
-- nothing.
use Rattle.std.specs.Prelude.{◌≡◌, Bool, ℕ}
use Rattle.std.proofs.Math.Path.{ap}
use Rattle.std.proofs.Common.{◌∙◌, arith}
use Rattle.std.proofs.Math.Option.{Option}
use Rattle.sums.specs.Counting.{when, count}
use Rattle.sums.specs.Entries.{entry_past}
use Rattle.sums.specs.Totals.{total-map, sum-entries}
use Rattle.model.specs.Job.{Job}
use Rattle.model.specs.Links.{is_missing_kind, Step, head}
use Rattle.model.specs.Loads.{Sound}
use Rattle.model.specs.Wires.{Hop, hop_at}
use Rattle.model.specs.Left.{hop_passes, hops_most, hop_count}
use Rattle.model.specs.Length.{is_side, wire_length, length_from}
use Rattle.wire.specs.Follow.{steps_of}
use Rattle.wire.specs.Lengths.{goes-short}
use Rattle.wire.specs.Threads.{Thread, hops, thread-wire}

module _ (J : Job) (f : Step → ℕ) (S : Sound J f) (r c : ℕ) (t : Thread J f r c) where
  -- the hops that pass a test
  thread-count : (p : Hop → Bool) → hop_count J f p r c ≡ count (hops t) p
  unfolding hop_count
  thread-count p =
      sum-entries (hops t) (hops_most J f) (λ n. when (hop_passes p (hop_at J f r c n)) 1) (λ h. when (p h) 1)
      (omega (arith, goes-short J f S t.first t.rest t.loaded t.goes))
      (λ i h e. ap (λ (o : Option Hop). when (hop_passes p o) 1) (thread-wire J f S r c t i ∙ e)) (λ i l k. ap (λ (o : Option Hop). when (hop_passes p o) 1) (thread-wire J f S r c t i ∙ entry_past (hops t) i l))

  pub thread-length : wire_length J (steps_of (hops t)) ≡ length_from J f r c
  thread-length =
      omega (
        arith,
        thread-count (λ h. is_side h.step.link),
        thread-count (λ h. is_missing_kind (head J h.step)),
        total-map (λ (h : Hop). h.step) (hops t) (λ s. when (is_side s.link) 1),
        total-map (λ (h : Hop). h.step) (hops t) (λ s. when (is_missing_kind (head J s)) 1),
      )
