-- The record after the edit of a mark, a state, an own D or a count: that of the edited job with the loads of the wires that stay. Assumes nothing.
use Rattle.std.specs.Prelude.{◌≡◌, not, ℕ, ◌≤◌, ◌<◌, length}
use Rattle.std.proofs.Common.{ap, ◌∙◌}
use mathlib.Core.List.{List, [], ◌∷◌}
use Rattle.std.proofs.Math.ListN.{set}
use Rattle.model.specs.Job.{Job, Side, side_of, marked, closed, laid_by, with_own_d}
use Rattle.model.specs.Links.{centre, at, pin_at, Step, Place}
use Rattle.model.specs.Record.{record_size, mark_plane, state_plane, own_d_plane, offset, job_of, load, Legal, record_of, over}
use Rattle.channel.specs.Laid.{side_offset, side-inside}
use Rattle.channel.specs.Written.{marked-with, closed-with, own-with, laid-with}
use Rattle.model.specs.Left.{left_loads, tile_places, mark_left, close_left, centre_left, laid_left, avoids}
use Rattle.takeout.specs.Marks.{is_marked}
use Rattle.takeout.specs.Edited.{Marks, left-avoids}

-- rec' is rec, a copy of the record `was`, without the wires of the pins that are marked
abbrev pub Unwired : List ℕ → List ℕ → List ℕ → List ℕ → Type 0
Unwired was taken rec rec' = rec' ≡ over (record_of (job_of was) (left_loads (job_of was) (load was) (λ q d. not (is_marked taken q d)))) rec

-- without the wires of the pins that are marked, those are left that a count n of the side leaves
pub record LeavesLaid (was taken : List ℕ) (s : Side) (n : ℕ) : Type 0 where
  pub left : left_loads (job_of was) (load was) (λ q d. not (is_marked taken q d)) ≡ laid_left (job_of was) (load was) s n

-- for any places that the marks are of: the wires that avoid them are left
pub unwired-avoids : (was taken rec rec' : List ℕ) (xs : List Place) → Legal was → Marks was taken xs → Unwired was taken rec rec'
    → rec' ≡ over (record_of (job_of was) (left_loads (job_of was) (load was) (avoids (job_of was) (load was) xs))) rec
unwired-avoids was taken rec rec' xs g M e = e ∙ ap (λ (h : Step → ℕ). over (record_of (job_of was) h) rec) (left-avoids was g xs taken M)

module _ (was taken rec rec' rec'' : List ℕ) (g : Legal was) (r c v : ℕ) (long : record_size ≤ length rec) (e : Unwired was taken rec rec') where
  abbrev J : Job
  J = job_of was

  abbrev f : Step → ℕ
  f = load was

  pub mark-stored : r < 40 → c < 40 → Marks was taken (pin_at J r c ∷ []) → rec'' ≡ set rec' (offset mark_plane r c) v
      → rec'' ≡ over (record_of (marked (job_of was) r c v) (mark_left (job_of was) (load was) r c)) rec
  unfolding mark_left
  mark-stored lr lc M k =
      k
      ∙ (ap (λ (z : List ℕ). set z (offset mark_plane r c) v) (unwired-avoids was taken rec rec' (pin_at J r c ∷ []) g M e)
      ∙ marked-with J (mark_left J f r c) rec r c v long lr lc)

  pub close-stored : r < 40 → c < 40 → Marks was taken (tile_places r c) → rec'' ≡ set rec' (offset state_plane r c) v
      → rec'' ≡ over (record_of (closed (job_of was) r c v) (close_left (job_of was) (load was) r c)) rec
  unfolding close_left
  close-stored lr lc M k =
      k
      ∙ (ap (λ (z : List ℕ). set z (offset state_plane r c) v) (unwired-avoids was taken rec rec' (tile_places r c) g M e)
      ∙ closed-with J (close_left J f r c) rec r c v long lr lc)

  pub diagonal-stored : r < 40 → c < 40 → Marks was taken (at centre r c ∷ []) → rec'' ≡ set rec' (offset own_d_plane r c) v
      → rec'' ≡ over (record_of (with_own_d (job_of was) r c v) (centre_left (job_of was) (load was) r c)) rec
  unfolding centre_left
  diagonal-stored lr lc M k =
      k
      ∙ (ap (λ (z : List ℕ). set z (offset own_d_plane r c) v) (unwired-avoids was taken rec rec' (at centre r c ∷ []) g M e)
      ∙ own-with J (centre_left J f r c) rec r c v long lr lc)

  -- the count v of a side
  pub lay-stored : (d : ℕ) → r < 39 → c < 39 → left_loads J f (λ q p. not (is_marked taken q p)) ≡ laid_left J f (side_of r c d) v
      → rec'' ≡ set rec' (side_offset (side_of r c d)) v
      → rec'' ≡ over (record_of (laid_by (job_of was) (side_of r c d) v) (laid_left (job_of was) (load was) (side_of r c d) v)) rec
  lay-stored d lr lc left k =
      let (x, y) = side-inside r c d lr lc in
      k
      ∙ (ap (λ (z : List ℕ). set z (side_offset (side_of r c d)) v) (e ∙ ap (λ (h : Step → ℕ). over (record_of J h) rec) left)
      ∙ laid-with J (laid_left J f (side_of r c d) v) rec (side_of r c d) v long x y)
