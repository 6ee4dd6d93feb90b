-- A dart is free exactly where it takes a step that may be taken along a link without a limit. Assumes nothing.
use Rattle.std.specs.Prelude.{◌≡◌, refl, Bool, not, ◌&&◌, ℕ}
use Rattle.std.proofs.Math.Bool.{true, false}
use Rattle.std.proofs.Math.Option.{Option, none, some}
use Rattle.std.proofs.Common.{arith}
use Rattle.std.proofs.Math.Dec.{T}
use Rattle.sums.specs.Tests.{and_left, and_right}
use Rattle.model.specs.Job.{Job}
use Rattle.model.specs.Links.{may, limit}
use Rattle.channel.specs.Map.{step_of, is_link_dart, is_none, free}

none_or_some : (o : Option ℕ) (k : ℕ) → T (is_none o) → o ≡ some k → ⊥
unfolding is_none
none_or_some none k t e = let z : ◌≡◌ {A = ℕ} 0 1 = cc in omega arith
none_or_some (some n) k t e = t

module _ (J : Job) (d : ℕ) where
  pub free-link : T (free J d) → T (is_link_dart d)
  unfolding free
  free-link t = and_left (is_link_dart d) (may J (step_of d) && is_none (limit J (step_of d).link)) t

  pub free-may : T (free J d) → T (may J (step_of d))
  unfolding free
  free-may t =
      and_left (may J (step_of d)) (is_none (limit J (step_of d).link))
      (and_right (is_link_dart d) (may J (step_of d) && is_none (limit J (step_of d).link)) t)

  pub free-unlimited : T (free J d) → (k : ℕ) → limit J (step_of d).link ≡ some k → ⊥
  unfolding free
  free-unlimited t k =
      none_or_some (limit J (step_of d).link) k
      (and_right (may J (step_of d)) (is_none (limit J (step_of d).link))
      (and_right (is_link_dart d) (may J (step_of d) && is_none (limit J (step_of d).link)) t))

  pub not-free-limited : T (not (free J d)) → T (is_link_dart d) → T (may J (step_of d)) → (k : ℕ) × (limit J (step_of d).link ≡ some k)
  unfolding free is_none
  not-free-limited n t m = by (is_link_dart d) t (may J (step_of d)) m (limit J (step_of d).link) n
    where
      by : (a : Bool) → T a → (b : Bool) → T b → (o : Option ℕ) → T (not (a && (b && is_none o))) → (k : ℕ) × (o ≡ some k)
      by true t true m none n = absurd n
      by true t true m (some k) n = (k, refl)
      by true t false m o n = absurd m
      by false t b m o n = absurd t
