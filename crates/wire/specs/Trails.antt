-- Along loaded links no place is met twice, since no loop stands; so a trail over places is no longer than there are places. Assumes nothing.
use Rattle.std.specs.Prelude.{◌≡◌, Bool, T, length}
use Rattle.std.proofs.Math.Path.{refl}
use Rattle.std.proofs.Common.{sym, ap, subst}
use Rattle.std.proofs.Math.Bool.{true, false}
use mathlib.Core.List.{List, [], ◌∷◌, Memᴰ}
use Prim.Native.Nat.{ℕ, zero, suc, ◌+◌, ◌≤◌, ◌<◌}
use native.Mathlib.Omega.{arith}
use Rattle.sums.specs.Counting.{when, total, count}
use Rattle.sums.specs.Tests.{so}
use Rattle.sums.specs.Sums.{when-so}
use Rattle.sums.specs.Totals.{total-has, total-le, total-le-in, total-swap, length-total}
use Rattle.model.specs.Job.{Job}
use Rattle.model.specs.Links.{Place, is_place, places, same_place, Step, head}
use Rattle.model.specs.Route.{visits}
use Rattle.model.specs.Loads.{Trail, Sound}
use Rattle.model.proofs.Listed.{place-listed}
use Rattle.model.proofs.Same.{same_place_lem, same-place-eq}

module _ (J : Job) (f : Step → ℕ) (S : Sound J f) where
  -- a trail that comes to x has a part that ends there
  part-to : (x y z : Place) (ss : List Step) → Trail J f y ss z → 0 < visits J x ss → (t : Step) × (ts : List Step) × Trail J f y (t ∷ ts) x
  unfolding total
  part-to x y z [] r h = absurd (omega arith)
  part-to x y z (s ∷ ss) r h = by (same_place x (head J s)) refl (part-to x (head J s) z ss r.2)
    where
      Part : Place → Type 0
      Part y = (t : Step) × (ts : List Step) × Trail J f y (t ∷ ts) x

      by : (b : Bool) → same_place x (head J s) ≡ b → (0 < visits J x ss → Part (head J s)) → Part y
      by true e k = (s, [], (r.0, r.1, sym (same-place-eq x (head J s) (so e))))
      by false e k = let (t, ts, q) = k (omega (arith, ap (λ (b : Bool). when b 1) e)) in (s, t ∷ ts, (r.0, r.1, q))

  pub visits-once : (x y z : Place) (ss : List Step) → Trail J f y ss z → visits J x ss ≤ 1
  unfolding total
  visits-once x y z [] r = omega arith
  visits-once x y z (s ∷ ss) r = by (same_place x (head J s)) refl (visits J x ss) refl (visits-once x (head J s) z ss r.2)
    where
      by : (b : Bool) → same_place x (head J s) ≡ b → (n : ℕ) → visits J x ss ≡ n → visits J x ss ≤ 1 → when b 1 + visits J x ss ≤ 1
      by true e zero g k = omega arith
      by true e (suc n) g k =
          let (t, ts, q) = part-to x (head J s) z ss r.2 (omega arith) in
          absurd (S.loops x t ts (subst (λ (w : Place). Trail J f w (t ∷ ts) x) (sym (same-place-eq x (head J s) (so e))) q))
      by false e n g k = omega arith

  -- the steps come to places
  abbrev pub Inside : List Step → Type 0
  Inside ss = (s : Step) → Memᴰ s ss → T (is_place J (head J s))

  one_place : (s : Step) → T (is_place J (head J s)) → 1 ≤ count (places J) (λ x. same_place x (head J s))
  one_place s p =
      omega (
        arith,
        total-has (places J) (λ x. when (same_place x (head J s)) 1) (place-listed J (head J s) p),
        when-so (same_place (head J s) (head J s)) 1 (same_place_lem (head J s)),
      )

  pub trail-short : (y z : Place) (ss : List Step) → Trail J f y ss z → Inside ss → length ss ≤ length (places J)
  trail-short y z ss r i =
      omega (
        arith,
        length-total ss,
        length-total (places J),
        total-le-in ss (λ s. 1) (λ s. count (places J) (λ x. same_place x (head J s))) (λ s m. one_place s (i s m)),
        total-swap ss (places J) (λ s x. when (same_place x (head J s)) 1),
        total-le (places J) (λ x. visits J x ss) (λ x. 1) (λ x. visits-once x y z ss r),
      )
