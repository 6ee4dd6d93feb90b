-- No two wires share a lane, and no wire has one twice: going back from a lane the wires keep together, and no hop goes on as the first of a pin, which no
-- step enters. Assumes nothing.
use Rattle.std.specs.Prelude.{◌≡◌, ℕ, zero, suc, T}
use Rattle.std.proofs.Common.{sym, ap, subst, ◌∙◌}
use Rattle.std.proofs.Math.Option.{Option, none, some}
use Rattle.sums.specs.Entries.{none-some, some_one, entry-member}
use Rattle.model.specs.Job.{Job}
use Rattle.model.specs.Links.{pin, Place, at, is_entered, Step, tail}
use Rattle.model.specs.Loads.{Sound}
use Rattle.model.specs.Wires.{Hop, onward, hop_at, is_wired}
use Rattle.model.proofs.Listed.{may-enters}
use Rattle.wire.specs.Next.{Loaded, hop-may, follow-leaves, follow_one}
use Rattle.wire.specs.Follow.{goes-loaded}
use Rattle.wire.specs.Threads.{Thread, hops, thread, thread-wire}

module _ (J : Job) (f : Step → ℕ) (S : Sound J f) where
  -- the wire's hops carry it
  pub wire-loaded : (r c n : ℕ) (v : Hop) → T (is_wired J f r c) → hop_at J f r c n ≡ some v → Loaded f v
  wire-loaded r c n v w e =
      let t : Thread J f r c = thread J f S r c w in
      goes-loaded J f S t.first t.rest t.loaded t.goes v (entry-member (hops t) n v (sym (thread-wire J f S r c t n) ∙ e))

  wire-from : (r c : ℕ) (v : Hop) → T (is_wired J f r c) → hop_at J f r c 0 ≡ some v → tail J v.step ≡ at pin r c
  wire-from r c v w e =
      let t : Thread J f r c = thread J f S r c w in
      ap (λ (u : Hop). tail J u.step) (some_one v t.first (sym e ∙ t.begins)) ∙ t.from

  -- the hop before the hop at suc n
  wire-before : (r c n : ℕ) (v : Hop) → hop_at J f r c (suc n) ≡ some v → (u : Hop) × (hop_at J f r c n ≡ some u) × (onward J f (some u) ≡ some v)
  unfolding hop_at
  wire-before r c n v e = by (hop_at J f r c n) e
    where
      by : (o : Option Hop) → onward J f o ≡ some v → (u : Hop) × (o ≡ some u) × (onward J f (some u) ≡ some v)
      by none q = absurd (none-some v q)
      by (some u) q = (u, (λ i. some u), q)

  -- no hop goes on as the first of a wire
  first-only : (r c q d n : ℕ) (v : Hop) → T (is_wired J f r c) → T (is_wired J f q d) → hop_at J f r c 0 ≡ some v → hop_at J f q d (suc n) ≡ some v → ⊥
  first-only r c q d n v w x a b =
      let (u, k, on) = wire-before q d n v b in
      let l : Loaded f u = wire-loaded q d n u x k in
      subst (λ (y : Place). T (is_entered J y)) (sym (follow-leaves J f S.feasible u v l on) ∙ wire-from r c v w a)
      (may-enters J u.step (hop-may J f S.feasible u l))

  pub lane-one : (r c m q d n : ℕ) (v : Hop) → T (is_wired J f r c) → T (is_wired J f q d) → hop_at J f r c m ≡ some v → hop_at J f q d n ≡ some v
      → (at pin r c ≡ at pin q d) × (m ≡ n)
  lane-one r c zero q d zero v w x a b = (sym (wire-from r c v w a) ∙ wire-from q d v x b, λ i. 0)
  lane-one r c zero q d (suc n) v w x a b = absurd (first-only r c q d n v w x a b)
  lane-one r c (suc m) q d zero v w x a b = absurd (first-only q d r c m v x w b a)
  lane-one r c (suc m) q d (suc n) v w x a b =
      let (u, k, on) = wire-before r c m v a in
      let (t, l, also) = wire-before q d n v b in
      let e : t ≡ u = follow_one J f S.feasible t u v (wire-loaded q d n t x l) (wire-loaded r c m u w k) also on in
      let (p, i) = lane-one r c m q d n u w x k (l ∙ ap some e) in
      (p, ap suc i)
