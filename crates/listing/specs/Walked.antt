-- The parts of a wire: none after the last, so 11,201 are all. Assumes nothing.
use Rattle.std.specs.Prelude.{◌≡◌, Bool, ℕ, zero, suc, ◌+◌, ◌-◌, ◌≤◌}
use Rattle.std.proofs.Math.Path.{refl, ap}
use Rattle.std.proofs.Common.{sym, ◌∙◌, add-zero, add-suc, arith}
use Rattle.std.proofs.Math.Bool.{true, false}
use mathlib.Core.List.{List, [], ◌++◌, append-nil}
use Rattle.std.proofs.Math.Option.{Option, none}
use Rattle.std.proofs.Math.ListN.{get_elem?}
use Rattle.sums.specs.Counting.{each}
use Rattle.sums.specs.Tests.{so}
use Rattle.sums.specs.Entries.{entry_past}
use Rattle.model.specs.Job.{Job}
use Rattle.model.specs.Links.{Step}
use Rattle.model.specs.Loads.{Sound}
use Rattle.model.specs.Record.{job_of, load, Legal}
use Rattle.model.specs.Wires.{Hop, Part, unwired, hop_at, is_wired, part_of, part_at}
use Rattle.model.specs.Listing.{part_bytes, parts_bytes}
use Rattle.wire.specs.Follow.{none-on}
use Rattle.wire.specs.Threads.{Thread, hops, thread, thread-wire}
use Rattle.wire.specs.Lengths.{places-few, goes-short}

-- a list made entry by entry, with nothing from m on
pub each-past : (g : ℕ → List ℕ) (m k : ℕ) → ((i : ℕ) → m ≤ i → g i ≡ []) → each (m + k) g ≡ each m g
unfolding each
each-past g m zero h = ap (λ (n : ℕ). each n g) (add-zero m)
each-past g m (suc k) h =
    ap (λ (n : ℕ). each n g) (add-suc m k)
    ∙ (ap (λ (l : List ℕ). each (m + k) g ++ l) (h (m + k) (omega arith)) ∙ (append-nil (each (m + k) g) ∙ each-past g m k h))

-- where there is no hop, Part gives no bytes
pub part_none : (J : Job) (f : Step → ℕ) (r c i : ℕ) → hop_at J f r c i ≡ none → part_bytes (part_at J f r c i) ≡ []
unfolding part_at
part_none J f r c i e = by (is_wired J f r c)
  where
    by : (b : Bool) → part_bytes (elim b as (λ z. Part) [ true ↦ part_of J f (hop_at J f r c i) | false ↦ unwired ]) ≡ []
    by true = ap (λ (o : Option Hop). part_bytes (part_of J f o)) e
    by false = refl

-- the parts end with the hops
pub parts-end : (J : Job) (f : Step → ℕ) → Sound J f → (r c n k : ℕ) → hop_at J f r c n ≡ none → parts_bytes J f r c (n + k) ≡ parts_bytes J f r c n
unfolding parts_bytes
parts-end J f S r c n k e =
    each-past (λ i. part_bytes (part_at J f r c i)) n k
    (λ i h. let more : n + (i - n) ≡ i = omega arith in part_none J f r c i (ap (hop_at J f r c) (sym more) ∙ none-on J f S r c n (i - n) e))

-- no wire of a legal record has more than 11,201 parts
module _ (rec : List ℕ) (legal : Legal rec) where
  abbrev J : Job
  J = job_of rec

  abbrev f : Step → ℕ
  f = load rec

  pub no_more : (r c n : ℕ) → 11201 ≤ n → part_bytes (part_at J f r c n) ≡ []
  unfolding part_at
  no_more r c n l = by (is_wired J f r c) refl
    where
      by : (b : Bool) → is_wired J f r c ≡ b → part_bytes (elim b as (λ z. Part) [ true ↦ part_of J f (hop_at J f r c n) | false ↦ unwired ]) ≡ []
      by true e =
          let t : Thread J f r c = thread J f legal.sound r c (so e) in
          let short = goes-short J f legal.sound t.first t.rest t.loaded t.goes in
          let past : get_elem? (hops t) n ≡ none = entry_past (hops t) n (omega (arith, short, places-few J legal.values.array)) in
          ap (λ o. part_bytes (part_of J f o)) (thread-wire J f legal.sound r c t n ∙ past)
      by false e = refl
