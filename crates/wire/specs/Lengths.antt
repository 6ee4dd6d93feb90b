-- How long a wire is: one hop more than it meets places, none of which it meets twice, and a job has at most 7 places for each of 1,600 cells. So a walk
-- along it ends. Assumes nothing.
use Rattle.std.specs.Prelude.{◌≡◌, List, [], ◌∷◌, ℕ, zero, suc, ◌+◌, ◌*◌, ◌≤◌, ◌<◌, T, length, Some, None}
use Rattle.std.proofs.Math.Path.{refl, ap}
use Rattle.std.proofs.Common.{sym, subst, ◌∙◌, suc-mul, zero-add, arith}
use Rattle.std.proofs.Math.Option.{none, some}
use Rattle.std.proofs.Math.ListN.{get_elem?}
use Rattle.sums.specs.Counting.{when, sum, total}
use Rattle.sums.specs.Totals.{length-total, total-le}
use Rattle.sums.specs.Entries.{none-some, entry-below}
use Rattle.model.specs.Job.{Job, in_range, array_fits}
use Rattle.model.specs.Links.{pin, Place, at, is_place, places_at, places, Step, tail, around}
use Rattle.model.specs.Loads.{Sound}
use Rattle.model.specs.Record.{job_of, load, Legal}
use Rattle.model.specs.Wires.{Hop, first_loaded, hop_at, Wire}
use Rattle.model.proofs.Listed.{may-leaves}
use Rattle.model.proofs.RecordOf.{range-most}
use Rattle.sums.specs.Tests.{and_left, and_right}
use Rattle.wire.specs.Next.{Loaded, hop-may}
use Rattle.wire.specs.Follow.{Long, longer, long-none, long-short, Goes, comes-out, goes-listed, none-on}
use Rattle.wire.specs.Places.{when-drop, places-total}
use Rattle.wire.specs.Hops.{hop_of, Takes}
use Rattle.wire.specs.declared.Hop.{Hop as Taken}

-- the wire of the pin (r, c) has n hops
pub record Hops (J : Job) (f : Step → ℕ) (r c n : ℕ) : Type 0 where
  pub hops : List Hop
  pub wire : Wire J f r c hops
  pub number : n ≡ length hops

-- where there is no entry, the list has ended
entry-end : {A : Type 0} (l : List A) (k : ℕ) → get_elem? l k ≡ none → length l ≤ k
entry-end [] k e = omega arith
entry-end (x ∷ l) zero e = absurd (none-some x (sym e))
entry-end (x ∷ l) (suc k) e = omega (arith, entry-end l k e)

-- ---- the places of a job

pub sum-most : (n b : ℕ) (g : ℕ → ℕ) → ((i : ℕ) → g i ≤ b) → sum n g ≤ n * b
unfolding sum
sum-most zero b g h = omega arith
sum-most (suc n) b g h = rw suc-mul (omega (arith, sum-most n b g h, h n))

cell-most : (J : Job) (r c : ℕ) → total (places_at r c) (λ y. when (is_place J y) 1) ≤ 7
unfolding total
cell-most J r c = total-le (places_at r c) (λ y. when (is_place J y) 1) (λ y. 1) (λ y. when-drop (is_place J y) 1)

pub places-few : (J : Job) → T (array_fits J.rows J.columns) → length (places J) ≤ 11200
places-few J fits =
    let a : J.rows ≤ 40 = range-most 2 40 J.rows (and_left (in_range 2 40 J.rows) (in_range 2 40 J.columns) fits) in
    let b : J.columns ≤ 40 = range-most 2 40 J.columns (and_right (in_range 2 40 J.rows) (in_range 2 40 J.columns) fits) in
    let row : (r : ℕ) → sum J.columns (λ c. total (places_at r c) (λ y. when (is_place J y) 1)) ≤ 280 =
    λ r. omega (arith, sum-most J.columns 7 (λ c. total (places_at r c) (λ y. when (is_place J y) 1)) (cell-most J r)) in
    omega (
      arith,
      length-total (places J),
      places-total J (λ y. 1),
      sum-most J.rows 280 (λ r. sum J.columns (λ c. total (places_at r c) (λ y. when (is_place J y) 1))) row,
    )

-- ---- the length of a wire

module _ (J : Job) (f : Step → ℕ) (S : Sound J f) where
  -- all steps of a wire but its last come to places
  front : (h : Hop) (hs : List Hop) → Loaded f h → Goes J f h hs → Long J f S (length hs) (tail J h.step)
  front h [] l g = long-none J f S (tail J h.step)
  front h (k ∷ hs) l g =
      longer J f S (length hs) h.step (tail J k.step) (omega arith)
      (subst (λ (y : Place). T (is_place J y)) g.1 (may-leaves J k.step (hop-may J f S.feasible k g.0))) g.1 (front k hs g.0 g.3)

  pub goes-short : (h : Hop) (hs : List Hop) → Loaded f h → Goes J f h hs → length hs ≤ length (places J)
  goes-short h hs l g =
      let no : ¬ (length (places J) < length hs) = long-short J f S (length hs) (tail J h.step) (front h hs l g) in
      omega arith

-- ---- the walk along it

module _ (rec : List ℕ) (g : Legal rec) (r c : ℕ) where
  abbrev J : Job
  J = job_of rec

  abbrev f : Step → ℕ
  f = load rec

  pub none-listed : Takes rec None (first_loaded f (around (at pin r c))) → Hops J f r c 0
  unfolding hop_at
  none-listed v =
      record { hops = []; wire = λ i. ap (hop_at J f r c) (sym (zero-add i)) ∙ none-on J f g.sound r c 0 i (sym v.hop); number = refl }

  module _ (first : Taken) (v : Takes rec (Some first) (first_loaded f (around (at pin r c)))) where
    walked : (hs : List Hop) × Wire J f r c (hop_of first ∷ hs) × (length hs ≤ 11200)
    unfolding hop_at
    walked =
        let (hs, w) = comes-out J f g.sound (hop_of first) v.runs.loaded in (
          hs,
          goes-listed J f g.sound r c (hop_of first) hs (sym v.hop) w,
          omega (arith, goes-short J f g.sound (hop_of first) hs v.runs.loaded w, places-few J g.values.array),
        )

    pub hops-few : (i : ℕ) (h : Hop) → hop_at J f r c i ≡ some h → i ≤ 11200
    hops-few i h e = let (hs, w, l) = walked in omega (arith, entry-below (hop_of first ∷ hs) i h (sym (w i) ∙ e))

    pub hops-counted : (i : ℕ) (h : Hop) → hop_at J f r c i ≡ some h → hop_at J f r c (i + 1) ≡ none → Hops J f r c (i + 1)
    hops-counted i h e o =
        let (hs, w, l) = walked in
        let a : i < length (hop_of first ∷ hs) = entry-below (hop_of first ∷ hs) i h (sym (w i) ∙ e) in
        record { hops = hop_of first ∷ hs; wire = w; number = omega (arith, entry-end (hop_of first ∷ hs) (i + 1) (sym (w (i + 1)) ∙ o)) }
