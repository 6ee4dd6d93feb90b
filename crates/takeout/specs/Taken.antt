-- A wire taken out of a record, hop by hop, as it is listed in a record that is not touched: after n hops each step has as many wires less as the first n
-- hops go by it. Where the record still has the wire, that much can be taken. Assumes nothing.
use Rattle.std.specs.Prelude.{◌≡◌, ℕ, ◌+◌, ◌-◌, ◌≤◌, ◌<◌, T, length, Some, None}
use Rattle.std.proofs.Common.{sym, ◌∙◌, add-one}
use Rattle.std.proofs.Math.Path.{ap, subst}
use Rattle.std.proofs.Math.Option.{Option, none, some}
use mathlib.Core.List.{List}
use native.Mathlib.Omega.{arith}
use Rattle.sums.specs.Counting.{when, sum}
use Rattle.sums.specs.Sums.{sum-append, sum-widen, when-so}
use Rattle.sums.specs.Tests.{so}
use Rattle.model.specs.Job.{Job, is_chosen}
use Rattle.model.specs.Links.{pin, at, same_step, Step, turn, around}
use Rattle.model.specs.Record.{record_size, job_of, load, Legal}
use Rattle.model.specs.Wires.{Hop, first_loaded, hop_at, is_wired}
use Rattle.model.specs.Left.{hop_passes, hops_most, hop_count, wire_uses}
use Rattle.channel.specs.Map.{step_of, dart_of, laid}
use Rattle.wire.specs.Hops.{hop, Runs, Takes}
use Rattle.wire.specs.declared.Hop.{Hop as Taken}
use Rattle.wire.specs.Follow.{none-on}
use Rattle.wire.specs.Walks.{wired-some}
use Rattle.wire.specs.Counts.{same_step_lem}
use Rattle.keep.specs.Staying.{hop-below}
use Rattle.takeout.specs.Lessened.{Lessened, lessened-as, lessens, Behind, behind-none, behind-two, lessens-behind}

-- 1 if the hop goes by the step
abbrev pub goes_by : Step → Option Hop → ℕ
goes_by s o = when (hop_passes (λ h. same_step s h.step) o) 1

-- the first terms of a sum
pub sum-front : (n m : ℕ) (g : ℕ → ℕ) → n ≤ m → sum n g ≤ sum m g
sum-front n m g l = let e : m ≡ n + (m - n) = omega arith in omega (arith, ap (λ (k : ℕ). sum k g) e, sum-append n (m - n) g)

module _ (was : List ℕ) (r c : ℕ) where
  abbrev J : Job
  J = job_of was

  abbrev f : Step → ℕ
  f = load was

  -- how often the first n hops of the wire go by the step
  abbrev pub uses_to : ℕ → Step → ℕ
  uses_to n s = sum n (λ i. goes_by s (hop_at J f r c i))

  -- the wire can be taken out besides
  abbrev pub Room : (Step → ℕ) → Type 0
  Room out = (s : Step) → out s + wire_uses J f r c s ≤ f s

  -- n hops of the wire are taken out of rec, which leaves rec'
  pub record Walked (rec rec' : List ℕ) (n : ℕ) : Type 0 where
    pub behind : Behind rec rec'
    pub less : (out : Step → ℕ) → Lessened was rec out → Room out → Lessened was rec' (λ s. out s + uses_to n s)

  -- the wire is taken out of rec, which leaves rec'
  pub record TakesOut (rec rec' : List ℕ) : Type 0 where
    pub behind : Behind rec rec'
    pub less : (out : Step → ℕ) → Lessened was rec out → Room out → Lessened was rec' (λ s. out s + wire_uses J f r c s)

  module _ (g : Legal was) where
    pub walked_none : (rec : List ℕ) → Walked rec rec 0
    unfolding sum
    walked_none rec =
        record { behind = behind-none rec; less = λ out L m. lessened-as out (λ s. out s + uses_to 0 s) (λ s. omega arith) L }

    pub walked_more : (rec rec' rec'' : List ℕ) (n d l : ℕ) → T (is_wired J f r c) → record_size ≤ length rec' → Runs was d l → hop_at J f r c n ≡ some (hop d l)
        → Walked rec rec' n → rec'' ≡ laid rec' (dart_of (turn (step_of d))) → Walked rec rec'' (n + 1)
    unfolding sum hop_count
    walked_more rec rec' rec'' n d l w long v e k q =
        record {
          behind = behind-two k.behind (subst (Behind rec') (sym q) (lessens-behind rec' d v.linked));
          less =
              λ out L m. subst (λ (z : List ℕ). Lessened was z (λ s. out s + uses_to (n + 1) s)) (sym q)
              (lessened-as (λ s. out s + uses_to n s + when (same_step s (step_of d)) 1) (λ s. out s + uses_to (n + 1) s) (λ s. omega (arith, next s))
              (lessens long (k.less out L m) d v.linked (there out L m)));
        }
      where
        next : (s : Step) → uses_to (n + 1) s ≡ uses_to n s + when (same_step s (step_of d)) 1
        next s = ap (λ (i : ℕ). uses_to i s) (add-one n) ∙ ap (λ (o : Option Hop). uses_to n s + goes_by s o) e

        some_left : uses_to (n + 1) (step_of d) ≤ wire_uses J f r c (step_of d)
        some_left =
            let b : n < hops_most J f = hop-below J f g.sound r c n (hop d l) w e in
            sum-front (n + 1) (hops_most J f) (λ i. goes_by (step_of d) (hop_at J f r c i)) (omega arith)

        there : (out : Step → ℕ) → Lessened was rec out → Room out → 0 < load rec' (step_of d)
        there out L m =
            omega (
              arith,
              (k.less out L m).loads (step_of d),
              m (step_of d),
              some_left,
              next (step_of d),
              when-so (same_step (step_of d) (step_of d)) 1 (same_step_lem (step_of d)),
            )

    -- past its last hop it goes by nothing
    uses-all : (n : ℕ) → n ≤ hops_most J f → hop_at J f r c n ≡ none → (s : Step) → wire_uses J f r c s ≡ uses_to n s
    unfolding hop_count
    uses-all n l e s =
        sum-widen n (hops_most J f) (λ i. goes_by s (hop_at J f r c i)) l
        (λ i a b. ap (goes_by s) (let q : i ≡ n + (i - n) = omega arith in ap (hop_at J f r c) q ∙ none-on J f g.sound r c n (i - n) e))

    pub walked_all : (rec rec' : List ℕ) (n : ℕ) → n ≤ hops_most J f → hop_at J f r c n ≡ none → Walked rec rec' n → TakesOut rec rec'
    walked_all rec rec' n l e k =
        record {
          behind = k.behind;
          less =
              λ out L m. lessened-as (λ s. out s + uses_to n s) (λ s. out s + wire_uses J f r c s) (λ s. omega (arith, uses-all n l e s)) (k.less out L m);
        }

    -- ---- the walk

    pub walked-wired : (t : T (is_chosen J r c)) (h : Taken) → Takes was (Some h) (first_loaded f (around (at pin r c))) → T (is_wired J f r c)
    walked-wired t h v = so (wired-some was g r c t h v)

    -- a pin with no first hop
    pub unwired-out : (rec : List ℕ) → Takes was None (first_loaded f (around (at pin r c))) → TakesOut rec rec
    unfolding hop_at
    unwired-out rec v = walked_all rec rec 0 (omega arith) (sym v.hop) (walked_none rec)

    -- the last hop
    pub wire-out : (rec rec' : List ℕ) (n d l : ℕ) → T (is_wired J f r c) → hop_at J f r c n ≡ some (hop d l) → hop_at J f r c (n + 1) ≡ none
        → Walked rec rec' (n + 1) → TakesOut rec rec'
    wire-out rec rec' n d l w e o k =
        let b : n < hops_most J f = hop-below J f g.sound r c n (hop d l) w e in
        walked_all rec rec' (n + 1) (omega arith) o k
