-- Document 01, "Shortfall": on the record of a run Shortfall is accepted where it is lent enough, and then gives chosen minus the greatest number and, where
-- that is not 0, the smallest near side; for one that is accepted was lent enough. Assumes nothing.
use Rattle.std.specs.Prelude.{◌≡◌, Bool, true, false, not, List, ℕ, ◌-◌, ◌≤◌, ◌<◌, T, leb, length}
use Rattle.std.proofs.Common.{sym, ap, ap₂, subst, ◌∙◌, arith, leb→le}
use Rattle.std.proofs.Math.Dec.{nleb→lt}
use Rattle.sums.specs.Entries.{none-some}
use Rattle.model.specs.Job.{Job}
use Rattle.model.specs.Route.{Greatest, chosen_count}
use Rattle.model.specs.Near.{Smallest}
use Rattle.model.specs.Record.{record_size, scratch_size, over}
use Rattle.model.specs.Calls.{shortfall, lacks, refusal, Accepted, After, near_bytes, Shown, none-short, side, Lacks}
use Rattle.model.specs.Run.{Buffer, Service}
use Rattle.run.specs.Invariant.{Kept}
use Rattle.run.specs.Says.{same-greatest}

shortfall-lent : (rec scratch output : List ℕ) (a : After) → Lacks scratch output rec a → Accepted a.answer
    → (scratch_size ≤ length scratch) × (record_size ≤ length output)
shortfall-lent rec scratch output a d x =
    by (leb scratch_size (length scratch)) (leb record_size (length output)) (leb→le scratch_size (length scratch)) (nleb→lt scratch_size (length scratch))
    (leb→le record_size (length output)) (nleb→lt record_size (length output))
  where
    by : (b c : Bool) → (T b → scratch_size ≤ length scratch) → (T (not b) → length scratch < scratch_size) → (T c → record_size ≤ length output)
        → (T (not c) → length output < record_size) → (scratch_size ≤ length scratch) × (record_size ≤ length output)
    by true true f h p q = (f tt, p tt)
    by true false f h p q = absurd (none-some 7 (sym x ∙ ap (λ (y : After). refusal y.answer) (d.narrow (f tt) (q tt))))
    by false c f h p q = absurd (none-some 8 (sym x ∙ ap (λ (y : After). refusal y.answer) (d.small (h tt))))

shown-side : (J : Job) (g h : ℕ) (output output' : List ℕ) → h ≡ g → g < chosen_count J → Shown J h output output'
    → (N : ℕ → Bool) × Smallest J N g × (output' ≡ over (near_bytes N) output)
shown-side J g h output output' e l (none-short c q) = absurd (omega arith)
shown-side J g h output output' e l (side c N s q) = (N, subst (Smallest J N) e s, q)

module _ (S : Service) (rec : List ℕ) (J : Job) (k : Kept rec J) (scratch output : List ℕ) (b : Buffer scratch) (o : Buffer output) where
  abbrev a : After
  a = S.does (shortfall scratch output) rec

  did : Lacks scratch output rec a
  did = (S.did (shortfall scratch output) rec (b, o) k.buffer).legal k.legal

  pub enough-shortfall : scratch_size ≤ length scratch → record_size ≤ length output → Accepted a.answer
  enough-shortfall l m = ap refusal (did.enough l m).2

  module _ (g : ℕ) (G : Greatest J g) (x : Accepted a.answer) where
    -- what Shortfall gives, about the job of the run
    given : (a.answer ≡ lacks (chosen_count J - g)) × (h : ℕ) × (h ≡ g) × Shown J h output a.output
    given =
        let (l, m) = shortfall-lent rec scratch output a did x in
        let (h, H, e, s, r, c) = did.enough l m in
        let q : h ≡ g = same-greatest S J g G rec h k H in
        (e ∙ ap lacks (ap₂ ◌-◌ (ap chosen_count k.job) q), h, q, subst (λ (X : Job). Shown X h output a.output) k.job s)

    pub shortfall-number : a.answer ≡ lacks (chosen_count J - g)
    shortfall-number = given.0

    pub shortfall-near : g < chosen_count J → (N : ℕ → Bool) × Smallest J N g × (a.output ≡ over (near_bytes N) output)
    shortfall-near l = shown-side J g given.1 output a.output given.2 l given.3
