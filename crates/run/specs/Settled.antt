-- Document 01, "Settled by hand", as answers of every service after every run, by demand 3: each row of `shorts` says "added" as often as its greatest number
-- and then "short", and Shortfall gives 1 and the near side of the row; each job of `wireds` says "added" as often as pins are chosen and then "all wired",
-- and Shortfall gives 0; where nothing is chosen, "all wired", never "added". For a job has one greatest number and one smallest near side. Assumes nothing.
use Rattle.std.specs.Prelude.{◌≡◌, ◌⊎◌, Bool, ℕ, suc, ◌-◌, ◌≤◌, ◌<◌, T, eqb, length}
use Rattle.std.proofs.Common.{ap, subst, ◌∙◌, inl, inr, arith, eqb→eq}
use mathlib.Core.List.{List, Memᴰ}
use Rattle.sums.specs.Counting.{each, those, total}
use Rattle.sums.specs.Tests.{every, every-at}
use Rattle.model.specs.Job.{Job, is_open, is_chosen, is_missing}
use Rattle.model.specs.Links.{places}
use Rattle.model.specs.Route.{Family, Greatest, chosen_count}
use Rattle.model.specs.Near.{Smallest}
use Rattle.model.specs.Record.{record_size, scratch_size, over}
use Rattle.model.specs.Examples.{Short, among, shorts, wireds}
use Rattle.model.specs.Calls.{Call, shortfall, Answer, all_wired, short, lacks, Accepted, wires_in, near_bytes}
use Rattle.model.specs.Run.{Buffer, Service, Starts, Follows, Stepping, Ended, Demand}
use Rattle.model.proofs.Unique.{greatest-unique, smallest-unique}
use Rattle.model.proofs.Empty.{nothing-chosen}
use Rattle.model.proofs.ShortByTest.{ShortHolds}
use Rattle.model.proofs.Shorts.{shorts-hold}
use Rattle.model.proofs.Wireds.{wireds-hold}
use Rattle.wire.specs.Families.{chosen-le-family}
use Rattle.run.specs.Demand3.{demand3}

-- ---- a short job

-- the answers on a record of the row's job, with nothing wired
pub record Answers (S : Service) (rec : List ℕ) (x : Short) : Type 0 where
  pub steps : (n : ℕ) (w : Answer) (end : List ℕ) → Stepping S rec n w end → (n ≡ x.greatest) × (w ≡ short)
  pub ends : (scratch : List ℕ) → Buffer scratch → scratch_size ≤ length scratch → (end : List ℕ) × Stepping S rec x.greatest short end
  pub lacking : (scratch output : List ℕ) → Buffer scratch → Buffer output → scratch_size ≤ length scratch → record_size ≤ length output
      → ((S.does (shortfall scratch output) rec).answer ≡ lacks 1)
      × ((S.does (shortfall scratch output) rec).output ≡ over (near_bytes (among x.near)) output)

module _ (S : Service) (rec : List ℕ) (x : Short) (D : Demand S rec x.job) (unwired : wires_in rec ≡ 0)
    (chosen : chosen_count x.job ≡ suc x.greatest) (holds : ShortHolds x) where
  abbrev J : Job
  J = x.job

  same-greatest : D.g ≡ x.greatest
  same-greatest = greatest-unique J D.g x.greatest D.greatest holds.0

  ends-short : (w : Answer) (end : List ℕ) → Ended S J D.g w end → w ≡ short
  ends-short w end e = by e.otherwise
    where
      by : (w ≡ all_wired) ⊎ ((w ≡ short) × (D.g < chosen_count J)) → w ≡ short
      by (inl a) = absurd (omega (arith, chosen-le-family J e.routes (e.family a), e.number, same-greatest))
      by (inr (a, l)) = a

  steps-short : (n : ℕ) (w : Answer) (end : List ℕ) → Stepping S rec n w end → (n ≡ x.greatest) × (w ≡ short)
  steps-short n w end r = let (e, t) = D.steps n w end r in (omega (arith, same-greatest), ends-short w end t)

  row-short : (scratch : List ℕ) → Buffer scratch → scratch_size ≤ length scratch → (end : List ℕ) × Stepping S rec x.greatest short end
  row-short scratch b l =
      let (n, w, end, r) = D.ends scratch b l in
      let (e, a) = steps-short n w end r in
      (end, subst (λ (m : ℕ). Stepping S rec m short end) e (subst (λ (y : Answer). Stepping S rec n y end) a r))

  shortfall-one : (scratch output : List ℕ) → Buffer scratch → Buffer output → scratch_size ≤ length scratch → record_size ≤ length output
      → ((S.does (shortfall scratch output) rec).answer ≡ lacks 1)
      × ((S.does (shortfall scratch output) rec).output ≡ over (near_bytes (among x.near)) output)
  shortfall-one scratch output b o l m =
      let y : Accepted (S.does (shortfall scratch output) rec).answer = D.shortfall-accepted scratch output b o l m in
      let (N, s, e) = D.near scratch output b o y (omega (arith, same-greatest)) in (
        D.shortfalls scratch output b o y ∙ ap lacks (omega (arith, same-greatest)),
        e
            ∙ ap (λ (M : ℕ → Bool). over (near_bytes M) output)
            (λ i j. smallest-unique J x.greatest N (among x.near) (subst (Smallest J N) same-greatest s) holds.1 j i),
      )

  demand-answers : Answers S rec x
  demand-answers = record { steps = steps-short; ends = row-short; lacking = shortfall-one }

-- one chosen pin of each row is left
one_left : (x : Short) → Memᴰ x shorts → chosen_count x.job ≡ suc x.greatest
unfolding every total places each those is_chosen is_missing is_open
one_left x m =
    eqb→eq (chosen_count x.job) (suc x.greatest) (every-at shorts (λ y. eqb (chosen_count y.job) (suc y.greatest)) tt m)

pub shorts-answers : (x : Short) → Memᴰ x shorts → (S : Service) (begun : List ℕ) (K : Job) → Starts S begun K → (calls : List Call) (rec : List ℕ)
    → Follows S begun K calls rec x.job → wires_in rec ≡ 0 → Answers S rec x
shorts-answers x m S begun K s calls rec f unwired =
    demand-answers S rec x (demand3 S begun K s calls rec x.job f).1 unwired (one_left x m) (shorts-hold x m)

-- ---- a job that can be wired whole

-- the answers on a record of the job, with nothing wired
pub record WholeAnswers (S : Service) (rec : List ℕ) (J : Job) : Type 0 where
  pub steps : (n : ℕ) (w : Answer) (end : List ℕ) → Stepping S rec n w end → (n ≡ chosen_count J) × (w ≡ all_wired)
  pub ends : (scratch : List ℕ) → Buffer scratch → scratch_size ≤ length scratch → (end : List ℕ) × Stepping S rec (chosen_count J) all_wired end
  pub lacking : (scratch output : List ℕ) → Buffer scratch → Buffer output → scratch_size ≤ length scratch → record_size ≤ length output
      → (S.does (shortfall scratch output) rec).answer ≡ lacks 0

module _ (S : Service) (rec : List ℕ) (J : Job) (D : Demand S rec J) (unwired : wires_in rec ≡ 0) (G : Greatest J (chosen_count J)) where
  all-greatest : D.g ≡ chosen_count J
  all-greatest = greatest-unique J D.g (chosen_count J) D.greatest G

  steps-whole : (n : ℕ) (w : Answer) (end : List ℕ) → Stepping S rec n w end → (n ≡ chosen_count J) × (w ≡ all_wired)
  steps-whole n w end r = let (e, t) = D.steps n w end r in (omega (arith, all-greatest), by t.otherwise)
    where
      by : (w ≡ all_wired) ⊎ ((w ≡ short) × (D.g < chosen_count J)) → w ≡ all_wired
      by (inl a) = a
      by (inr (a, l)) = absurd (omega (arith, all-greatest))

  ends-whole : (scratch : List ℕ) → Buffer scratch → scratch_size ≤ length scratch → (end : List ℕ) × Stepping S rec (chosen_count J) all_wired end
  ends-whole scratch b l =
      let (n, w, end, r) = D.ends scratch b l in
      let (e, a) = steps-whole n w end r in
      (end, subst (λ (m : ℕ). Stepping S rec m all_wired end) e (subst (λ (y : Answer). Stepping S rec n y end) a r))

  whole-answers : WholeAnswers S rec J
  whole-answers =
      record {
        steps = steps-whole;
        ends = ends-whole;
        lacking = λ scratch output b o l m.
            let z : chosen_count J - D.g ≡ 0 = omega (arith, all-greatest) in
            D.shortfalls scratch output b o (D.shortfall-accepted scratch output b o l m) ∙ ap lacks z;
      }

pub wireds-answers : (J : Job) → Memᴰ J wireds → (S : Service) (begun : List ℕ) (K : Job) → Starts S begun K → (calls : List Call) (rec : List ℕ)
    → Follows S begun K calls rec J → wires_in rec ≡ 0 → WholeAnswers S rec J
wireds-answers J m S begun K s calls rec f unwired =
    whole-answers S rec J (demand3 S begun K s calls rec J f).1 unwired (wireds-hold J m)

-- ---- nothing chosen

pub none_answers : (S : Service) (begun : List ℕ) (K : Job) → Starts S begun K → (calls : List Call) (rec : List ℕ) (J : Job) → Follows S begun K calls rec J
    → ((r c : ℕ) → T (is_chosen J r c) → ⊥) → (n : ℕ) (w : Answer) (end : List ℕ) → Stepping S rec n w end → (n ≡ 0) × (w ≡ all_wired)
none_answers S begun K s calls rec J f none n w end r =
    let D : Demand S rec J = (demand3 S begun K s calls rec J f).1 in
    let G : Greatest J 0 = nothing-chosen J none in
    let (e, t) = D.steps n w end r in
    let F : Family J G.routes = record { together = G.together; whole = λ r c t. absurd (none r c t) } in
    (omega (arith, greatest-unique J D.g 0 D.greatest G), t.all.1 (G.routes, F))
