-- K5, a run whose wires stay: on the 3 by 3 job with one tile open two rim pins are chosen and wired by two steps, then the inner pin is chosen, and a step more
-- wires it. Of every service: both wires are there after the edit, exactly one is lacking, and demand 3 applies. Assumes a service; crates/witness has one.
use Rattle.std.specs.Prelude.{◌≡◌, refl, ◌≢◌, ◌⊎◌, List, [], ◌∷◌, ◌++◌, ℕ, suc, ◌<◌, T}
use Rattle.std.proofs.Common.{sym, ap, subst, ◌∙◌, inl, inr, arith}
use mathlib.Core.List.Memᴰ
use Rattle.sums.specs.Counting.{each, those, total}
use Rattle.model.specs.Job.{Job, fresh, is_pin, is_open, is_chosen, is_missing}
use Rattle.model.specs.Links.{places}
use Rattle.model.specs.Route.{Greatest, chosen_count}
use Rattle.model.specs.Record.{job_of}
use Rattle.model.specs.Examples.{job33, job_earlier}
use Rattle.model.specs.Calls.{Call, mark, close, step, Answer, added, all_wired, short, refusal, Accepted, After, wires_in, Did}
use Rattle.model.specs.Run.{Service, Starts, Follows, NeverOne, Stepping, Demand}
use Rattle.model.proofs.Unique.{greatest-unique}
use Rattle.model.proofs.Wireds.{wireds-hold}
use Rattle.run.specs.Buffers.{zero_scratch, scratch-buffer, scratch-long}
use Rattle.run.specs.Invariant.{Kept, call-leaves}
use Rattle.run.specs.Runs.{becomes_set, accepted-kept, rec_after}
use Rattle.run.specs.AfterEdit.{mark-done, idle-none}
use Rattle.run.specs.Rows.{step-adds}
use Rattle.run.specs.Demand3.{demand3}
use Rattle.run.specs.Blank.{Blank, new-begins}
use Rattle.run.specs.Edits.{Edits, end, marks, closes, edits-blank, edits-follow}
use Rattle.run.specs.Example.{zero_record, zero-buffer, zero-long, begun33}

-- the greatest numbers, by the rows of `wireds`
greatest-two : Greatest job_earlier 2
unfolding total places each those is_chosen is_missing is_open
greatest-two = wireds-hold job_earlier (Memᴰ.tail (Memᴰ.tail (Memᴰ.tail (Memᴰ.head refl))))

greatest-three : Greatest job33 3
unfolding total places each those is_chosen is_missing is_open
greatest-three = wireds-hold job33 (Memᴰ.tail (Memᴰ.head refl))

module _ (S : Service) where
  abbrev plain33 : Job
  plain33 = fresh 3 3 1 1 0

  abbrev pub edits_earlier : List Call
  edits_earlier = mark 0 0 1 ∷ mark 1 0 1 ∷ close 0 1 1 ∷ close 1 0 1 ∷ close 1 1 1 ∷ []

  to_earlier : Edits plain33 edits_earlier job_earlier
  to_earlier =
      marks 0 0 1 (omega arith) tt tt
      (marks 1 0 1 (omega arith) tt tt (closes 0 1 1 (omega arith) tt tt (closes 1 0 1 (omega arith) tt tt (closes 1 1 1 (omega arith) tt tt end))))

  begins33 : Starts S (begun33 S) plain33 × Blank (begun33 S) plain33
  begins33 = new-begins S zero_record zero-buffer zero-long 3 3 1 1 0 (omega arith) tt tt

  -- the records after the edits, after each step, and after the mark
  abbrev edited33 : List ℕ
  edited33 = rec_after S edits_earlier (begun33 S)

  abbrev once : List ℕ
  once = (S.does (step zero_scratch) edited33).rec

  abbrev twice : List ℕ
  twice = (S.does (step zero_scratch) once).rec

  abbrev pub chosen33 : List ℕ
  chosen33 = (S.does (mark 1 1 1) twice).rec

  abbrev pub last33 : List ℕ
  last33 = (S.does (step zero_scratch) chosen33).rec

  -- a step that says "added", and the record after it
  record Adds (rec : List ℕ) (J : Job) (n : ℕ) : Type 0 where
    says : (S.does (step zero_scratch) rec).answer ≡ added
    kept : Kept (S.does (step zero_scratch) rec).rec J
    wires : wires_in (S.does (step zero_scratch) rec).rec ≡ n

  next-adds : (rec : List ℕ) (J : Job) (g n m : ℕ) → Greatest J g → Kept rec J → wires_in rec ≡ n → n < g → m ≡ suc n → Adds rec J m
  next-adds rec J g n m G k w l e =
      let (a, k', w') = step-adds S J g G rec zero_scratch k scratch-buffer scratch-long (omega arith) in
      record { says = a; kept = k'; wires = omega (arith, w') }

  first : Adds edited33 job_earlier 1
  first =
      let b : Blank edited33 job_earlier = edits-blank S to_earlier (begun33 S) begins33.1 in
      next-adds edited33 job_earlier 2 0 1 greatest-two b.kept b.unwired (omega arith) refl

  second : Adds once job_earlier 2
  second = next-adds once job_earlier 2 1 2 greatest-two first.kept first.wires (omega arith) refl

  -- ---- the edit

  marked-so : Did (mark 1 1 1) twice (S.does (mark 1 1 1) twice)
  marked-so = S.did (mark 1 1 1) twice (omega arith) second.kept.buffer

  there : T (is_pin (job_of twice) 1 1)
  there = subst (λ (J : Job). T (is_pin J 1 1)) (sym second.kept.job) tt

  idle : (job_of twice).mark 1 1 ≡ 0
  idle = ap (λ (J : Job). J.mark 1 1) second.kept.job

  other : (job_of twice).mark 1 1 ≢ 1
  other e = omega (arith, idle)

  marked-accepted : Accepted (S.does (mark 1 1 1) twice).answer
  marked-accepted =
      ap (λ (a : After). refusal a.answer) (mark-done twice second.kept.legal (S.does (mark 1 1 1) twice) 1 1 1 marked-so there tt other)

  kept33 : Kept chosen33 job33
  kept33 =
      accepted-kept S (mark 1 1 1) twice job_earlier job33 (S.does (mark 1 1 1) twice)
      (call-leaves S twice job_earlier second.kept (mark 1 1 1) (S.does (mark 1 1 1) twice) marked-so) marked-accepted refl

  -- both wires are there
  pub wires-stay : wires_in chosen33 ≡ 2
  wires-stay =
      (idle-none twice second.kept.legal (S.does (mark 1 1 1) twice) 1 1 1 marked-so there tt other idle).1 ∙ second.wires

  third : Adds chosen33 job33 3
  third = next-adds chosen33 job33 3 2 3 greatest-three kept33 wires-stay (omega arith) refl

  pub third-added : ((S.does (step zero_scratch) chosen33).answer ≡ added) × (wires_in last33 ≡ 3)
  third-added = (third.says, third.wires)

  -- ---- the run, and demand 3 of it

  stepped : (rec : List ℕ) (J : Job) (n : ℕ) → Adds rec J n → (calls : List Call) (rec' : List ℕ) (L : Job)
      → Follows S (S.does (step zero_scratch) rec).rec J calls rec' L → Follows S rec J (step zero_scratch ∷ calls) rec' L
  stepped rec J n x calls rec' L f =
      (scratch-buffer, (J, becomes_set S (step zero_scratch) J J (S.does (step zero_scratch) rec).answer (ap refusal x.says) refl, f))

  abbrev pub steps_and_mark : List Call
  steps_and_mark = step zero_scratch ∷ step zero_scratch ∷ mark 1 1 1 ∷ []

  to-mark : (calls : List Call) (rec' : List ℕ) (L : Job) → Follows S chosen33 job33 calls rec' L
      → Follows S (begun33 S) plain33 (edits_earlier ++ (steps_and_mark ++ calls)) rec' L
  to-mark calls rec' L f =
      edits-follow S to_earlier (begun33 S) begins33.1 (steps_and_mark ++ calls) rec' L
      (stepped edited33 job_earlier 1 first (step zero_scratch ∷ mark 1 1 1 ∷ calls) rec' L
      (stepped once job_earlier 2 second (mark 1 1 1 ∷ calls) rec' L
      (omega arith, (job33, becomes_set S (mark 1 1 1) job_earlier job33 (S.does (mark 1 1 1) twice).answer marked-accepted refl, f))))

  pub demand-marked : NeverOne S (begun33 S) (edits_earlier ++ steps_and_mark) × Demand S chosen33 job33
  demand-marked =
      demand3 S (begun33 S) plain33 begins33.0 (edits_earlier ++ steps_and_mark) chosen33 job33 (to-mark [] chosen33 job33 (refl, refl))

  pub demand-stepped : NeverOne S (begun33 S) (edits_earlier ++ (steps_and_mark ++ (step zero_scratch ∷ []))) × Demand S last33 job33
  demand-stepped =
      demand3 S (begun33 S) plain33 begins33.0 (edits_earlier ++ (steps_and_mark ++ (step zero_scratch ∷ []))) last33 job33
      (to-mark (step zero_scratch ∷ []) last33 job33 (stepped chosen33 job33 3 third [] last33 job33 (refl, refl)))

  -- "in exactly as many additions as are lacking": one
  pub one-lacking : (n : ℕ) (w : Answer) (rec : List ℕ) → Stepping S chosen33 n w rec → (n ≡ 1) × (w ≡ all_wired)
  unfolding total places each those is_chosen is_missing is_open
  one-lacking n w rec r =
      let D : Demand S chosen33 job33 = demand-marked.1 in
      let same : D.g ≡ 3 = greatest-unique job33 D.g 3 D.greatest greatest-three in
      let (e, t) = D.steps n w rec r in
      (omega (arith, wires-stay), by D.g same t.otherwise)
    where
      by : (g : ℕ) → g ≡ 3 → (w ≡ all_wired) ⊎ ((w ≡ short) × (g < chosen_count job33)) → w ≡ all_wired
      by g e (inl a) = a
      by g e (inr (a, l)) = absurd (omega arith)
