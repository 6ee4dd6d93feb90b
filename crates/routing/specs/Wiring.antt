-- Document 01, "Step" and "Shortfall": refused by 8 and 7 where a buffer is too short; else the answer that the search gives, and the scratch cleared.
-- Assumes nothing.
use Rattle.std.specs.Prelude.{◌≡◌, refl, ◌≢◌, List, [], ◌++◌, ℕ, ◌-◌, ◌≤◌, ◌<◌, length, take, drop, replicate}
use Rattle.std.proofs.Common.{sym, ap, subst, ◌∙◌, arith, length-take-le}
use Rattle.std.proofs.lemmas.List.{length-replicate}
use Rattle.model.specs.Route.{chosen_count, Greatest}
use Rattle.model.specs.Record.{record_size, scratch_size, job_of}
use Rattle.model.specs.Calls.{Answer, refused, added, all_wired, short, lacks, after, cleared, wires_in, Shortened, Stepped, adds, stays, lacking, Steps}
use Rattle.model.specs.Calls.{Lacks as LacksCall}
use Rattle.model.proofs.Empty.{greatest-le-chosen}
use Rattle.channel.specs.Written.{zeros, zeros-filled}
use Rattle.search.specs.Outcome.{StepDid, more, full, Lacks}
use Rattle.search.specs.declared.step.Progress.{Progress}
use Rattle.search.specs.declared.step.Progress.TheVariants.{Added, Full}

-- ---- The scratch

-- zeros in the place of its first 65,536 bytes
cleared-front : (scratch : List ℕ) {ys : List ℕ} → scratch_size ≤ length scratch → ys ≡ zeros (length (take scratch_size scratch))
    → ys ++ drop scratch_size scratch ≡ cleared scratch
cleared-front scratch l e =
    ap (λ (zs : List ℕ). zs ++ drop scratch_size scratch) (e ∙ (ap zeros (length-take-le scratch_size scratch l) ∙ sym (zeros-filled scratch_size)))
    ∙ ap (λ (n : ℕ). replicate scratch_size 0 ++ drop n scratch) (sym (length-replicate {A = ℕ} scratch_size 0))

-- ---- Step

pub step_small : (scratch rec : List ℕ) → length scratch < scratch_size → Steps scratch rec (after (refused 8) rec scratch [])
step_small scratch rec l = record { small = λ k. refl; enough = λ k. absurd (omega arith) }

pub step-enough : {scratch rec rec' ys : List ℕ} {x : Answer} → scratch_size ≤ length scratch → ys ≡ zeros (length (take scratch_size scratch))
    → Stepped rec x rec' → Steps scratch rec (after x rec' (ys ++ drop scratch_size scratch) [])
step-enough {scratch} l e s = record { small = λ k. absurd (omega arith); enough = λ k. (s, cleared-front scratch l e, refl) }

pub step_added : {rec rec' : List ℕ} {y : Progress} → StepDid rec rec' y → y ≡ Added → Stepped rec added rec'
step_added {rec} {rec'} d e = by (subst (StepDid rec rec') e d)
  where
    by : StepDid rec rec' Added → Stepped rec added rec'
    by (more o) = adds o

pub step-full : {rec rec' : List ℕ} {y : Progress} → StepDid rec rec' y → y ≡ Full → (rec' ≡ rec) × Greatest (job_of rec) (wires_in rec)
step-full {rec} {rec'} d e = by (subst (StepDid rec rec') e d)
  where
    by : StepDid rec rec' Full → (rec' ≡ rec) × Greatest (job_of rec) (wires_in rec)
    by (full q G) = (q, G)

-- k pins lack a wire in the record as it is left
module _ {rec rec' : List ℕ} (q : rec' ≡ rec) (G : Greatest (job_of rec) (wires_in rec)) {k : ℕ} (e : k ≡ chosen_count (job_of rec') - wires_in rec') where
  lacks-here : k ≡ chosen_count (job_of rec) - wires_in rec
  lacks-here = e ∙ ap (λ x. chosen_count (job_of x) - wires_in x) q

  -- where none does every chosen pin is wired, and the wires are shortened
  all_here : k ≡ 0 → wires_in rec ≡ chosen_count (job_of rec)
  all_here z = omega (arith, lacks-here, greatest-le-chosen (job_of rec) (wires_in rec) G)

  pub step-complete : k ≡ 0 → wires_in rec' ≡ chosen_count (job_of rec')
  step-complete z = subst (λ (x : List ℕ). wires_in x ≡ chosen_count (job_of x)) (sym q) (all_here z)

  pub step-all : k ≡ 0 → {rec'' : List ℕ} → Shortened rec' rec'' → Stepped rec all_wired rec''
  step-all z {rec''} s = stays (all_here z) (subst (λ (x : List ℕ). Shortened x rec'') q s)

  pub step-short : k ≢ 0 → Stepped rec short rec'
  step-short n = lacking G (omega (arith, lacks-here)) q

-- ---- Shortfall

module _ (scratch output rec : List ℕ) where
  pub lacks-small : length scratch < scratch_size → LacksCall scratch output rec (after (refused 8) rec scratch output)
  lacks-small l = record { small = λ k. refl; narrow = λ k. absurd (omega arith); enough = λ k. absurd (omega arith) }

  pub lacks-narrow : scratch_size ≤ length scratch → length output < record_size → LacksCall scratch output rec (after (refused 7) rec scratch output)
  lacks-narrow l m = record { small = λ k. absurd (omega arith); narrow = λ k j. refl; enough = λ k j. absurd (omega arith) }

  pub lacks-enough : scratch_size ≤ length scratch → record_size ≤ length output → (ys output' : List ℕ) (k : ℕ)
      → ys ≡ zeros (length (take scratch_size scratch)) → Lacks rec output output' k
      → LacksCall scratch output rec (after (lacks k) rec (ys ++ drop scratch_size scratch) output')
  lacks-enough l m ys output' k e (rec', R) =
      record {
        small = λ j. absurd (omega arith);
        narrow = λ i j. absurd (omega arith);
        enough = λ i j. (wires_in rec', R.greatest, ap lacks R.lacks, R.shown, refl, cleared-front scratch l e);
      }
