-- What the operation leaves, case by case: turned away by 14 or by 15, or the verdict of the first tile that does not pass.
-- Assumes nothing.
use Rattle.std.specs.Prelude.{◌≡◌, true, false, not, List, [], ◌∷◌, ℕ, T, eqb}
use Rattle.std.proofs.Common.{sym, ap, subst, ◌∙◌, eqb→eq}
use Rattle.sums.specs.Tests.{and_left}
use Rattle.model.specs.Job.{Job, is_missing}
use Rattle.model.specs.Record.{job_of, Legal}
use Rattle.model.specs.Sheet.{everywhere, sheet_job, sheet_fits, carried}
use Rattle.model.specs.Calls.{Answer, refused, sheet_is, after, test, OnSheet}
use Rattle.model.proofs.Asked.{asked-fails, asked-holds}
use Rattle.sheets.specs.Tests.{ready_of}
use Rattle.sheets.specs.First.{First, passes_at, verdict_at, first-judged}

-- O is 2 where the job is not turned away
pub job-two : (J : Job) → T (sheet_job J) → J.O ≡ 2
job-two J t = eqb→eq J.O 2 (and_left (eqb J.O 2) (everywhere (λ r c. not (is_missing J r c))) t)

module _ (rec loads : List ℕ) where
  abbrev J : Job
  J = job_of rec

  pub not-the-job : sheet_job J ≡ false → OnSheet loads rec (after (refused 14) rec [] [])
  not-the-job e =
      record {
        verdict = carried;
        judged = λ t. absurd (subst T e t);
        left = sym (asked-fails rec [] (after (sheet_is carried) rec [] []) (sheet_job J) 14 (test (sheet_fits J loads) 15 ∷ []) e);
      }

  pub not-the-sheet : sheet_job J ≡ true → sheet_fits J loads ≡ false → OnSheet loads rec (after (refused 15) rec [] [])
  not-the-sheet j e =
      record {
        verdict = carried;
        judged = λ t u. absurd (subst T e u);
        left =
            sym
            (asked-holds rec [] (after (sheet_is carried) rec [] []) (sheet_job J) 14 (test (sheet_fits J loads) 15 ∷ []) j
            ∙ asked-fails rec [] (after (sheet_is carried) rec [] []) (sheet_fits J loads) 15 [] e);
      }

  pub first-answered : Legal rec → sheet_job J ≡ true → sheet_fits J loads ≡ true → (i : ℕ) → First (passes_at J loads) 1600 i → (x : Answer)
      → x ≡ sheet_is (verdict_at i) → OnSheet loads rec (after x rec [] [])
  first-answered g j e i f x q =
      record {
        verdict = verdict_at i;
        judged = λ t u. first-judged J loads (ready_of rec loads g t u) i f;
        left =
            ap (λ (y : Answer). after y rec [] []) q
            ∙ sym
            (asked-holds rec [] (after (sheet_is (verdict_at i)) rec [] []) (sheet_job J) 14 (test (sheet_fits J loads) 15 ∷ []) j
            ∙ asked-holds rec [] (after (sheet_is (verdict_at i)) rec [] []) (sheet_fits J loads) 15 [] e);
      }
