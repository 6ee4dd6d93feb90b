-- Document 01, "Part": refused by 4 where the pin is not chosen, else the part. Assumes nothing.
use Rattle.std.specs.Prelude.{◌≡◌, Bool, true, false, not, List, [], ℕ}
use Rattle.std.proofs.Common.{sym, ap, ◌∙◌}
use Rattle.std.proofs.lemmas.Bool.{not-true, not-false}
use Rattle.model.specs.Job.{is_chosen}
use Rattle.model.specs.Record.{job_of, load}
use Rattle.model.specs.Wires.{Part, part_at}
use Rattle.model.specs.Calls.{refused, lists, After, after, listed}
use Rattle.model.proofs.Asked.{asked-fails, asked-holds}

module _ (rec : List ℕ) (r c i : ℕ) (t : Bool) (e : t ≡ is_chosen (job_of rec) r c) where
  abbrev found : After
  found = after (lists (part_at (job_of rec) (load rec) r c i)) rec [] []

  pub part-nowhere : not t ≡ true → after (refused 4) rec [] [] ≡ listed r c i rec
  part-nowhere n = sym (asked-fails rec [] found (is_chosen (job_of rec) r c) 4 [] (sym e ∙ not-true t n))

  pub part-listed : not t ≡ false → (p : Part) → p ≡ part_at (job_of rec) (load rec) r c i → after (lists p) rec [] [] ≡ listed r c i rec
  part-listed n p q =
      ap (λ x. after (lists x) rec [] []) q ∙ sym (asked-holds rec [] found (is_chosen (job_of rec) r c) 4 [] (sym e ∙ not-false t n))
