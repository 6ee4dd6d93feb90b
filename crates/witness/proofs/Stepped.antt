-- A step of a legal record, by decisions: one wire more, or a short record, or one of the least length. Assumes nothing.
use Rattle.std.specs.Prelude.{◌≡◌, refl, ◌⊎◌, List, ℕ, ◌<◌}
use Rattle.std.proofs.Common.{inl, inr, arith}
use Rattle.std.proofs.Math.Decide.{dec_lt}
use Rattle.model.specs.Route.{chosen_count}
use Rattle.model.specs.Record.{job_of, load, Legal}
use Rattle.model.specs.Calls.{Answer, added, all_wired, short, OneMore, Stepped, adds, stays, lacking, wires_in}
use Rattle.witness.specs.Added.{Full, add-or-full}
use Rattle.witness.specs.Most.{wires-chosen}
use Rattle.witness.specs.LeastRecord.{shortened}

module _ (rec : List ℕ) where
  pub stepped : Legal rec → (w : Answer) × (rec' : List ℕ) × Stepped rec w rec'
  stepped g = by (add-or-full rec g) (dec_lt (wires_in rec) (chosen_count (job_of rec)))
    where
      by : ((rec' : List ℕ) × OneMore rec rec') ⊎ Full rec g → Dec (wires_in rec < chosen_count (job_of rec)) → (w : Answer) × (rec' : List ℕ) × Stepped rec w rec'
      by (inl (rec', A)) d = (added, rec', adds A)
      by (inr F) (yes l) = (short, rec, lacking F.greatest l refl)
      by (inr F) (no n) =
          let e : wires_in rec ≡ chosen_count (job_of rec) = omega (arith, wires-chosen (job_of rec) (load rec)) in
          let (rec', s) = shortened rec g e in
          (all_wired, rec', stays e s)
