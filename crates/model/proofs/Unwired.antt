-- Loads of nothing are sound: every sum of them is 0, and a trail along them has no first step. So the record of a proper job without wires is legal.
-- Assumes nothing.
use mathlib.Core.Path.{refl}
use native.Mathlib.Nat.{not-suc-le-zero}
use native.Mathlib.Omega.{arith}
use Rattle.sums.specs.Totals.{total-none}
use Rattle.model.specs.Job.{Job, Proper}
use Rattle.model.specs.Links.{pin, at, around}
use Rattle.model.specs.Loads.{departures, arrivals, Sound}
use Rattle.model.specs.Record.{no_loads, Legal, unwired_record}
use Rattle.model.proofs.RecordOf.{Storable, record-legal}

pub none-sound : (J : Job) → Sound J no_loads
unfolding arrivals departures
none-sound J =
    record {
      feasible = record {
        one_way = λ s l. refl;
        limits = λ s k e. omega arith;
        against = λ s a b. refl;
        nowhere = λ s a b. refl;
        passing = λ x k p e. omega (arith, total-none (around x) (λ s. 0) (λ s. refl));
        starts = λ r c t. omega (arith, total-none (around (at pin r c)) (λ s. 0) (λ s. refl));
        balance = λ x p e. refl;
      };
      loops = λ x s ss t. not-suc-le-zero t.1;
    }

none-storable : Storable no_loads
none-storable = record { small = λ s. omega arith; one_way = λ s l. refl; inside = λ s t. refl }

-- New, and every edit, leaves such a record.
pub unwired-legal : (J : Job) → Proper J → Legal (unwired_record J)
unwired-legal J proper = record-legal J no_loads none-storable proper (none-sound J)
