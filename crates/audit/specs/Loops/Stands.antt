-- The finder's answer, beside old loads that lead outward, as document 01 has it: an order along which every loaded dart falls leaves no closed chain of loaded links, and a
-- closed path of loaded darts is one. Assumes nothing.
use Rattle.std.specs.Prelude.{◌≡◌, refl, true, false, T, Option, Some, None, is_some}
use Rattle.std.proofs.Common.{subst, arith}
use mathlib.Core.List.{List, ◌∷◌}
use Prim.Native.Nat.{ℕ, zero, suc, ◌+◌, ◌-◌, ◌*◌, ◌<◌}
use Rattle.std.proofs.Math.ListN.{get_or}
use Rattle.sums.specs.Tests.{so, so-not}
use Rattle.flow.specs.Network.{Path}
use Rattle.flow.specs.Cancel.{Loaded}
use Rattle.model.specs.Job.{Job, array_fits}
use Rattle.model.specs.Links.{Place, Step}
use Rattle.model.specs.Loads.{Feasible, Trail}
use Rattle.model.specs.Record.{load}
use Rattle.channel.specs.Map.{view}
use Rattle.channel.specs.Map.Fresh.{fresh-loops}
use Rattle.channel.specs.Map.Network.Loops.{loaded-may, path-loop}
use Rattle.channel.specs.Map.Network.{net}
use Rattle.outward.specs.Outward.{Parts, Outward}
use Rattle.outward.specs.Outward.Falling.{outward-loops}
use Rattle.audit.specs.Loops.{ring_darts, Closed, LoopStands}
use Rattle.audit.specs.Loops.Answers.{Answer}
use Rattle.audit.specs.declared.loops.Ring.{Ring}

module _ (rec st sl : List ℕ) where
  -- a ring has a first dart
  ring-loop : (j n : ℕ) → Closed rec st sl j n → (J : Job) → T (array_fits J.rows J.columns) → Feasible J (load rec)
      → (x : Place) × (s : Step) × (ss : List Step) × Trail J (load rec) x (s ∷ ss) x
  unfolding ring_darts
  ring-loop j n c J fits feasible = by (n - j) (omega (arith, c.any)) (c.path J)
    where
      by : (k : ℕ) → 0 < k → Path (net J) (Loaded (view rec)) (ring_darts st sl j k) (get_or st j 0) (get_or st j 0)
          → (x : Place) × (s : Step) × (ss : List Step) × Trail J (load rec) x (s ∷ ss) x
      by zero l p = absurd (omega arith)
      by (suc k) l p = path-loop J fits rec feasible (get_or st j 0) (8 * get_or st j 0 + get_or sl j 0) (ring_darts st sl (suc j) k) p

-- an order along which loaded darts fall leaves no loop
pub no_loop : (old rec fin st sl : List ℕ) (f : Option Ring) → Answer old rec fin st sl f → (P : Parts) → Outward P old → f ≡ None → LoopStands rec false
no_loop old rec fin st sl f d P o e = by (subst (λ (x : Option Ring). Answer old rec fin st sl x) e d)
  where
    by : Answer old rec fin st sl None → LoopStands rec false
    by s =
        record {
          yes = λ p. absurd (so p);
          no = λ p J fits feasible.
              fresh-loops J fits old rec feasible (λ u. get_or fin u 0) s.falls s.fresh
              (outward-loops P J old o (load rec) (loaded-may J fits rec feasible));
        }

-- a ring is one, whatever the old loads are
pub a-loop : (old rec fin st sl : List ℕ) (r : Ring) → Answer old rec fin st sl (Some r) → LoopStands rec true
a-loop old rec fin st sl r (c, s) = record { yes = λ p. ring-loop rec st sl r.from r.to c; no = λ p. absurd (so-not p) }

pub loop-decided : (old rec fin st sl : List ℕ) (P : Parts) → Outward P old → (f : Option Ring) → Answer old rec fin st sl f → LoopStands rec (is_some f)
loop-decided old rec fin st sl P o None s = no_loop old rec fin st sl None s P o refl
loop-decided old rec fin st sl P o (Some r) a = a-loop old rec fin st sl r a
