-- How many wires start at the spots of a legal record: at most one at each. Assumes nothing.
use Rattle.std.specs.Prelude.{◌≡◌, Bool, true, false, List, ℕ, ◌+◌, ◌≤◌, ◌<◌}
use Rattle.std.proofs.Common.{add-one, arith}
use Rattle.sums.specs.Counting.{when, sum}
use Rattle.model.specs.Record.{job_of, Legal}
use Rattle.channel.specs.Map.{is_start, starts}
use Rattle.channel.specs.Map.Numbers.{is-spot}
use Rattle.channel.specs.Map.Starts.{want-start}
use Rattle.channel.specs.Map.Network.Flows.{starts-wanted}

pub starts-one : (rec : List ℕ) → Legal rec → (u : ℕ) → u < 13128 → starts (job_of rec) rec u ≤ 1
starts-one rec g u l =
    omega (
      arith,
      starts-wanted (job_of rec) g.values.array rec g.sound.feasible u (is-spot l),
      want-start (job_of rec) u,
      one (is_start (job_of rec) u),
    )
  where
    one : (b : Bool) → when b 1 ≤ 1
    one true = omega arith
    one false = omega arith

-- a sum with one more term
pub starts_more : (g : ℕ → ℕ) (n u x : ℕ) → n ≡ sum u g → x ≡ g u → n + x ≡ sum (u + 1) g
unfolding sum
starts_more g n u x e f = rw (add-one u) (omega arith)
