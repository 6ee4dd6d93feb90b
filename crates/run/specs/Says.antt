-- What an accepted step says, on the record of a run whose job has the greatest number g: "added" while fewer than g wires are held, then "all wired" where
-- g is the number of chosen pins, else "short". For the wires of a legal record are routes, so at most g. Assumes nothing.
use Rattle.std.specs.Prelude.{◌≡◌, Bool, true, false, not, ◌&&◌, List, ℕ, suc, ◌≤◌, ◌<◌, T, leb, length}
use Rattle.std.proofs.Common.{sym, ap, subst, ◌∙◌, arith, leb→le}
use Rattle.std.proofs.Math.Dec.{nleb→lt}
use Rattle.sums.specs.Counting.{when}
use Rattle.sums.specs.Entries.{none-some}
use Rattle.sums.specs.Totals.{total-cong}
use Rattle.model.specs.Job.{Job}
use Rattle.model.specs.Route.{Greatest, chosen_count}
use Rattle.model.specs.Links.{is_pin_kind, places}
use Rattle.model.specs.Length.{LeastLength, held_length}
use Rattle.model.specs.Record.{scratch_size, job_of, load}
use Rattle.model.specs.Wires.{is_wired, wire_count}
use Rattle.model.specs.Calls.{step, shortfall, Answer, added, all_wired, short, refusal, Accepted, After, wires_in, Shortened, Stepped, adds, stays, lacking, Steps, Lacks}
use Rattle.model.specs.Run.{Buffer, Service}
use Rattle.model.proofs.Unique.{greatest-unique}
use Rattle.model.proofs.Empty.{greatest-le-chosen}
use Rattle.wire.specs.Held.{sound-holds}
use Rattle.run.specs.Buffers.{zero_scratch, scratch-buffer, scratch-long}
use Rattle.run.specs.Invariant.{Kept, stepped_kept}

pub data Says (J : Job) (g : ℕ) (rec : List ℕ) : Answer → List ℕ → Type 0 where
  one : {rec' : List ℕ} → wires_in rec < g → Kept rec' J → wires_in rec' ≡ suc (wires_in rec) → Says J g rec added rec'
  all : {rec' : List ℕ} → wires_in rec ≡ g → g ≡ chosen_count J → Kept rec' J → wires_in rec' ≡ g → LeastLength J (held_length J (load rec')) → Says J g rec all_wired rec'
  few : {rec' : List ℕ} → wires_in rec ≡ g → g < chosen_count J → rec' ≡ rec → Says J g rec short rec'

-- "No pin loses its wire": as many wires are held.
shortened-wires : {rec rec' : List ℕ} → Shortened rec rec' → wires_in rec' ≡ wires_in rec
unfolding wire_count
shortened-wires {rec} {rec'} s =
    ap (λ (X : Job). wire_count X (load rec')) s.job
    ∙ total-cong (places (job_of rec)) _ _
    (λ x. ap (λ (b : Bool). when (is_pin_kind x && b) 1) (ap (λ (X : Job). is_wired X (load rec') x.row x.column) (sym s.job) ∙ s.wired x.row x.column))

-- a step that is lent enough is accepted, and one that is accepted was lent enough
pub enough-accepted : (S : Service) (rec scratch : List ℕ) (J : Job) (a : After) → Kept rec J → Steps scratch rec a → scratch_size ≤ length scratch
    → Accepted a.answer
enough-accepted S rec scratch J a k d l = (stepped_kept S rec J k (d.enough l).0).0

step-lent : (rec scratch : List ℕ) (a : After) → Steps scratch rec a → Accepted a.answer → scratch_size ≤ length scratch
step-lent rec scratch a d x = by (leb scratch_size (length scratch)) (leb→le scratch_size (length scratch)) (nleb→lt scratch_size (length scratch))
  where
    by : (b : Bool) → (T b → scratch_size ≤ length scratch) → (T (not b) → length scratch < scratch_size) → scratch_size ≤ length scratch
    by true f h = f tt
    by false f h = absurd (none-some 8 (sym x ∙ ap (λ (y : After). refusal y.answer) (d.small (h tt))))

module _ (S : Service) (J : Job) where
  -- the service itself finds the greatest number
  pub greatest-there : (rec : List ℕ) → Kept rec J → (g : ℕ) × Greatest J g
  greatest-there rec k =
      let d : Lacks zero_scratch zero_scratch rec (S.does (shortfall zero_scratch zero_scratch) rec) =
      (S.did (shortfall zero_scratch zero_scratch) rec (scratch-buffer, scratch-buffer) k.buffer).legal k.legal in
      let (g, G, e, s, r, c) = d.enough scratch-long (omega (arith, scratch-long)) in
      (g, subst (λ (X : Job). Greatest X g) k.job G)

  module _ (g : ℕ) (G : Greatest J g) where
    pub same-greatest : (rec : List ℕ) (h : ℕ) → Kept rec J → Greatest (job_of rec) h → h ≡ g
    same-greatest rec h k H = greatest-unique J h g (subst (λ (X : Job). Greatest X h) k.job H) G

    pub held-le : (rec : List ℕ) → Kept rec J → wires_in rec ≤ g
    held-le rec k =
        let (rs, H, F) = sound-holds (job_of rec) (load rec) k.legal.sound in
        omega (arith, H.number, (subst (λ (X : Job). Greatest X g) (sym k.job) G).most rs F)

    stepped-says : {x : Answer} {rec' : List ℕ} (rec : List ℕ) → Kept rec J → Stepped rec x rec' → Says J g rec x rec'
    stepped-says rec k (adds {rec' = rec'} o) =
        let k' : Kept rec' J = (stepped_kept S rec J k (adds o)).1 in
        one (omega (arith, held-le rec' k', o.number)) k' o.number
    stepped-says rec k (stays {rec' = rec'} w s) =
        let c : chosen_count (job_of rec) ≡ chosen_count J = ap chosen_count k.job in
        let e : wires_in rec ≡ g = omega (arith, held-le rec k, greatest-le-chosen J g G) in
        all e (omega (arith, held-le rec k, greatest-le-chosen J g G)) (stepped_kept S rec J k (stays w s)).1 (shortened-wires s ∙ e)
        (subst (λ (X : Job). LeastLength X (held_length X (load rec'))) k.job s.least)
    stepped-says rec k (lacking H l q) =
        let e : wires_in rec ≡ g = same-greatest rec (wires_in rec) k H in
        few e (omega (arith, ap chosen_count k.job)) q

    pub step-says : (rec scratch : List ℕ) → Kept rec J → Buffer scratch → Accepted (S.does (step scratch) rec).answer
        → Says J g rec (S.does (step scratch) rec).answer (S.does (step scratch) rec).rec
    step-says rec scratch k b x =
        let a : After = S.does (step scratch) rec in
        let d : Steps scratch rec a = (S.did (step scratch) rec b k.buffer).legal k.legal in
        stepped-says rec k (d.enough (step-lent rec scratch a d x)).0
