-- Document 01, "Runs": a run, the job that its calls alone give, and demand 3 as one statement about every run. Assumes nothing.
use Rattle.std.specs.Prelude.{◌≡◌, ◌≢◌, ◌↔◌, ◌⊎◌, Bool, List, [], ◌∷◌, ℕ, suc, ◌+◌, ◌-◌, ◌^◌, ◌≤◌, ◌<◌, T, length, get_or}
use Rattle.std.proofs.Math.Option.{none, some}
use Rattle.model.specs.Job.{Job, fresh, marked, closed, side_of, laid_by, diagonal_by, is_chosen, Proper, with_extra}
use Rattle.model.specs.Route.{Route, Together, Family, Greatest, chosen_count}
use Rattle.model.specs.Length.{routes_length, LeastLength}
use Rattle.model.specs.Near.{Smallest}
use Rattle.model.specs.Record.{record_size, scratch_size, job_of, load, unwired_record, over}
use Rattle.model.specs.Wires.{part_at, Holds}
use Rattle.model.specs.Text.{reads, Reading}
use Rattle.model.specs.Trial.{Trial, trial_job}
use Rattle.model.specs.Calls.{Call, new, mark, close, step, shortfall, part, read_text, write_text, listing, Answer, added, all_wired, short, lacks, lists, refusal, Accepted, After, Did, wires_in, near_bytes, lay, diagonal, trial, extra, sheet}

-- ---- what can be lent

-- a buffer: bytes, fewer than 2^63
pub record Buffer (l : List ℕ) : Type 0 where
  pub byte : (i : ℕ) → get_or l i 0 < 256
  pub few : length l < 2 ^ 63

abbrev pub Word : ℕ → Type 0
Word n = n < 2 ^ 64

-- "with any arguments": numbers of 64 bits, and "text, scratch and output of any length and content"
abbrev pub Lent : Call → Type 0
Lent (new rows columns O D E) = Word rows × Word columns × Word O × Word D × Word E
Lent (mark r c m) = Word r × Word c × Word m
Lent (close r c v) = Word r × Word c × Word v
Lent (lay r c d n) = Word r × Word c × Word d × Word n
Lent (diagonal r c d) = Word r × Word c × Word d
Lent (step scratch) = Buffer scratch
Lent (shortfall scratch output) = Buffer scratch × Buffer output
Lent (part r c i) = Word r × Word c × Word i
Lent (read_text text) = Buffer text
Lent (write_text output) = Buffer output
Lent (listing output) = Buffer output
Lent (trial t) =
    Word t.rows × Word t.columns × Word t.O × Word t.D × Word t.E × Word t.seed × Word t.chosen × Word t.missing × Word t.closed
Lent (extra e) = Word e
Lent (sheet loads) = Buffer loads

-- The operations as they are promised: every call on a buffer ends and leaves what its paragraph states.
pub record Service : Type 0 where
  pub does : Call → List ℕ → After
  pub did : (c : Call) (rec : List ℕ) → Lent c → Buffer rec → Did c rec (does c rec)

module _ (S : Service) where
  -- ---- runs

  -- the job K that an accepted call makes of the job J
  abbrev pub Sets : Call → Job → Job → Type 0
  Sets (new rows columns O D E) J K = K ≡ fresh rows columns O D E
  Sets (mark r c m) J K = K ≡ marked J r c m
  Sets (close r c v) J K = K ≡ closed J r c v
  Sets (lay r c d n) J K = K ≡ laid_by J (side_of r c d) n
  Sets (diagonal r c d) J K = K ≡ diagonal_by J r c d
  Sets (step scratch) J K = K ≡ J
  Sets (shortfall scratch output) J K = K ≡ J
  Sets (part r c i) J K = K ≡ J
  Sets (read_text text) J K = Reading text (reads K)
  Sets (write_text output) J K = K ≡ J
  Sets (listing output) J K = K ≡ J
  Sets (trial t) J K = K ≡ trial_job t
  Sets (extra e) J K = K ≡ with_extra J e
  Sets (sheet loads) J K = K ≡ J

  -- "A refused call changes nothing in the job."
  abbrev pub Becomes : Answer → Call → Job → Job → Type 0
  Becomes a c J K = elim (refusal a) [ none ↦ Sets c J K | some k ↦ K ≡ J ]

  -- "A run starts with an accepted New or Read text on a record": the record and the job after it
  pub data Starts : List ℕ → Job → Type 0 where
    by_new : {rec : List ℕ} (before : List ℕ) (rows columns O D E : ℕ) → Buffer before → Lent (new rows columns O D E)
        → Accepted (S.does (new rows columns O D E) before).answer → rec ≡ (S.does (new rows columns O D E) before).rec
        → Starts rec (fresh rows columns O D E)
    by_text : {rec : List ℕ} {J : Job} (before text : List ℕ) → Buffer before → Lent (read_text text) → Accepted (S.does (read_text text) before).answer
        → rec ≡ (S.does (read_text text) before).rec → Reading text (reads J) → Starts rec J
    -- K6: "A run may also start with an accepted call of the generator."
    by_trial : {rec : List ℕ} (before : List ℕ) (t : Trial) → Buffer before → Lent (trial t) → Accepted (S.does (trial t) before).answer
        → rec ≡ (S.does (trial t) before).rec → Starts rec (trial_job t)
    -- K9: "a run may also start from a record that New, Read text or the generator gave before this request for an E above D, its job as that call set it":
    -- the record of any such job without wires
    by_old : {rec : List ℕ} {J : Job} (before : List ℕ) → Buffer before → record_size ≤ length before → Proper J → J.D < J.E
        → rec ≡ over (unwired_record J) before → Starts rec J

  -- "followed on it by any list .. Each is lent the record as the call before left it": from the record rec with the job J to rec' with J'
  abbrev pub Follows : List ℕ → Job → List Call → List ℕ → Job → Type 0
  Follows rec J [] rec' J' = (rec' ≡ rec) × (J' ≡ J)
  Follows rec J (c ∷ cs) rec' J' = Lent c × ((K : Job) × Becomes (S.does c rec).answer c J K × Follows (S.does c rec).rec K cs rec' J')

  -- "None is refused by 1."
  abbrev pub NeverOne : List ℕ → List Call → Type 0
  NeverOne rec [] = Unit {0}
  NeverOne rec (c ∷ cs) = (refusal (S.does c rec).answer ≢ some 1) × NeverOne (S.does c rec).rec cs

  -- ---- stepping on

  -- "Stepping on is a row of accepted steps that ends with the first not saying added": from rec, n times "added", the last answer, the record then
  pub data Stepping : List ℕ → ℕ → Answer → List ℕ → Type 0 where
    last : {rec end : List ℕ} {w : Answer} (scratch : List ℕ) → Buffer scratch → w ≡ (S.does (step scratch) rec).answer → Accepted w → w ≢ added
        → end ≡ (S.does (step scratch) rec).rec → Stepping rec 0 w end
    more : {rec end : List ℕ} {n : ℕ} {w : Answer} (scratch : List ℕ) → Buffer scratch → (S.does (step scratch) rec).answer ≡ added
        → Stepping (S.does (step scratch) rec).rec n w end → Stepping rec (suc n) w end

  -- a row of accepted steps that all say "added"
  pub data Adding : List ℕ → ℕ → Type 0 where
    begin : {rec : List ℕ} → Adding rec 0
    again : {rec : List ℕ} {n : ℕ} (scratch : List ℕ) → Buffer scratch → (S.does (step scratch) rec).answer ≡ added
        → Adding (S.does (step scratch) rec).rec n → Adding rec (suc n)

  -- The end of stepping on: the wires held are a largest set of routes of the job, uncrossed; "all wired exactly when some family of routes takes
  -- every chosen pin to the rim within every limit, and the record holds such a family; otherwise short with exactly the greatest number laid".
  pub record Ended (J : Job) (g : ℕ) (w : Answer) (rec : List ℕ) : Type 0 where
    pub job : job_of rec ≡ J
    pub routes : List (Route J)
    pub held : Holds J (load rec) routes
    pub listed : (r c i : ℕ) → Word r → Word c → Word i → T (is_chosen J r c) → (S.does (part r c i) rec).answer ≡ lists (part_at J (load rec) r c i)
    pub together : Together J routes
    pub number : length routes ≡ g
    pub all : (w ≡ all_wired) ↔ ((rs : List (Route J)) × Family J rs)
    pub family : w ≡ all_wired → Family J routes
    -- K8: "the total length is exactly the least over all families of routes"
    pub length : w ≡ all_wired → LeastLength J (routes_length J routes)
    pub otherwise : (w ≡ all_wired) ⊎ ((w ≡ short) × (g < chosen_count J))

  -- ---- demand 3

  -- what holds at the end of a run, on its record and of its job
  pub record Demand (rec : List ℕ) (J : Job) : Type 0 where
    pub g : ℕ
    pub greatest : Greatest J g
    -- lent enough, a step is accepted
    pub step-accepted : (scratch : List ℕ) → Buffer scratch → scratch_size ≤ length scratch → Accepted (S.does (step scratch) rec).answer
    -- every row of "added" ends, and with any scratch there is a row of steps to its end
    pub adds : (n : ℕ) → Adding rec n → n + wires_in rec ≤ g
    pub ends : (scratch : List ℕ) → Buffer scratch → scratch_size ≤ length scratch → (n : ℕ) × (w : Answer) × (end : List ℕ) × Stepping rec n w end
    -- "stepping on says added exactly as often as wires are lacking to the greatest number; then .."
    pub steps : (n : ℕ) (w : Answer) (end : List ℕ) → Stepping rec n w end → (n + wires_in rec ≡ g) × Ended J g w end
    -- lent enough, Shortfall is accepted
    pub shortfall-accepted : (scratch output : List ℕ) → Buffer scratch → Buffer output → scratch_size ≤ length scratch → record_size ≤ length output
        → Accepted (S.does (shortfall scratch output) rec).answer
    -- "At any point Shortfall gives chosen minus the greatest number and the one smallest near side."
    pub shortfalls : (scratch output : List ℕ) → Buffer scratch → Buffer output → Accepted (S.does (shortfall scratch output) rec).answer
        → (S.does (shortfall scratch output) rec).answer ≡ lacks (chosen_count J - g)
    pub near : (scratch output : List ℕ) → Buffer scratch → Buffer output → Accepted (S.does (shortfall scratch output) rec).answer → g < chosen_count J
        → (N : ℕ → Bool) × Smallest J N g × ((S.does (shortfall scratch output) rec).output ≡ over (near_bytes N) output)

-- Demand 3, one claim about every service that keeps its promises and every list of calls on one record
abbrev pub Demand3 : Type 0
Demand3 = (S : Service) (begun : List ℕ) (K : Job) → Starts S begun K → (calls : List Call) (rec : List ℕ) (J : Job) → Follows S begun K calls rec J
    → NeverOne S begun calls × Demand S rec J
