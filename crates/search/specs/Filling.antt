-- The laws of laying wires until no more fits. Each wire is one of those that are wanted, so there is an end; and what is marked at the end is the
-- smallest near side. Assumes nothing.
use Rattle.std.specs.Prelude.{◌≡◌, refl, Bool, true, false, Option, Some, None, is_some, List, ℕ, ◌+◌, ◌≤◌, ◌<◌, T, length}
use Rattle.std.proofs.Common.{sym, subst, ◌∙◌, arith}
use Rattle.sums.specs.Sums.{sum-cong, sum-le}
use Rattle.flow.specs.Push.{more, sum_more}
use Rattle.model.specs.Job.{Job}
use Rattle.model.specs.Route.{Route, Together, Greatest}
use Rattle.model.specs.Near.{Smallest}
use Rattle.model.specs.Record.{load}
use Rattle.model.specs.Wires.{wire_count}
use Rattle.channel.specs.Map.{spots, want, starts}
use Rattle.channel.specs.Map.Network.Flows.{starts-wanted}
use Rattle.augment.specs.OneMore.{OneMore}
use Rattle.augment.specs.NoMore.{reached-smallest, reached-greatest}
use Rattle.augment.specs.Marks.{marked, marked-spot, marked-byte}
use Rattle.augment.specs.Pins.{Held, Dead, AnySpot, LaidAt, Passed, Answered}
use Rattle.search.specs.Fill.{Cleared, More, Filling, Saturated, Filled, lacking}

-- ---- no marks

pub cleared-none : {t : List ℕ} → Cleared t → (u : ℕ) → T (marked t u) → ⊥
cleared-none {t} c u m = omega (arith, c.all u (marked-spot t u m), marked-byte t u m)

pub cleared-dead : {J : Job} {rec t : List ℕ} → Cleared t → Dead J rec t
cleared-dead c = record { closed = λ d l m. absurd (cleared-none c _ m); none = λ u l m o. cleared-none c u m }

pub more-refl : {J : Job} {rec : List ℕ} → Held J rec → More J rec rec
more-refl H = record { held = H; begun = λ x l. omega arith; kept = record { size = refl; job = refl; front = λ i l. refl; rest = λ i l. refl } }

pub more-then : {J : Job} {rec rec' rec'' : List ℕ} → More J rec rec' → More J rec' rec'' → More J rec rec''
more-then M N =
    record {
      held = N.held;
      begun = λ x m. omega (arith, M.begun x m, N.begun x m);
      kept = record {
        size = N.kept.size ∙ M.kept.size;
        job = N.kept.job ∙ M.kept.job;
        front = λ i m. N.kept.front i m ∙ M.kept.front i m;
        rest = λ i m. N.kept.rest i m ∙ M.kept.rest i m;
      };
    }

-- nothing is marked before the first wire
pub filling-start : {J : Job} {rec t : List ℕ} → Held J rec → Cleared t → Filling J rec rec t true
filling-start H c = record { more = more-refl H; dead = cleared-dead c; reached = λ e x m. absurd (cleared-none c x m) }

-- the marked spots are dead, and wires may have been laid since the marks were cleared
pub filling-on : {J : Job} {rec rec' t : List ℕ} → More J rec rec' → Dead J rec' t → Filling J rec rec' t false
filling-on M d = record { more = M; dead = d; reached = λ q. absurd (let z : ◌≡◌ {A = ℕ} 0 1 = cc in omega arith) }

-- the marks are cleared, and nothing else is changed
pub filling-clear : {J : Job} {rec rec' rec'' t t'' : List ℕ} {b : Bool} → Filling J rec rec' t b → rec'' ≡ rec' → Cleared t'' → Filling J rec rec'' t'' true
filling-clear {J} {rec} F e c =
    record { more = subst (λ (x : List ℕ). More J rec x) (sym e) F.more; dead = cleared-dead c; reached = λ q x m. absurd (cleared-none c x m) }

-- no fewer wires, and no more are lacking
pub more-lacking : {J : Job} {rec rec' : List ℕ} → More J rec rec' → lacking J rec' ≤ lacking J rec
more-lacking {J} {rec} {rec'} M = omega (arith, sum-le spots (starts J rec) (starts J rec') M.begun)

-- ---- one wire more

module _ {J : Job} {rec rec' : List ℕ} {u : ℕ} (H : Held J rec) (l : u < spots) (M : OneMore J rec rec' u) where
  pub held_more : Held J rec'
  held_more =
      record { fits = H.fits; caps = H.caps; long = omega (arith, H.long, M.kept.size); bytes = M.bytes; feasible = M.feasible }

  lacking-less : lacking J rec' + 1 ≡ lacking J rec
  lacking-less =
      omega (
        arith,
        sum-cong spots (starts J rec') (more (starts J rec) u) M.begun,
        sum_more spots u (starts J rec) l,
        sum-le spots (starts J rec') (want J) (starts-wanted J H.fits rec' M.feasible),
      )

module _ {J : Job} {rec rec' t : List ℕ} {u : ℕ} (H : Held J rec) (A : LaidAt J rec rec' t u) where
  pub laid-more : More J rec rec'
  laid-more = record { held = held_more H A.spot A.more; begun = λ x m. omega (arith, A.more.begun x m); kept = A.more.kept }

  pub laid-less : lacking J rec' + 1 ≡ lacking J rec
  laid-less = lacking-less H A.spot A.more

-- a wire was laid, or none
module _ (J : Job) (rec t rec' t' : List ℕ) where
  pub was-laid : (y : Option ℕ) → is_some y ≡ true → Answered J AnySpot rec t rec' t' y → (u : ℕ) × LaidAt J rec rec' t' u
  was-laid (Some u) e a = (u, a)
  was-laid None e a = cc

  pub was-none : (y : Option ℕ) → is_some y ≡ false → Answered J AnySpot rec t rec' t' y → (rec' ≡ rec) × Passed J AnySpot rec t t'
  was-none (Some u) e a = cc
  was-none None e a = a

-- which of the two it was
pub some-laid : (y : Option ℕ) → is_some y ≡ true → (u : ℕ) × (y ≡ Some u)
some-laid (Some u) e = (u, refl)
some-laid None e = cc

pub none-laid : (y : Option ℕ) → is_some y ≡ false → y ≡ None
none-laid (Some u) e = cc
none-laid None e = refl

-- a wire more, beside the marks as they stood; or none, after they were cleared
module _ {J : Job} {rec rec' t : List ℕ} {b : Bool} (F : Filling J rec rec' t b) (rec'' t'' : List ℕ) (y : Option ℕ) (r : Answered J AnySpot rec' t rec'' t'' y) where
  laid-at : {u : ℕ} → y ≡ Some u → LaidAt J rec' rec'' t'' u
  laid-at e = subst (λ (x : Option ℕ). Answered J AnySpot rec' t rec'' t'' x) e r

  pub filling-laid : {u : ℕ} → y ≡ Some u → Filling J rec rec'' t'' false
  filling-laid e =
      let A = laid-at e in
      record { more = more-then F.more (laid-more F.more.held A); dead = A.dead; reached = λ q. absurd (let z : ◌≡◌ {A = ℕ} 0 1 = cc in omega arith) }

  pub filling-less : {u : ℕ} → y ≡ Some u → lacking J rec'' + 1 ≡ lacking J rec'
  filling-less e = laid-less F.more.held (laid-at e)

  pub filling-end : b ≡ true → y ≡ None → Filled J rec rec'' t''
  filling-end f e =
      let (q, p) : (rec'' ≡ rec') × Passed J AnySpot rec' t t'' = subst (λ (x : Option ℕ). Answered J AnySpot rec' t rec'' t'' x) e r in
      subst (λ (x : List ℕ). Filled J rec x t'') (sym q) (record { more = F.more; full = record { dead = p.dead; unwired = p.shut; reached = p.reached (F.reached f) } })

-- none is laid after the marks were cleared
pub filled : {J : Job} {rec rec' rec'' t t' : List ℕ} → More J rec rec' → Cleared t → (rec'' ≡ rec') × Passed J AnySpot rec' t t' → Filled J rec rec'' t'
filled {J} {rec} {t' = t'} M c (q, p) =
    subst (λ (x : List ℕ). Filled J rec x t') (sym q)
    (record { more = M; full = record { dead = p.dead; unwired = p.shut; reached = p.reached (λ x m. absurd (cleared-none c x m)) } })

-- ---- no wire more fits

module _ {J : Job} {rec t : List ℕ} (H : Held J rec) (S : Saturated J rec t) where
  -- What is marked is the smallest near side.
  pub saturated-smallest : Smallest J (marked t) (wire_count J (load rec))
  saturated-smallest = reached-smallest J H.fits rec H.feasible (marked t) S.unwired S.dead.closed S.dead.none S.reached

  -- The number of wires is the greatest number, if there are as many routes.
  pub saturated-greatest : (rs : List (Route J)) → Together J rs → length rs ≡ wire_count J (load rec) → Greatest J (wire_count J (load rec))
  saturated-greatest = reached-greatest J H.fits rec H.feasible (marked t) S.unwired S.dead.closed S.dead.none S.reached
