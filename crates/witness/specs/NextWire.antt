-- The search for one wire more, as mathematics: what moves reach from the unwired pins either holds a spot outside, and then a path leads there and is laid,
-- or it is the smallest near side. Assumes nothing.
use Rattle.std.specs.Prelude.{refl, ◌⊎◌, Bool, true, false, ◌&&◌, List, ℕ, ◌<◌, T, ltb}
use Rattle.std.proofs.Common.{sym, subst, ◌∙◌, inl, inr, arith, ltb→lt, lt→ltb}
use Rattle.sums.specs.Tests.{and_left, and_right, and_both}
use Rattle.flow.specs.Network.{head}
use Rattle.model.specs.Job.{Job}
use Rattle.channel.specs.Map.{spots, want, outside, starts, moves}
use Rattle.channel.specs.Map.Network.{net, net-tail, net-head, net-dart, dart-net, unstarted-at}
use Rattle.augment.specs.Laid.{laid_all}
use Rattle.augment.specs.OneMore.{OneMore, moves-path, lays_one}
use Rattle.augment.specs.NoMore.{Reached, from, onto, ClosedUnderMoves, NoneOutside}
use Rattle.augment.specs.Pins.{Held, Unwired}
use Rattle.search.specs.Loose.{Loosened}
use Rattle.witness.specs.Decide.{some-or-all}
use Rattle.witness.specs.Closure.{Closure, closure}
use Rattle.witness.specs.Rings.{Walk, start, onto as step-on, walk-path}
use Rattle.witness.specs.Damage.{LoopFree}
use Rattle.witness.specs.Untangled.{Loopless, loopless}

module _ (J : Job) (rec : List ℕ) (H : Held J rec) where
  abbrev moving : ℕ → Bool
  moving d = moves J rec d

  -- moves lead to v from an unwired pin
  record Led (v : ℕ) : Type 0 where
    pin : ℕ
    spot : pin < spots
    unwired : Unwired J rec pin
    walk : Walk (net J) moving pin v

  walk-reached : {u v : ℕ} → Reached J rec u → Walk (net J) moving u v → Reached J rec v
  walk-reached r (start e) = subst (Reached J rec) e r
  walk-reached r (step-on d k l t e) = onto (walk-reached r k) (net-dart J l) (sym (net-tail J d)) t (sym (net-head J d) ∙ e)

  -- no move leads from an unwired pin to the outside: what they lead to
  pub record NoWay : Type 0 where
    pub set : ℕ → Bool
    pub unwired : (u : ℕ) → u < spots → Unwired J rec u → T (set u)
    pub closed : ClosedUnderMoves J rec set
    pub inside : NoneOutside J set
    pub reached : (u : ℕ) → T (set u) → Reached J rec u

  -- one wire more, and no loop
  pub record Wired : Type 0 where
    pub pin : ℕ
    pub spot : pin < spots
    pub unwired : Unwired J rec pin
    pub loads : List ℕ
    pub more : OneMore J rec loads pin
    pub free : LoopFree J loads

  -- the loops that a laid wire made are taken out
  unlooped : {u : ℕ} {rec' rec'' : List ℕ} → OneMore J rec rec' u → Loosened J rec' rec'' → OneMore J rec rec'' u
  unlooped M L =
      record {
        feasible = L.feasible;
        bytes = L.bytes;
        begun = λ x l. L.begun x l ∙ M.begun x l;
        kept = record {
          size = L.kept.size ∙ M.kept.size;
          job = L.kept.job ∙ M.kept.job;
          front = λ i l. L.kept.front i l ∙ M.kept.front i l;
          rest = λ i l. L.kept.rest i l ∙ M.kept.rest i l;
        };
      }

  lay : (v : ℕ) → Led v → T (outside J v) → Wired
  lay v w o =
      let (ds, p) = walk-path (net J) moving w.walk in
      let M : OneMore J rec (laid_all rec ds) w.pin =
      lays_one J H.fits rec H.feasible H.caps H.long H.bytes w.pin v ds (unstarted-at J w.spot w.unwired)
      (moves-path J rec p) o ds (λ x. refl) in
      let K : Held J (laid_all rec ds) =
      record { fits = H.fits; caps = H.caps; long = omega (arith, H.long, M.kept.size); bytes = M.bytes; feasible = M.feasible } in
      let U : Loopless J (laid_all rec ds) K = loopless J (laid_all rec ds) K in
      record { pin = w.pin; spot = w.spot; unwired = w.unwired; loads = U.loads; more = unlooped M U.loose; free = U.free }

  -- the unwired pins
  abbrev open-pin : ℕ → Bool
  open-pin u = ltb u spots && ltb (starts J rec u) (want J u)

  reach : Closure (net J) moving open-pin Led
  reach = closure (net J) moving Led led open-pin first
    where
      led : (d : ℕ) → d < (net J).darts → Led ((net J).tail d) → T (moving d) → Led (head (net J) d)
      led d l w t = record { pin = w.pin; spot = w.spot; unwired = w.unwired; walk = step-on d w.walk l t refl }

      first : (u : ℕ) → T (open-pin u) → Led u
      first u t =
          record {
            pin = u;
            spot = ltb→lt u spots (and_left (ltb u spots) (ltb (starts J rec u) (want J u)) t);
            unwired = ltb→lt (starts J rec u) (want J u) (and_right (ltb u spots) (ltb (starts J rec u) (want J u)) t);
            walk = start refl;
          }

  pub next-wire : Wired ⊎ NoWay
  next-wire = by (some-or-all (λ u. T (R u) × T (outside J u)) (λ u. T (R u) → T (outside J u) → ⊥) (λ u. one (R u) (outside J u)) spots)
    where
      R : ℕ → Bool
      R = reach.set

      one : (a b : Bool) → (T a × T b) ⊎ (T a → T b → ⊥)
      one true true = inl (tt, tt)
      one true false = inr (λ s t. t)
      one false b = inr (λ s t. s)

      by : ((u : ℕ) × (u < spots) × (T (R u) × T (outside J u))) ⊎ ((u : ℕ) → u < spots → T (R u) → T (outside J u) → ⊥) → Wired ⊎ NoWay
      by (inl (u, l, (t, o))) = inl (lay u (reach.only u t) o)
      by (inr f) =
          inr (record {
            set = R;
            unwired = λ u l h. reach.holds u (and_both (ltb u spots) (ltb (starts J rec u) (want J u)) (lt→ltb u spots l) (lt→ltb (starts J rec u) (want J u) h));
            closed = λ d l t m.
                subst (λ (x : ℕ). T (R x)) (net-head J d) (reach.shut d (dart-net J l) (subst (λ (x : ℕ). T (R x)) (sym (net-tail J d)) t) m);
            inside = f;
            reached = λ u t. let w : Led u = reach.only u t in walk-reached (from w.spot w.unwired) w.walk;
          })
