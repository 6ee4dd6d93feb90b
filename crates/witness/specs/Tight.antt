-- Request K8: one wire more, along tight moves. What tight moves reach from an unwired pin either holds a spot outside, and then a path leads there and is
-- laid, or each move out of it leaves 1 or more, and its prices are raised by 1. The pin's price rises with them, and it is at most what a complete wiring
-- costs, so that at last a path is laid. Assumes nothing.
use Rattle.std.specs.Prelude.{◌≡◌, refl, ◌⊎◌, Bool, true, false, List, ℕ, zero, suc, ◌+◌, ◌/◌, ◌≤◌, ◌<◌, T, eqb}
use Rattle.std.proofs.Common.{sym, subst, inl, inr, eq-zero-or-pos, arith}
use Rattle.std.proofs.Math.Dec.{eqb_refl}
use Rattle.sums.specs.Tests.{and_both}
use Rattle.sums.specs.Sums.{when-so}
use Rattle.flow.specs.Network.{Path, path-map}
use Rattle.price.specs.Moves.{Tight}
use Rattle.price.specs.Priced.{Priced}
use Rattle.model.specs.Job.{Job}
use Rattle.model.specs.Route.{chosen_count}
use Rattle.model.specs.Record.{load}
use Rattle.model.specs.Wires.{wire_count}
use Rattle.channel.specs.Map.{spots, darts, rev, outside, view, moves}
use Rattle.channel.specs.Map.Lengths.{dart_length}
use Rattle.channel.specs.Map.Network.{net, net-tail, net-head, net-dart, dart-net, unstarted-at}
use Rattle.augment.specs.Laid.{laid_all}
use Rattle.augment.specs.OneMore.{OneMore}
use Rattle.augment.specs.Pins.{Held, Unwired}
use Rattle.shortest.specs.Slack.{raise, priced-kept, Leaves, raised-priced}
use Rattle.shortest.specs.Grow.{slack_of, tight_moves, slack-exact, tight-is}
use Rattle.shortest.specs.PricedLaid.{laid_one, priced-laid}
use Rattle.shortest.specs.Ceiling.{unwired-most}
use Rattle.witness.specs.Decide.{some-or-all}
use Rattle.witness.specs.Closure.{Closure}
use Rattle.witness.specs.Rings.{Walk, walk-path, reach_of}

-- one wire more starts, at u, and the loads have prices
pub record Grown (J : Job) (rec : List ℕ) (u : ℕ) : Type 0 where
  pub loads : List ℕ
  pub prices : ℕ → ℕ
  pub more : OneMore J rec loads u
  pub priced : Priced (net J) dart_length (view loads) prices

-- a move that leaves nothing is among the tight ones
is-tight : (J : Job) (len π : ℕ → ℕ) (rec : List ℕ) (d : ℕ) → T (moves J rec d) → slack_of len π rec d ≡ 0 → T (tight_moves J len π rec d)
unfolding tight_moves
is-tight J len π rec d m e = and_both (moves J rec d) (eqb (slack_of len π rec d) 0) m (subst (λ (x : ℕ). T (eqb x 0)) (sym e) tt)

module _ {J : Job} {rec : List ℕ} (H : Held J rec) {u : ℕ} (l : u < spots) (h : Unwired J rec u) where
  module _ {π : ℕ → ℕ} (P : Priced (net J) dart_length (view rec) π) where
    abbrev tight : ℕ → Bool
    tight d = tight_moves J dart_length π rec d

    -- what tight moves lead to from u
    R : Closure (net J) tight (λ v. eqb u v) (Walk (net J) tight u)
    R = reach_of (net J) tight u

    lay : (v : ℕ) → Walk (net J) tight u v → T (outside J v) → Grown J rec u
    lay v w o =
        let (ds, p) = walk-path (net J) tight w in
        let q : Path (net J) (Tight (net J) dart_length (view rec) π) ds u v = path-map (λ d k m t. tight-is J rec P d (net-dart J k) t) p in
        record {
          loads = laid_all rec ds;
          prices = π;
          more = laid_one H P (unstarted-at J l h) q o ds (λ x. refl);
          priced = priced-laid H P (unstarted-at J l h) q o ds (λ x. refl);
        }

    leaves : ((v : ℕ) → v < spots → T (R.set v) → T (outside J v) → ⊥) → Leaves J rec dart_length π R.set 1
    leaves f = record { inside = f; least = λ d k m a b. (slack_of dart_length π rec d, slack-exact rec d (priced-kept J rec P d k m), some d k m a b) }
      where
        some : (d : ℕ) → d < darts → T (moves J rec d) → T (R.set (d / 8)) → (T (R.set (rev d / 8)) → ⊥) → 1 ≤ slack_of dart_length π rec d
        some d k m a b = by (eq-zero-or-pos (slack_of dart_length π rec d))
          where
            by : (slack_of dart_length π rec d ≡ 0) ⊎ (0 < slack_of dart_length π rec d) → 1 ≤ slack_of dart_length π rec d
            by (inr p) = p
            by (inl e) =
                absurd
                (b (subst (λ (x : ℕ). T (R.set x)) (net-head J d)
                (R.shut d (dart-net J k) (subst (λ (x : ℕ). T (R.set x)) (sym (net-tail J d)) a) (is-tight J dart_length π rec d m e))))

    -- a path to the outside is laid, or raised prices decide
    lay-or-raise : (Priced (net J) dart_length (view rec) (raise π R.set 1) → raise π R.set 1 u ≡ π u + 1 → Grown J rec u) → Grown J rec u
    lay-or-raise more =
        by (some-or-all (λ v. T (R.set v) × T (outside J v)) (λ v. T (R.set v) → T (outside J v) → ⊥) (λ v. one (R.set v) (outside J v)) spots)
      where
        one : (a b : Bool) → (T a × T b) ⊎ (T a → T b → ⊥)
        one true true = inl (tt, tt)
        one true false = inr (λ s t. t)
        one false b = inr (λ s t. s)

        by : ((v : ℕ) × (v < spots) × (T (R.set v) × T (outside J v))) ⊎ ((v : ℕ) → v < spots → T (R.set v) → T (outside J v) → ⊥) → Grown J rec u
        by (inl (v, k, (t, o))) = lay v (R.only v t) o
        by (inr f) =
            more (raised-priced J H.fits rec H.feasible P (leaves f)) (omega (arith, when-so (R.set u) 1 (R.holds u (eqb_refl u))))

  -- `old` has a wire for every chosen pin
  module _ {old : List ℕ} (G : Held J old) (all : wire_count J (load old) ≡ chosen_count J) where
    raises : (k : ℕ) {π : ℕ → ℕ} → Priced (net J) dart_length (view rec) π → 1417824 < k + π u → Grown J rec u
    raises zero P m = absurd (omega (arith, unwired-most H G all P u (unstarted-at J l h)))
    raises (suc k) P m = lay-or-raise P (λ Q e. raises k Q (omega arith))

    pub grown : {π : ℕ → ℕ} → Priced (net J) dart_length (view rec) π → Grown J rec u
    grown P = raises 1417825 P (omega arith)
