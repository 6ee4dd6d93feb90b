-- The end of a round of the search that raises prices as it goes: every spot in the queue is looked at, so the prices of all of them are raised, those on
-- the rim wait again, and the search stands as before. The price of its start has risen, which ends the search. Assumes nothing.
use Rattle.std.specs.Prelude.{◌≡◌, refl, ◌≢◌, Bool, true, false, List, reverse, ℕ, ◌+◌, ◌*◌, ◌/◌, ◌≤◌, ◌<◌, T, length, get_or, set}
use Rattle.std.proofs.Common.{sym, ap, subst, ◌∙◌, inl, ⊎_elim, arith, below_more, get_or-set_same, get_or-set_other}
use Rattle.std.proofs.Math.Path.{fun_ext}
use Rattle.sums.specs.Counting.{when}
use Rattle.sums.specs.Tests.{so}
use Rattle.sums.specs.Sums.{when-part}
use Rattle.flow.specs.Network.{Path, path-map}
use Rattle.price.specs.Moves.{Tight}
use Rattle.price.specs.Priced.{Priced}
use Rattle.model.specs.Job.{Job}
use Rattle.channel.specs.Map.{spots, rev, view}
use Rattle.channel.specs.Map.Lengths.{dart_length}
use Rattle.channel.specs.Map.Network.{net, net-dart, unstarted-at}
use Rattle.augment.specs.Marks.{marked, is-marked, Unmarked, same_or}
use Rattle.augment.specs.OneMore.{OneMore}
use Rattle.augment.specs.Pins.{Held, Unwired}
use Rattle.augment.specs.Spread.{Spread}
use Rattle.augment.specs.Ways.{LaidTo, way-path, times-reverse}
use Rattle.shortest.specs.Slack.{raise, Leaves, raised-priced}
use Rattle.shortest.specs.PricedLaid.{laid_one, priced-laid}
use Rattle.shortest.specs.Ceiling.{unwired-most}
use Rattle.shortest.specs.Grow.{tight_moves, tight-is, spread-raised, looked-leaves, queued}
use Rattle.shortest.specs.Wiring.{price_at, AtMost, Arranged, Wireable, Grew}
use Rattle.shortest.specs.Growing.{tight, LookedTo, Place, waits, shut, edge, Kept, Growing, Out, Lifted, Raised, Raisable, Higher, Opened}
use Rattle.shortest.specs.declared.expand.Growth.{Growth}
use Rattle.augment.specs.declared.reach.Way.{Way}

-- ---- prices raised one by one

pub raised-none : (q : List ℕ) (δ : ℕ) (p : List ℕ) → Raised q 0 δ p p
raised-none q δ p = record { more = λ i l. absurd (omega arith); same = λ x n. refl }

pub raised-more : {q : List ℕ} {n δ : ℕ} {p p' : List ℕ} {v : ℕ} → Raised q n δ p p' → get_or q n 0 < length p'
    → ((i : ℕ) → i < n → get_or q i 0 ≢ get_or q n 0) → v ≡ get_or p' (get_or q n 0) 0 + δ → Raised q (n + 1) δ p (set p' (get_or q n 0) v)
raised-more {q} {n} {δ} {p} {p'} {v} R l apart e =
    let u = get_or q n 0 in
    record {
      more = below_more (λ i. get_or (set p' u v) (get_or q i 0) 0 ≡ get_or p (get_or q i 0) 0 + δ) n
          (λ i h. get_or-set_other p' u (get_or q i 0) v 0 (apart i h) ∙ R.more i h)
          (get_or-set_same p' u v 0 l ∙ e ∙ ap (λ (x : ℕ). x + δ) (R.same u apart));
      same = λ x m. get_or-set_other p' u x v 0 (λ y. m n (omega arith) (sym y)) ∙ R.same x (λ i h. m i (omega arith));
    }

-- ---- how far prices rise

pub lifted-refl : (s : ℕ) (p : List ℕ) → Lifted s p p
lifted-refl s p = record { up = omega arith; most = λ u. omega arith }

pub lifted-then : {s : ℕ} {p p' p'' : List ℕ} → Lifted s p p' → Lifted s p' p'' → Lifted s p p''
lifted-then a b = record { up = omega (arith, a.up, b.up); most = λ u. omega (arith, a.most u, b.most u) }

-- no price of an unwired pin is greater
pub start-most : {J : Job} {rec : List ℕ} (prices : List ℕ) {s : ℕ} → Held J rec → Wireable J → Priced (net J) dart_length (view rec) (price_at prices) → s < spots
    → Unwired J rec s → get_or prices s 0 ≤ 1417824
start-most {J} prices {s} H W P l u = unwired-most H W.held W.all P s (unstarted-at J l u)

pub lifted-most : {s m : ℕ} {p p' : List ℕ} → Lifted s p p' → get_or p' s 0 ≤ 1417824 → AtMost p m → AtMost p' (m + 1417824)
lifted-most L h a u = omega (arith, L.most u, a u)

-- ---- the end of a round

module _ {J : Job} {rec prices : List ℕ} {start : ℕ} {t q f w st rm : List ℕ} {g : Growth} (G : Growing J rec prices start t q f w st rm g) where
  s : Spread J (tight J rec prices) start G.kept.blank t q f w g.n
  s = G.kept.spread

  blank : (x : ℕ) → x < spots → get_or G.kept.blank x 0 ≢ 1
  blank x l e = omega (arith, G.kept.cleared.all x l)

  pub start-spot : start < spots
  start-spot = omega (arith, s.first, s.spot 0 s.some)

  pub growing-most : Held J rec → Wireable J → Priced (net J) dart_length (view rec) (price_at prices) → Unwired J rec start → get_or prices start 0 ≤ 1417824
  growing-most H W P u = start-most prices H W P start-spot u

  pub growing-raisable : AtMost prices 4293467295 → Raisable q g.n g.least prices
  growing-raisable a =
      record {
        count = omega (arith, G.kept.count, G.kept.room.queue);
        byte = λ i l. omega (arith, s.spot i l, G.kept.row);
        apart = s.apart;
        fits = λ u. omega (arith, a u, G.kept.most);
      }

  module _ (z : g.top ≡ 0) (A : Arranged J rec prices) {prices' : List ℕ} (R : Raised q g.n g.least prices prices') where
    looked : (i : ℕ) → i < g.n → LookedTo J rec prices t (get_or q i 0) g.least 8
    looked i l = by (G.all i l)
      where
        by : Place J rec prices t st rm g i (get_or q i 0) → LookedTo J rec prices t (get_or q i 0) g.least 8
        by (waits j h e) = absurd (omega arith)
        by (shut h) = λ k lk may. inl (h k lk may)
        by (edge j h e y) = y

    leaves : Leaves J rec dart_length (price_at prices) (marked t) g.least
    leaves = looked-leaves J rec A.priced s blank looked

    -- the prices of the marked spots are raised
    is-raised : (u : ℕ) → get_or prices' u 0 ≡ get_or prices u 0 + when (marked t u) g.least
    is-raised u = by (marked t u) refl
      where
        by : (b : Bool) → marked t u ≡ b → get_or prices' u 0 ≡ get_or prices u 0 + when b g.least
        by true e =
            let (i, l, y) = queued J rec A.priced s blank looked u (so e) in
            subst (λ (x : ℕ). get_or prices' x 0 ≡ get_or prices x 0 + g.least) y (R.more i l)
        by false e =
            omega (
              arith,
              R.same u (λ i l y. subst T e (subst (λ (x : ℕ). T (marked t x)) y (is-marked t (get_or q i 0) (s.spot i l) (s.hit i l)))),
            )

    all-raised : raise (price_at prices) (marked t) g.least ≡ price_at prices'
    all-raised = fun_ext (λ u. sym (is-raised u))

    pub priced-raised : Priced (net J) dart_length (view rec) (price_at prices')
    priced-raised =
        subst (λ (π : ℕ → ℕ). Priced (net J) dart_length (view rec) π) all-raised
        (raised-priced J A.held.fits rec A.held.feasible A.priced leaves)

    start-raised : get_or prices' start 0 ≡ get_or prices start 0 + g.least
    start-raised = subst (λ (x : ℕ). get_or prices' x 0 ≡ get_or prices x 0 + g.least) s.first (R.more 0 s.some)

    pub lifted-raised : Lifted start prices prices'
    lifted-raised =
        record {
          up = omega (arith, start-raised);
          most = λ u. omega (arith, start-raised, is-raised u, when-part (marked t u) g.least);
        }

    module _ (lp : length prices' ≡ length prices) {st' : List ℕ} (ls : length st' ≡ length st)
        (again : (j : ℕ) → j < g.rims → get_or st' j 0 ≡ get_or rm j 0) where
      pub growing-raised : Growing J rec prices' start t q f w st' rm (record { n = g.n; top = g.rims; rims = 0; least = 1500000 })
      growing-raised =
          record {
            kept = record {
              room = K.room;
              row = omega (arith, K.row);
              stack = omega (arith, K.stack);
              rim = K.rim;
              count = K.count;
              blank = K.blank;
              cleared = K.cleared;
              spread = subst (λ (π : ℕ → ℕ). Spread J (tight_moves J dart_length π rec) start K.blank t q f w g.n) all-raised
                  (spread-raised J rec A.priced s g.least);
              some = omega arith;
              most = omega arith;
              few = omega (arith, K.few);
              stacked = λ j l. omega (arith, again j l, K.edged j l);
              edged = λ j l. absurd (omega arith);
            };
            all = λ i l. by i (G.all i l);
          }
        where
          K : Kept J rec prices start t q f w st rm g
          K = G.kept

          by : (i : ℕ) → Place J rec prices t st rm g i (get_or q i 0)
              → Place J rec prices' t st' rm (record { n = g.n; top = g.rims; rims = 0; least = 1500000 }) i (get_or q i 0)
          by i (waits j l e) = absurd (omega arith)
          by i (shut h) = shut h
          by i (edge j l e h) = waits j l (again j l ∙ e)

      pub round-higher : Higher J rec prices start prices' t q f w st' rm (record { n = g.n; top = g.rims; rims = 0; least = 1500000 })
      round-higher = record { growing = growing-raised; priced = priced-raised; lifted = lifted-raised; rose = omega (arith, start-raised, G.kept.some) }

-- ---- the way out is laid

module _ {J : Job} {rec prices : List ℕ} {start : ℕ} {prices' t q f w : List ℕ} {y : Way} (O : Opened J rec prices start prices' t q f w y) (H : Held J rec)
    (W : Wireable J) (ls : start < spots) (u : Unwired J rec start) {rec' t' : List ℕ} (L : LaidTo q f w y.place y.slot 0 rec rec')
    (U : Unmarked q y.count t t') where
  F : Out J rec prices' start t q f w y.place y.slot y.count
  F = O.out

  path : Path (net J) (Tight (net J) dart_length (view rec) (price_at prices')) L.way start (rev (8 * get_or q y.place 0 + y.slot) / 8)
  path =
      path-map (λ d l m h. tight-is J rec O.priced d (net-dart J l) h)
      (way-path F.spread y.place y.slot F.place F.slot F.may L.walked)

  unmarked : (x : ℕ) → x < spots → get_or t' x 0 ≡ 0
  unmarked x l = ⊎_elim
      (λ e. ⊎_elim (λ b. absurd (omega (arith, F.cleared.all x l))) (λ (i, li, p). subst (λ (z : ℕ). get_or t' z 0 ≡ 0) p (U.gone i li)) (F.spread.owed x e))
      (λ e. let new : (i : ℕ) → i < y.count → get_or q i 0 ≢ x = λ i li p. e (subst (λ (z : ℕ). get_or t z 0 ≡ 1) p (F.spread.hit i li)) in
      U.same x new ∙ F.spread.same x new ∙ F.cleared.all x l)
      (same_or (get_or t x 0) 1)

  pub grown : Grew J rec prices start rec' prices' t'
  grown =
      record {
        more = subst (λ (x : List ℕ). OneMore J rec x start) (sym L.laid)
            (laid_one H O.priced (unstarted-at J ls u) path F.exit (reverse L.way) (times-reverse L.way));
        priced = subst (λ (x : List ℕ). Priced (net J) dart_length (view x) (price_at prices')) (sym L.laid)
            (priced-laid H O.priced (unstarted-at J ls u) path F.exit (reverse L.way) (times-reverse L.way));
        cleared = record { all = unmarked };
        most = λ m a. lifted-most O.lifted (start-most prices' H W O.priced ls u) a;
      }
