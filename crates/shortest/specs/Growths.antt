-- The laws of the search that raises prices as it goes: how it begins, how a spot is taken from the stack, what each slot of it does, and how it is laid
-- aside. Assumes nothing.
use Rattle.std.specs.Prelude.{◌≡◌, refl, ◌≢◌, ◌⊎◌, List, ℕ, min, ◌+◌, ◌-◌, ◌*◌, ◌/◌, ◌≤◌, ◌<◌, T, eqb, Result, Ok, Err, length, get_or, set}
use Rattle.std.proofs.Common.{sym, ap, subst, ◌∙◌, inl, inr, ⊎_elim, arith, below_more, length-set, get_or-set_same, get_or-set_other}
use Rattle.sums.specs.Tests.{below_or, and_both}
use Rattle.model.specs.Job.{Job}
use Rattle.channel.specs.Map.{spots, rev, moves, outside}
use Rattle.augment.specs.Marks.{unmarked, unmarked-le, after, mark-less, same_or}
use Rattle.augment.specs.Slots.{goes_on, off-marked}
use Rattle.augment.specs.Spread.{Room}
use Rattle.augment.specs.Steps.{Fresh}
use Rattle.augment.specs.Queue.{spread-start, spread-more}
use Rattle.search.specs.Fill.{Cleared}
use Rattle.channel.specs.Map.Lengths.{dart_length}
use Rattle.shortest.specs.Grow.{slack_of, tight_moves}
use Rattle.shortest.specs.Wiring.{price_at}
use Rattle.shortest.specs.Growing.{slack_by, tight, Trial, Tried, exit, old, far, new, Since, ShutTo, LookedTo, Place, waits, shut, edge, Kept, Growing, Taken, Out}
use Rattle.shortest.specs.declared.expand.Growth.{Growth}
use Rattle.augment.specs.declared.reach.Way.{Way}

-- a move that leaves nothing, as a program finds it
pub tight-move : (J : Job) (rec prices : List ℕ) (d : ℕ) {x : ℕ} → T (moves J rec d) → x ≡ slack_of dart_length (price_at prices) rec d → x ≡ 0
    → T (tight J rec prices d)
unfolding tight_moves
tight-move J rec prices d may e z =
    and_both (moves J rec d) (eqb (slack_of dart_length (price_at prices) rec d) 0) may (subst (λ (y : ℕ). T (eqb y 0)) (sym (sym e ∙ z)) tt)

-- a spot that is not marked leaves room in the queue
pub trial-more : {job rec prices t q f w st : List ℕ} {u i v : ℕ} {g : Growth} → Trial job rec prices t q f w st u i g → v < spots → get_or t v 0 ≢ 1 → g.n < spots
trial-more {t = t} {v = v} T' l e = omega (arith, T'.count, mark-less t v l (omega (arith, T'.room.marks)) e)

-- ---- what more marks, and a smaller least, keep

pub since-refl : (t : List ℕ) → Since t t
since-refl t = record { kept = λ x e. e }

pub since-then : {t t' t'' : List ℕ} → Since t t' → Since t' t'' → Since t t''
since-then a b = record { kept = λ x e. b.kept x (a.kept x e) }

since-mark : (t : List ℕ) (v : ℕ) → v < length t → Since t (set t v 1)
since-mark t v l = record { kept = λ x e. ⊎_elim (λ w. w.1) (λ w. w.1 ∙ e) (after t v 1 x l) }

module _ (J : Job) (rec prices : List ℕ) {t t' : List ℕ} (s : Since t t') (u m : ℕ) where
  shut-keep : ShutTo J rec t u m → ShutTo J rec t' u m
  shut-keep h k l may = s.kept _ (h k l may)

  looked-keep : {a b : ℕ} → b ≤ a → LookedTo J rec prices t u a m → LookedTo J rec prices t' u b m
  looked-keep e h k l may = ⊎_elim (λ y. inl (s.kept _ y)) (λ y. inr (omega arith)) (h k l may)

-- the entries below a stand below b, as they were
abbrev Holds : List ℕ → ℕ → List ℕ → ℕ → Type 0
Holds l a l' b = (j : ℕ) → j < a → (j < b) × (get_or l' j 0 ≡ get_or l j 0)

place-keep : {J : Job} {rec prices t t' st st' rm rm' : List ℕ} {g g' : Growth} {i u : ℕ} → Since t t' → Holds st g.top st' g'.top
    → Holds rm g.rims rm' g'.rims → g'.least ≤ g.least → Place J rec prices t st rm g i u → Place J rec prices t' st' rm' g' i u
place-keep s hs hr le (waits j l e) = let (l', e') = hs j l in waits j l' (e' ∙ e)
place-keep {J} {rec} {prices} {u = u} s hs hr le (shut h) = shut (shut-keep J rec prices s u 8 h)
place-keep {J} {rec} {prices} {u = u} s hs hr le (edge j l e h) = let (l', e') = hr j l in edge j l' (e' ∙ e) (looked-keep J rec prices s u 8 le h)

-- ---- the search begins

module _ {J : Job} (rec prices : List ℕ) {t q f w : List ℕ} (st rm : List ℕ) {start : ℕ} (r : Room t q f w) (F : Fresh J t start) (C : Cleared t)
    (lp : spots ≤ length prices) (ls : spots ≤ length st) (lr : spots ≤ length rm) where
  pub growing-start : Growing J rec prices start (set t start 1) (set q 0 start) f w (set st 0 0) rm (record { n = 1; top = 1; rims = 0; least = 1500000 })
  growing-start =
      record {
        kept = record {
          room = record { marks = simp length-set r.marks; queue = simp length-set r.queue; parents = r.parents; slots = r.slots };
          row = lp;
          stack = simp length-set ls;
          rim = lr;
          count = omega (arith, mark-less t start F.spot (omega (arith, r.marks, F.spot)) F.new, unmarked-le t);
          blank = t;
          cleared = C;
          spread = spread-start r F;
          some = omega arith;
          most = omega arith;
          few = omega arith;
          stacked = λ j l. omega (arith, head j l);
          edged = λ j l. absurd (omega arith);
        };
        all = λ i l. waits 0 (omega arith) (let e : i ≡ 0 = omega arith in omega (arith, head 0 (omega arith)));
      }
    where
      head : (j : ℕ) → j < 1 → get_or (set st 0 0) j 0 ≡ 0
      head j l = let e : j ≡ 0 = omega arith in rw e (get_or-set_same st 0 0 0 (omega (arith, F.spot)))

-- ---- a spot is taken from the stack

module _ {J : Job} {rec prices : List ℕ} {start : ℕ} {t q f w st rm : List ℕ} {g : Growth} (G : Growing J rec prices start t q f w st rm g) (some : 0 < g.top)
  where
    abbrev top : ℕ
    top = get_or st (g.top - 1) 0

    pub top-queued : top < g.n
    top-queued = G.kept.stacked (g.top - 1) (omega arith)

    pub rims< : g.rims < spots
    rims< = omega (arith, G.kept.few, G.kept.count)

    pub growing-taken : Taken J rec prices start t q f w st (set rm g.rims top) (record { n = g.n; top = g.top - 1; rims = g.rims; least = g.least })
        top (get_or q top 0) 0 g.rims (g.n - (g.top - 1))
    growing-taken =
        record {
          kept = record {
            room = K.room;
            row = K.row;
            stack = K.stack;
            rim = simp length-set K.rim;
            count = K.count;
            blank = K.blank;
            cleared = K.cleared;
            spread = K.spread;
            some = K.some;
            most = K.most;
            few = omega (arith, K.few);
            stacked = λ j l. K.stacked j (omega arith);
            edged = λ j l. subst (λ (x : ℕ). x < g.n) (sym (other j l)) (K.edged j l);
          };
          here = top-queued;
          spot = refl;
          rest = omega (arith, K.few);
          low = omega (arith, K.few);
          rims = inl refl;
          last = get_or-set_same rm g.rims top 0 (omega (arith, rims<, K.rim));
          all = λ j l. by j (G.all j l);
          looked = λ k l. absurd (omega arith);
          shut = λ e k l. absurd (omega arith);
        }
      where
        K : Kept J rec prices start t q f w st rm g
        K = G.kept

        other : (j : ℕ) → j < g.rims → get_or (set rm g.rims top) j 0 ≡ get_or rm j 0
        other j l = get_or-set_other rm g.rims j top 0 (λ e. omega arith)

        by : (j : ℕ) → Place J rec prices t st rm g j (get_or q j 0)
            → (j ≡ top) ⊎ Place J rec prices t st (set rm g.rims top) (record { n = g.n; top = g.top - 1; rims = g.rims; least = g.least }) j (get_or q j 0)
        by j (waits x l e) = ⊎_elim
            (λ y. inl (sym e ∙ ap (λ (z : ℕ). get_or st z 0) y))
            (λ y. inr (waits x (omega arith) e))
            (same_or x (g.top - 1))
        by j (shut h) = inr (shut h)
        by j (edge x l e h) = inr (edge x l (other x l ∙ e) h)

-- ---- one slot of it

module _ {J : Job} {rec prices : List ℕ} {start : ℕ} {t q f w st rm : List ℕ} {g : Growth} {i u k m gap : ℕ}
    (H : Taken J rec prices start t q f w st rm g i u k m gap) where
  K : Kept J rec prices start t q f w st rm g
  K = H.kept

  rims-least : m ≤ g.rims
  rims-least = ⊎_elim (λ e. omega arith) (λ e. omega arith) H.rims

  rims-most : g.rims ≤ m + 1
  rims-most = ⊎_elim (λ e. omega arith) (λ e. omega arith) H.rims

  -- it leads to a marked spot
  taken-old : get_or t (rev (8 * u + k) / 8) 0 ≡ 1 → Taken J rec prices start t q f w st rm g i u (k + 1) m gap
  taken-old e =
      record {
        kept = K;
        here = H.here;
        spot = H.spot;
        rest = H.rest;
        low = H.low;
        rims = H.rims;
        last = H.last;
        all = H.all;
        looked = below_more (λ j. T (moves J rec (8 * u + j)) → (get_or t (rev (8 * u + j) / 8) 0 ≡ 1) ⊎ (g.least ≤ slack_by rec prices u j)) k
            H.looked (λ may. inl e);
        shut = λ z. below_more (λ j. T (moves J rec (8 * u + j)) → get_or t (rev (8 * u + j) / 8) 0 ≡ 1) k (H.shut z) (λ may. e);
      }

  -- it leaves something
  taken-far : (l : ℕ) → 0 < slack_by rec prices u k → l ≡ min g.least (slack_by rec prices u k)
      → Taken J rec prices start t q f w st rm (record { n = g.n; top = g.top; rims = m + 1; least = l }) i u (k + 1) m gap
  taken-far l pos e =
      record {
        kept = record {
          room = K.room;
          row = K.row;
          stack = K.stack;
          rim = K.rim;
          count = K.count;
          blank = K.blank;
          cleared = K.cleared;
          spread = K.spread;
          some = omega (arith, K.some);
          most = omega (arith, K.most);
          few = omega (arith, H.rest, H.low);
          stacked = K.stacked;
          edged = below_more (λ j. get_or rm j 0 < g.n) m (λ j h. K.edged j (omega (arith, rims-least))) (omega (arith, H.last, H.here));
        };
        here = H.here;
        spot = H.spot;
        rest = H.rest;
        low = H.low;
        rims = inr refl;
        last = H.last;
        all = λ j h. ⊎_elim inl
            (λ p. inr (place-keep (since-refl t) (λ x y. (y, refl)) (λ x y. (omega (arith, rims-most), refl)) (omega arith) p)) (H.all j h);
        looked = below_more (λ j. T (moves J rec (8 * u + j)) → (get_or t (rev (8 * u + j) / 8) 0 ≡ 1) ⊎ (l ≤ slack_by rec prices u j)) k
            (looked-keep J rec prices (since-refl t) u k (omega arith) H.looked) (λ may. inr (omega arith));
        shut = λ z. absurd (omega arith);
      }

  -- its spot is queued
  module _ (v : ℕ) (lv : v < spots) (ev : v ≡ rev (8 * u + k) / 8) (may : T (tight J rec prices (8 * u + k))) (inside : T (outside J v) → ⊥)
      (unseen : get_or t v 0 ≢ 1) (lk : k < 8) where
    lt : v < length t
    lt = omega (arith, K.room.marks)

    fewer : unmarked (set t v 1) + 1 ≡ unmarked t
    fewer = mark-less t v lv lt unseen

    room : g.n < spots
    room = omega (arith, fewer, K.count)

    since : Since t (set t v 1)
    since = since-mark t v lt

    at_top : get_or (set st g.top g.n) g.top 0 ≡ g.n
    at_top = get_or-set_same st g.top g.n 0 (omega (arith, room, K.few, K.stack))

    below : (j : ℕ) → j < g.top → get_or (set st g.top g.n) j 0 ≡ get_or st j 0
    below j l = get_or-set_other st g.top j g.n 0 (λ e. omega arith)

    other : (j : ℕ) → j < g.n → get_or (set q g.n v) j 0 ≡ get_or q j 0
    other j l = get_or-set_other q g.n j v 0 (λ e. omega arith)

    taken-new : Taken J rec prices start (set t v 1) (set q g.n v) (set f g.n i) (set w g.n k) (set st g.top g.n) rm
        (record { n = g.n + 1; top = g.top + 1; rims = g.rims; least = g.least }) i u (k + 1) m gap
    taken-new =
        record {
          kept = record {
            room = record {
              marks = simp length-set K.room.marks;
              queue = simp length-set K.room.queue;
              parents = simp length-set K.room.parents;
              slots = simp length-set K.room.slots;
            };
            row = K.row;
            stack = simp length-set K.stack;
            rim = K.rim;
            count = omega (arith, fewer, K.count);
            blank = K.blank;
            cleared = K.cleared;
            spread = spread-more K.spread K.room room i k v H.here lk lv (rw H.spot ev) (rw H.spot may) inside unseen;
            some = K.some;
            most = K.most;
            few = omega (arith, K.few);
            stacked = below_more (λ j. get_or (set st g.top g.n) j 0 < g.n + 1) g.top (λ j l. omega (arith, below j l, K.stacked j l)) (omega (arith, at_top));
            edged = λ j l. omega (arith, K.edged j l);
          };
          here = omega (arith, H.here);
          spot = other i H.here ∙ H.spot;
          rest = omega (arith, H.rest);
          low = H.low;
          rims = H.rims;
          last = H.last;
          all = below_more _ g.n (λ j l. kept j l) (inr (waits g.top (omega arith) at_top));
          looked = below_more (λ j. T (moves J rec (8 * u + j)) → (get_or (set t v 1) (rev (8 * u + j) / 8) 0 ≡ 1) ⊎ (g.least ≤ slack_by rec prices u j)) k
              (looked-keep J rec prices since u k (omega arith) H.looked) (λ h. inl hit);
          shut = λ z. below_more (λ j. T (moves J rec (8 * u + j)) → get_or (set t v 1) (rev (8 * u + j) / 8) 0 ≡ 1) k
              (shut-keep J rec prices since u k (H.shut z)) (λ h. hit);
        }
      where
        hit : get_or (set t v 1) (rev (8 * u + k) / 8) 0 ≡ 1
        hit = rw (← ev) (get_or-set_same t v 1 0 lt)

        kept : (j : ℕ) → j < g.n
            → (j ≡ i) ⊎ Place J rec prices (set t v 1) (set st g.top g.n) rm (record { n = g.n + 1; top = g.top + 1; rims = g.rims; least = g.least })
            j (get_or (set q g.n v) j 0)
        kept j l = ⊎_elim inl
            (λ p. inr (subst
            (λ (x : ℕ). Place J rec prices (set t v 1) (set st g.top g.n) rm (record { n = g.n + 1; top = g.top + 1; rims = g.rims; least = g.least }) j x)
            (sym (other j l))
            (place-keep since (λ x y. (omega arith, below x y)) (λ x y. (y, refl)) (omega arith) p))) (H.all j l)

  more-taken : k < 8 → {t' q' f' w' st' : List ℕ} {b : Growth} → Tried J rec prices u k i (m + 1) t q f w st g t' q' f' w' st' (Ok b)
      → Taken J rec prices start t' q' f' w' st' rm b i u (k + 1) m gap × Since t t'
  more-taken lk (old e) = (taken-old e, since-refl t)
  more-taken lk (far l p e) = (taken-far l p e, since-refl t)
  more-taken lk (new v lv ev may inside unseen) = (taken-new v lv ev may inside unseen lk, since v lv ev may inside unseen lk)

  exit_out : k < 8 → {t' q' f' w' st' : List ℕ} {z : Way} → Tried J rec prices u k i (m + 1) t q f w st g t' q' f' w' st' (Err z)
      → Out J rec prices start t' q' f' w' z.place z.slot z.count
  exit_out lk (exit may o) =
      record {
        blank = K.blank;
        cleared = K.cleared;
        spread = K.spread;
        within = omega (arith, K.count);
        place = H.here;
        slot = lk;
        may = rw H.spot may;
        exit = rw H.spot o;
      }

  module _ (lk : k < 8) {t' q' f' w' st' : List ℕ} {s : Result Growth Way} (y : Tried J rec prices u k i (m + 1) t q f w st g t' q' f' w' st' s) where
    pub taken_more : {b : Growth} → s ≡ Ok b → Taken J rec prices start t' q' f' w' st' rm b i u (k + 1) m gap × Since t t'
    taken_more e = more-taken lk (subst (λ (x : Result Growth Way). Tried J rec prices u k i (m + 1) t q f w st g t' q' f' w' st' x) e y)

    pub taken-exit : {z : Way} → s ≡ Err z → Out J rec prices start t' q' f' w' z.place z.slot z.count
    taken-exit e = exit_out lk (subst (λ (x : Result Growth Way). Tried J rec prices u k i (m + 1) t q f w st g t' q' f' w' st' x) e y)

  -- slots by which the search does not go on are tried
  pub taken-past : {t₀ : List ℕ} {k' : ℕ} → Since t₀ t → ((j : ℕ) → k ≤ j → j < k' → goes_on J rec t₀ u j ≡ 0)
      → Taken J rec prices start t q f w st rm g i u k' m gap
  taken-past {t₀} {k'} s off =
      record {
        kept = K;
        here = H.here;
        spot = H.spot;
        rest = H.rest;
        low = H.low;
        rims = H.rims;
        last = H.last;
        all = H.all;
        looked = λ j l may. ⊎_elim (λ e. H.looked j e may) (λ e. inl (past j e l may)) (below_or j k);
        shut = λ z j l may. ⊎_elim (λ e. H.shut z j e may) (λ e. past j e l may) (below_or j k);
      }
    where
      past : (j : ℕ) → k ≤ j → j < k' → T (moves J rec (8 * u + j)) → get_or t (rev (8 * u + j) / 8) 0 ≡ 1
      past j a b may = s.kept _ (off-marked J rec t₀ u j (off j a b) may)

-- ---- and it is laid aside

pub taken-grown : {J : Job} {rec prices : List ℕ} {start : ℕ} {t q f w st rm : List ℕ} {g : Growth} {i u m gap : ℕ}
    → Taken J rec prices start t q f w st rm g i u 8 m gap → Growing J rec prices start t q f w st rm g
taken-grown {J} {rec} {prices} {t = t} {q = q} {st = st} {rm = rm} {g = g} {i = i} {u = u} {m = m} H =
    record { kept = H.kept; all = λ j l. ⊎_elim (λ e. own j e H.rims) (λ p. p) (H.all j l) }
  where
    own : (j : ℕ) → j ≡ i → (g.rims ≡ m) ⊎ (g.rims ≡ m + 1) → Place J rec prices t st rm g j (get_or q j 0)
    own j e (inl z) = subst (λ (x : ℕ). Place J rec prices t st rm g j x) (sym (ap (λ (x : ℕ). get_or q x 0) e ∙ H.spot)) (shut (H.shut z))
    own j e (inr z) =
        subst (λ (x : ℕ). Place J rec prices t st rm g j x) (sym (ap (λ (x : ℕ). get_or q x 0) e ∙ H.spot))
        (edge m (omega arith) (H.last ∙ sym e) H.looked)

module _ {J : Job} {rec prices : List ℕ} {start : ℕ} {t q f w st rm : List ℕ} where
  -- the search began at the first spot in the queue
  pub growing-first : {g : Growth} → Growing J rec prices start t q f w st rm g → Growing J rec prices (get_or q 0 0) t q f w st rm g
  growing-first {g} G = subst (λ (x : ℕ). Growing J rec prices x t q f w st rm g) (sym G.kept.spread.first) G
