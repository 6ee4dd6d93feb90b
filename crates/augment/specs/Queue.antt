-- The laws of the search: how it begins, what one more spot in the queue keeps, and what is known at its end. Assumes nothing.
use Rattle.std.specs.Prelude.{◌≡◌, refl, ◌≢◌, ◌⊎◌, Bool, true, false, not, ◌&&◌, List, ℕ, ◌+◌, ◌*◌, ◌/◌, ◌≤◌, ◌<◌, T, Result, Ok, Err, length, get_or, set}
use Rattle.std.proofs.Common.{sym, ap, ap₂, subst, ◌∙◌, inl, inr, ⊎_elim, arith, below_more, length-set, get_or-set_same, get_or-set_other}
use Rattle.std.proofs.lemmas.Bool.{not-true, not-false}
use Rattle.sums.specs.Tests.{and_left, and_right}
use Rattle.model.specs.Job.{Job}
use Rattle.channel.specs.Map.{spots, rev, outside, moves}
use Rattle.augment.specs.Marks.{unmarked, unmarked-le, after, mark-less}
use Rattle.augment.specs.Spread.{Room, Came, Spread, Alike}
use Rattle.augment.specs.Steps.{Whole, Ready, Fresh, Tried, exit, old, new, Grown, Left, Front, leaves, Found, Exhausted}
use Rattle.augment.specs.declared.reach.Way.{Way}

-- a mark more keeps the marks
marks-keep : (t : List ℕ) (v x : ℕ) → v < length t → get_or t x 0 ≡ 1 → get_or (set t v 1) x 0 ≡ 1
marks-keep t v x l e = ⊎_elim (λ w. w.1) (λ w. w.1 ∙ e) (after t v 1 x l)

pub alike_refl : (t q f w : List ℕ) → Alike t q f w t q f w
alike_refl t q f w = record { marks = refl; queue = refl; parents = refl; slots = refl }

pub alike_then : {t q f w t' q' f' w' t'' q'' f'' w'' : List ℕ} → Alike t q f w t' q' f' w' → length t'' ≡ length t' → length q'' ≡ length q'
    → length f'' ≡ length f' → length w'' ≡ length w' → Alike t q f w t'' q'' f'' w''
alike_then a et eq ef ew = record { marks = et ∙ a.marks; queue = eq ∙ a.queue; parents = ef ∙ a.parents; slots = ew ∙ a.slots }

pub alike-room : {t q f w t' q' f' w' : List ℕ} → Room t q f w → Alike t q f w t' q' f' w' → Room t' q' f' w'
alike-room r a =
    record {
      marks = omega (arith, r.marks, a.marks);
      queue = omega (arith, r.queue, a.queue);
      parents = omega (arith, r.parents, a.parents);
      slots = omega (arith, r.slots, a.slots);
    }

-- the search begins
pub spread-start : {J : Job} {go : ℕ → Bool} {t q f w : List ℕ} {start : ℕ} → Room t q f w → Fresh J t start
    → Spread J go start t (set t start 1) (set q 0 start) f w 1
spread-start {J} {go} {t} {q} {start = start} r s =
    record {
      some = omega arith;
      first = at;
      spot = λ i l. rw (head i l) s.spot;
      fresh = λ i l. rw (head i l) s.new;
      inside = λ i l. rw (head i l) s.inside;
      apart = λ i j l m. absurd (omega arith);
      came = λ i l m. absurd (omega arith);
      hit = λ i l. rw (head i l) (get_or-set_same t start 1 0 lt);
      kept = λ x e. marks-keep t start x lt e;
      owed = λ x e. ⊎_elim (λ w. inr (0, omega arith, at ∙ sym w.0)) (λ w. inl (sym w.1 ∙ e)) (after t start 1 x lt);
      same = λ x n. get_or-set_other t start x 1 0 (λ e. n 0 (omega arith) (at ∙ sym e));
    }
  where
    lt : start < length t
    lt = omega (arith, r.marks, s.spot)

    at : get_or (set q 0 start) 0 0 ≡ start
    at = get_or-set_same q 0 start 0 (omega (arith, r.queue))

    head : (i : ℕ) → i < 1 → get_or (set q 0 start) i 0 ≡ start
    head i l = let e : i ≡ 0 = omega arith in rw e at

-- one more spot in the queue
module _ {J : Job} {go : ℕ → Bool} {start : ℕ} {t₀ t q f w : List ℕ} {n : ℕ} (s : Spread J go start t₀ t q f w n) (r : Room t q f w) (room : n < spots)
    (h k v : ℕ) (early : h < n) (lk : k < 8) (lv : v < spots) (ev : v ≡ rev (8 * get_or q h 0 + k) / 8) (may : T (go (8 * get_or q h 0 + k)))
    (inside : T (outside J v) → ⊥) (unseen : get_or t v 0 ≢ 1) where
  abbrev q' : List ℕ
  q' = set q n v

  lt : v < length t
  lt = omega (arith, r.marks)

  at : get_or q' n 0 ≡ v
  at = get_or-set_same q n v 0 (omega (arith, r.queue))

  other : (i : ℕ) → i < n → get_or q' i 0 ≡ get_or q i 0
  other i l = get_or-set_other q n i v 0 (λ e. omega arith)

  -- each entry is an old one or the new one
  each : (P : ℕ → Type 0) → ((i : ℕ) → i < n → P (get_or q i 0)) → P v → (i : ℕ) → i < n + 1 → P (get_or q' i 0)
  each P p pv = below_more (λ i. P (get_or q' i 0)) n (λ i l. rw (other i l) (p i l)) (rw at pv)

  came-old : (i : ℕ) → i < n → Came go q f w i → Came go q' (set f n h) (set w n k) i
  came-old i l c =
      let ef : get_or (set f n h) i 0 ≡ get_or f i 0 = get_or-set_other f n i h 0 (λ e. omega arith) in
      let ew : get_or (set w n k) i 0 ≡ get_or w i 0 = get_or-set_other w n i k 0 (λ e. omega arith) in
      let eq : get_or q' (get_or f i 0) 0 ≡ get_or q (get_or f i 0) 0 = other (get_or f i 0) (omega (arith, c.falls)) in
      record {
        falls = rw ef c.falls;
        slot = rw ew c.slot;
        may = rw (ef, ew, eq) c.may;
        leads = rw (ef, ew, eq, other i l) c.leads;
      }

  came-new : Came go q' (set f n h) (set w n k) n
  came-new =
      let ef : get_or (set f n h) n 0 ≡ h = get_or-set_same f n h 0 (omega (arith, r.parents)) in
      let ew : get_or (set w n k) n 0 ≡ k = get_or-set_same w n k 0 (omega (arith, r.slots)) in
      record {
        falls = rw ef early;
        slot = rw ew lk;
        may = rw (ef, ew, other h early) may;
        leads = rw (ef, ew, other h early, at) (sym ev);
      }

  pub spread-more : Spread J go start t₀ (set t v 1) q' (set f n h) (set w n k) (n + 1)
  spread-more =
      record {
        some = omega arith;
        first = other 0 s.some ∙ s.first;
        spot = each (λ u. u < spots) s.spot lv;
        fresh = each (λ u. get_or t₀ u 0 ≢ 1) s.fresh (λ e. unseen (s.kept v e));
        inside = each (λ u. T (outside J u) → ⊥) s.inside inside;
        apart = λ i j l m. distinct i j m l;
        came = λ i l m. ways i m l;
        hit = each (λ u. get_or (set t v 1) u 0 ≡ 1) (λ i l. marks-keep t v (get_or q i 0) lt (s.hit i l)) (get_or-set_same t v 1 0 lt);
        kept = λ x e. marks-keep t v x lt (s.kept x e);
        owed = λ x e. ⊎_elim (λ w. inr (n, omega arith, at ∙ sym w.0)) (λ w. older x (s.owed x (sym w.1 ∙ e))) (after t v 1 x lt);
        same = λ x m. get_or-set_other t v x 1 0 (λ e. m n (omega arith) (at ∙ sym e)) ∙ s.same x (λ i l e. m i (omega arith) (other i l ∙ e));
      }
    where
      distinct : (i j : ℕ) → j < n + 1 → i < j → get_or q' i 0 ≢ get_or q' j 0
      distinct i = below_more (λ x. i < x → get_or q' i 0 ≢ get_or q' x 0) n
          (λ x lx m. rw (other i (omega arith), other x lx) (s.apart i x m lx))
          (λ m e. unseen (subst (λ (y : ℕ). get_or t y 0 ≡ 1) (sym (other i m) ∙ e ∙ at) (s.hit i m)))

      ways : (i : ℕ) → i < n + 1 → 0 < i → Came go q' (set f n h) (set w n k) i
      ways = below_more (λ x. 0 < x → Came go q' (set f n h) (set w n k) x) n (λ x lx m. came-old x lx (s.came x m lx)) (λ m. came-new)

      older : (x : ℕ) → (get_or t₀ x 0 ≡ 1) ⊎ ((i : ℕ) × (i < n) × (get_or q i 0 ≡ x)) → (get_or t₀ x 0 ≡ 1) ⊎ ((i : ℕ) × (i < n + 1) × (get_or q' i 0 ≡ x))
      older x (inl e) = inl e
      older x (inr (i, l, e)) = inr (i, omega arith, other i l ∙ e)

-- ---- one spot

-- a spot that is not marked leaves room in the queue
pub ready-more : {job rec t q f w : List ℕ} {u h n v : ℕ} → Ready job rec t q f w u h n → v < spots → get_or t v 0 ≢ 1 → n < spots
ready-more {t = t} {v = v} R l e = omega (arith, R.count, mark-less t v l (omega (arith, R.room.marks)) e)

pub grown-none : {J : Job} {rec : List ℕ} {u h : ℕ} {t q f w : List ℕ} {n : ℕ} → Room t q f w → n + unmarked t ≤ spots → Grown J rec u 0 h t q f w n t q f w n
grown-none r c =
    record {
      room = r;
      count = c;
      up = omega arith;
      keep = λ i l. refl;
      marks = λ x e. e;
      early = λ b l p. p;
      done = λ j l. absurd (omega arith);
      spread = λ start t₀ e s. s;
    }

module _ {J : Job} {rec : List ℕ} {u k h : ℕ} {t q f w : List ℕ} {n : ℕ} {t' q' f' w' : List ℕ} {n' : ℕ} (g : Grown J rec u k h t q f w n t' q' f' w' n')
    (early : h < n) (lk : k < 8) where
  -- nothing new
  grown-old : (T (moves J rec (8 * u + k)) → get_or t' (rev (8 * u + k) / 8) 0 ≡ 1) → Grown J rec u (k + 1) h t q f w n t' q' f' w' n'
  grown-old d =
      record {
        room = g.room;
        count = g.count;
        up = g.up;
        keep = g.keep;
        marks = g.marks;
        early = g.early;
        done = below_more (λ j. T (moves J rec (8 * u + j)) → get_or t' (rev (8 * u + j) / 8) 0 ≡ 1) k g.done d;
        spread = g.spread;
      }

  -- one more spot
  grown-new : (v : ℕ) → v < spots → v ≡ rev (8 * u + k) / 8 → T (moves J rec (8 * u + k)) → (T (outside J v) → ⊥) → get_or t' v 0 ≢ 1
      → Grown J rec u (k + 1) h t q f w n (set t' v 1) (set q' n' v) (set f' n' h) (set w' n' k) (n' + 1)
  grown-new v lv ev may inside unseen =
      record {
        room = record {
          marks = simp length-set g.room.marks;
          queue = simp length-set g.room.queue;
          parents = simp length-set g.room.parents;
          slots = simp length-set g.room.slots;
        };
        count = omega (arith, fewer, g.count);
        up = omega (arith, g.up);
        keep = λ i l. get_or-set_other q' n' i v 0 (λ e. omega (arith, g.up)) ∙ g.keep i l;
        marks = λ x e. marks-keep t' v x lt (g.marks x e);
        early = λ b l p i z m. parents b l (g.early b l p) i m z;
        done = below_more (λ j. T (moves J rec (8 * u + j)) → get_or (set t' v 1) (rev (8 * u + j) / 8) 0 ≡ 1) k
            (λ j l m. marks-keep t' v (rev (8 * u + j) / 8) lt (g.done j l m)) (λ m. rw (← ev) (get_or-set_same t' v 1 0 lt));
        spread = λ start t₀ e s.
            let eu : get_or q' h 0 ≡ u = g.keep h early ∙ e in
            spread-more (g.spread start t₀ e s) g.room (omega (arith, fewer, g.count)) h k v (omega (arith, g.up)) lk lv
            (rw eu ev) (rw eu may) inside unseen;
      }
    where
      lt : v < length t'
      lt = omega (arith, g.room.marks)

      fewer : unmarked (set t' v 1) + 1 ≡ unmarked t'
      fewer = mark-less t' v lv lt unseen

      parents : (b : ℕ) → h < b → ((i : ℕ) → 0 < i → i < n' → get_or f' i 0 < b) → (i : ℕ) → i < n' + 1 → 0 < i → get_or (set f' n' h) i 0 < b
      parents b l p = below_more (λ i. 0 < i → get_or (set f' n' h) i 0 < b) n' (λ i m z. rw (get_or-set_other f' n' i h 0 (λ e. omega arith)) (p i z m))
          (λ z. rw (get_or-set_same f' n' h 0 (omega (arith, fewer, g.count, g.room.parents))) l)

  more-grown : {t'' q'' f'' w'' : List ℕ} {a : ℕ} → Tried J rec u k h t' q' f' w' n' t'' q'' f'' w'' (Ok a)
      → Grown J rec u (k + 1) h t q f w n t'' q'' f'' w'' a
  more-grown (old d) = grown-old d
  more-grown (new v lv ev may inside unseen) = grown-new v lv ev may inside unseen

  exit-grown : {t'' q'' f'' w'' : List ℕ} {y : Way} → Tried J rec u k h t' q' f' w' n' t'' q'' f'' w'' (Err y) → Left J rec u h t q f w n t'' q'' f'' w'' y
  exit-grown (exit may o) = record { place = refl; slot = lk; may = may; exit = o; grown = g }

  module _ {t'' q'' f'' w'' : List ℕ} {s : Result ℕ Way} (y : Tried J rec u k h t' q' f' w' n' t'' q'' f'' w'' s) where
    -- the slot led to no spot outside
    pub grown-more : {a : ℕ} → s ≡ Ok a → Grown J rec u (k + 1) h t q f w n t'' q'' f'' w'' a
    grown-more e = more-grown (subst (λ (x : Result ℕ Way). Tried J rec u k h t' q' f' w' n' t'' q'' f'' w'' x) e y)

    -- the slot led outside
    pub grown-exit : {z : Way} → s ≡ Err z → Left J rec u h t q f w n t'' q'' f'' w'' z
    grown-exit e = exit-grown (subst (λ (x : Result ℕ Way). Tried J rec u k h t' q' f' w' n' t'' q'' f'' w'' x) e y)

-- ---- a spot that leads outside

-- a slot that is no move
pub leaves-not : {a : Bool} (J : Job) (rec : List ℕ) (u k : ℕ) → a ≡ moves J rec (8 * u + k) → not a ≡ true → false ≡ leaves J rec u k
unfolding leaves
leaves-not {a} J rec u k e h = ap (λ (x : Bool). x && outside J (rev (8 * u + k) / 8)) (sym (not-true a h) ∙ e)

-- a move, by where it leads
pub leaves_by : {a b : Bool} (J : Job) (rec : List ℕ) (u k : ℕ) {v : ℕ} → a ≡ moves J rec (8 * u + k) → not a ≡ false → v ≡ rev (8 * u + k) / 8
    → b ≡ outside J v → b ≡ leaves J rec u k
unfolding leaves
leaves_by {a} J rec u k e h l o = o ∙ ap₂ (λ (x : Bool) (y : ℕ). x && outside J y) (sym (not-false a h) ∙ e) l

-- the search is over where it begins
pub first-leaves : {J : Job} {rec t q f w : List ℕ} {start k : ℕ} → Room t q f w → Fresh J t start → k < 8 → T (leaves J rec start k)
    → Found J rec start t (set t start 1) (set q 0 start) f w 0 k 1
unfolding leaves
first-leaves {J} {rec} {start = start} {k = k} r s l y =
    let p = spread-start r s in
    record {
      spread = p;
      within = omega (arith, s.spot);
      place = omega arith;
      slot = l;
      may = rw p.first (and_left (moves J rec (8 * start + k)) (outside J (rev (8 * start + k) / 8)) y);
      exit = rw p.first (and_right (moves J rec (8 * start + k)) (outside J (rev (8 * start + k) / 8)) y);
    }

-- ---- the whole search

pub front-start : {J : Job} {rec t q f w : List ℕ} {start : ℕ} → Room t q f w → Fresh J t start
    → Front J rec start t (set t start 1) (set q 0 start) f w 0 1
front-start {t = t} {start = start} r s =
    record {
      room = record { marks = simp length-set r.marks; queue = simp length-set r.queue; parents = r.parents; slots = r.slots };
      count = omega (arith, mark-less t start s.spot (omega (arith, r.marks, s.spot)) s.new, unmarked-le t);
      le = omega arith;
      spread = spread-start r s;
      early = λ i l m. absurd (omega arith);
      done = λ i l. absurd (omega arith);
    }

module _ {J : Job} {rec : List ℕ} {start : ℕ} {t₀ t q f w : List ℕ} {h n : ℕ} (F : Front J rec start t₀ t q f w h n) where
  pub front-ready : {job : List ℕ} → Whole job rec → h < n → Ready job rec t q f w (get_or q h 0) h n
  front-ready o l = record { whole = o; room = F.room; count = F.count; early = l; spot = F.spread.spot h l }

  pub front-end : n ≤ h → Exhausted J rec start t₀ t q f w n
  front-end l = record { spread = F.spread; within = omega (arith, F.count); done = λ i m. F.done i (omega arith) }

  module _ (l : h < n) {t' q' f' w' : List ℕ} where
    pub front-more : {a : ℕ} → Grown J rec (get_or q h 0) 8 h t q f w n t' q' f' w' a → Front J rec start t₀ t' q' f' w' (h + 1) a
    front-more g =
        record {
          room = g.room;
          count = g.count;
          le = omega (arith, g.up);
          spread = g.spread start t₀ refl F.spread;
          early = g.early (h + 1) (omega arith) (λ i p m. omega (arith, F.early i p m));
          done = below_more (λ i. (k : ℕ) → k < 8 → T (moves J rec (8 * get_or q' i 0 + k)) → get_or t' (rev (8 * get_or q' i 0 + k) / 8) 0 ≡ 1) h
              (λ i li. rw (g.keep i (omega arith)) (λ k lk m. g.marks (rev (8 * get_or q i 0 + k) / 8) (F.done i li k lk m)))
              (rw (g.keep h l) (λ k lk m. g.done k lk m));
        }

    pub front-exit : {y : Way} → Left J rec (get_or q h 0) h t q f w n t' q' f' w' y → Found J rec start t₀ t' q' f' w' y.place y.slot y.count
    front-exit {y} e =
        rw e.place (record {
          spread = e.grown.spread start t₀ refl F.spread;
          within = omega (arith, e.grown.count);
          place = omega (arith, e.grown.up);
          slot = e.slot;
          may = rw (e.grown.keep h l) e.may;
          exit = rw (e.grown.keep h l) e.exit;
        })
