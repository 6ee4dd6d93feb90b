-- Two spots in the queue change places, one that is next to be expanded and one that waits behind it: how the search stands is kept, since every spot was
-- reached from one that is expanded. Assumes nothing.
use Rattle.std.specs.Prelude.{◌≡◌, refl, ◌≢◌, ◌⊎◌, List, ℕ, ◌≤◌, ◌<◌, T, length, get_or, set}
use Rattle.std.proofs.Common.{sym, ap, ◌∙◌, inl, inr, ⊎_elim, arith, length-set, get_or-set_same, get_or-set_other}
use Rattle.std.proofs.lemmas.List.{set-get_or}
use Rattle.sums.specs.Tests.{below_or}
use Rattle.model.specs.Job.{Job}
use Rattle.channel.specs.Map.{spots, outside, moves}
use Rattle.augment.specs.Marks.{same_or, after}
use Rattle.augment.specs.Spread.{Came, Spread}
use Rattle.augment.specs.Steps.{Front}

-- the h-th and the i-th entry change places
abbrev pub swapped : List ℕ → ℕ → ℕ → List ℕ
swapped a h i = set (set a h (get_or a i 0)) i (get_or a h 0)

pub swapped_same : (a : List ℕ) (h i : ℕ) → i ≡ h → a ≡ swapped a h i
swapped_same a h i e =
    sym (ap (swapped a h) e ∙ (ap (λ (b : List ℕ). set b h (get_or a h 0)) (set-get_or a h 0) ∙ set-get_or a h 0))

-- what stands at x stood at y
data Turn (h i x y : ℕ) : Type 0 where
  there : x ≡ h → y ≡ i → Turn h i x y
  back : x ≡ i → y ≡ h → Turn h i x y
  stays : x ≢ h → x ≢ i → y ≡ x → Turn h i x y

turn-of : (h i x : ℕ) → (y : ℕ) × Turn h i x y
turn-of h i x =
    ⊎_elim (λ e. (i, there e refl)) (λ n. ⊎_elim (λ e. (h, back e refl)) (λ m. (x, stays n m refl)) (same_or x i)) (same_or x h)

turn-back : {h i x y : ℕ} → Turn h i x y → Turn h i y x
turn-back (there a b) = back b a
turn-back (back a b) = there b a
turn-back (stays n m e) = stays (rw e n) (rw e m) (sym e)

turn-same : {h i x y z : ℕ} → Turn h i x z → Turn h i y z → x ≡ y
turn-same (there a b) (there c d) = omega arith
turn-same (there a b) (back c d) = omega arith
turn-same (there a b) (stays n m e) = absurd (m (sym e ∙ b))
turn-same (back a b) (there c d) = omega arith
turn-same (back a b) (back c d) = omega arith
turn-same (back a b) (stays n m e) = absurd (n (sym e ∙ b))
turn-same (stays n m e) (there c d) = absurd (m (sym e ∙ d))
turn-same (stays n m e) (back c d) = absurd (n (sym e ∙ d))
turn-same (stays n m e) (stays n' m' e') = omega arith

turn-reads : {h i x y : ℕ} (a : List ℕ) → h < length a → i < length a → Turn h i x y → get_or (swapped a h i) x 0 ≡ get_or a y 0
turn-reads {h} {i} a lh li (there ex ey) =
    rw (ex, ey) (⊎_elim (λ w. w.1 ∙ ap (λ (z : ℕ). get_or a z 0) w.0) (λ w. w.1 ∙ get_or-set_same a h (get_or a i 0) 0 lh)
    (after (set a h (get_or a i 0)) i (get_or a h 0) h (simp length-set li)))
turn-reads {h} {i} a lh li (back ex ey) = rw (ex, ey) (get_or-set_same (set a h (get_or a i 0)) i (get_or a h 0) 0 (simp length-set li))
turn-reads {h} {i} {x} a lh li (stays n m e) =
    rw e (get_or-set_other (set a h (get_or a i 0)) i x (get_or a h 0) 0 m ∙ get_or-set_other a h x (get_or a i 0) 0 n)

module _ {J : Job} {rec : List ℕ} {start : ℕ} {t₀ t q f w : List ℕ} {h n : ℕ} (F : Front J rec start t₀ t q f w h n) (i : ℕ) (lo : h ≤ i) (hi : i < n) where
  abbrev s : Spread J (moves J rec) start t₀ t q f w n
  s = F.spread

  abbrev q' : List ℕ
  q' = swapped q h i

  reads : (a : List ℕ) → spots ≤ length a → {x y : ℕ} → Turn h i x y → get_or (swapped a h i) x 0 ≡ get_or a y 0
  reads a l r = turn-reads a (omega (arith, F.count)) (omega (arith, F.count)) r

  within : {x y : ℕ} → Turn h i x y → x < n → y < n
  within (there a b) l = omega arith
  within (back a b) l = omega arith
  within (stays a b e) l = omega arith

  -- the first stays
  zero-stays : {y : ℕ} → Turn h i 0 y → y ≡ 0
  zero-stays (there a b) = ⊎_elim (λ l. absurd (omega (arith, F.early i l hi))) (λ l. omega arith) (below_or 0 i)
  zero-stays (back a b) = omega arith
  zero-stays (stays a b e) = e

  -- expanded ones stay
  done-stays : {x : ℕ} → x < h → get_or q' x 0 ≡ get_or q x 0
  done-stays l = reads q F.room.queue (stays (λ e. omega arith) (λ e. omega arith) refl)

  positive : {x y : ℕ} → Turn h i x y → 0 < h → 0 < x → 0 < y
  positive (there a b) p l = omega arith
  positive (back a b) p l = omega arith
  positive (stays a b e) p l = omega arith

  falls : {x y : ℕ} → Turn h i x y → get_or f y 0 < h → get_or f y 0 < y → get_or f y 0 < x
  falls (there a b) p l = omega arith
  falls (back a b) p l = omega arith
  falls (stays a b e) p l = omega arith

  came : (x y : ℕ) → Turn h i x y → 0 < x → x < n → Came (moves J rec) q' (swapped f h i) (swapped w h i) x
  came x y r l m =
      let c = s.came y (positive r (omega (arith, F.early x l m)) l) (within r m) in
      let p = F.early y (positive r (omega (arith, F.early x l m)) l) (within r m) in
      let ef : get_or (swapped f h i) x 0 ≡ get_or f y 0 = reads f F.room.parents r in
      let ew : get_or (swapped w h i) x 0 ≡ get_or w y 0 = reads w F.room.slots r in
      let eq : get_or q' (get_or f y 0) 0 ≡ get_or q (get_or f y 0) 0 = done-stays p in
      record {
        falls = rw ef (falls r p c.falls);
        slot = rw ew c.slot;
        may = rw (ef, ew, eq) c.may;
        leads = rw (ef, ew, eq, reads q F.room.queue r) c.leads;
      }

  each : (P : ℕ → Type 0) → ((x : ℕ) → x < n → P (get_or q x 0)) → (x : ℕ) → x < n → P (get_or q' x 0)
  each P p x l = let (y, r) = turn-of h i x in rw (reads q F.room.queue r) (p y (within r l))

  distinct : (x y : ℕ) → x < n → y < n → x ≢ y → get_or q x 0 ≢ get_or q y 0
  distinct x y l m d e = ⊎_elim (λ a. s.apart x y a m e) (λ a. s.apart y x (omega arith) l (sym e)) (below_or x y)

  spread-turned : Spread J (moves J rec) start t₀ t q' (swapped f h i) (swapped w h i) n
  spread-turned =
      record {
        some = s.some;
        first = (let (y, r) = turn-of h i 0 in reads q F.room.queue r ∙ ap (λ (z : ℕ). get_or q z 0) (zero-stays r) ∙ s.first);
        spot = each (λ u. u < spots) s.spot;
        fresh = each (λ u. get_or t₀ u 0 ≢ 1) s.fresh;
        inside = each (λ u. T (outside J u) → ⊥) s.inside;
        apart = λ x y l m. apart x y l m;
        came = λ x l m. (let (y, r) = turn-of h i x in came x y r l m);
        hit = each (λ u. get_or t u 0 ≡ 1) s.hit;
        kept = s.kept;
        owed = λ x e. owed x (s.owed x e);
        same = λ x m. s.same x (λ y l e. (let (z, r) = turn-of h i y in m z (within r l) (reads q F.room.queue (turn-back r) ∙ e)));
      }
    where
      apart : (x y : ℕ) → x < y → y < n → get_or q' x 0 ≢ get_or q' y 0
      apart x y l m =
          let (a, r) = turn-of h i x in
          let (b, u) = turn-of h i y in
          rw (reads q F.room.queue r, reads q F.room.queue u) (distinct a b (within r (omega arith)) (within u m) (differ r u))
        where
          differ : {a b : ℕ} → Turn h i x a → Turn h i y b → a ≢ b
          differ r u e = let d : x ≡ y = turn-same r (rw e u) in omega arith

      owed : (x : ℕ) → (get_or t₀ x 0 ≡ 1) ⊎ ((y : ℕ) × (y < n) × (get_or q y 0 ≡ x)) → (get_or t₀ x 0 ≡ 1) ⊎ ((y : ℕ) × (y < n) × (get_or q' y 0 ≡ x))
      owed x (inl e) = inl e
      owed x (inr (y, l, e)) = let (z, r) = turn-of h i y in inr (z, within r l, reads q F.room.queue (turn-back r) ∙ e)

  -- The search stands as before.
  pub front-turned : {q'' f'' w'' : List ℕ} → q'' ≡ q' → f'' ≡ swapped f h i → w'' ≡ swapped w h i → Front J rec start t₀ t q'' f'' w'' h n
  front-turned eq ef ew =
      rw (eq, ef, ew) (record {
        room = record {
          marks = F.room.marks;
          queue = simp length-set F.room.queue;
          parents = simp length-set F.room.parents;
          slots = simp length-set F.room.slots;
        };
        count = F.count;
        le = F.le;
        spread = spread-turned;
        early = early;
        done = λ x l. rw (done-stays l) (F.done x l);
      })
    where
      early : (x : ℕ) → 0 < x → x < n → get_or (swapped f h i) x 0 < h
      early x l m =
          let (y, r) = turn-of h i x in
          rw (reads f F.room.parents r) (F.early y (positive r (omega (arith, F.early x l m)) l) (within r m))
