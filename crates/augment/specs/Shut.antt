-- After a search from an unwired pin. If it found no way out, the marked spots are still dead, and if all were reached from unwired pins, all are. If it
-- found one, laying it starts one wire more there, and the spots that were marked before are still dead. Assumes nothing.
use Rattle.std.specs.Prelude.{◌≡◌, refl, ◌≢◌, ◌⊎◌, Bool, true, false, not, List, reverse, ℕ, zero, suc, ◌+◌, ◌*◌, ◌/◌, ◌%◌, ◌<◌, T, get_or}
use Rattle.std.proofs.Common.{sym, ap, subst, ◌∙◌, inl, inr, ⊎_elim, eq-zero-or-pos, arith}
use Rattle.std.proofs.lemmas.Bool.{not-true, not-false}
use Rattle.sums.specs.Sums.{when-some, when-so}
use Rattle.flow.specs.Network.{Path}
use Rattle.flow.specs.Flow.{Unstarted}
use Rattle.flow.specs.Residual.{Residual}
use Rattle.model.specs.Job.{Job}
use Rattle.channel.specs.Map.{spots, darts, rev, is_start, view, starts, moves}
use Rattle.channel.specs.Map.Numbers.{slot-dart, head-spot}
use Rattle.channel.specs.Map.Network.{net, unstarted-at}
use Rattle.channel.specs.Map.Starts.{want-start}
use Rattle.augment.specs.Laid.{laid_all}
use Rattle.augment.specs.OneMore.{OneMore, moves-path, lays_one}
use Rattle.augment.specs.NoMore.{Reached, from, onto}
use Rattle.augment.specs.Dead.{dead-laid}
use Rattle.augment.specs.Marks.{marked, is-marked, marked-spot, marked-byte, Unmarked}
use Rattle.augment.specs.Spread.{Spread}
use Rattle.augment.specs.Steps.{Done, Found}
use Rattle.augment.specs.Ways.{LaidTo, way-path, times-reverse}
use Rattle.augment.specs.Pins.{Held, Dead, Unwired, AllReached, Open, open-pin, no_pin_lem, Tested, wired, shut}

-- ---- an unwired pin

pub unwired-start : (J : Job) (rec : List ℕ) (u : ℕ) → T (is_start J u) → starts J rec u ≡ 0 → Unwired J rec u
unwired-start J rec u t e = omega (arith, want-start J u, when-so (is_start J u) 1 t)

pub start-unwired : (J : Job) (rec : List ℕ) (u : ℕ) → Unwired J rec u → T (is_start J u) × (starts J rec u ≡ 0)
start-unwired J rec u h =
    let t = (when-some (is_start J u) 1 (omega (arith, want-start J u))).0 in
    (t, omega (arith, want-start J u, when-so (is_start J u) 1 t))

-- ---- no way out

module _ {J : Job} {go : ℕ → Bool} {start : ℕ} {t₀ t q f w : List ℕ} {n : ℕ} (s : Spread J go start t₀ t q f w n) where
  grown : (x : ℕ) → T (marked t₀ x) → T (marked t x)
  grown x m = is-marked t x (marked-spot t₀ x m) (s.kept x (marked-byte t₀ x m))

  start-marked : T (marked t start)
  start-marked =
      subst (λ (x : ℕ). T (marked t x)) s.first (is-marked t (get_or q 0 0) (s.spot 0 s.some) (s.hit 0 s.some))

  -- a marked spot was marked before, or is in the queue
  since : (x : ℕ) → T (marked t x) → T (marked t₀ x) ⊎ ((i : ℕ) × (i < n) × (get_or q i 0 ≡ x))
  since x m = ⊎_elim (λ e. inl (is-marked t₀ x (marked-spot t x m) e)) (λ r. inr r) (s.owed x (marked-byte t x m))

  -- when the marks are taken back, the marked spots are those that were marked before
  module _ {t' : List ℕ} (U : Unmarked q n t t') where
    restored : (x : ℕ) → T (marked t' x) → T (marked t₀ x)
    restored x m =
        let e = marked-byte t' x m in
        let new : (i : ℕ) → i < n → get_or q i 0 ≢ x = λ i l p. omega (arith, U.gone i l, ap (λ (y : ℕ). get_or t' y 0) p) in
        is-marked t₀ x (marked-spot t' x m) (sym (U.same x new ∙ s.same x new) ∙ e)

    kept-marks : (x : ℕ) → T (marked t₀ x) → T (marked t' x)
    kept-marks x m =
        let e = marked-byte t₀ x m in
        let new : (i : ℕ) → i < n → get_or q i 0 ≢ x = λ i l p. s.fresh i l (ap (λ (y : ℕ). get_or t₀ y 0) p ∙ e) in
        is-marked t' x (marked-spot t₀ x m) (U.same x new ∙ s.same x new ∙ e)

module _ {J : Job} {rec : List ℕ} {start : ℕ} {t₀ t q f w : List ℕ} {n : ℕ} (s : Spread J (moves J rec) start t₀ t q f w n) where
  dead-more : Dead J rec t₀ → Done J rec t q n → Dead J rec t
  dead-more D done = record { closed = closing; none = λ u l m o. ⊎_elim (λ h. D.none u l h o) (λ (i, li, e). s.inside i li (rw e o)) (since s u m) }
    where
      closing : (d : ℕ) → d < darts → T (marked t (d / 8)) → T (moves J rec d) → T (marked t (rev d / 8))
      closing d l m may = ⊎_elim
          (λ h. grown s (rev d / 8) (D.closed d l h may))
          (λ (i, li, e).
          let ed : 8 * get_or q i 0 + d % 8 ≡ d = omega arith in
          let hit : T (moves J rec (8 * get_or q i 0 + d % 8)) → get_or t (rev (8 * get_or q i 0 + d % 8) / 8) 0 ≡ 1 = done i li (d % 8) (omega arith) in
          is-marked t (rev d / 8) (head-spot d l) (rw ed at hit may))
          (since s (d / 8) m)

  -- every spot in the queue is reached from the start
  queue-reached : start < spots → Unwired J rec start → (m i : ℕ) → i < m → i < n → Reached J rec (get_or q i 0)
  queue-reached ls u zero i l li = absurd (omega arith)
  queue-reached ls u (suc m) i l li = ⊎_elim
      (λ e. subst (λ (x : ℕ). Reached J rec x) (sym s.first ∙ ap (λ (x : ℕ). get_or q x 0) (sym e)) (from ls u))
      (λ p. let c = s.came i p li in
      onto (queue-reached ls u m (get_or f i 0) (omega (arith, c.falls)) (omega (arith, c.falls)))
      (slot-dart _ _ (s.spot (get_or f i 0) (omega (arith, c.falls))) c.slot) (omega (arith, c.slot)) c.may c.leads)
      (eq-zero-or-pos i)

  reached-more : start < spots → Unwired J rec start → AllReached J rec t₀ → AllReached J rec t
  reached-more ls u r x m =
      ⊎_elim (λ h. r x h) (λ (i, li, e). subst (λ (y : ℕ). Reached J rec y) e (queue-reached ls u n i li li)) (since s x m)

-- ---- a way out

module _ {J : Job} {rec : List ℕ} {start : ℕ} {t₀ t q f w : List ℕ} {j k n : ℕ} (F : Found J rec start t₀ t q f w j k n) {rec' t' : List ℕ}
    (L : LaidTo q f w j k 0 rec rec') (U : Unmarked q n t t') (H : Held J rec) (D : Dead J rec t₀) (ls : start < spots) (u : Unwired J rec start) where
  unstarted : Unstarted (net J) (starts J rec) start
  unstarted = unstarted-at J ls u

  path : Path (net J) (Residual (net J) (view rec)) L.way start (rev (8 * get_or q j 0 + k) / 8)
  path = moves-path J rec (way-path F.spread j k F.place F.slot F.may L.walked)

  way-laid : OneMore J rec rec' start
  way-laid =
      subst (λ (x : List ℕ). OneMore J rec x start) (sym L.laid)
      (lays_one J H.fits rec H.feasible H.caps H.long H.bytes start _ L.way unstarted path F.exit (reverse L.way)
      (times-reverse L.way))

  way-dead : Dead J rec' t'
  way-dead =
      record {
        closed = λ d l m may.
            kept-marks F.spread U (rev d / 8)
            (still d l (restored F.spread U (d / 8) m) (subst (λ (x : List ℕ). T (moves J x d)) L.laid may));
        none = λ x l m. D.none x l (restored F.spread U x m);
      }
    where
      still : (d : ℕ) → d < darts → T (marked t₀ (d / 8)) → T (moves J (laid_all rec (reverse L.way)) d) → T (marked t₀ (rev d / 8))
      still =
          dead-laid J H.fits rec H.feasible (marked t₀) D.closed D.none H.caps H.long H.bytes start _ L.way unstarted path F.exit
          (reverse L.way) (times-reverse L.way)

  pub pin-wired : Tested J rec t₀ start rec' t' true
  pin-wired = wired u way-laid way-dead

-- ---- the answer for one pin

pub pin-passed : {J : Job} {rec t : List ℕ} {u : ℕ} → Dead J rec t → (Unwired J rec u → T (marked t u)) → Tested J rec t u rec t false
pin-passed D h = shut refl (record { dead = D; grown = λ x m. m; shut = λ x e. rw e h; reached = λ r. r })

pub pin-shut : {J : Job} {rec : List ℕ} {u : ℕ} {t₀ t q f w : List ℕ} {n : ℕ} → Spread J (moves J rec) u t₀ t q f w n → Done J rec t q n → Dead J rec t₀ → u < spots
    → Unwired J rec u → Tested J rec t₀ u rec t false
pin-shut s done D l h =
    shut refl (record { dead = dead-more s D done; grown = grown s; shut = λ x e i. rw e (start-marked s); reached = reached-more s l h })

-- ---- what a caller reads off the answers

module _ {J : Job} {rec t : List ℕ} {u : ℕ} {b : Bool} (o : Open J rec t u b) where
  pub open-yes : not b ≡ false → T (is_start J u) × Unwired J rec u × (get_or t u 0 ≢ 1)
  open-yes e = by (subst (λ (x : Bool). Open J rec t u x) (not-false b e) o)
    where
      by : Open J rec t u true → T (is_start J u) × Unwired J rec u × (get_or t u 0 ≢ 1)
      by (open-pin s h n) = (s, h, n)

  pub open_no : not b ≡ true → Unwired J rec u → T (marked t u)
  open_no e = by (subst (λ (x : Bool). Open J rec t u x) (not-true b e) o)
    where
      by : Open J rec t u false → Unwired J rec u → T (marked t u)
      by (no_pin_lem h) = h
