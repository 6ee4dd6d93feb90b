-- The way that a search found, from its last dart back to its start: its darts are a path from the start to the outside, and laying them one by
-- one from the last to the first starts one wire more. Assumes nothing.
use Rattle.std.specs.Prelude.{◌≡◌, Bool, ℕ, ◌+◌, ◌*◌, ◌/◌, ◌≤◌, ◌<◌, eqb, length}
use Rattle.std.proofs.Math.Path.{refl}
use Rattle.std.proofs.Common.{sym, ap, subst, ◌∙◌}
use mathlib.Core.List.{List, [], ◌∷◌, reverse, reverse-cons, Memᴰ}
use native.Mathlib.Omega.{arith}
use Rattle.std.proofs.Math.Dec.{T}
use Rattle.std.proofs.Math.ListN.{get_or}
use Rattle.sums.specs.Counting.{when, total}
use Rattle.sums.specs.Totals.{total-append}
use Rattle.flow.specs.Network.{times, times_none, Path, here}
use Rattle.model.specs.Job.{Job}
use Rattle.channel.specs.Map.{spots, rev, laid}
use Rattle.channel.specs.Map.Numbers.{slot-dart}
use Rattle.channel.specs.Map.Network.{net, path-along}
use Rattle.augment.specs.Laid.{laid_all, laid-last}
use Rattle.augment.specs.Spread.{dart_to, Spread}

-- the darts from the i-th spot to the j-th, and out by its slot k
pub data Walked (q f w : List ℕ) (j k : ℕ) : ℕ → List ℕ → Type 0 where
  last : Walked q f w j k j ((8 * get_or q j 0 + k) ∷ [])
  back : {i : ℕ} {ds : List ℕ} → 0 < i → Walked q f w j k i ds → Walked q f w j k (get_or f i 0) (dart_to q f w i ∷ ds)

-- what is lent to the laying: each of the first spots in the queue leads back to one before it
pub record Linked (rec q f w : List ℕ) (j k : ℕ) : Type 0 where
  pub whole : 32768 ≤ length rec
  pub queue : j < length q
  pub parents : j < length f
  pub slots : j < length w
  pub slot : k < 8
  pub spot : (i : ℕ) → i ≤ j → get_or q i 0 < spots
  pub falls : (i : ℕ) → 0 < i → i ≤ j → get_or f i 0 < i
  pub slots< : (i : ℕ) → 0 < i → i ≤ j → get_or w i 0 < 8

-- the loads after the laying, from the last dart back to the i-th spot
pub record LaidTo (q f w : List ℕ) (j k i : ℕ) (rec rec' : List ℕ) : Type 0 where
  pub way : List ℕ
  pub walked : Walked q f w j k i way
  pub laid : rec' ≡ laid_all rec (reverse way)

-- ---- the way is a path

module _ {J : Job} {go : ℕ → Bool} {start : ℕ} {t₀ t q f w : List ℕ} {n : ℕ} (s : Spread J go start t₀ t q f w n) (j k : ℕ) (lj : j < n) (lk : k < 8)
    (may : T (go (8 * get_or q j 0 + k))) where
  abbrev end : ℕ
  end = rev (8 * get_or q j 0 + k) / 8

  -- a path from the i-th spot, each dart of which starts at a spot that is no earlier
  record Part (i : ℕ) (ds : List ℕ) : Type 0 where
    le : i ≤ j
    path : Path (net J) (λ d. T (go d)) ds (get_or q i 0) end
    later : (d : ℕ) → Memᴰ d ds → (p : ℕ) × (i ≤ p) × (p ≤ j) × (d / 8 ≡ get_or q p 0)

  slot-tail : (u m : ℕ) → m < 8 → (8 * u + m) / 8 ≡ u
  slot-tail u m l = omega arith

  part : {i : ℕ} {ds : List ℕ} → Walked q f w j k i ds → Part i ds
  unfolding total
  part last =
      record {
        le = omega arith;
        path = path-along J (slot-dart (get_or q j 0) k (s.spot j lj) lk) (slot-tail (get_or q j 0) k lk) may refl (here refl);
        later = later;
      }
    where
      later : (d : ℕ) → Memᴰ d ((8 * get_or q j 0 + k) ∷ []) → (p : ℕ) × (j ≤ p) × (p ≤ j) × (d / 8 ≡ get_or q p 0)
      later d (mathlib.Core.List.Memᴰ.tail x5) = elim x5 [ ]
      later d (Memᴰ.head e) = (j, omega arith, omega arith, rw e (slot-tail (get_or q j 0) k lk))
  part (back {i = i} {ds = ds} l r) =
      let h = part r in
      let c = s.came i l (omega (arith, h.le)) in
      let lp : get_or f i 0 < n = omega (arith, h.le, c.falls) in
      let tail : dart_to q f w i / 8 ≡ get_or q (get_or f i 0) 0 = slot-tail (get_or q (get_or f i 0) 0) (get_or w i 0) c.slot in
      record {
        le = omega (arith, h.le, c.falls);
        path = path-along J (slot-dart (get_or q (get_or f i 0) 0) (get_or w i 0) (s.spot (get_or f i 0) lp) c.slot) tail c.may
            (times_none ds (dart_to q f w i) (λ m. let (p, a, b, e) = h.later (dart_to q f w i) m in
            s.apart (get_or f i 0) p (omega (arith, c.falls)) (omega arith) (sym tail ∙ e)))
            (subst (λ (x : ℕ). Path (net J) (λ d. T (go d)) ds x end) (sym c.leads) h.path);
        later = later c.falls tail h.le h.later;
      }
    where
      later : get_or f i 0 < i → dart_to q f w i / 8 ≡ get_or q (get_or f i 0) 0 → i ≤ j
          → ((d : ℕ) → Memᴰ d ds → (p : ℕ) × (i ≤ p) × (p ≤ j) × (d / 8 ≡ get_or q p 0))
          → (d : ℕ) → Memᴰ d (dart_to q f w i ∷ ds) → (p : ℕ) × (get_or f i 0 ≤ p) × (p ≤ j) × (d / 8 ≡ get_or q p 0)
      later lf tail le h d (Memᴰ.head e) = (get_or f i 0, omega arith, omega arith, rw e tail)
      later lf tail le h d (Memᴰ.tail m) = let (p, a, b, e) = h d m in (p, omega arith, b, e)

  -- The darts of the whole way are a path of such darts from the start.
  pub way-path : {ds : List ℕ} → Walked q f w j k 0 ds → Path (net J) (λ d. T (go d)) ds start end
  way-path {ds} r = subst (λ (x : ℕ). Path (net J) (λ d. T (go d)) ds x end) s.first (part r).path

  pub way-linked : {rec' : List ℕ} → 32768 ≤ length rec' → spots ≤ length q → spots ≤ length f → spots ≤ length w → n ≤ spots → Linked rec' q f w j k
  way-linked o lq lf lw ln =
      record {
        whole = o;
        queue = omega arith;
        parents = omega arith;
        slots = omega arith;
        slot = lk;
        spot = λ i l. s.spot i (omega arith);
        falls = λ i p l. (s.came i p (omega arith)).falls;
        slots< = λ i p l. (s.came i p (omega arith)).slot;
      }

-- ---- the order of the laying

pub times-reverse : (ds : List ℕ) (x : ℕ) → times (reverse ds) x ≡ times ds x
unfolding total
times-reverse [] x = refl
times-reverse (d ∷ ds) x =
    omega (arith, ap (λ (l : List ℕ). times l x) (reverse-cons d ds), total-append (reverse ds) (d ∷ []) (λ e. when (eqb e x) 1), times-reverse ds x)

-- one dart more, in front of the way and last of the laying
laid-front : (rec : List ℕ) (d : ℕ) (ds : List ℕ) → laid_all rec (reverse (d ∷ ds)) ≡ laid (laid_all rec (reverse ds)) d
laid-front rec d ds = ap (laid_all rec) (reverse-cons d ds) ∙ laid-last rec (reverse ds) d

module _ {q f w : List ℕ} {j k : ℕ} {rec rec' : List ℕ} where
  pub laid-first : rec' ≡ laid rec (8 * get_or q j 0 + k) → LaidTo q f w j k j rec rec'
  unfolding laid_all
  laid-first e = record { way = (8 * get_or q j 0 + k) ∷ []; walked = last; laid = e }

  pub laid-back : {i : ℕ} {rec'' : List ℕ} → 0 < i → LaidTo q f w j k i rec rec' → rec'' ≡ laid rec' (dart_to q f w i) → LaidTo q f w j k (get_or f i 0) rec rec''
  laid-back {i} l r e =
      record {
        way = dart_to q f w i ∷ r.way;
        walked = back l r.walked;
        laid = e ∙ ap (λ (x : List ℕ). laid x (dart_to q f w i)) r.laid ∙ sym (laid-front rec (dart_to q f w i) r.way);
      }
