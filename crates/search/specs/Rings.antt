-- Taking a ring out dart by dart, and one ring after the other: the total load falls each time. Assumes nothing.
use Rattle.std.specs.Prelude.{◌≡◌, refl, List, [], ◌∷◌, ◌++◌, map}
use Rattle.std.proofs.Common.{sym, ap, subst, ◌∙◌, add-zero, arith}
use Prim.Native.Nat.{ℕ, zero, suc, ◌+◌, ◌-◌, ◌*◌, ◌≤◌, ◌<◌}
use Rattle.std.proofs.Math.ListN.{get_or}
use Rattle.sums.specs.Sums.{sum-cong}
use Rattle.flow.specs.Network.{Path}
use Rattle.flow.specs.Cancel.{Loaded}
use Rattle.model.specs.Job.{Job}
use Rattle.model.specs.Loads.{Sound}
use Rattle.model.specs.Record.{load}
use Rattle.model.specs.Wires.{wire_count}
use Rattle.channel.specs.Map.{spots, rev, view, starts, laid}
use Rattle.channel.specs.Map.Network.{net}
use Rattle.channel.specs.Map.Network.Flows.{starts-count}
use Rattle.channel.specs.Map.Network.Loops.{loaded-may}
use Rattle.channel.specs.Map.Fresh.{fresh-loops}
use Rattle.outward.specs.Outward.{Parts, Outward}
use Rattle.outward.specs.Outward.Falling.{outward-loops}
use Rattle.augment.specs.Laid.{laid_all, laid-last}
use Rattle.search.specs.Unlooped.{Lighter, takes_out}
use Rattle.audit.specs.Loops.{ring_darts, Closed, Settled}
use Rattle.augment.specs.Pins.{Held}
use Rattle.search.specs.Loose.{Loosened, Freed, Unlooped}

-- ---- dart by dart

-- one dart more
ring-last : (st sl : List ℕ) (j c : ℕ) → ring_darts st sl j (suc c) ≡ ring_darts st sl j c ++ ((8 * get_or st (j + c) 0 + get_or sl (j + c) 0) ∷ [])
unfolding ring_darts
ring-last st sl j zero = ap (λ (i : ℕ). (8 * get_or st i 0 + get_or sl i 0) ∷ []) (sym (add-zero j))
ring-last st sl j (suc c) =
    ap (λ (l : List ℕ). (8 * get_or st j 0 + get_or sl j 0) ∷ l)
    (ring-last st sl (suc j) c ∙ ap (λ (i : ℕ). ring_darts st sl (suc j) c ++ ((8 * get_or st i 0 + get_or sl i 0) ∷ [])) (omega arith))

map_last : (h : ℕ → ℕ) (l : List ℕ) (x : ℕ) → map h (l ++ (x ∷ [])) ≡ map h l ++ (h x ∷ [])
map_last h [] x = refl
map_last h (y ∷ l) x = ap (λ (r : List ℕ). h y ∷ r) (map_last h l x)

pub out_none : (rec st sl : List ℕ) (j : ℕ) → rec ≡ laid_all rec (map rev (ring_darts st sl j (j - j)))
unfolding ring_darts laid_all
out_none rec st sl j = let e : j - j ≡ 0 = omega arith in rw e refl

pub out-more : (rec st sl : List ℕ) (j i : ℕ) (rec' rec'' : List ℕ) → j ≤ i → rec' ≡ laid_all rec (map rev (ring_darts st sl j (i - j)))
    → rec'' ≡ laid rec' (rev (8 * get_or st i 0 + get_or sl i 0)) → rec'' ≡ laid_all rec (map rev (ring_darts st sl j (i + 1 - j)))
out-more rec st sl j i rec' rec'' l e q =
    let d : ℕ = 8 * get_or st i 0 + get_or sl i 0 in
    let c : i + 1 - j ≡ suc (i - j) = omega arith in
    let a : j + (i - j) ≡ i = omega arith in
    q ∙ ap (λ (x : List ℕ). laid x (rev d)) e ∙ sym (laid-last rec (map rev (ring_darts st sl j (i - j))) (rev d))
    ∙ ap (laid_all rec)
    (sym (map_last rev (ring_darts st sl j (i - j)) d)
    ∙ ap (map rev)
    (ap (λ (x : ℕ). ring_darts st sl j (i - j) ++ ((8 * get_or st x 0 + get_or sl x 0) ∷ [])) (sym a) ∙ sym (ring-last st sl j (i - j))
    ∙ ap (ring_darts st sl j) (sym c)))

-- ---- a whole ring

module _ {J : Job} {rec st sl : List ℕ} {j n : ℕ} (H : Held J rec) (C : Closed rec st sl j n) where
  ring-lighter : (c : ℕ) → n - j ≡ c → 0 < c → Path (net J) (Loaded (view rec)) (ring_darts st sl j c) (get_or st j 0) (get_or st j 0)
      → Lighter J rec (laid_all rec (map rev (ring_darts st sl j c)))
  unfolding ring_darts
  ring-lighter zero e l p = absurd (omega arith)
  ring-lighter (suc c) e l p =
      takes_out J H.fits rec H.feasible H.caps H.long H.bytes (get_or st j 0) (8 * get_or st j 0 + get_or sl j 0) (ring_darts st sl (suc j) c) p
      (map rev (ring_darts st sl j (suc c))) (λ x. refl)

  pub ring_out : {rec' : List ℕ} → rec' ≡ laid_all rec (map rev (ring_darts st sl j (n - j))) → Lighter J rec rec'
  ring_out q = subst (λ (x : List ℕ). Lighter J rec x) (sym q) (ring-lighter (n - j) refl (omega (arith, C.any)) (C.path J))

-- ---- one ring after the other

pub loose_none : {J : Job} {rec : List ℕ} → Held J rec → Loosened J rec rec
loose_none H =
    record {
      feasible = H.feasible;
      bytes = H.bytes;
      begun = λ x l. refl;
      less = λ d l. omega arith;
      kept = record { size = refl; job = refl; front = λ i l. refl; rest = λ i l. refl };
    }

pub loose-held : {J : Job} {rec rec' : List ℕ} → Held J rec → Loosened J rec rec' → Held J rec'
loose-held H L =
    record { fits = H.fits; caps = H.caps; long = omega (arith, H.long, L.kept.size); bytes = L.bytes; feasible = L.feasible }

pub loose-more : {J : Job} {rec rec' rec'' : List ℕ} → Loosened J rec rec' → Lighter J rec' rec'' → Loosened J rec rec''
loose-more L M =
    record {
      feasible = M.feasible;
      bytes = M.bytes;
      begun = λ x l. M.begun x l ∙ L.begun x l;
      less = λ d l. omega (arith, M.less d l, L.less d l);
      kept = record {
        size = M.kept.size ∙ L.kept.size;
        job = M.kept.job ∙ L.kept.job;
        front = λ i l. M.kept.front i l ∙ L.kept.front i l;
        rest = λ i l. M.kept.rest i l ∙ L.kept.rest i l;
      };
    }

-- as many wires as before
pub loose-wires : {J : Job} {rec rec' : List ℕ} → Held J rec → Loosened J rec rec' → wire_count J (load rec') ≡ wire_count J (load rec)
loose-wires {J} {rec} {rec'} H L =
    omega (
      arith,
      starts-count J H.fits rec H.feasible,
      starts-count J H.fits rec' L.feasible,
      sum-cong spots (starts J rec') (starts J rec) L.begun,
    )

-- loads that fall along an order behind fresh links have no loop that is new
pub settled-freed : {old rec rec' fin : List ℕ} → ((J : Job) → Held J rec → Loosened J rec rec') → Settled old rec' fin → Freed old rec rec'
settled-freed {old} {rec} {rec'} {fin} L F =
    record {
      loose = L;
      sound = λ J H none.
          let f = (L J H).feasible in
          record { feasible = f; loops = fresh-loops J H.fits old rec' f (λ u. get_or fin u 0) F.falls F.fresh none };
    }

-- beside old loads that are sound, and beside loads that lead outward
module _ {old rec rec' : List ℕ} (F : Freed old rec rec') where
  pub freed-sound : {J : Job} → Held J rec → Sound J (load old) → Sound J (load rec')
  freed-sound {J} H S = F.sound J H (λ x s ss t. S.loops x s ss)

  pub freed-outward : (P : Parts) → Outward P old → Unlooped rec rec'
  freed-outward P o =
      record {
        loose = F.loose;
        sound = λ J H. F.sound J H (outward-loops P J old o (load rec') (loaded-may J H.fits rec' (F.loose J H).feasible));
      }
