-- Every loaded lane lies on a wire. A lane that leaves a place which wires enter is the partner there of one that arrives; so going back from it comes to
-- a chosen pin, since no place is met twice, and a pin's wire starts on its one loaded lane. Assumes nothing.
use Rattle.std.specs.Prelude.{◌≡◌, refl, ◌⊎◌, ltb, length}
use Rattle.std.proofs.Common.{sym, ◌∙◌, inl, inr, lt-ltb, le-ltb}
use Rattle.std.proofs.Math.Path.{ap, subst}
use mathlib.Core.List.{List, ◌∷◌, Memᴰ}
use Rattle.std.proofs.Math.Option.{some}
use Prim.Native.Nat.{ℕ, zero, suc, ◌+◌, ◌≤◌, ◌<◌}
use native.Mathlib.Omega.{arith}
use Rattle.std.proofs.Math.Dec.{T}
use Rattle.sums.specs.Counting.{total}
use Rattle.sums.specs.Tests.{so, and_both}
use Rattle.sums.specs.Totals.{total-has}
use Rattle.sums.specs.Entries.{entry-member, has-entry}
use Rattle.model.specs.Job.{Job, is_chosen}
use Rattle.model.specs.Links.{PlaceKind, pin, missing, centre, outside, nowhere, side, Place, at, holds, is_place, enters, is_entered, places, Step, head, tail, turn, around}
use Rattle.model.specs.Loads.{departures, Feasible, Sound}
use Rattle.model.specs.Wires.{leaving, Hop, first_loaded, onward, hop_at, is_wired}
use Rattle.model.proofs.Listed.{step-listed, may-leaves}
use Rattle.pairing.specs.Slots.{departure_pos}
use Rattle.pairing.specs.Lanes.{lanes_in, lanes_out}
use Rattle.pairing.specs.Leaving.{partner_on, Arrives, departure-within, lanes-perfect, departure-partner, leaving-lane}
use Rattle.wire.specs.Around.{around-leaves}
use Rattle.wire.specs.Next.{Loaded, hop-may, even-at}
use Rattle.wire.specs.Follow.{Long, longer, long-none, long-short}

-- where only one lane leaves, it is the first loaded one
first_alone : (f : Step → ℕ) (s : Step) (l : List Step) → total l f ≤ 1 → Memᴰ s l → 0 < f s → first_loaded f l ≡ some (record { step = s; lane = 0 })
unfolding total first_loaded
first_alone f s mathlib.Core.List.[] h x3 k = elim x3 [ ]
first_alone f s (t ∷ l) h (mathlib.Core.List.Memᴰ.head e) k =
    rw (lt-ltb 0 (f t) (omega (arith, ap f e)), first_loaded) (ap (λ (u : Step). some (record { step = u; lane = 0 })) (sym e))
first_alone f s (t ∷ l) h (mathlib.Core.List.Memᴰ.tail m) k =
    rw (le-ltb 0 (f t) (omega (arith, total-has l f m)), first_loaded) (first_alone f s l (omega arith) m k)

-- a place is entered, or is a chosen pin
pub pin-or-entered : (J : Job) (k : PlaceKind) (r c : ℕ) → T (holds J k r c) → T (enters J k r c) ⊎ (at k r c ≡ at pin r c)
pin-or-entered J pin r c t = inr refl
pin-or-entered J missing r c t = inl t
pin-or-entered J centre r c t = inl t
pin-or-entered J outside r c t = inl tt
pin-or-entered J nowhere r c t = inl t
pin-or-entered J (side d) r c t = inl t

module _ (J : Job) (f : Step → ℕ) (F : Feasible J f) where
  -- the hop before v
  record Before (v : Hop) : Type 0 where
    hop : Hop
    loaded : Loaded f hop
    comes : head J hop.step ≡ tail J v.step
    follows : onward J f (some hop) ≡ some v

  comes-by : (v : Hop) (x : Place) → T (is_place J x) → T (is_entered J x) → tail J v.step ≡ x → Memᴰ v.step (around x) → Loaded f v → Before v
  comes-by v x p t come m l =
      let even = even-at J f F x p t in
      let (k, g) = has-entry m in
      let q : ℕ = departure_pos (lanes_in f (around x)) (lanes_out f (around x)) k v.lane in
      let A : Arrives f (around x) (partner_on f (around x) q) = departure-partner f (around x) even k v.lane v.step g l in
      let back : head J (turn A.step) ≡ x = around-leaves J x p A.step (entry-member (around x) A.slot A.step A.there) in
      let twice : partner_on f (around x) (partner_on f (around x) q) ≡ q =
      (lanes-perfect f (around x) even).twice q (departure-within f (around x) k v.lane v.step g l) in
      record {
        hop = record { step = turn A.step; lane = A.lane };
        loaded = A.loaded;
        comes = back ∙ sym come;
        follows =
            ap (λ (y : Place). leaving f y A.step.link A.lane) back
            ∙ leaving-lane f x A.slot A.lane A.step A.there A.loaded k v.lane v.step g l
            (ap (partner_on f (around x)) (sym A.place) ∙ twice);
      }

-- the hop lies on the wire of a pin
pub record OnWire (J : Job) (f : Step → ℕ) (v : Hop) : Type 0 where
  pub row : ℕ
  pub column : ℕ
  pub wired : T (is_wired J f row column)
  pub index : ℕ
  pub listed : hop_at J f row column index ≡ some v

module _ (J : Job) (f : Step → ℕ) (S : Sound J f) where
  -- the hop from a pin is the first of its wire
  pub pin-first : (v : Hop) (r c : ℕ) → tail J v.step ≡ at pin r c → Loaded f v → T (is_wired J f r c) × (hop_at J f r c 0 ≡ some v)
  unfolding is_wired departures hop_at
  pin-first v r c e l =
      let x : Place = at pin r c in
      let p : T (is_place J (tail J v.step)) = may-leaves J v.step (hop-may J f S.feasible v l) in
      let chosen : T (is_chosen J r c) = subst (λ (y : Place). T (is_place J y)) e p in
      let m : Memᴰ v.step (around x) = subst (λ (y : Place). Memᴰ v.step (around y)) e (step-listed J v.step p) in
      let some-load : f v.step ≤ total (around x) f = total-has (around x) f m in
      let one : total (around x) f ≤ 1 = S.feasible.starts r c chosen in
      let lane : 0 ≡ v.lane = omega arith in (
        and_both (is_chosen J r c) (ltb 0 (total (around x) f)) chosen (so (lt-ltb 0 (total (around x) f) (omega arith))),
        first_alone f v.step (around x) one m (omega arith) ∙ ap (λ (n : ℕ). some (record { step = v.step; lane = n })) lane,
      )

  -- going back from v, before which a trail of n steps was found
  go-back : (k n : ℕ) (v : Hop) → Loaded f v → Long J f S n (tail J v.step) → length (places J) < k + n → OnWire J f v
  unfolding hop_at
  go-back zero n v l L h = absurd (long-short J f S n (tail J v.step) L (omega arith))
  go-back (suc k) n v l L h = by (pin-or-entered J x.kind x.row x.column p) (go-back k (suc n))
    where
      x : Place
      x = tail J v.step

      p : T (is_place J x)
      p = may-leaves J v.step (hop-may J f S.feasible v l)

      on : (B : Before J f S.feasible v) → OnWire J f B.hop → OnWire J f v
      on B W = record { row = W.row; column = W.column; wired = W.wired; index = suc W.index; listed = ap (onward J f) W.listed ∙ B.follows }

      by : T (is_entered J x) ⊎ (x ≡ at pin x.row x.column)
          → ((u : Hop) → Loaded f u → Long J f S (suc n) (tail J u.step) → length (places J) < k + suc n → OnWire J f u) → OnWire J f v
      by (inl t) r =
          let B : Before J f S.feasible v = comes-by J f S.feasible v x p t refl (step-listed J v.step p) l in
          on B
          (r B.hop B.loaded
          (longer J f S n B.hop.step x (omega (arith, B.loaded)) (subst (λ (y : Place). T (is_place J y)) (sym B.comes) p) (sym B.comes) L)
          (omega arith))
      by (inr e) r =
          let (w, first) = pin-first v x.row x.column e l in
          record { row = x.row; column = x.column; wired = w; index = 0; listed = first }

  pub lane-wired : (v : Hop) → Loaded f v → OnWire J f v
  lane-wired v l = go-back (suc (length (places J))) 0 v l (long-none J f S (tail J v.step)) (omega arith)
