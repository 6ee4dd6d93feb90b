-- Request K5: an edit of a pin's mark or of a tile's state that takes out the wires which meet the places that it changes, or more, keeps all other wires: the
-- new job holds them on the same steps, with lanes no higher. For nothing is left round those places. Assumes nothing.
use Rattle.std.specs.Prelude.{◌≡◌, ◌⊎◌, Bool, ◌&&◌, T}
use Rattle.std.proofs.Math.Path.{refl, sym, subst}
use Rattle.std.proofs.Common.{ap, ◌∙◌, inl, inr}
use Rattle.std.proofs.Math.Bool.{true, false}
use mathlib.Core.List.{List, [], ◌∷◌, Memᴰ}
use Rattle.std.proofs.Math.Option.{Option, none, some}
use Prim.Native.Nat.{ℕ, zero, suc, ◌≤◌, ◌<◌}
use native.Mathlib.Omega.{arith}
use Rattle.std.proofs.Math.Dec.{eqb, eqb→eq}
use Rattle.sums.specs.Counting.{when, count}
use Rattle.sums.specs.Sums.{sum-some, when-some}
use Rattle.sums.specs.Tests.{so, and_left, and_right, and_both, both_ways}
use Rattle.sums.specs.Entries.{none-some, some_one}
use Rattle.model.specs.Job.{Job, put, is_pin, is_tile, is_chosen, marked, closed}
use Rattle.model.specs.Links.{Compass, north, east, south, west, pin, missing, centre, side, Place, at, the_outside, is_place, is_pin_kind, places, beside, pin_at, direct, behind_of, ahead_of, Step, go, come, turn, head, tail, may, around}
use Rattle.model.specs.Loads.{Sound}
use Rattle.model.specs.Wires.{Hop, onward, hop_at, is_wired, wire_count}
use Rattle.model.proofs.Listed.{may-leaves, may-enters}
use Rattle.wire.specs.Around.{around-leaves}
use Rattle.wire.specs.Next.{loaded-may, follow-leaves}
use Rattle.wire.specs.Threads.{Thread, thread}
use Rattle.wire.specs.Apart.{wire-loaded}
use Rattle.wire.specs.Filled.{OnWire, lane-wired}
use Rattle.keep.specs.Round.{moved, thinned}
use Rattle.keep.specs.Kept.{carried, moved-loaded, lane-le}
use Rattle.keep.specs.Pins.{stays_for, stays_on, kept_loads, kept-le, kept-sound, kept-hops, kept-wired, kept-count}
use Rattle.keep.specs.Alike.{Quiet, Bare, Alike, Fits, same-fits, alike-sound, alike-wired, alike-count, alike-hops, alike-head}

-- the wire of the pin (r, c) starts at the place x, or comes there
pub data Meets (J : Job) (f : Step → ℕ) (r c : ℕ) (x : Place) : Type 0 where
  starts : at pin r c ≡ x → Meets J f r c x
  comes : (n : ℕ) (h : Hop) → hop_at J f r c n ≡ some h → head J h.step ≡ x → Meets J f r c x

module _ (J : Job) (f : Step → ℕ) (S : Sound J f) (kept : ℕ → ℕ → Bool) where
  abbrev left : Step → ℕ
  left = kept_loads J f S kept

  -- no wire that is kept meets x
  abbrev pub Avoided : Place → Type 0
  Avoided x = (r c : ℕ) → T (is_wired J f r c) → kept r c ≡ true → Meets J f r c x → ⊥

  -- a load that is left has a lane that stays
  record Left (s : Step) : Type 0 where
    lane : ℕ
    loaded : lane < f s
    on : OnWire J f (record { step = s; lane = lane })
    stays : kept on.row on.column ≡ true

  left_lane : (s : Step) → 0 < left s → Left s
  unfolding kept_loads thinned
  left_lane s p =
      let (i, l, q) = sum-some (f s) (λ j. when (stays_for J f S kept (record { step = s; lane = j })) 1) p in
      let W : OnWire J f (record { step = s; lane = i }) = lane-wired J f S (record { step = s; lane = i }) l in
      record {
        lane = i;
        loaded = l;
        on = W;
        stays =
            sym (stays_on J f S kept W.row W.column W.index (record { step = s; lane = i }) W.wired W.listed)
            ∙ both_ways (stays_for J f S kept (record { step = s; lane = i })) true (λ t. tt)
            (λ t. (when-some (stays_for J f S kept (record { step = s; lane = i })) 1 q).0);
      }

  -- a wire meets the place that a hop of it leaves
  leaves-meets : (r c n : ℕ) (h : Hop) → T (is_wired J f r c) → hop_at J f r c n ≡ some h → Meets J f r c (tail J h.step)
  unfolding hop_at
  leaves-meets r c zero h w e =
      let t : Thread J f r c = thread J f S r c w in
      starts (sym (ap (λ (u : Hop). tail J u.step) (some_one h t.first (sym e ∙ t.begins)) ∙ t.from))
  leaves-meets r c (suc n) h w e = by (hop_at J f r c n) refl e
    where
      by : (o : Option Hop) → hop_at J f r c n ≡ o → onward J f o ≡ some h → Meets J f r c (tail J h.step)
      by none q k = absurd (none-some h k)
      by (some u) q k = comes n u q (sym (follow-leaves J f S.feasible u h (wire-loaded J f S r c n u w q) k))

  -- nothing is left on the links that leave a place which is avoided
  pub left-quiet : (x : Place) → Avoided x → (s : Step) → tail J s ≡ x → Quiet left s
  left-quiet x a s e = record { forth = out (left s) refl; back = back (left (turn s)) refl }
    where
      out : (n : ℕ) → left s ≡ n → left s ≡ 0
      out zero q = q
      out (suc n) q =
          let L : Left s = left_lane s (omega arith) in
          let W : OnWire J f (record { step = s; lane = L.lane }) = L.on in
          absurd
          (a W.row W.column W.wired L.stays
          (subst (λ (y : Place). Meets J f W.row W.column y) e
          (leaves-meets W.row W.column W.index (record { step = s; lane = L.lane }) W.wired W.listed)))

      back : (n : ℕ) → left (turn s) ≡ n → left (turn s) ≡ 0
      back zero q = q
      back (suc n) q =
          let L : Left (turn s) = left_lane (turn s) (omega arith) in
          let W : OnWire J f (record { step = turn s; lane = L.lane }) = L.on in
          absurd (a W.row W.column W.wired L.stays (comes W.index (record { step = turn s; lane = L.lane }) W.listed e))

  -- nor round it
  pub place-bare : (x : Place) → T (is_place J x) → Avoided x → Bare left x
  place-bare x p a s m = left-quiet x a s (around-leaves J x p s m)

  -- ---- the places of an edit

  -- the steps leave x
  abbrev Leave : Place → List Step → Type 0
  Leave x [] = Unit {0}
  Leave x (s ∷ l) = (tail J s ≡ x) × Leave x l

  all_quiet : (x : Place) (l : List Step) → Avoided x → Leave x l → (s : Step) → Memᴰ s l → Quiet left s
  all_quiet x [] a v s x4 = elim x4 [ ]
  all_quiet x (t ∷ l) a v s (Memᴰ.head e) = left-quiet x a s (ap (tail J) e ∙ v.0)
  all_quiet x (t ∷ l) a v s (Memᴰ.tail m) = all_quiet x l a v.1 s m

  -- no load stands where a step may not be taken
  no-load : (s : Step) → (T (may J s) → ⊥) → f s ≡ 0
  no-load s n = by (f s) refl
    where
      by : (m : ℕ) → f s ≡ m → f s ≡ 0
      by zero e = e
      by (suc m) e = absurd (n (loaded-may J f S.feasible s (omega arith)))

  -- a pin that is not chosen has no direct exit
  direct-quiet : (r c : ℕ) → Avoided (pin_at J r c) → Quiet left (go direct r c)
  unfolding head behind_of is_chosen
  direct-quiet r c a = by (eqb (J.mark r c) 2) refl a
    where
      by : (b : Bool) → eqb (J.mark r c) 2 ≡ b → Avoided (elim b as (λ _. Place) [ true ↦ at missing r c | false ↦ at pin r c ]) → Quiet left (go direct r c)
      by true e q =
          record {
            forth =
                omega (
                  arith,
                  kept-le J f S kept (go direct r c),
                  no-load (go direct r c)
                      (λ t. let one : J.mark r c ≡ 1 =
                      eqb→eq (J.mark r c) 1 (and_right (is_pin J r c) (eqb (J.mark r c) 1) (may-leaves J (go direct r c) t)) in
                      omega (arith, one, eqb→eq (J.mark r c) 2 (so e))),
                );
            back = omega (arith, kept-le J f S kept (come direct r c), no-load (come direct r c) (λ t. may-enters J (come direct r c) t));
          }
      by false e q = left-quiet (at pin r c) q (go direct r c) refl

  pin-bare : (r c : ℕ) → Avoided (pin_at J r c) → Bare left (at pin r c)
  unfolding head behind_of
  pin-bare r c a s (Memᴰ.head e) = left-quiet (pin_at J r c) a s (ap (tail J) e)
  pin-bare r c a s (Memᴰ.tail (Memᴰ.head e)) = left-quiet (pin_at J r c) a s (ap (tail J) e)
  pin-bare r c a s (Memᴰ.tail (Memᴰ.tail (Memᴰ.head e))) = left-quiet (pin_at J r c) a s (ap (tail J) e)
  pin-bare r c a s (Memᴰ.tail (Memᴰ.tail (Memᴰ.tail (Memᴰ.head e)))) = left-quiet (pin_at J r c) a s (ap (tail J) e)
  pin-bare r c a s (mathlib.Core.List.Memᴰ.tail (mathlib.Core.List.Memᴰ.tail (mathlib.Core.List.Memᴰ.tail (mathlib.Core.List.Memᴰ.tail (mathlib.Core.List.Memᴰ.tail x20))))) = elim x20 [ ]
  pin-bare r c a s (Memᴰ.tail (Memᴰ.tail (Memᴰ.tail (Memᴰ.tail (Memᴰ.head e))))) =
      subst (Quiet left) (sym e) (direct-quiet r c a)

  tile-beside : (d : Compass) (r c : ℕ) → T (is_tile J r c) → beside J d r c ≡ at (side d) r c
  tile-beside d r c t = by (is_tile J r c) t
    where
      by : (b : Bool) → T b → elim b as (λ x. Place) [ true ↦ at (side d) r c | false ↦ the_outside ] ≡ at (side d) r c
      by true u = refl
      by false u = absurd u

  centre-bare : (r c : ℕ) → Avoided (at centre r c) → Bare left (at centre r c)
  unfolding head behind_of ahead_of
  centre-bare r c a = all_quiet (at centre r c) (around (at centre r c)) a (refl, (refl, (refl, (refl, tt))))

  side-bare : (d : Compass) (r c : ℕ) → T (is_tile J r c) → Avoided (at (side d) r c) → Bare left (at (side d) r c)
  unfolding head behind_of ahead_of
  side-bare north r c t a =
      all_quiet (at (side north) r c) (around (at (side north) r c)) a (tile-beside north r c t, (refl, (refl, (refl, (refl, tt)))))
  side-bare east r c t a = all_quiet (at (side east) r c) (around (at (side east) r c)) a (refl, (refl, (refl, (refl, (refl, tt)))))
  side-bare south r c t a = all_quiet (at (side south) r c) (around (at (side south) r c)) a (refl, (refl, (refl, (refl, (refl, tt)))))
  side-bare west r c t a =
      all_quiet (at (side west) r c) (around (at (side west) r c)) a (tile-beside west r c t, (refl, (refl, (refl, (refl, tt)))))

  -- ---- the edits

  -- an entry of a table after one is changed
  put-by : (g : ℕ → ℕ → ℕ) (r c v i j : ℕ) (P : ℕ → ℕ → Type 0) → P r c → (put g r c v i j ≡ g i j) ⊎ P i j
  put-by g r c v i j P p = by (eqb i r && eqb j c) refl
    where
      by : (b : Bool) → (eqb i r && eqb j c) ≡ b → (elim b as (λ _. ℕ) [ true ↦ v | false ↦ g i j ] ≡ g i j) ⊎ P i j
      by true e =
          inr (subst (λ (m : ℕ). P m j) (sym (eqb→eq i r (and_left (eqb i r) (eqb j c) (so e))))
          (subst (λ (m : ℕ). P r m) (sym (eqb→eq j c (and_right (eqb i r) (eqb j c) (so e)))) p))
      by false e = inl refl

  pub mark-alike : (r c m : ℕ) → Avoided (pin_at J r c) → Alike J (marked J r c m) left
  mark-alike r c m a =
      record {
        rows = refl;
        columns = refl;
        pins = λ i j. put-by J.mark r c m i j (λ i j. Bare left (at pin i j)) (pin-bare r c a);
        tiles = λ i j. inl refl;
      }

  abbrev pub TileAvoided : ℕ → ℕ → Type 0
  TileAvoided r c = Avoided (at centre r c) × ((d : Compass) → Avoided (at (side d) r c))

  pub close-alike : (r c v : ℕ) → T (is_tile J r c) → TileAvoided r c → Alike J (closed J r c v) left
  close-alike r c v t a =
      record {
        rows = refl;
        columns = refl;
        pins = λ i j. inl refl;
        tiles =
            λ i j. put-by J.state r c v i j (λ i j. Bare left (at centre i j) × ((d : Compass) → Bare left (at (side d) i j)))
            (centre-bare r c a.0, λ d. side-bare d r c t (a.1 d));
      }

-- a hop of the old wire and of the new one: the same step between the same places, on a lane no higher
pub data Lowered (J K : Job) : Option Hop → Option Hop → Type 0 where
  ended : Lowered J K none none
  goes : {h k : Hop} → k.step ≡ h.step → k.lane ≤ h.lane → head K k.step ≡ head J h.step → Lowered J K (some h) (some k)

-- "Every other wire keeps its places, though its lane numbers may shrink."
pub record Keeps (J K : Job) (f g : Step → ℕ) (kept : ℕ → ℕ → Bool) : Type 0 where
  pub sound : Sound K g
  pub wired : (r c : ℕ) → is_wired K g r c ≡ (is_wired J f r c && kept r c)
  pub number : wire_count K g ≡ count (places J) (λ x. is_pin_kind x && (is_wired J f x.row x.column && kept x.row x.column))
  pub hops : (r c : ℕ) → T (is_wired J f r c) → kept r c ≡ true → (i : ℕ) → Lowered J K (hop_at J f r c i) (hop_at K g r c i)

module _ (J K : Job) (f : Step → ℕ) (S : Sound J f) (kept : ℕ → ℕ → Bool) (A : Alike J K (kept_loads J f S kept))
    (fits : Fits K (kept_loads J f S kept)) where
  pub alike-keeps : Keeps J K f (kept_loads J f S kept) kept
  unfolding kept_loads
  alike-keeps =
      record {
        sound = alike-sound J K g A T₀ fits;
        wired = λ r c. alike-wired J K g A T₀ r c ∙ kept-wired J f S kept r c;
        number = alike-count J K g A T₀ ∙ kept-count J f S kept;
        hops = lowered;
      }
    where
      g : Step → ℕ
      g = kept_loads J f S kept

      T₀ : Sound J g
      T₀ = kept-sound J f S kept

      lowered : (r c : ℕ) → T (is_wired J f r c) → kept r c ≡ true → (i : ℕ) → Lowered J K (hop_at J f r c i) (hop_at K g r c i)
      lowered r c w k i =
          subst (λ (o : Option Hop). Lowered J K (hop_at J f r c i) o)
          (sym (alike-hops J K g A T₀ r c (subst T (sym (kept-wired J f S kept r c)) (and_both (is_wired J f r c) (kept r c) w (so k))) i
          ∙ kept-hops J f S kept r c w k i))
          (by (hop_at J f r c i) refl)
        where
          by : (o : Option Hop) → hop_at J f r c i ≡ o → Lowered J K o (carried (stays_for J f S kept) o)
          by none e = ended
          by (some h) e =
              goes refl (lane-le (stays_for J f S kept) h)
              (alike-head J K g A T₀ (moved (stays_for J f S kept) h)
              (moved-loaded (stays_for J f S kept) f h (wire-loaded J f S r c i h w e) (stays_on J f S kept r c i h w e ∙ k)))

module _ (J : Job) (f : Step → ℕ) (S : Sound J f) (kept : ℕ → ℕ → Bool) (r c : ℕ) where
  -- a mark, where every wire that is kept avoids the pin
  pub mark-keeps : (m : ℕ) → Avoided J f S kept (pin_at J r c) → Keeps J (marked J r c m) f (kept_loads J f S kept) kept
  mark-keeps m a =
      let A : Alike J (marked J r c m) (kept_loads J f S kept) = mark-alike J f S kept r c m a in
      alike-keeps J (marked J r c m) f S kept A
      (same-fits J (marked J r c m) (kept_loads J f S kept) A (kept-sound J f S kept) (record { O = refl; D = refl; E = refl; added = refl }))

  -- a state, where every wire that is kept avoids the tile
  pub close-keeps : (v : ℕ) → T (is_tile J r c) → TileAvoided J f S kept r c → Keeps J (closed J r c v) f (kept_loads J f S kept) kept
  close-keeps v t a =
      let A : Alike J (closed J r c v) (kept_loads J f S kept) = close-alike J f S kept r c v t a in
      alike-keeps J (closed J r c v) f S kept A
      (same-fits J (closed J r c v) (kept_loads J f S kept) A (kept-sound J f S kept) (record { O = refl; D = refl; E = refl; added = refl }))
