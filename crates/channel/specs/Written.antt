-- What the writers store, and its laws. A record is told by its bytes: a byte of the header, of a cell of a plane, or of the rest of a longer buffer. A store at
-- a cell of a job's record gives the record of the job with that entry changed, and a record of no loads differs from a legal one in the planes of loads only.
-- Assumes nothing.
use Rattle.std.specs.Prelude.{◌≡◌, refl, ◌≢◌, ◌⊎◌, Bool, true, false, not, List, [], ◌∷◌, ◌++◌, ℕ, zero, suc, ◌+◌, ◌-◌, ◌*◌, ◌/◌, ◌%◌, ◌≤◌, ◌<◌, T, eqb, ltb, length, take, drop, set, replicate}
use Rattle.std.proofs.Common.{sym, ◌∙◌, inl, inr, ltb→lt, nltb→le, lit≤, length-set, ext_get_or, drop_at, get_or-drop, get_or-set_same, get_or-set_other}
use Rattle.std.proofs.Math.Path.{ap}
use Rattle.std.proofs.Math.Option.{Option, none, some}
use native.Mathlib.Omega.{arith}
use Rattle.std.proofs.Math.ListN.{get_or, get_elem?, length-append, length-drop, get_or-append}
use Rattle.std.proofs.lemmas.List.{length-replicate, get_or-replicate}
use borrow.Rule.Slice.PartMut.{mid_of, put_mid, mid_len, Post-is}
use Rattle.std.proofs.Math.Seq.{get_or-append-add, get_or-take, length-take-le}
use Rattle.sums.specs.Tests.{Same, same, other, same?, below_or}
use Rattle.model.specs.Job.{Added, nothing_added, Job, fresh, put, with_added, marked, closed, Side, of_north, of_west, laid_by, with_own_d, with_extra}
use Rattle.model.specs.Links.{LinkKind, Step}
use Rattle.model.specs.Record.{record_size, mark_plane, state_plane, own_d_plane, offset, job_of, load, Legal, kinds, added_byte, kind_byte, plane_byte, head_byte, record_of, no_loads}
use Rattle.model.specs.Record.{unwired_record, over}
use Rattle.model.proofs.RecordOf.{bytes-none, length-record, head-back, cell-back, plane-added}
use Rattle.model.proofs.Over.{get-over}
use Rattle.model.proofs.LegalRecord.{kind_at, legal-record}
use Rattle.model.proofs.Sides.{put-at, put-else}
use Rattle.channel.specs.Laid.{side_row, side_column, side_offset}

-- ---- what the writers store

-- n bytes 0
pub zeros : ℕ → List ℕ
zeros n = replicate n 0

-- the record with its planes of loads, from offset (load_plane north_side) 0 0 to offset laid_north_plane 0 0, all 0
pub unwired : List ℕ → List ℕ
unwired rec = take 3968 rec ++ (zeros 24000 ++ drop 27968 rec)

-- ---- zeros

pub zeros-filled : (n : ℕ) → replicate n 0 ≡ zeros n
unfolding zeros
zeros-filled n = refl

pub length-zeros : (n : ℕ) → length (zeros n) ≡ n
unfolding zeros
length-zeros n = length-replicate n 0

pub get-zeros : (n i : ℕ) → i < n → get_or (zeros n) i 0 ≡ 0
unfolding zeros
get-zeros n i l = get_or-replicate n i 0 0 l

-- ---- a record over a buffer, by its bytes

-- where a byte of a buffer stands
data Region (i : ℕ) : Type 0 where
  head : i < 768 → Region i
  plane : (p r c : ℕ) → i ≡ offset p r c → p < 20 → r < 40 → c < 40 → Region i
  rest : record_size ≤ i → Region i

region : (i : ℕ) → Region i
region i = by (ltb i 768) (ltb→lt i 768) (nltb→le i 768) (ltb i 32768) (ltb→lt i 32768) (nltb→le i 32768)
  where
    by : (a : Bool) → (T a → i < 768) → (T (not a) → 768 ≤ i) → (b : Bool) → (T b → i < 32768) → (T (not b) → 32768 ≤ i) → Region i
    by true p q b s t = head (p tt)
    by false p q true s t =
        let j : ℕ = i - 768 in
        let l : 768 ≤ i = q tt in
        let h : i < 32768 = s tt in
        plane (j / 1600) (j % 1600 / 40) (j % 40) (omega arith) (omega arith) (omega arith) (omega arith)
    by false p q false s t = rest (t tt)

module _ (J : Job) (f : Step → ℕ) (rec : List ℕ) (long : record_size ≤ length rec) where
  abbrev new : List ℕ
  new = record_of J f

  pub length_over : length (over new rec) ≡ length rec
  length_over = omega (arith, length-append new (drop (length new) rec), length-drop (length new) rec, length-record J f)

  pub over-head : (i : ℕ) → i < 768 → get_or (over new rec) i 0 ≡ head_byte J i
  over-head i l = get-over new (drop (length new) rec) (length-record J f) i (omega arith) ∙ head-back J f i l

  pub over-cell : (p r c : ℕ) → p < 20 → r < 40 → c < 40 → get_or (over new rec) (offset p r c) 0 ≡ plane_byte J f p r c
  over-cell p r c a b d =
      get-over new (drop (length new) rec) (length-record J f) (offset p r c) (omega arith) ∙ cell-back J f p r c a b d

  pub over-rest : (i : ℕ) → record_size ≤ i → get_or (over new rec) i 0 ≡ get_or rec i 0
  over-rest i l =
      let k : i ≡ length new + (i - record_size) = omega (arith, length-record J f) in
      ap (λ (n : ℕ). get_or (over new rec) n 0) k
      ∙ (get_or-append-add new (drop (length new) rec) (i - record_size) 0
      ∙ (get_or-drop (length new) rec (i - record_size) 0 ∙ ap (λ (n : ℕ). get_or rec n 0) (sym k)))

  -- a list as long as the buffer with these bytes
  pub is-over : (l : List ℕ) → length l ≡ length rec → ((i : ℕ) → i < 768 → get_or l i 0 ≡ head_byte J i)
      → ((p r c : ℕ) → p < 20 → r < 40 → c < 40 → get_or l (offset p r c) 0 ≡ plane_byte J f p r c)
      → ((i : ℕ) → record_size ≤ i → get_or l i 0 ≡ get_or rec i 0) → l ≡ over new rec
  is-over l e h c r = ext_get_or 0 l (over new rec) (e ∙ sym length_over) (λ i k. by i (region i))
    where
      by : (i : ℕ) → Region i → get_or l i 0 ≡ get_or (over new rec) i 0
      by i (head k) = h i k ∙ sym (over-head i k)
      by i (plane p x y k a b d) =
          ap (λ (n : ℕ). get_or l n 0) k ∙ (c p x y a b d ∙ (sym (over-cell p x y a b d) ∙ ap (λ (n : ℕ). get_or (over new rec) n 0) (sym k)))
      by i (rest k) = r i k ∙ sym (over-rest i k)

-- ---- a store at a cell

-- the record of a job that differs in one cell
store-over : (K L : Job) (f : Step → ℕ) (rec : List ℕ) (p r c v : ℕ) → record_size ≤ length rec → p < 20 → r < 40 → c < 40
    → ((i : ℕ) → head_byte K i ≡ head_byte L i) → v ≡ plane_byte L f p r c
    → ((q i j : ℕ) → (q ≡ p → i ≡ r → j ≡ c → ⊥) → plane_byte K f q i j ≡ plane_byte L f q i j)
    → set (over (record_of K f) rec) (offset p r c) v ≡ over (record_of L f) rec
store-over K L f rec p r c v long lp lr lc h e o =
    is-over L f rec long (set old (offset p r c) v) (length-set old (offset p r c) v ∙ length_over K f rec long)
    (λ i l. get_or-set_other old (offset p r c) i v 0 (omega arith) ∙ (over-head K f rec long i l ∙ h i))
    cells
    (λ i l. get_or-set_other old (offset p r c) i v 0 (omega arith) ∙ over-rest K f rec long i l)
  where
    old : List ℕ
    old = over (record_of K f) rec

    cells : (q i j : ℕ) → q < 20 → i < 40 → j < 40 → get_or (set old (offset p r c) v) (offset q i j) 0 ≡ plane_byte L f q i j
    cells q i j a b d = by (eqb (offset q i j) (offset p r c)) (same? (offset q i j) (offset p r c))
      where
        by : (b : Bool) → Same (offset q i j) (offset p r c) b → get_or (set old (offset p r c) v) (offset q i j) 0 ≡ plane_byte L f q i j
        by true (same s) =
            let x : q ≡ p = omega arith in
            let y : i ≡ r = omega arith in
            let z : j ≡ c = omega arith in
            ap (λ (n : ℕ). get_or (set old (offset p r c) v) n 0) s
            ∙ (get_or-set_same old (offset p r c) v 0 (omega (arith, length_over K f rec long)) ∙ (e ∙ (λ k. plane_byte L f (sym x k) (sym y k) (sym z k))))
        by false (other n) =
            get_or-set_other old (offset p r c) (offset q i j) v 0 n
            ∙ (over-cell K f rec long q i j a b d ∙ o q i j (λ x y z. n (λ k. offset (x k) (y k) (z k))))

pub marked-with : (K : Job) (f : Step → ℕ) (rec : List ℕ) (r c m : ℕ) → record_size ≤ length rec → r < 40 → c < 40
    → set (over (record_of K f) rec) (offset mark_plane r c) m ≡ over (record_of (marked K r c m) f) rec
marked-with K f rec r c m long lr lc =
    store-over K (marked K r c m) f rec 0 r c m long (omega arith) lr lc (λ i. refl) (sym (put-at K.mark r c m)) (λ q i j n. by q i j n)
  where
    by : (q i j : ℕ) → (q ≡ 0 → i ≡ r → j ≡ c → ⊥) → plane_byte K f q i j ≡ plane_byte (marked K r c m) f q i j
    by zero i j n = sym (put-else K.mark r c m i j (n refl))
    by (suc zero) i j n = refl
    by (suc (suc q)) i j n = refl

pub closed-with : (K : Job) (f : Step → ℕ) (rec : List ℕ) (r c v : ℕ) → record_size ≤ length rec → r < 40 → c < 40
    → set (over (record_of K f) rec) (offset state_plane r c) v ≡ over (record_of (closed K r c v) f) rec
closed-with K f rec r c v long lr lc =
    store-over K (closed K r c v) f rec 1 r c v long (omega arith) lr lc (λ i. refl) (sym (put-at K.state r c v)) (λ q i j n. by q i j n)
  where
    by : (q i j : ℕ) → (q ≡ 1 → i ≡ r → j ≡ c → ⊥) → plane_byte K f q i j ≡ plane_byte (closed K r c v) f q i j
    by zero i j n = refl
    by (suc zero) i j n = sym (put-else K.state r c v i j (n refl))
    by (suc (suc q)) i j n = refl

pub extra-with : (K : Job) (f : Step → ℕ) (rec : List ℕ) (e : ℕ) → record_size ≤ length rec
    → set (over (record_of K f) rec) 4 e ≡ over (record_of (with_extra K e) f) rec
extra-with K f rec e long =
    is-over (with_extra K e) f rec long (set old 4 e) (length-set old 4 e ∙ length_over K f rec long) heads
    (λ p r c a b d. get_or-set_other old 4 (offset p r c) e 0 (omega arith) ∙ (over-cell K f rec long p r c a b d ∙ planes p r c))
    (λ i l. get_or-set_other old 4 i e 0 (omega arith) ∙ over-rest K f rec long i l)
  where
    old : List ℕ
    old = over (record_of K f) rec

    kept : (i : ℕ) → i < 768 → i ≢ 4 → get_or (set old 4 e) i 0 ≡ head_byte K i
    kept i l n = get_or-set_other old 4 i e 0 n ∙ over-head K f rec long i l

    heads : (i : ℕ) → i < 768 → get_or (set old 4 e) i 0 ≡ head_byte (with_extra K e) i
    heads zero l = kept 0 l (omega arith)
    heads (suc zero) l = kept 1 l (omega arith)
    heads (suc (suc zero)) l = kept 2 l (omega arith)
    heads (suc (suc (suc zero))) l = kept 3 l (omega arith)
    heads (suc (suc (suc (suc zero)))) l = get_or-set_same old 4 e 0 (omega (arith, length_over K f rec long))
    heads (suc (suc (suc (suc (suc i))))) l = kept (suc (suc (suc (suc (suc i))))) l (omega arith)

    planes : (p r c : ℕ) → plane_byte K f p r c ≡ plane_byte (with_extra K e) f p r c
    planes zero r c = refl
    planes (suc zero) r c = refl
    planes (suc (suc p)) r c = refl

-- without wires
pub marked-over : (K : Job) (rec : List ℕ) (r c m : ℕ) → record_size ≤ length rec → r < 40 → c < 40
    → set (over (unwired_record K) rec) (offset mark_plane r c) m ≡ over (unwired_record (marked K r c m)) rec
marked-over K = marked-with K no_loads

pub closed-over : (K : Job) (rec : List ℕ) (r c v : ℕ) → record_size ≤ length rec → r < 40 → c < 40
    → set (over (unwired_record K) rec) (offset state_plane r c) v ≡ over (unwired_record (closed K r c v)) rec
closed-over K = closed-with K no_loads

-- ---- a count of laid wires

-- the planes behind those of marks and states, with something else added
added-planes : (K : Job) (f : Step → ℕ) (A : Added) (p r c : ℕ) → (15 ≤ p → added_byte K.added p r c ≡ added_byte A p r c)
    → plane_byte K f (suc (suc p)) r c ≡ plane_byte (with_added K A) f (suc (suc p)) r c
added-planes K f A p r c h = by (below_or p 15)
  where
    by : (p < 15) ⊎ (15 ≤ p) → plane_byte K f (suc (suc p)) r c ≡ plane_byte (with_added K A) f (suc (suc p)) r c
    by (inl l) =
        let (k, e, q) = kind_at kinds 0 p tt l in
        ap (λ (o : Option LinkKind). kind_byte K.added f p o r c) e ∙ sym (ap (λ (o : Option LinkKind). kind_byte A f p o r c) e)
    by (inr l) = plane-added K f p r c l ∙ (h l ∙ sym (plane-added (with_added K A) f p r c l))

pub laid-with : (K : Job) (f : Step → ℕ) (rec : List ℕ) (s : Side) (n : ℕ) → record_size ≤ length rec → side_row s < 40 → side_column s < 40
    → set (over (record_of K f) rec) (side_offset s) n ≡ over (record_of (laid_by K s n) f) rec
laid-with K f rec (of_north r c) n long lr lc =
    store-over K (laid_by K (of_north r c) n) f rec 17 r c n long (omega arith) lr lc (λ i. refl) (sym (put-at K.added.laid_north r c n)) by
  where
    added : (m p i j : ℕ) → p ≡ 15 + m → (p ≡ 15 → i ≡ r → j ≡ c → ⊥)
        → get_or (K.added.laid_north i j ∷ K.added.laid_west i j ∷ K.added.own_d i j ∷ []) m 0
        ≡ get_or (put K.added.laid_north r c n i j ∷ K.added.laid_west i j ∷ K.added.own_d i j ∷ []) m 0
    added zero p i j e h = sym (put-else K.added.laid_north r c n i j (h (omega arith)))
    added (suc zero) p i j e h = refl
    added (suc (suc zero)) p i j e h = refl
    added (suc (suc (suc m))) p i j e h = refl

    by : (q i j : ℕ) → (q ≡ 17 → i ≡ r → j ≡ c → ⊥) → plane_byte K f q i j ≡ plane_byte (laid_by K (of_north r c) n) f q i j
    by zero i j h = refl
    by (suc zero) i j h = refl
    by (suc (suc p)) i j h = added-planes K f (laid_by K (of_north r c) n).added p i j (λ l. added (p - 15) p i j (omega arith) (λ e. h (omega arith)))
laid-with K f rec (of_west r c) n long lr lc =
    store-over K (laid_by K (of_west r c) n) f rec 18 r c n long (omega arith) lr lc (λ i. refl) (sym (put-at K.added.laid_west r c n)) by
  where
    added : (m p i j : ℕ) → p ≡ 15 + m → (p ≡ 16 → i ≡ r → j ≡ c → ⊥)
        → get_or (K.added.laid_north i j ∷ K.added.laid_west i j ∷ K.added.own_d i j ∷ []) m 0
        ≡ get_or (K.added.laid_north i j ∷ put K.added.laid_west r c n i j ∷ K.added.own_d i j ∷ []) m 0
    added zero p i j e h = refl
    added (suc zero) p i j e h = sym (put-else K.added.laid_west r c n i j (h (omega arith)))
    added (suc (suc zero)) p i j e h = refl
    added (suc (suc (suc m))) p i j e h = refl

    by : (q i j : ℕ) → (q ≡ 18 → i ≡ r → j ≡ c → ⊥) → plane_byte K f q i j ≡ plane_byte (laid_by K (of_west r c) n) f q i j
    by zero i j h = refl
    by (suc zero) i j h = refl
    by (suc (suc p)) i j h = added-planes K f (laid_by K (of_west r c) n).added p i j (λ l. added (p - 15) p i j (omega arith) (λ e. h (omega arith)))

pub laid-over : (K : Job) (rec : List ℕ) (s : Side) (n : ℕ) → record_size ≤ length rec → side_row s < 40 → side_column s < 40
    → set (over (unwired_record K) rec) (side_offset s) n ≡ over (unwired_record (laid_by K s n)) rec
laid-over K = laid-with K no_loads

-- ---- a tile's own D

pub own-with : (K : Job) (f : Step → ℕ) (rec : List ℕ) (r c d : ℕ) → record_size ≤ length rec → r < 40 → c < 40
    → set (over (record_of K f) rec) (offset own_d_plane r c) d ≡ over (record_of (with_own_d K r c d) f) rec
own-with K f rec r c d long lr lc =
    store-over K (with_own_d K r c d) f rec own_d_plane r c d long (omega arith) lr lc (λ i. refl) (sym (put-at K.added.own_d r c d)) by
  where
    added : (m p i j : ℕ) → p ≡ 15 + m → (p ≡ 17 → i ≡ r → j ≡ c → ⊥)
        → get_or (K.added.laid_north i j ∷ K.added.laid_west i j ∷ K.added.own_d i j ∷ []) m 0
        ≡ get_or (K.added.laid_north i j ∷ K.added.laid_west i j ∷ put K.added.own_d r c d i j ∷ []) m 0
    added zero p i j e h = refl
    added (suc zero) p i j e h = refl
    added (suc (suc zero)) p i j e h = sym (put-else K.added.own_d r c d i j (h (omega arith)))
    added (suc (suc (suc m))) p i j e h = refl

    by : (q i j : ℕ) → (q ≡ own_d_plane → i ≡ r → j ≡ c → ⊥) → plane_byte K f q i j ≡ plane_byte (with_own_d K r c d) f q i j
    by zero i j h = refl
    by (suc zero) i j h = refl
    by (suc (suc p)) i j h = added-planes K f (with_own_d K r c d).added p i j (λ l. added (p - 15) p i j (omega arith) (λ e. h (omega arith)))

pub own-over : (K : Job) (rec : List ℕ) (r c d : ℕ) → record_size ≤ length rec → r < 40 → c < 40
    → set (over (unwired_record K) rec) (offset own_d_plane r c) d ≡ over (unwired_record (with_own_d K r c d)) rec
own-over K = own-with K no_loads

-- ---- a new job

plane-none : (p : ℕ) (o : Option LinkKind) (r c : ℕ) → kind_byte nothing_added no_loads p o r c ≡ 0
plane-none p none r c = by (p - 15)
  where
    by : (n : ℕ) → ◌≡◌ {A = ℕ} (get_or (0 ∷ 0 ∷ 0 ∷ []) n 0) 0
    by zero = refl
    by (suc zero) = refl
    by (suc (suc zero)) = refl
    by (suc (suc (suc n))) = refl
plane-none p (some k) r c = refl

zeros-five : (X : List ℕ) → zeros 32768 ++ X ≡ 0 ∷ 0 ∷ 0 ∷ 0 ∷ 0 ∷ (zeros 32763 ++ X)
unfolding zeros
zeros-five X = refl

pub fresh-written : (rec : List ℕ) (rows columns O D E : ℕ) → record_size ≤ length rec
    → set (set (set (set (set (zeros 32768 ++ drop 32768 rec) 0 rows) 1 columns) 2 O) 3 D) 4 E ≡ over (unwired_record (fresh rows columns O D E)) rec
fresh-written rec rows columns O D E long =
    ap (λ (l : List ℕ). set (set (set (set (set l 0 rows) 1 columns) 2 O) 3 D) 4 E) (zeros-five (drop 32768 rec))
    ∙ is-over (fresh rows columns O D E) no_loads rec long made (omega (arith, length-append Z X, length-zeros 32763, length-drop 32768 rec)) heads
    (λ p r c a b d. beyond (offset p r c) (omega arith) (omega arith) ∙ sym (planes p r c)) rests
  where
    Z : List ℕ
    Z = zeros 32763

    X : List ℕ
    X = drop 32768 rec

    made : List ℕ
    made = rows ∷ columns ∷ O ∷ D ∷ E ∷ (Z ++ X)

    behind : (i : ℕ) → i < 32763 → get_or (Z ++ X) i 0 ≡ 0
    behind i l = get_or-append Z X 0 i (omega (arith, length-zeros 32763)) ∙ get-zeros 32763 i l

    beyond : (i : ℕ) → 5 ≤ i → i < 32768 → get_or made i 0 ≡ 0
    beyond i l h =
        let k : i ≡ 5 + (i - 5) = omega arith in
        ap (λ (n : ℕ). get_or made n 0) k ∙ (sym (get_or-drop 5 made (i - 5) 0) ∙ behind (i - 5) (omega arith))

    heads : (i : ℕ) → i < 768 → get_or made i 0 ≡ head_byte (fresh rows columns O D E) i
    heads zero l = refl
    heads (suc zero) l = refl
    heads (suc (suc zero)) l = refl
    heads (suc (suc (suc zero))) l = refl
    heads (suc (suc (suc (suc zero)))) l = refl
    heads (suc (suc (suc (suc (suc zero))))) l = behind 0 (omega arith)
    heads (suc (suc (suc (suc (suc (suc i)))))) l = behind (suc i) (omega arith) ∙ sym (bytes-none 16 i)

    planes : (p r c : ℕ) → plane_byte (fresh rows columns O D E) no_loads p r c ≡ 0
    planes zero r c = refl
    planes (suc zero) r c = refl
    planes (suc (suc p)) r c = plane-none p (get_elem? kinds p) r c

    rests : (i : ℕ) → record_size ≤ i → get_or made i 0 ≡ get_or rec i 0
    rests i l =
        let k : i ≡ 5 + (length Z + (i - record_size)) = omega (arith, length-zeros 32763) in
        ap (λ (n : ℕ). get_or made n 0) k
        ∙ (sym (get_or-drop 5 made (length Z + (i - record_size)) 0)
        ∙ (get_or-append-add Z X (i - record_size) 0 ∙ (get_or-drop 32768 rec (i - record_size) 0 ∙ ap (λ (n : ℕ). get_or rec n 0) (omega arith))))

-- ---- no wires

module _ (rec : List ℕ) (long : record_size ≤ length rec) where
  abbrev front : List ℕ
  front = take 3968 rec

  abbrev back : List ℕ
  back = zeros 24000 ++ drop 27968 rec

  length-unwired : length (unwired rec) ≡ length rec
  unfolding unwired
  length-unwired =
      omega (
        arith,
        length-append front back,
        length-append (zeros 24000) (drop 27968 rec),
        length-take-le 3968 rec (omega arith),
        length-zeros 24000,
        length-drop 27968 rec,
      )

  -- the zeros that take the place of the loads
  pub unwired-put : (ys : List ℕ) → ys ≡ zeros (length (mid_of 3968 24000 rec)) → put_mid 3968 24000 rec ys ≡ unwired rec
  unfolding unwired
  unwired-put ys e = rw (e, mid_len 3968 27968 rec (omega arith), Post-is 3968 27968 rec (lit≤ tt))

  unwired-before : (i : ℕ) → i < 3968 → get_or (unwired rec) i 0 ≡ get_or rec i 0
  unfolding unwired
  unwired-before i l = get_or-append front back 0 i (omega (arith, length-take-le 3968 rec (omega arith))) ∙ get_or-take 3968 rec i 0 l

  unwired-past : (i : ℕ) → get_or (unwired rec) (3968 + i) 0 ≡ get_or back i 0
  unfolding unwired
  unwired-past i = ap (λ (n : ℕ). get_or (front ++ back) n 0) (omega (arith, length-take-le 3968 rec (omega arith))) ∙ get_or-append-add front back i 0

  unwired-loads : (i : ℕ) → i < 24000 → get_or (unwired rec) (3968 + i) 0 ≡ 0
  unwired-loads i l = unwired-past i ∙ (get_or-append (zeros 24000) (drop 27968 rec) 0 i (omega (arith, length-zeros 24000)) ∙ get-zeros 24000 i l)

  unwired-after : (i : ℕ) → get_or (unwired rec) (27968 + i) 0 ≡ get_or rec (27968 + i) 0
  unwired-after i =
      ap (λ (n : ℕ). get_or (unwired rec) n 0) (omega arith)
      ∙ (unwired-past (24000 + i)
      ∙ (ap (λ (n : ℕ). get_or back n 0) (omega (arith, length-zeros 24000)) ∙ (get_or-append-add (zeros 24000) (drop 27968 rec) i 0 ∙ get_or-drop 27968 rec i 0)))

pub unwired-over : (rec : List ℕ) → Legal rec → unwired rec ≡ over (unwired_record (job_of rec)) rec
unwired-over rec g =
    is-over J no_loads rec g.long (unwired rec) (length-unwired rec g.long)
    (λ i l. unwired-before rec g.long i (omega arith) ∙ (was i ∙ over-head J (load rec) rec g.long i l)) cells rests
  where
    J : Job
    J = job_of rec

    -- the legal record by its job and loads
    was : (i : ℕ) → get_or rec i 0 ≡ get_or (over (record_of J (load rec)) rec) i 0
    was i = ap (λ (l : List ℕ). get_or l i 0) (legal-record rec g)

    high : (p r c : ℕ) → p < 18 → r < 40 → c < 40 → (b : Bool) → (T b → p < 15) → (T (not b) → 15 ≤ p)
        → get_or (unwired rec) (offset (suc (suc p)) r c) 0 ≡ plane_byte J no_loads (suc (suc p)) r c
    high p r c lp lr lc true f n =
        let l : p < 15 = f tt in
        let (k, e, q) = kind_at kinds 0 p tt l in
        ap (λ (n : ℕ). get_or (unwired rec) n 0) (omega arith)
        ∙ (unwired-loads rec g.long (1600 * p + 40 * r + c) (omega arith) ∙ ap (λ (o : Option LinkKind). kind_byte J.added no_loads p o r c) (sym e))
    high p r c lp lr lc false f n =
        let l : 15 ≤ p = n tt in
        let q : ℕ = suc (suc p) in
        let k : offset q r c ≡ 27968 + (offset q r c - 27968) = omega arith in
        ap (λ (n : ℕ). get_or (unwired rec) n 0) k
        ∙ (unwired-after rec g.long (offset q r c - 27968)
        ∙ (ap (λ (n : ℕ). get_or rec n 0) (sym k)
        ∙ (was (offset q r c)
        ∙ (over-cell J (load rec) rec g.long q r c (omega arith) lr lc
        ∙ (plane-added J (load rec) p r c l ∙ sym (plane-added J no_loads p r c l))))))

    cells : (p r c : ℕ) → p < 20 → r < 40 → c < 40 → get_or (unwired rec) (offset p r c) 0 ≡ plane_byte J no_loads p r c
    cells zero r c lp lr lc = unwired-before rec g.long (offset 0 r c) (omega arith)
        ∙ (was (offset 0 r c) ∙ over-cell J (load rec) rec g.long 0 r c lp lr lc)
    cells (suc zero) r c lp lr lc =
        unwired-before rec g.long (offset 1 r c) (omega arith) ∙ (was (offset 1 r c) ∙ over-cell J (load rec) rec g.long 1 r c lp lr lc)
    cells (suc (suc p)) r c lp lr lc = high p r c (omega arith) lr lc (ltb p 15) (ltb→lt p 15) (nltb→le p 15)

    rests : (i : ℕ) → record_size ≤ i → get_or (unwired rec) i 0 ≡ get_or rec i 0
    rests i l =
        let k : i ≡ 27968 + (i - 27968) = omega arith in
        ap (λ (n : ℕ). get_or (unwired rec) n 0) k ∙ (unwired-after rec g.long (i - 27968) ∙ ap (λ (n : ℕ). get_or rec n 0) (sym k))

-- ---- one record over another

pub over-over : (J K : Job) (f g : Step → ℕ) (rec : List ℕ) → over (record_of J f) (over (record_of K g) rec) ≡ over (record_of J f) rec
over-over J K f g rec =
    ap (λ (s : List ℕ). record_of J f ++ s)
    (drop_at (record_of K g) (drop (length (record_of K g)) rec) (length (record_of J f)) (length-record K g ∙ sym (length-record J f))
    ∙ ap (λ (n : ℕ). drop n rec) (length-record K g ∙ sym (length-record J f)))
