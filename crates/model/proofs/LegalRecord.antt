-- A legal record is the record of its job and of its loads, in every one of its 32,768 bytes: a load byte below 64 and not 32 is made again from its two
-- parts, and every other byte is one of the job's or 0. So all bytes are below 256. Assumes nothing.
use mathlib.Core.Path.{◌≡◌, refl, sym, ap, subst, ◌∙◌}
use mathlib.Core.Logic.{◌≢◌, ◌⊎◌, inl, inr}
use mathlib.Core.Bool.{Bool, true, false, not, ◌&&◌}
use mathlib.Core.List.{List, [], ◌∷◌, ◌++◌}
use mathlib.Core.Option.{Option, some}
use Prim.Native.Nat.{ℕ, zero, suc, ◌+◌, ◌-◌, ◌*◌, ◌/◌, ◌%◌, ◌≤◌, ◌<◌}
use native.Mathlib.Nat.{not-suc-le-zero, le_of_suc-le-suc}
use native.Mathlib.Omega.{arith}
use lib.Dec.{T, eqb, leb, ltb, eqb→eq, leb→le, ltb→lt, nltb→le}
use lib.ListN.{length, get_or, get_elem?, drop, length-append, length-drop}
use lib.Seq.{ext_get_or, get_or-append-add, get_or-drop}
use Rattle.sums.specs.Counting.{when}
use Rattle.sums.specs.Tests.{below_or, and_left, and_right}
use Rattle.model.specs.Job.{Job, in_range, has_north, has_west, laid_most, is_own_d, upward_most, seen_most}
use Rattle.model.specs.Links.{LinkKind, link_code}
use Rattle.model.specs.Record.{record_size, load_plane, cell, added_of, job_of, forth_part, back_part, load, Legal}
use Rattle.model.specs.Record.{kinds, load_byte, kind_byte, plane_byte, head_byte, record_of, over}
use Rattle.model.proofs.RecordOf.{range-most, byte_of, length-record, head-back, plane-back, head-seen, head-none}
use Rattle.model.proofs.JobBytes.{cell-get, seen-get}
use Rattle.model.proofs.Over.{get-over}
use Rattle.model.proofs.Own.{own_range, own-or-none}

-- ---- the kind of a plane

-- the kinds stand in the order of their numbers
abbrev pub numbered : List LinkKind → ℕ → Bool
numbered [] n = true
numbered (k ∷ l) n = eqb (link_code k) n && numbered l (suc n)

pub kind_at : (l : List LinkKind) (n p : ℕ) → T (numbered l n) → p < length l → (k : LinkKind) × (get_elem? l p ≡ some k) × (link_code k ≡ n + p)
kind_at [] n p t h = absurd (not-suc-le-zero h)
kind_at (k ∷ l) n zero t h = (k, refl, omega (arith, eqb→eq (link_code k) n (and_left (eqb (link_code k) n) (numbered l (suc n)) t)))
kind_at (k ∷ l) n (suc p) t h =
    let (j, e, q) = kind_at l (suc n) p (and_right (eqb (link_code k) n) (numbered l (suc n)) t) (le_of_suc-le-suc h) in
    (j, e, omega arith)

-- ---- where a byte stands

data Region (i : ℕ) : Type 0 where
  head : i < 768 → Region i
  plane : (j : ℕ) → i ≡ 768 + j → j < 32000 → Region i

region : (i : ℕ) → i < record_size → Region i
region i l = by (below_or i 768)
  where
    by : (i < 768) ⊎ (768 ≤ i) → Region i
    by (inl h) = head h
    by (inr h) = plane (i - 768) (omega arith) (omega arith)

-- ---- the bytes, made again

parts-byte : (b : ℕ) → b < 64 → b ≢ 32 → byte_of (forth_part b) (back_part b) ≡ b
parts-byte b l n = by (ltb 0 (back_part b)) (ltb→lt 0 (back_part b)) (nltb→le 0 (back_part b))
  where
    by : (w : Bool) → (T w → 0 < back_part b) → (T (not w) → back_part b ≤ 0) → forth_part b + when w (32 + back_part b) ≡ b
    by true p q = omega (arith, p tt)
    by false p q = omega (arith, q tt)

module _ (rec : List ℕ) (g : Legal rec) where
  byte-again : (k : LinkKind) (r c : ℕ) → load_byte (load rec) k r c ≡ cell rec (load_plane k) r c
  unfolding load
  byte-again k r c = parts-byte (cell rec (load_plane k) r c) (g.values.loads k r c).0 (g.values.loads k r c).1

  abbrev Again : ℕ → ℕ → ℕ → Type 0
  Again p r c = (plane_byte (job_of rec) (load rec) p r c ≡ cell rec p r c) × (cell rec p r c < 256)

  load_again : (p r c : ℕ) → p < 17 → Again p r c
  unfolding job_of
  load_again zero r c l = (refl, omega (arith, g.values.marks r c))
  load_again (suc zero) r c l = (refl, omega (arith, g.values.states r c))
  load_again (suc (suc p)) r c l =
      let (k, e, q) = kind_at kinds 0 p tt (omega arith) in
      let m : load_plane k ≡ suc (suc p) = omega arith in (
        ap (λ (o : Option LinkKind). kind_byte (job_of rec).added (load rec) p o r c) e ∙ (byte-again k r c ∙ ap (λ (n : ℕ). cell rec n r c) m),
        omega (arith, (g.values.loads k r c).0, ap (λ (n : ℕ). cell rec n r c) m),
      )

  five : ((job_of rec).rows ≤ 40) × ((job_of rec).columns ≤ 40) × ((job_of rec).O ≤ 8) × ((job_of rec).D ≤ 2 * (job_of rec).O) × ((job_of rec).E ≤ 16)
  five =
      let J : Job = job_of rec in
      let t : T (in_range J.O (2 * J.O) J.D && in_range 0 16 J.E) =
      and_right (in_range 1 8 J.O) (in_range J.O (2 * J.O) J.D && in_range 0 16 J.E) g.values.caps in (
        range-most 2 40 J.rows (and_left (in_range 2 40 J.rows) (in_range 2 40 J.columns) g.values.array),
        range-most 2 40 J.columns (and_right (in_range 2 40 J.rows) (in_range 2 40 J.columns) g.values.array),
        range-most 1 8 J.O (and_left (in_range 1 8 J.O) (in_range J.O (2 * J.O) J.D && in_range 0 16 J.E) g.values.caps),
        range-most J.O (2 * J.O) J.D (and_left (in_range J.O (2 * J.O) J.D) (in_range 0 16 J.E) t),
        range-most 0 16 J.E (and_right (in_range J.O (2 * J.O) J.D) (in_range 0 16 J.E) t),
      )

  laid-small : (b : Bool) (m : ℕ) → T (leb m (when b (laid_most (job_of rec)))) → m < 256
  laid-small true m t = omega (arith, leb→le m (laid_most (job_of rec)) t, five.2)
  laid-small false m t = omega (arith, leb→le m 0 t)

  own-small : (d : ℕ) → (d ≡ 0) ⊎ T (is_own_d (job_of rec) d) → d < 256
  own-small d (inl e) = omega arith
  own-small d (inr t) = omega (arith, (own_range (job_of rec) d t).1, five.2)

  -- the planes behind those of loads
  added-again : (n r c : ℕ) → n < 3 → Again (17 + n) r c
  unfolding job_of added_of
  added-again zero r c l = (refl, laid-small (has_north (job_of rec) r c) (cell rec 17 r c) (g.values.added.laid_north r c))
  added-again (suc zero) r c l = (refl, laid-small (has_west (job_of rec) r c) (cell rec 18 r c) (g.values.added.laid_west r c))
  added-again (suc (suc zero)) r c l = (refl, own-small (cell rec 19 r c) (own-or-none (job_of rec) g.values.added r c))
  added-again (suc (suc (suc n))) r c l = absurd (omega arith)

  plane-again : (p r c : ℕ) → p < 20 → Again p r c
  plane-again p r c l = by (below_or p 17)
    where
      by : (p < 17) ⊎ (17 ≤ p) → Again p r c
      by (inl h) = load_again p r c h
      by (inr h) = subst (λ (q : ℕ). Again q r c) (omega arith) (added-again (p - 17) r c (omega arith))

  seen-small : (b : Bool) (m : ℕ) → T (leb m (when b (seen_most (job_of rec)))) → m < 256
  seen-small true m t = omega (arith, leb→le m (seen_most (job_of rec)) t)
  seen-small false m t = omega (arith, leb→le m 0 t)

  abbrev HeadAgain : ℕ → Type 0
  HeadAgain i = (head_byte (job_of rec) i ≡ get_or rec i 0) × (head_byte (job_of rec) i < 256)

  numbers-again : (i : ℕ) → i < 6 → HeadAgain i
  unfolding job_of added_of
  numbers-again zero l = (refl, omega (arith, five.0))
  numbers-again (suc zero) l = (refl, omega (arith, five.1))
  numbers-again (suc (suc zero)) l = (refl, omega (arith, five.2))
  numbers-again (suc (suc (suc zero))) l = (refl, omega (arith, five.2, five.3))
  numbers-again (suc (suc (suc (suc zero)))) l = (refl, omega (arith, five.4))
  numbers-again (suc (suc (suc (suc (suc zero))))) l =
      (refl, omega (arith, leb→le (get_or rec 5 0) (upward_most (job_of rec)) g.values.added.upward))
  numbers-again (suc (suc (suc (suc (suc (suc i)))))) l = absurd (omega arith)

  head-again : (i : ℕ) → i < 768 → HeadAgain i
  head-again i l = by (below_or i 6) (below_or i 22)
    where
      rectangle : (j : ℕ) → j < 16 → HeadAgain (6 + j)
      rectangle j h =
          let e : head_byte (job_of rec) (6 + j) ≡ (job_of rec).added.seen (j / 4) (j % 4) = head-seen (job_of rec) (load rec) j h in
          (e ∙ seen-get rec j h, omega (arith, seen-small (ltb (j / 4) 4 && ltb (j % 4) 4) _ (g.values.added.seen (j / 4) (j % 4))))

      by : (i < 6) ⊎ (6 ≤ i) → (i < 22) ⊎ (22 ≤ i) → HeadAgain i
      by (inl h) s = numbers-again i h
      by (inr h) (inl k) = subst HeadAgain (omega arith) (rectangle (i - 6) (omega arith))
      by (inr h) (inr k) =
          let e : head_byte (job_of rec) i ≡ 0 = head-none (job_of rec) (load rec) i k in
          (e ∙ sym (g.unused.header i k l), omega arith)

  made_again : (i : ℕ) → i < record_size → get_or (record_of (job_of rec) (load rec)) i 0 ≡ get_or rec i 0
  made_again i l = by (region i l)
    where
      by : Region i → get_or (record_of (job_of rec) (load rec)) i 0 ≡ get_or rec i 0
      by (head h) = head-back (job_of rec) (load rec) i h ∙ (head-again i h).0
      by (plane j e h) =
          ap (λ (n : ℕ). get_or (record_of (job_of rec) (load rec)) n 0) e
          ∙ (plane-back (job_of rec) (load rec) j h
          ∙ ((plane-again (j / 1600) (j % 1600 / 40) (j % 40) (omega arith)).0 ∙ (cell-get rec j h ∙ ap (λ (n : ℕ). get_or rec n 0) (sym e))))

  pub legal-record : rec ≡ over (record_of (job_of rec) (load rec)) rec
  legal-record =
      ext_get_or 0 rec (new ++ rest) (omega (arith, length-append new rest, length-drop (length new) rec, size, g.long))
      (λ i l. by i (ltb i record_size) (ltb→lt i record_size) (nltb→le i record_size))
    where
      new : List ℕ
      new = record_of (job_of rec) (load rec)

      rest : List ℕ
      rest = drop (length new) rec

      size : length new ≡ record_size
      size = length-record (job_of rec) (load rec)

      by : (i : ℕ) (w : Bool) → (T w → i < record_size) → (T (not w) → record_size ≤ i) → get_or rec i 0 ≡ get_or (new ++ rest) i 0
      by i true p q = sym (get-over new rest size i (p tt) ∙ made_again i (p tt))
      by i false p q =
          let k : i ≡ length new + (i - record_size) = omega (arith, q tt, size) in
          sym
          (ap (λ (n : ℕ). get_or (new ++ rest) n 0) k
          ∙ (get_or-append-add new rest (i - record_size) 0
          ∙ (get_or-drop (length new) rec (i - record_size) 0 ∙ ap (λ (n : ℕ). get_or rec n 0) (sym k))))

  pub legal-bytes : (i : ℕ) → i < record_size → get_or rec i 0 < 256
  legal-bytes i l = by (region i l)
    where
      by : Region i → get_or rec i 0 < 256
      by (head h) = omega (arith, (head-again i h).0, (head-again i h).1)
      by (plane j e h) =
          omega (arith, ap (λ (n : ℕ). get_or rec n 0) e, cell-get rec j h, (plane-again (j / 1600) (j % 1600 / 40) (j % 40) (omega arith)).1)
