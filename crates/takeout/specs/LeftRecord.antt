-- The record after wires are taken out is an equation: the record of the same job with the loads of the wires that stay, over the bytes that stood behind
-- it. For its load bytes are in range, its loads are sound, and every other byte is what it was; and a legal record is that of its job and loads.
-- Assumes nothing.
use Rattle.std.specs.Prelude.{◌≡◌, ◌≢◌, Bool, true, false, not, ◌&&◌, List, ◌++◌, ℕ, ◌+◌, ◌*◌, ◌≤◌, ◌<◌, T, length, get_or, drop}
use Rattle.std.proofs.Common.{sym, ap, ap₂, subst, ◌∙◌, length-drop, ext_get_or, get_or-drop}
use Rattle.std.proofs.Math.Path.{fun_ext}
use native.Mathlib.Omega.{arith}
use Rattle.std.proofs.Math.Dec.{ltb, ltb→lt}
use Rattle.sums.specs.Counting.{when}
use Rattle.sums.specs.Sums.{when-cong}
use Rattle.sums.specs.Tests.{and_left, and_right}
use Rattle.model.specs.Job.{Job, AddedFits, array_fits, caps_fit, is_pin, is_tile}
use Rattle.model.specs.Links.{LinkKind, Link, Step}
use Rattle.model.specs.Loads.{Sound}
use Rattle.model.specs.Record.{record_size, laid_north_plane, laid_west_plane, own_d_plane, offset, load_plane, cell, added_of, job_of, forth_part, back_part, load, Legal, record_of, over}
use Rattle.model.specs.Left.{left_loads}
use Rattle.model.proofs.RecordOf.{in_cells, cells-row, cells-column, plane-below, length-record}
use Rattle.model.proofs.LegalRecord.{legal-record}
use Rattle.keep.specs.Pins.{kept-sound}
use Rattle.keep.specs.Staying.{left-same, left-part}
use Rattle.takeout.specs.Lessened.{Lessened, Behind}

module _ (was rec : List ℕ) (g : Legal was) (out : Step → ℕ) (L : Lessened was rec out) where
  cell-kept : (p r c : ℕ) → p < 2 → cell rec p r c ≡ cell was p r c
  unfolding cell
  cell-kept p r c l =
      when-cong (in_cells r c) _ _ (λ t. L.head (offset p r c) (below p r c l (cells-row r c t) (cells-column r c t)))
    where
      below : (p r c : ℕ) → p < 2 → r < 40 → c < 40 → offset p r c < offset 2 0 0
      below p r c l m n = omega arith

  cell-behind : (p r c : ℕ) → 17 ≤ p → p < 20 → cell rec p r c ≡ cell was p r c
  unfolding cell
  cell-behind p r c a l =
      when-cong (in_cells r c) _ _
      (λ t. L.rest (offset p r c) (above p r c a) (below p r c l (cells-row r c t) (cells-column r c t)))
    where
      above : (p r c : ℕ) → 17 ≤ p → offset 17 0 0 ≤ offset p r c
      above p r c a = omega arith

      below : (p r c : ℕ) → p < 20 → r < 40 → c < 40 → offset p r c < record_size
      below p r c l m n = omega arith

  added-kept : added_of rec ≡ added_of was
  unfolding added_of
  added-kept =
      λ i. record {
        laid_north = λ r c. cell-behind laid_north_plane r c (omega arith) (omega arith) i;
        laid_west = λ r c. cell-behind laid_west_plane r c (omega arith) (omega arith) i;
        own_d = λ r c. cell-behind own_d_plane r c (omega arith) (omega arith) i;
        upward = L.head 5 (omega arith) i;
        seen = λ p k. seen p k i;
      }
    where
      seen : (p k : ℕ) → when (ltb p 4 && ltb k 4) (get_or rec (6 + 4 * p + k) 0) ≡ when (ltb p 4 && ltb k 4) (get_or was (6 + 4 * p + k) 0)
      seen p k =
          when-cong (ltb p 4 && ltb k 4) _ _
          (λ t. L.head (6 + 4 * p + k) (omega (arith, ltb→lt p 4 (and_left (ltb p 4) (ltb k 4) t), ltb→lt k 4 (and_right (ltb p 4) (ltb k 4) t))))

  pub job-kept : job_of rec ≡ job_of was
  unfolding job_of
  job-kept =
      λ i. record {
        rows = L.head 0 (omega arith) i;
        columns = L.head 1 (omega arith) i;
        O = L.head 2 (omega arith) i;
        D = L.head 3 (omega arith) i;
        E = L.head 4 (omega arith) i;
        mark = λ r c. cell-kept 0 r c (omega arith) i;
        state = λ r c. cell-kept 1 r c (omega arith) i;
        added = added-kept i;
      }

  -- the record is legal if its loads are sound
  pub lessened-legal : record_size ≤ length rec → Sound (job_of was) (load rec) → Legal rec
  lessened-legal long s =
      record {
        long = long;
        values =
            record {
              array = subst (λ (J : Job). T (array_fits J.rows J.columns)) (sym job-kept) g.values.array;
              caps = subst (λ (J : Job). T (caps_fit J.O J.D J.E)) (sym job-kept) g.values.caps;
              marks = subst (λ (J : Job). (r c : ℕ) → J.mark r c ≤ 2) (sym job-kept) g.values.marks;
              states = subst (λ (J : Job). (r c : ℕ) → J.state r c ≤ 1) (sym job-kept) g.values.states;
              added = subst (λ (J : Job). AddedFits J) (sym job-kept) g.values.added;
              loads = L.bytes;
            };
        sound = subst (λ (J : Job). Sound J (load rec)) (sym job-kept) s;
        unused =
            record {
              header = λ i a b. L.head i (omega arith) ∙ g.unused.header i a b;
              marks = subst (λ (J : Job). (r c : ℕ) → T (not (is_pin J r c)) → J.mark r c ≡ 0) (sym job-kept) g.unused.marks;
              states = subst (λ (J : Job). (r c : ℕ) → T (not (is_tile J r c)) → J.state r c ≡ 0) (sym job-kept) g.unused.states;
            };
      }

-- bytes behind the record
over-as : (new a b : List ℕ) → length new ≡ record_size → length a ≡ length b → ((i : ℕ) → record_size ≤ i → get_or a i 0 ≡ get_or b i 0) → over new a ≡ over new b
over-as new a b e l h =
    ap (λ (r : List ℕ). new ++ r)
    (ext_get_or 0 (drop (length new) a) (drop (length new) b) (omega (arith, length-drop (length new) a, length-drop (length new) b))
    (λ i k. get_or-drop (length new) a i 0 ∙ (h (length new + i) (omega arith) ∙ sym (get_or-drop (length new) b i 0))))

-- from the record `was`, or a copy of it, to what is left of rec
module _ (was rec rec' : List ℕ) (g : Legal was) (long : record_size ≤ length rec) (behind : Behind rec rec') (gone : ℕ → ℕ → Bool)
    (L : Lessened was rec' (left_loads (job_of was) (load was) gone)) where
  abbrev stays : ℕ → ℕ → Bool
  stays q d = not (gone q d)

  abbrev J : Job
  J = job_of was

  abbrev left : Step → ℕ
  left = left_loads J (load was) stays

  loads-left : load rec' ≡ left
  loads-left = fun_ext (λ s. omega (arith, L.loads s, left-part J (load was) g.sound gone s))

  left-sound : Sound J (load rec')
  left-sound =
      subst (λ (f : Step → ℕ). Sound J f) (left-same J (load was) g.sound stays ∙ sym loads-left)
      (kept-sound J (load was) g.sound stays)

  pub left-record : rec' ≡ over (record_of (job_of was) (left_loads (job_of was) (load was) (λ q d. not (gone q d)))) rec
  left-record =
      legal-record rec' (lessened-legal was rec' g _ L (omega (arith, behind.size)) left-sound)
      ∙ (ap₂ (λ (K : Job) (f : Step → ℕ). over (record_of K f) rec') (job-kept was rec' g _ L) loads-left
      ∙ over-as (record_of J left) rec' rec (length-record J left) behind.size behind.rest)

-- ---- a copy

-- the first 32,768 bytes are the same
abbrev pub SameRecord : List ℕ → List ℕ → Type 0
SameRecord was rec = (i : ℕ) → i < record_size → get_or rec i 0 ≡ get_or was i 0

pub same-lessened : (was rec : List ℕ) → Legal was → SameRecord was rec → Lessened was rec (λ s. 0)
unfolding cell load
same-lessened was rec g e =
    record {
      head = λ i l. e i (omega arith);
      rest = λ i a b. e i b;
      bytes = λ k r c. subst (λ (n : ℕ). (n < 64) × (n ≢ 32)) (sym (same k r c)) (g.values.loads k r c);
      loads = λ s. omega (arith, way s.link s.forth);
    }
  where
    below : (p r c : ℕ) → p < 17 → r < 40 → c < 40 → offset p r c < record_size
    below p r c l a b = omega arith

    same : (k : LinkKind) (r c : ℕ) → cell rec (load_plane k) r c ≡ cell was (load_plane k) r c
    same k r c =
        when-cong (in_cells r c) _ _ (λ t. e (offset (load_plane k) r c) (below (load_plane k) r c (plane-below k) (cells-row r c t) (cells-column r c t)))

    way : (l : Link) (b : Bool) → load rec (record { link = l; forth = b }) ≡ load was (record { link = l; forth = b })
    way l true = ap forth_part (same l.kind l.row l.column)
    way l false = ap back_part (same l.kind l.row l.column)

-- a copy of a legal record is legal, with the same job and the same loads
module _ (was rec : List ℕ) (g : Legal was) (e : SameRecord was rec) where
  pub copy-job : job_of rec ≡ job_of was
  copy-job = job-kept was rec g (λ s. 0) (same-lessened was rec g e)

  pub copy-loads : load rec ≡ load was
  copy-loads = fun_ext (λ s. omega (arith, (same-lessened was rec g e).loads s))

  pub copy-legal : record_size ≤ length rec → Legal rec
  copy-legal long =
      lessened-legal was rec g (λ s. 0) (same-lessened was rec g e) long (subst (λ (h : Step → ℕ). Sound (job_of was) h) (sym copy-loads) g.sound)
