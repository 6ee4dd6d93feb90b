-- How a page of wires is filled: a part more, the end of a line, a cell without a wire, and one after the other. Assumes nothing.
use Rattle.std.specs.Prelude.{◌≡◌, Bool, ◌&&◌, ltb, Option as Maybe, Some, None}
use Rattle.std.proofs.Math.Path.{refl, ap}
use Rattle.std.proofs.Common.{sym, subst, ◌∙◌, ltb-true, ltb-false}
use Rattle.std.proofs.Math.Bool.{true, false}
use mathlib.Core.List.{List, [], ◌∷◌, ◌++◌, append_assoc}
use Rattle.std.proofs.Math.Option.{none, some}
use Prim.Native.Nat.{ℕ, zero, suc, ◌+◌, ◌-◌, ◌≤◌, ◌<◌}
use native.Mathlib.Omega.{arith}
use Rattle.std.proofs.Math.Dec.{T}
use Rattle.sums.specs.Counting.{only}
use Rattle.sums.specs.Entries.{entry-below}
use Rattle.model.specs.Job.{Job, is_chosen}
use Rattle.model.specs.Links.{pin, at, Step}
use Rattle.model.specs.Loads.{departures}
use Rattle.model.specs.Record.{job_of, load, Legal}
use Rattle.model.specs.Wires.{Part, unwired, hop_at, is_wired, part_of, part_at}
use Rattle.model.specs.Listing.{close, pair_line, spread, row, column, wire_word, part_bytes, parts_bytes, wire_line, cell_wire, wires_from}
use Rattle.wire.specs.declared.Hop.{Hop as Taken}
use Rattle.wire.specs.Hops.{hop, Runs}
use Rattle.wire.specs.Follow.{none-on}
use Rattle.wire.specs.Threads.{Thread, hops, thread, thread-wire}
use Rattle.wire.specs.Lengths.{places-few, goes-short}
use Rattle.listing.specs.Spread.{spread-first, spread_none, each-spread}
use Rattle.listing.specs.Puts.{Puts, puts_then, parts_none, parts_then}
use Rattle.listing.specs.Walked.{part_none}
use Rattle.listing.specs.declared.wires.Position.{Position}
use Rattle.listing.specs.declared.wires.Cursor.{Cursor}
use Rattle.listing.specs.Left.{index_of, parts_left, hop_left, left, left_at, ahead, ahead_at, line_start, Inside, Begins, Stands, StandsAt, Passes}

-- ---- inside a line

module _ (J : Job) (f : Step → ℕ) where
  pub left-hop : (p i : ℕ) → 0 < i → left J f p i ≡ hop_left J f p i
  unfolding left
  left-hop p zero h = absurd (omega arith)
  left-hop p (suc i) h = refl

  -- the line of a cell, and what is behind it
  wires-first : (p : ℕ) → p < 1600 → wires_from J f p ≡ cell_wire J f p ++ wires_from J f (p + 1)
  wires-first p h = spread-first (cell_wire J f) p 1600 h

  abbrev line_with : Bool → ℕ → List ℕ
  line_with b p = only b (pair_line wire_word (row p) (column p) (41 ∷ []) ++ (parts_bytes J f (row p) (column p) 11201 ++ close))

  pub wires-none : (p : ℕ) → p < 1600 → is_wired J f (row p) (column p) ≡ false → wires_from J f p ≡ wires_from J f (p + 1)
  unfolding wire_line
  wires-none p h e = wires-first p h ∙ ap (λ (b : Bool). line_with b p ++ wires_from J f (p + 1)) e

  pub wires-some : (p : ℕ) → p < 1600 → is_wired J f (row p) (column p) ≡ true
      → wires_from J f p ≡ pair_line wire_word (row p) (column p) (41 ∷ []) ++ hop_left J f p 0
  unfolding wire_line parts_bytes hop_left
  wires-some p h e =
      let front : List ℕ = pair_line wire_word (row p) (column p) (41 ∷ []) in
      let g : ℕ → List ℕ = λ i. part_bytes (part_at J f (row p) (column p) i) in
      wires-first p h
      ∙ (ap (λ (b : Bool). line_with b p ++ wires_from J f (p + 1)) e
      ∙ (append_assoc front (parts_bytes J f (row p) (column p) 11201 ++ close) (wires_from J f (p + 1))
      ∙ ap (λ (l : List ℕ). front ++ ((l ++ close) ++ wires_from J f (p + 1))) (each-spread g 11201)))

  hop-more : (p i : ℕ) → i ≤ 11200 → hop_left J f p i ≡ part_bytes (part_at J f (row p) (column p) i) ++ hop_left J f p (i + 1)
  unfolding hop_left
  hop-more p i l =
      let g : ℕ → List ℕ = λ j. part_bytes (part_at J f (row p) (column p) j) in
      let rest : List ℕ = parts_left J f (row p) (column p) (i + 1) in
      ap (λ (x : List ℕ). (x ++ close) ++ wires_from J f (p + 1)) (spread-first g i 11201 (omega arith))
      ∙ (ap (λ (x : List ℕ). x ++ wires_from J f (p + 1)) (append_assoc (g i) rest close) ∙ append_assoc (g i) (rest ++ close) (wires_from J f (p + 1)))

-- ---- a legal record

module _ (rec : List ℕ) (legal : Legal rec) where
  abbrev J : Job
  J = job_of rec

  abbrev f : Step → ℕ
  f = load rec

  -- no wire of a legal record has more than 11,201 parts
  pub inside-few : (p i d l : ℕ) → Inside rec p i d l → i ≤ 11200
  inside-few p i d l s =
      let t : Thread J f (row p) (column p) = thread J f legal.sound (row p) (column p) s.wired in
      omega (
        arith,
        goes-short J f legal.sound t.first t.rest t.loaded t.goes,
        places-few J legal.values.array,
        entry-below (hops t) i (hop d l) (sym (thread-wire J f legal.sound (row p) (column p) t i) ∙ s.hop),
      )

  -- the part of the hop at which a page stands, and what is behind it
  part-wired : (r c i : ℕ) → T (is_wired J f r c) → part_of J f (hop_at J f r c i) ≡ part_at J f r c i
  unfolding part_at
  part-wired r c i t = by (is_wired J f r c) t
    where
      by : (b : Bool) → T b → part_of J f (hop_at J f r c i) ≡ elim b as (λ z. Part) [ true ↦ part_of J f (hop_at J f r c i) | false ↦ unwired ]
      by true u = refl
      by false u = absurd u

  inside-left : (p i d l : ℕ) (part : Part) → Inside rec p i d l → part ≡ part_of J f (some (hop d l))
      → hop_left J f p i ≡ part_bytes part ++ hop_left J f p (i + 1)
  inside-left p i d l part s e =
      hop-more J f p i (inside-few p i d l s)
      ∙ ap (λ (x : Part). part_bytes x ++ hop_left J f p (i + 1))
      (sym (e ∙ (ap (part_of J f) (sym s.hop) ∙ part-wired (row p) (column p) i s.wired)))

  hop-last : (p i : ℕ) → hop_at J f (row p) (column p) i ≡ none → hop_left J f p i ≡ close ++ wires_from J f (p + 1)
  unfolding hop_left
  hop-last p i e =
      ap (λ (x : List ℕ). (x ++ close) ++ wires_from J f (p + 1))
      (spread_none (λ j. part_bytes (part_at J f (row p) (column p) j)) (11201 - i) i
      (λ j h.
      let more : i + (j - i) ≡ j = omega arith in
      part_none J f (row p) (column p) j (ap (hop_at J f (row p) (column p)) (sym more) ∙ none-on J f legal.sound (row p) (column p) i (j - i) e)))

-- ---- the place where a page ends

pub stands-first : (rec : List ℕ) (c : Cursor) → c.cell < 1600 → c.inside ≡ None → Stands rec c
stands-first rec c k o = record { cell = k; begins = subst (Begins rec c.cell) (sym o) tt }

pub stands-few : (rec : List ℕ) → Legal rec → (c : Cursor) → Stands rec c → index_of c.inside ≤ 11200
stands-few rec g c s = by c.inside s.begins
  where
    by : (o : Maybe Position) → Begins rec c.cell o → index_of o ≤ 11200
    by None t = omega arith
    by (Some a) t = inside-few rec g c.cell a.index a.hop.dart a.hop.lane t.1

pub left-first : (J : Job) (f : Step → ℕ) (p i : ℕ) → i ≡ 0 → left J f p i ≡ wires_from J f p
unfolding left
left-first J f p i e = ap (left J f p) e

-- a part more, a line more, and all lines lead further
pub ahead-part : (p i : ℕ) → p < 1600 → i ≤ 11200 → ahead p (i + 1) < ahead p i
unfolding ahead
ahead-part p i a b = omega arith

pub ahead-line : (p i q j : ℕ) → p < 1600 → i ≤ 11200 → q ≡ p + 1 → j ≡ 0 → ahead q j < ahead p i
unfolding ahead
ahead-line p i q j a b e z = omega arith

pub ahead-done : (p i q j : ℕ) → p < 1600 → i ≤ 11200 → 1600 ≤ q → ahead q j < ahead p i
unfolding ahead
ahead-done p i q j a b e = omega arith

-- the same of cursors
pub ahead-start : (p i : ℕ) → p < 1600 → i ≤ 11200 → ahead_at (line_start (p + 1)) < ahead p i
unfolding ahead
ahead-start p i a b = by (ltb (p + 1) 1600)
  where
    by : (t : Bool) → ahead_at (elim t [ true ↦ Some (record { cell = p + 1; inside = None }) | false ↦ None ]) < ahead p i
    by true = omega arith
    by false = omega arith

pub ahead-none : (p i : ℕ) → p < 1600 → i ≤ 11200 → 0 < ahead p i
unfolding ahead
ahead-none p i a b = omega arith

-- the line of the cell p, or nothing
module _ (rec : List ℕ) (p : ℕ) (h : p ≤ 1600) where
  pub line-left : left_at (job_of rec) (load rec) (line_start p) ≡ wires_from (job_of rec) (load rec) p
  unfolding left spread
  line-left = by (ltb p 1600) refl
    where
      by : (t : Bool) → ltb p 1600 ≡ t
          → left_at (job_of rec) (load rec) (elim t [ true ↦ Some (record { cell = p; inside = None }) | false ↦ None ]) ≡ wires_from (job_of rec) (load rec) p
      by true q = refl
      by false q = let e : 1600 ≡ p = omega (arith, ltb-false p 1600 q) in ap (wires_from (job_of rec) (load rec)) e

  pub line-stands : StandsAt rec (line_start p)
  line-stands = by (ltb p 1600) refl
    where
      by : (t : Bool) → ltb p 1600 ≡ t → StandsAt rec (elim t [ true ↦ Some (record { cell = p; inside = None }) | false ↦ None ])
      by true q = record { cell = ltb-true p 1600 q; begins = tt }
      by false q = tt

pub unchosen : (J : Job) (f : Step → ℕ) (r c : ℕ) → is_chosen J r c ≡ false → is_wired J f r c ≡ false
unfolding is_wired
unchosen J f r c e = ap (λ (b : Bool). b && ltb 0 (departures f (at pin r c))) e

-- ---- filling a page

module _ {rec : List ℕ} where
  pub passes_none : {old : List ℕ} {at : ℕ} {c : Maybe Cursor} → StandsAt rec c → Passes rec (left_at (job_of rec) (load rec) c) at old old at c
  passes_none s = record { parts = parts_none; stands = s }

  pub passes_then : {before old mid new : List ℕ} {at m n : ℕ} {c d : Maybe Cursor} → Passes rec before at old mid m c
      → Passes rec (left_at (job_of rec) (load rec) c) m mid new n d → Passes rec before at old new n d
  passes_then P Q = record { parts = parts_then P.parts Q.parts; stands = Q.stands }

  -- what is left by another name
  pub passes-as : {a b old new : List ℕ} {at n : ℕ} {c : Maybe Cursor} → b ≡ a → Passes rec a at old new n c → Passes rec b at old new n c
  passes-as e P =
      record { parts = record { bytes = P.parts.bytes; puts = P.parts.puts; split = e ∙ P.parts.split }; stands = P.stands }

  -- some bytes more in front
  pub passes-behind : {front before old mid new : List ℕ} {at m n : ℕ} {c : Maybe Cursor} → Puts front at old mid m → Passes rec before m mid new n c
      → Passes rec (front ++ before) at old new n c
  passes-behind {front} F P = record { parts = parts_then (record { bytes = front; puts = F; split = refl }) P.parts; stands = P.stands }

  -- up to the line of the next cell
  pub passes-cell : {bytes old new : List ℕ} {at n p : ℕ} {c : Maybe Cursor} → p < 1600 → c ≡ line_start (p + 1) → Puts bytes at old new n
      → Passes rec (bytes ++ wires_from (job_of rec) (load rec) (p + 1)) at old new n c
  passes-cell {bytes} {old} {new} {at} {n} {p} {c} k e P =
      subst (λ (z : Maybe Cursor). Passes rec (bytes ++ wires_from (job_of rec) (load rec) (p + 1)) at old new n z) (sym e)
      (record {
        parts = record { bytes = bytes; puts = P; split = ap (λ (x : List ℕ). bytes ++ x) (sym (line-left rec (p + 1) (omega arith))) };
        stands = line-stands rec (p + 1) (omega arith);
      })

  module _ (legal : Legal rec) {p i d l : ℕ} (s : Inside rec p i d l) {part : Part} (e : part ≡ part_of (job_of rec) (load rec) (some (hop d l))) {at m : ℕ} {old mid : List ℕ} (P : Puts (part_bytes part) at old mid m) where
    -- a part, and the next
    pub passes-part : {h : Taken} → hop_at (job_of rec) (load rec) (row p) (column p) (i + 1) ≡ some (hop h.dart h.lane) → Runs rec h.dart h.lane
        → Passes rec (hop_left (job_of rec) (load rec) p i) at old mid m (Some (record { cell = p; inside = Some (record { index = i + 1; hop = h }) }))
    passes-part q r =
        record {
          parts =
              record {
                bytes = part_bytes part;
                puts = P;
                split =
                    inside-left rec legal p i d l part s e
                    ∙ ap (λ (x : List ℕ). part_bytes part ++ x) (sym (left-hop (job_of rec) (load rec) p (i + 1) (omega arith)));
              };
          stands = record { cell = s.cell; begins = (omega arith, record { cell = s.cell; wired = s.wired; hop = q; runs = r }) };
        }

    -- the last part, and the end of the line
    pub passes-last : {new : List ℕ} {n : ℕ} {c : Maybe Cursor} → hop_at (job_of rec) (load rec) (row p) (column p) (i + 1) ≡ none → Puts close m mid new n
        → c ≡ line_start (p + 1) → Passes rec (hop_left (job_of rec) (load rec) p i) at old new n c
    passes-last o Q ec =
        passes-as
        (inside-left rec legal p i d l part s e
        ∙ (ap (λ (x : List ℕ). part_bytes part ++ x) (hop-last rec legal p (i + 1) o)
        ∙ sym (append_assoc (part_bytes part) close (wires_from (job_of rec) (load rec) (p + 1)))))
        (passes-cell s.cell ec (puts_then P Q))
