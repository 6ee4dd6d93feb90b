-- The pages together are the listing, and what it leaves in an output. Assumes nothing.
use Rattle.std.specs.Prelude.{◌≡◌, ◌≢◌, Bool, true, false, length, take, drop, Option, Some, None}
use Rattle.std.proofs.Math.Path.{refl, ap}
use Rattle.std.proofs.Common.{sym, ap₂, ◌∙◌, arith, length-append, le-leb, lt-ltb}
use mathlib.Core.List.{List, [], ◌++◌}
use Prim.Native.Nat.{ℕ, ◌+◌, ◌/◌, ◌%◌, ◌≤◌, ◌<◌}
use Rattle.std.proofs.lemmas.List.Edits.{sets-eq}
use Rattle.std.proofs.lemmas.Bool.{lt-leb}
use Rattle.sums.specs.Counting.{when}
use Rattle.model.specs.Job.{Job}
use Rattle.model.specs.Links.{Step}
use Rattle.model.specs.Record.{job_of, load, over}
use Rattle.model.specs.Length.{held_length}
use Rattle.model.specs.Listing.{close, line, pair_line, length_word, mean_word, mean_quotient, mean_rest, wires_line, wires_from, length_line, mean_line, wires_listing}
use Rattle.model.specs.Wires.{wire_count}
use Rattle.model.specs.Calls.{refused, wrote, After, after, listed_out}
use Rattle.listing.specs.Puts.{Puts, Parts, puts-as, puts_then, puts-page}
use Rattle.listing.specs.declared.wires.Position.{Position}
use Rattle.listing.specs.declared.wires.Cursor.{Cursor}
use Rattle.listing.specs.Left.{index_of, left, left_at}
use Rattle.listing.specs.Passed.{left-first}

-- "7 output shorter than the text. Gives the length": the answer, the record and the output afterwards
abbrev pub listed_as : Option ℕ → List ℕ → List ℕ → After
listed_as (Some n) rec out = after (wrote n) rec [] out
listed_as None rec out = after (refused 7) rec [] out

-- ---- from the first page to the last

module _ (J : Job) (f : Step → ℕ) where
  -- the lines behind the wires
  abbrev pub total_lines : List ℕ
  total_lines = length_line J f ++ mean_line J f

  -- what is left at the first cursor is all
  first-left : (c : Cursor) → c.cell ≡ 0 → c.inside ≡ None → left_at J f (Some c) ≡ wires_from J f 0
  first-left c a b = ap₂ (λ (p : ℕ) (o : Option Position). left J f p (index_of o)) a b ∙ left-first J f 0 0 refl

  -- the first line, all wires, and the lines behind them
  pub listing-first : (c : Cursor) → c.cell ≡ 0 → c.inside ≡ None → wires_listing J f ≡ wires_line J f ++ (left_at J f (Some c) ++ total_lines)
  unfolding wires_listing
  listing-first c a b = ap (λ (l : List ℕ). wires_line J f ++ (l ++ total_lines)) (sym (first-left c a b))

  -- the first line is laid; so much is left
  pub listing-begun : {at r : ℕ} {c : Cursor} {old new : List ℕ} → c.cell ≡ 0 → c.inside ≡ None → Puts (wires_line J f) at old new r
      → r + (length (left_at J f (Some c)) + length total_lines) ≡ at + length (wires_listing J f)
  listing-begun {c = c} a b P =
      omega (
        arith,
        P.next,
        ap length (listing-first c a b),
        length-append (wires_line J f) (left_at J f (Some c) ++ total_lines),
        length-append (left_at J f (Some c)) total_lines,
      )

  -- the first line, all wires and the lines behind them, each laid behind the other
  pub listing-laid : {at m n r : ℕ} {c : Cursor} {old mid more new : List ℕ} → c.cell ≡ 0 → c.inside ≡ None → Puts (wires_line J f) at old mid m
      → Puts (left_at J f (Some c)) m mid more n → Puts total_lines n more new r → Puts (wires_listing J f) at old new r
  listing-laid {c = c} a b P Q R = puts-as (sym (listing-first c a b)) (puts_then P (puts_then Q R))

  -- where there is no cursor nothing is left
  pub left-done : (c : Option Cursor) → c ≡ None → left_at J f c ≡ []
  left-done c e = ap (left_at J f) e

-- ---- the mean

pub mean-none : (n : ℕ) {w : ℕ} → w ≡ 0 → 0 ≡ mean_quotient n w
mean-none n e = sym (ap (mean_quotient n) e)

pub mean-some : (n w : ℕ) → w ≢ 0 → n / w ≡ mean_quotient n w
mean-some n w h = sym (ap (λ (b : Bool). when b (n / w)) (lt-ltb 0 w (omega (arith, h))))

pub rest-none : (n : ℕ) {w : ℕ} → w ≡ 0 → 0 ≡ mean_rest n w
rest-none n e = sym (ap (mean_rest n) e)

pub rest_some : (n w : ℕ) → w ≢ 0 → n % w ≡ mean_rest n w
rest_some n w h = sym (ap (λ (b : Bool). when b (n % w)) (lt-ltb 0 w (omega (arith, h))))

-- the two lines, from the numbers that a program has
pub totals-laid : (J : Job) (f : Step → ℕ) {n w q r at m k : ℕ} {old mid new : List ℕ} → n ≡ held_length J f → w ≡ wire_count J f → q ≡ mean_quotient n w
    → r ≡ mean_rest n w → Puts (line length_word n) at old mid m → Puts (pair_line mean_word q r close) m mid new k → Puts (total_lines J f) at old new k
totals-laid J f {n} {w} {q} {r} a b c d P Q =
    puts_then (puts-as (ap (line length_word) a) P)
    (puts-as
    (ap₂ (λ (x y : ℕ). pair_line mean_word x y close) (c ∙ ap₂ mean_quotient a b) (d ∙ ap₂ mean_rest a b)) Q)

-- ---- pages copied

-- a page, copied behind what is laid
pub lines_copied : {bytes empty page mid new : List ℕ} {k m n : ℕ} → Puts bytes 0 empty page k → k ≤ length empty → Puts (take k page) m mid new n
    → Puts bytes m mid new n
lines_copied P l Q = puts-as (sym (puts-page P l)) Q

pub page-copied : {before rest empty page mid new : List ℕ} {k m n : ℕ} → Parts before rest 0 empty page k → k ≤ length empty → Puts (take k page) m mid new n
    → Parts before rest m mid new n
page-copied P l Q = record { bytes = P.bytes; puts = lines_copied P.puts l Q; split = P.split }

-- ---- the answers

module _ (rec out : List ℕ) where
  abbrev text : List ℕ
  text = wires_listing (job_of rec) (load rec)

  -- what is written, by whether the output has room
  abbrev picked : Bool → After
  picked b = elim b [ false ↦ after (refused 7) rec [] out | true ↦ after (wrote (length text)) rec [] (over text out) ]

  pub lists-short : length out < length text → listed_as None rec out ≡ listed_out out rec
  lists-short l = sym (ap picked (lt-leb (length text) (length out) l))

  pub lists-whole : {out' : List ℕ} {n : ℕ} → length text ≤ length out → Puts text 0 out out' n → listed_as (Some n) rec out' ≡ listed_out out rec
  lists-whole {out'} {n} l p =
      let e : n ≡ length text = omega (arith, p.next) in
      let k : 0 + length text ≡ length text = omega arith in
      let laid : out' ≡ over text out = p.bytes ∙ (sets-eq text out 0 (omega (arith, l)) ∙ ap (λ (m : ℕ). text ++ drop m out) k) in
      (λ i. after (wrote (e i)) rec [] (laid i)) ∙ sym (ap picked (le-leb (length text) (length out) l))
