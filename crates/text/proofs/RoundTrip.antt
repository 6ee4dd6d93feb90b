-- Reading and writing in code undo each other: the model's round trip, carried over the two contracts. Assumes nothing.
use mathlib.Core.Path.{◌≡◌, refl, sym, ap, subst, ◌∙◌}
use mathlib.Core.Bool.{Bool, true, false}
use mathlib.Core.List.{List}
use Rattle.std.specs.Prelude.{Option, Some, None, Result, Ok, Err}
use Prim.Native.Nat.{ℕ, ◌≤◌}
use native.Mathlib.Omega.{arith}
use borrow.Author.Tests.{le-leb}
use lib.Dec.{leb}
use lib.ListN.{length, take, drop}
use lib.Seq.{take-append_seam}
use Rattle.model.specs.Job.{Job}
use Rattle.model.specs.Record.{job_of, Legal, unwired_record, over}
use Rattle.model.specs.Text.{reads, Reading, text_of}
use Rattle.model.specs.Calls.{refused, wrote, After, written}
use Rattle.model.proofs.Over.{anew-legal, anew-job, legal-proper}
use Rattle.model.proofs.TextProper.{reading-proper}
use Rattle.model.proofs.TextUnique.{reads-unique}
use Rattle.model.proofs.RoundTrip.{round_trip}
use Rattle.text.specs.declared.reader.WrongLine.{WrongLine}
use Rattle.text.specs.Into.{ReadsInto}
use Rattle.writing.specs.Writer.{wrote_text}
use Rattle.text.specs.RoundTrip.{CodeRoundTrip}
use Rattle.text.proofs.Writing.{same-job, not-both}
use Rattle.writing.proofs.Placed.{picked}

-- ---- what writing came to

module _ (rec out out' : List ℕ) where
  abbrev text : List ℕ
  text = text_of (job_of rec)

  -- a length is given only where there is room
  wrote-is : (n : ℕ) → wrote_text (Some n) rec out' ≡ written out rec → (n ≡ length text) × (out' ≡ over text out)
  wrote-is n e = by (leb (length text) (length out)) e
    where
      by : (b : Bool) → wrote_text (Some n) rec out' ≡ picked rec out b → (n ≡ length text) × (out' ≡ over text out)
      by true q = let a : wrote n ≡ wrote (length text) = ap (λ (x : After). x.answer) q in (cc, ap (λ (x : After). x.output) q)
      by false q =
          let a : wrote n ≡ refused 7 = ap (λ (x : After). x.answer) q in
          let z : ◌≡◌ {A = ℕ} 0 1 = cc in
          absurd (omega arith)

  -- where there is room it is given
  room-wrote : (r : Option ℕ) → length text ≤ length out → wrote_text r rec out' ≡ written out rec → r ≡ Some (length text)
  room-wrote (Some n) l e = ap Some (wrote-is n e).0
  room-wrote None l e =
      let a : refused 7 ≡ wrote (length text) =
      ap (λ (x : After). x.answer) (e ∙ ap (picked rec out) (le-leb (length text) (length out) l)) in
      let z : ◌≡◌ {A = ℕ} 0 1 = cc in
      absurd (omega arith)

-- ---- reading what was written

one-job : (text buffer buffer' : List ℕ) (K : Job) (j : Result (Unit {0}) WrongLine) → Reading text (reads K) → ReadsInto text buffer buffer' j
    → (j ≡ Ok tt) × (buffer' ≡ over (unwired_record K) buffer)
one-job _ buffer buffer' K (Ok tt) h (L, k, e) = (refl, e ∙ ap (λ (J : Job). over (unwired_record J) buffer) (same-job L K (reads-unique k h)))
one-job text buffer buffer' K (Err w) h (k, e) = absurd (not-both text K w.offset h k)

-- ---- the theorem

pub code-round-trip : CodeRoundTrip
code-round-trip =
    record {
      reads-written = λ rec out out' n g small e buffer buffer' j h.
          let T : List ℕ = text_of (job_of rec) in
          let (p, q) = wrote-is rec out out' n e in
          let same : take n out' ≡ T = (λ i. take (p i) (q i)) ∙ take-append_seam T (drop (length T) out) in
          one-job T buffer buffer' (job_of rec) j (round_trip.reads-written (job_of rec) (legal-proper rec g) small)
          (subst (λ (s : List ℕ). ReadsInto s buffer buffer' j) same h);
      read-legal = λ text rec rec' (K, h, e). subst Legal (sym e) (anew-legal K (reading-proper text K h) rec);
      writes-read = λ text rec rec' (K, h, e) out out' r w l.
          let job : job_of rec' ≡ K = ap job_of e ∙ anew-job K (reading-proper text K h) rec in
          let back : text_of (job_of rec') ≡ text = ap text_of job ∙ round_trip.writes-read text K h in
          let is : r ≡ Some (length (text_of (job_of rec'))) = room-wrote rec' out out' r (omega (arith, ap length back)) w in
          let (p, q) = wrote-is rec' out out' (length (text_of (job_of rec'))) (ap (λ (s : Option ℕ). wrote_text s rec' out') (sym is) ∙ w) in
          (is ∙ ap (λ (s : List ℕ). Some (length s)) back, q ∙ ap (λ (s : List ℕ). over s out) back);
    }
