-- Laws of putting: parts put one after the other are put as one part, an output keeps its length, and the whole text at the start of an output is what
-- writing it leaves. Assumes nothing.
use mathlib.Core.Path.{◌≡◌, refl, sym, ap, subst, ◌∙◌}
use mathlib.Core.Bool.{Bool, true, false}
use mathlib.Core.List.{List, [], ◌∷◌, ◌++◌}
use Rattle.std.specs.Prelude.{Some}
use Prim.Native.Nat.{ℕ, suc, ◌+◌, ◌≤◌, ◌<◌}
use native.Mathlib.Nat.{add-zero}
use native.Mathlib.Omega.{arith}
use lib.ListN.{length, take, drop, set, length-append}
use lib.Seq.{take-length, sets, length-sets, sets-eq, paste}
use borrow.Author.Tests.{le-leb}
use Rattle.sums.specs.Counting.{each}
use Rattle.model.specs.Record.{job_of, over}
use Rattle.model.specs.Text.{text_of}
use Rattle.model.specs.Calls.{refused, wrote, After, after, written}
use Rattle.writing.specs.Writer.{Room, wrote_text}
use Rattle.writing.specs.Output.{Fits, Appends}
use Rattle.writing.specs.declared.output.Output.{Output}
use Rattle.writing.proofs.Counted.{each_more, each-room}

sets-append : (v w l : List ℕ) (i : ℕ) → sets l i (v ++ w) ≡ sets (sets l i v) (i + length v) w
sets-append [] w l i = ap (λ (k : ℕ). sets l k w) (sym (add-zero i))
sets-append (a ∷ v) w l i =
    let k : suc i + length v ≡ i + suc (length v) = omega arith in
    sets-append v w (set l i a) (suc i) ∙ ap (λ (n : ℕ). sets (sets (set l i a) (suc i) v) n w) k

-- a whole copy
pub pasted : (out : List ℕ) (at : ℕ) (word : List ℕ) (i : ℕ) → i ≡ length word → Room out at word → paste out at word i ≡ sets out at word
pasted out at word i e l =
    ap (paste out at word) e ∙ (ap (λ (w : List ℕ). take at out ++ w ++ drop (at + length word) out) (take-length word) ∙ sym (sets-eq word out at l.fits))

pub appends_none : {o : Output} → Appends [] o o
appends_none {o} = record { lent = refl; puts = record { bytes = refl; past = sym (add-zero o.length) } }

module _ {v : List ℕ} {o m : Output} (p : Appends v o m) where
  pub appends-length : length m.bytes.now ≡ length o.bytes.now
  appends-length = ap length p.puts.bytes ∙ length-sets o.bytes.now o.length v

  pub appends-as : {w : List ℕ} → v ≡ w → Appends w o m
  appends-as e = subst (λ (x : List ℕ). Appends x o m) e p

  pub appends_then : {w : List ℕ} {n : Output} → Appends w m n → Appends (v ++ w) o n
  appends_then {w} q =
      record {
        lent = q.lent ∙ p.lent;
        puts = record {
          bytes = q.puts.bytes ∙ ((λ i. sets (p.puts.bytes i) (p.puts.past i) w) ∙ sym (sets-append v w o.bytes.now o.length));
          past = q.puts.past ∙ omega (arith, p.puts.past, length-append v w);
        };
      }

-- ---- room

-- for a part by another name
pub room_as : {out v w : List ℕ} {at : ℕ} → v ≡ w → Room out at w → Room out at v
room_as e l = record { fits = omega (arith, ap length e, l.fits) }

-- for the front of a part
pub room-front : (v w : List ℕ) {out : List ℕ} {at : ℕ} → Room out at (v ++ w) → Room out at v
room-front v w l = record { fits = omega (arith, length-append v w, l.fits) }

-- for its rest, once the front is put
pub fits-rest : {v : List ℕ} {o m : Output} (w : List ℕ) → Appends v o m → Fits (v ++ w) o → Fits w m
fits-rest {v} w p l = record { fits = omega (arith, length-append v w, p.puts.past, appends-length p, l.fits) }

-- ---- entry by entry

-- room for an entry once those before it are put
pub fits-each : (n i : ℕ) (f : ℕ → List ℕ) {o m : Output} → i < n → Appends (each i f) o m → Fits (each n f) o → Fits (f i) m
fits-each n i f l p r = record { fits = omega (arith, p.puts.past, appends-length p, each-room n i f l, r.fits) }

-- one entry more
pub appends-each : (i : ℕ) (f : ℕ → List ℕ) {o m n : Output} → Appends (each i f) o m → Appends (f i) m n → Appends (each (i + 1) f) o n
appends-each i f p q = appends-as (appends_then p q) (sym (each_more i f))

-- ---- the answers

module _ (rec out : List ℕ) where
  -- the text of the record's job
  abbrev text : List ℕ
  text = text_of (job_of rec)

  -- what is written, by whether the output has room
  abbrev pub picked : Bool → After
  picked b = elim b [ false ↦ after (refused 7) rec [] out | true ↦ after (wrote (length text)) rec [] (over text out) ]

  -- a text put in an output of which nothing was written
  pub wrote-whole : {o n : Output} → Appends text o n → o.bytes.now ≡ out → o.length ≡ 0 → Fits text o → wrote_text (Some n.length) rec n.bytes.now ≡ written out rec
  wrote-whole {o} {n} p e z r =
      let fits : length text ≤ length out = omega (arith, z, ap length e, r.fits) in
      let m : n.length ≡ length text = omega (arith, z, p.puts.past) in
      let f : 0 + length text ≤ length out = omega (arith, fits) in
      let l : 0 + length text ≡ length text = omega arith in
      let w : n.bytes.now ≡ over text out =
      p.puts.bytes ∙ ((λ i. sets (e i) (z i) text) ∙ (sets-eq text out 0 f ∙ ap (λ (k : ℕ). text ++ drop k out) l))
      in
      (λ i. after (wrote (m i)) rec [] (w i)) ∙ sym (ap picked (le-leb (length text) (length out) fits))
