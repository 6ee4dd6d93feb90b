-- Document 01, "New" and "Read text": the answer of New by its three tests, and that of Read text by its verdict. Assumes nothing.
use Rattle.std.specs.Prelude.{◌≡◌, refl, Bool, true, false, not, List, [], ◌∷◌, ℕ, ◌≤◌, ◌<◌, T, leb, length}
use Rattle.std.proofs.Common.{sym, ap, ◌∙◌, arith, le-leb}
use Rattle.std.proofs.lemmas.Bool.{not-true, not-false, lt-leb}
use Rattle.sums.specs.Tests.{and_left, and_right}
use Rattle.model.specs.Job.{in_range, array_fits, caps_admitted, fresh}
use Rattle.model.specs.Record.{record_size, unwired_record, over}
use Rattle.model.specs.Text.{Verdict, Reading}
use Rattle.model.specs.Calls.{refused, done, After, after, Test, test, asked, newly, read_in, ReadIn}
use Rattle.model.proofs.Asked.{asked-fails, asked-holds}
use Rattle.model.proofs.RecordOf.{range-most}

-- ---- New

module _ (rec : List ℕ) (rows columns O D E : ℕ) where
  abbrev made : After
  made = after done (over (unwired_record (fresh rows columns O D E)) rec) [] []

  abbrev caps : List Test
  caps = test (caps_admitted O D E) 3 ∷ []

  pub new-brief : length rec < record_size → after (refused 1) rec [] [] ≡ newly rows columns O D E rec
  new-brief l = sym (asked-fails rec [] made (leb record_size (length rec)) 1 (test (array_fits rows columns) 2 ∷ caps) (lt-leb record_size (length rec) l))

  module _ (long : record_size ≤ length rec) (t : Bool) (e : t ≡ array_fits rows columns) where
    is-long : newly rows columns O D E rec ≡ asked (test (array_fits rows columns) 2 ∷ caps) rec [] made
    is-long = asked-holds rec [] made (leb record_size (length rec)) 1 (test (array_fits rows columns) 2 ∷ caps) (le-leb record_size (length rec) long)

    pub new-array : not t ≡ true → after (refused 2) rec [] [] ≡ newly rows columns O D E rec
    new-array n = sym (is-long ∙ asked-fails rec [] made (array_fits rows columns) 2 caps (sym e ∙ not-true t n))

    module _ (n : not t ≡ false) (u : Bool) (f : u ≡ caps_admitted O D E) where
      is-array : newly rows columns O D E rec ≡ asked caps rec [] made
      is-array = is-long ∙ asked-holds rec [] made (array_fits rows columns) 2 caps (sym e ∙ not-false t n)

      pub new-caps : not u ≡ true → after (refused 3) rec [] [] ≡ newly rows columns O D E rec
      new-caps m = sym (is-array ∙ asked-fails rec [] made (caps_admitted O D E) 3 [] (sym f ∙ not-true u m))

      pub new-done : not u ≡ false → (rec' : List ℕ) → rec' ≡ over (unwired_record (fresh rows columns O D E)) rec
          → after done rec' [] [] ≡ newly rows columns O D E rec
      new-done m rec' r =
          ap (λ x. after done x [] []) r ∙ sym (is-array ∙ asked-holds rec [] made (caps_admitted O D E) 3 [] (sym f ∙ not-false u m))

-- numbers in range are bytes
pub array-bytes : (rows columns : ℕ) → T (array_fits rows columns) → (rows < 256) × (columns < 256)
array-bytes rows columns t = (
  omega (arith, range-most 2 40 rows (and_left (in_range 2 40 rows) (in_range 2 40 columns) t)),
  omega (arith, range-most 2 40 columns (and_right (in_range 2 40 rows) (in_range 2 40 columns) t)),
)

-- ---- Read text

pub read-brief : (text rec : List ℕ) → length rec < record_size → ReadIn text rec (after (refused 1) rec [] [])
read-brief text rec l = record { brief = λ k. refl; long = λ k. absurd (omega arith) }

pub read-long : (text rec : List ℕ) (a : After) → record_size ≤ length rec → (v : Verdict) → Reading text v → a ≡ read_in v rec → ReadIn text rec a
read-long text rec a l v r e = record { brief = λ k. absurd (omega arith); long = λ k. (v, r, e) }
