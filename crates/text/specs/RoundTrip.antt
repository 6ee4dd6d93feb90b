-- Document 01, demand 2, for the code: what `read_into` and `write_text` promise of each other. Reading what was written gives the job back without wires, and
-- writing what was read gives the text back byte for byte. The promises enter as they stand in the two contracts. Assumes nothing.
use Rattle.std.specs.Prelude.{◌≡◌, List, Option, Some, Result, Ok, ℕ, ◌≤◌, length, take}
use Rattle.model.specs.Record.{job_of, Legal, unwired_record, over}
use Rattle.model.specs.Calls.{written}
use Rattle.text.specs.declared.reader.WrongLine.{WrongLine}
use Rattle.text.specs.Into.{ReadsInto}
use Rattle.writing.specs.Writer.{wrote_text}

pub record CodeRoundTrip : Type 0 where
  -- the n bytes written of a legal record, read into any buffer; "the round trip covers E at most D"
  pub reads-written : (rec out out' : List ℕ) (n : ℕ) → Legal rec → (job_of rec).E ≤ (job_of rec).D → wrote_text (Some n) rec out' ≡ written out rec
      → (buffer buffer' : List ℕ) (j : Result (Unit {0}) WrongLine) → ReadsInto (take n out') buffer buffer' j
      → (j ≡ Ok tt) × (buffer' ≡ over (unwired_record (job_of rec)) buffer)
  -- the record of a text that reads may be written
  pub read-legal : (text rec rec' : List ℕ) → ReadsInto text rec rec' (Ok tt) → Legal rec'
  -- what is written of it where there is room
  pub writes-read : (text rec rec' : List ℕ) → ReadsInto text rec rec' (Ok tt)
      → (out out' : List ℕ) (r : Option ℕ) → wrote_text r rec' out' ≡ written out rec' → length text ≤ length out
      → (r ≡ Some (length text)) × (out' ≡ over text out)
