-- What a record holds after a text: the text's job without wires, if the text reads, and else what it held. Assumes nothing.
use Rattle.std.specs.Prelude.{◌≡◌, List, Result, Ok, Err, ℕ, ◌≤◌, length}
use Rattle.model.specs.Job.{Job}
use Rattle.model.specs.Text.{named, reads, wrong_at, Reading}
use Rattle.model.specs.Record.{record_size, unwired_record, over}
use Rattle.line.specs.declared.lines.Entry.{Entry}
use Rattle.line.specs.Groups.{text_group}
use Rattle.text.specs.declared.reader.WrongLine.{WrongLine}

-- whatever job `rec` are the bytes of, `out` are those of the job with the value that an entry gives its pin, tile or side
abbrev pub Names : List ℕ → Entry → List ℕ → Type 0
Names rec e out =
    (J : Job) (under : List ℕ) → record_size ≤ length under → rec ≡ over (unwired_record J) under
    → out ≡ over (unwired_record (named J (text_group e.group) e.row e.column e.side e.value)) under

-- the text is a job's
abbrev pub Readable : List ℕ → Type 0
Readable text = (K : Job) × Reading text (reads K)

-- the bytes `out` are the record of the text's job over `rec`
abbrev pub Holds : List ℕ → List ℕ → List ℕ → Type 0
Holds text rec out = (K : Job) → Reading text (reads K) → out ≡ over (unwired_record K) rec

abbrev pub ReadsInto : List ℕ → List ℕ → List ℕ → Result (Unit {0}) WrongLine → Type 0
ReadsInto text rec out (Ok _) = (K : Job) × Reading text (reads K) × (out ≡ over (unwired_record K) rec)
ReadsInto text rec out (Err w) = Reading text (wrong_at w.offset) × (out ≡ rec)
