-- `put_array` puts the array line with the job's five numbers. Assumes nothing.
use mathlib.Core.Path.{◌≡◌}
use Prim.Native.Nat.{ℕ}
use Rattle.model.specs.Job.{Job}
use Rattle.model.specs.Record.{job_of}
use Rattle.model.specs.Text.{array_line, line_bytes}
use Rattle.writing.specs.Writer.{array_text}
use Rattle.writing.proofs.Placed.{appends-as, room_as}
use Rattle.writing.proofs.output.Output.put_array.Goals as goal

line-alike : (K : Job) {a b o d e : ℕ} → a ≡ K.rows → b ≡ K.columns → o ≡ K.O → d ≡ K.D → e ≡ K.E → line_bytes (array_line a b o d e) ≡ array_text K
unfolding array_text
line-alike K v w x y z = λ i. line_bytes (array_line (v i) (w i) (x i) (y i) (z i))

pub returns : goal.returns
returns c =
    let J = job_of c.args.rec.now in
    appends-as c.put_heading.ensures (line-alike J c.rows.ensures.0 c.columns.ensures.0 c.orthogonal.ensures.0 c.diagonal.ensures.0 c.extra.ensures.0)

pub put_heading-requires-clause-room : goal.put_heading-requires-clause-room
put_heading-requires-clause-room c =
    let J = job_of c.args.rec.now in
    room_as (line-alike J c.rows.ensures.0 c.columns.ensures.0 c.orthogonal.ensures.0 c.diagonal.ensures.0 c.extra.ensures.0) c.requires.room
