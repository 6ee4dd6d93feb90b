-- `put_text` puts the array line, the groups and the end line. Assumes nothing.
use mathlib.Core.Path.{sym}
use mathlib.Core.List.{◌++◌}
use Rattle.model.specs.Record.{job_of}
use Rattle.model.specs.Text.{end_line, line_bytes}
use Rattle.writing.specs.Writer.{array_text, groups_text}
use Rattle.writing.proofs.Counted.{text-parts, end-word}
use Rattle.writing.proofs.Placed.{appends-as, appends_then, room_as, room-front, fits-rest}
use Rattle.writing.proofs.output.Output.put_text.Goals as goal

pub put_array-requires-clause-room : goal.put_array-requires-clause-room
put_array-requires-clause-room c =
    let J = job_of c.args.rec.now in
    room-front (array_text J) (groups_text J 5 ++ line_bytes end_line)
    (room_as (text-parts J) c.requires.room)

pub put_groups-requires-clause-room : goal.put_groups-requires-clause-room
put_groups-requires-clause-room c =
    let J = job_of c.args.rec.now in
    room-front (groups_text J 5) (line_bytes end_line)
    (fits-rest (groups_text J 5 ++ line_bytes end_line) c.put_array.ensures
    (room_as (text-parts J) c.requires.room))

pub put_word-requires : goal.put_word-requires
put_word-requires c =
    let J = job_of c.args.rec.now in
    room_as (sym end-word)
    (fits-rest (line_bytes end_line) c.put_groups.ensures
    (fits-rest (groups_text J 5 ++ line_bytes end_line) c.put_array.ensures
    (room_as (text-parts J) c.requires.room)))

pub returns : goal.returns
returns c =
    appends-as (appends_then c.put_array.ensures (appends_then c.put_groups.ensures (appends-as c.put_word.ensures (sym end-word))))
    (text-parts (job_of c.args.rec.now))
