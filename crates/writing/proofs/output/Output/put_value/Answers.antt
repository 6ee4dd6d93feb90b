-- `put_value` puts the line if the side of the cell has a value in the group, and else nothing. Assumes nothing.
use mathlib.Core.Path.{sym}
use native.Mathlib.Omega.{arith}
use Rattle.model.specs.Record.{job_of}
use Rattle.line.specs.Groups.{text_group}
use Rattle.writing.proofs.Counted.{side-some, side-none}
use Rattle.writing.proofs.Values.{value-small}
use Rattle.writing.proofs.Placed.{appends_none, appends-as, room_as}
use Rattle.writing.proofs.output.Output.put_value.Goals as goal

pub put_line-requires-clause-small : goal.put_line-requires-clause-small
put_line-requires-clause-small c =
    let a = c.args in
    let s = c.requires.sized in
    (s.1, s.2, s.3, omega (arith, c.value_in-value.ensures, value-small (job_of a.rec.now) s.0.proper (text_group a.group) a.row a.column a.side))

pub put_line-requires-clause-room : goal.put_line-requires-clause-room
put_line-requires-clause-room c =
    let a = c.args in
    room_as
    (sym (side-some (job_of a.rec.now) (text_group a.group) a.row a.column a.side _ c.value_in-value.ensures (omega arith))) c.requires.room

pub returns : goal.returns
returns c =
    let a = c.args in
    appends-as c.put_line.ensures (sym (side-some (job_of a.rec.now) (text_group a.group) a.row a.column a.side _ c.value_in-value.ensures (omega arith)))

pub returns-then-value-eq0 : goal.returns-then-value-eq0
returns-then-value-eq0 c =
    let a = c.args in
    appends-as appends_none (sym (side-none (job_of a.rec.now) (text_group a.group) a.row a.column a.side _ c.value_in-value.ensures (omega arith)))
