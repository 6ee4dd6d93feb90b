-- `put_heading` puts the parts of the line one after the other. Assumes nothing.
use mathlib.Core.List.{[]}
use Rattle.line.specs.Scan.{two}
use Rattle.writing.specs.Writer.{ended}
use Rattle.line.proofs.Lined.{pins_part, caps_part, end_part}
use Rattle.writing.proofs.Counted.{after_o, after_caps, after_pins, after_first, array_parts}
use Rattle.writing.proofs.Placed.{appends-as, appends_then, room_as, room-front, fits-rest}
use Rattle.writing.proofs.output.Output.put_heading.Goals as goal

pub put_word-requires : goal.put_word-requires
put_word-requires c =
    let a = c.args.heading.array in
    let k = c.args.heading.capacities in
    room-front pins_part (after_first a.rows a.columns k.orthogonal k.diagonal k.extra)
    (room_as (array_parts a.rows a.columns k.orthogonal k.diagonal k.extra) c.requires.room)

pub put_two-requires-clause-room : goal.put_two-requires-clause-room
put_two-requires-clause-room c =
    let a = c.args.heading.array in
    let k = c.args.heading.capacities in
    room-front (two a.rows a.columns 41 []) (after_pins k.orthogonal k.diagonal k.extra)
    (fits-rest (after_first a.rows a.columns k.orthogonal k.diagonal k.extra) c.put_word.ensures
    (room_as (array_parts a.rows a.columns k.orthogonal k.diagonal k.extra) c.requires.room))

pub put_word-requires-2 : goal.put_word-requires-2
put_word-requires-2 c =
    let a = c.args.heading.array in
    let k = c.args.heading.capacities in
    room-front caps_part (after_caps k.orthogonal k.diagonal k.extra)
    (fits-rest (after_pins k.orthogonal k.diagonal k.extra) c.put_two.ensures
    (fits-rest (after_first a.rows a.columns k.orthogonal k.diagonal k.extra) c.put_word.ensures
    (room_as (array_parts a.rows a.columns k.orthogonal k.diagonal k.extra) c.requires.room)))

pub put_number-requires-clause-room : goal.put_number-requires-clause-room
put_number-requires-clause-room c =
    let a = c.args.heading.array in
    let k = c.args.heading.capacities in
    room-front (ended k.orthogonal 32) (after_o k.diagonal k.extra)
    (fits-rest (after_caps k.orthogonal k.diagonal k.extra) c.put_word-2.ensures
    (fits-rest (after_pins k.orthogonal k.diagonal k.extra) c.put_two.ensures
    (fits-rest (after_first a.rows a.columns k.orthogonal k.diagonal k.extra) c.put_word.ensures
    (room_as (array_parts a.rows a.columns k.orthogonal k.diagonal k.extra) c.requires.room))))

pub put_two-requires-2-clause-room : goal.put_two-requires-2-clause-room
put_two-requires-2-clause-room c =
    let a = c.args.heading.array in
    let k = c.args.heading.capacities in
    room-front (two k.diagonal k.extra 41 []) end_part
    (fits-rest (after_o k.diagonal k.extra) c.put_number.ensures
    (fits-rest (after_caps k.orthogonal k.diagonal k.extra) c.put_word-2.ensures
    (fits-rest (after_pins k.orthogonal k.diagonal k.extra) c.put_two.ensures
    (fits-rest (after_first a.rows a.columns k.orthogonal k.diagonal k.extra) c.put_word.ensures
    (room_as (array_parts a.rows a.columns k.orthogonal k.diagonal k.extra) c.requires.room)))))

pub put_word-requires-3 : goal.put_word-requires-3
put_word-requires-3 c =
    let a = c.args.heading.array in
    let k = c.args.heading.capacities in
    fits-rest end_part c.put_two-2.ensures
    (fits-rest (after_o k.diagonal k.extra) c.put_number.ensures
    (fits-rest (after_caps k.orthogonal k.diagonal k.extra) c.put_word-2.ensures
    (fits-rest (after_pins k.orthogonal k.diagonal k.extra) c.put_two.ensures
    (fits-rest (after_first a.rows a.columns k.orthogonal k.diagonal k.extra) c.put_word.ensures
    (room_as (array_parts a.rows a.columns k.orthogonal k.diagonal k.extra) c.requires.room)))))

pub returns : goal.returns
returns c =
    let a = c.args.heading.array in
    let k = c.args.heading.capacities in
    appends-as
    (appends_then c.put_word.ensures
    (appends_then c.put_two.ensures
    (appends_then c.put_word-2.ensures
    (appends_then c.put_number.ensures (appends_then c.put_two-2.ensures c.put_word-3.ensures)))))
    (array_parts a.rows a.columns k.orthogonal k.diagonal k.extra)
