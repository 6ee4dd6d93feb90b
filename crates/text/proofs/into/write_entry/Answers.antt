-- `write_entry` names a pin, tile or side in a record, each group by its own plane. Assumes nothing.
use mathlib.Core.Path.{ap, ◌∙◌}
use mathlib.Core.List.{List}
use Prim.Native.Nat.{ℕ}
use lib.ListN.{set}
use Rattle.model.specs.Job.{side_of}
use Rattle.model.specs.Record.{mark_plane, state_plane, own_d_plane, offset}
use Rattle.channel.specs.Laid.{side_offset}
use Rattle.text.proofs.Writing.{named-marked, named-closed, named-own, named-laid}
use Rattle.text.proofs.into.write_entry.Goals as goal

pub returns-in-Chosen : goal.returns-in-Chosen
returns-in-Chosen c =
    let e = c.args.entry in
    let p = c.requires.cell in
    λ J under l q.
    c.set_mark.ensures ∙ (ap (λ (b : List ℕ). set b (offset mark_plane e.row e.column) e.value) q ∙ named-marked J under e p.0 p.1 l c.in-Chosen.is)

pub returns-in-Closed : goal.returns-in-Closed
returns-in-Closed c =
    let e = c.args.entry in
    let p = c.requires.cell in
    λ J under l q.
    rw c.in-Closed.is
    (c.set_state.ensures ∙ (ap (λ (b : List ℕ). set b (offset state_plane e.row e.column) e.value) q ∙ named-closed J under e p.0 p.1 l))

pub returns-in-Own : goal.returns-in-Own
returns-in-Own c =
    let e = c.args.entry in
    let p = c.requires.cell in
    λ J under l q.
    rw c.in-Own.is
    (c.set_own.ensures ∙ (ap (λ (b : List ℕ). set b (offset own_d_plane e.row e.column) e.value) q ∙ named-own J under e p.0 p.1 l))

pub returns-in-Laid : goal.returns-in-Laid
returns-in-Laid c =
    let e = c.args.entry in
    let p = c.requires.cell in
    let t = p.2 c.in-Laid.is in
    λ J under l q.
    rw c.in-Laid.is
    (c.set_laid.ensures
    ∙ (ap (λ (b : List ℕ). set b (side_offset (side_of e.row e.column e.side)) e.value) q ∙ named-laid J under e p.0 p.1 l t.0 t.1))
