-- `edit::rewrite` meets its contract: the wires are followed in a copy, which is legal, of the same job and with the same loads. Assumes nothing.
use Rattle.std.proofs.Common.{sym, subst, ◌∙◌}
use Rattle.model.specs.Job.{Job}
use Rattle.editing.specs.Copied.{copied-same, copied-legal, copied-job, edit-copied}
use Rattle.editing.proofs.edit.rewrite.Goals as goal

pub store-requires : goal.store-requires
store-requires g c =
    let l = c.requires.0 in (
      copied-legal l c.copy.ensures,
      l.long,
      copied-same l c.copy.ensures,
      subst (λ (J : Job). g.E.Edit.admits c.args.edit.now J) (sym (copied-job l c.copy.ensures)) c.requires.1,
    )

pub returns : goal.returns
returns g c = c.store.ensures ∙ edit-copied c.requires.0 c.copy.ensures (g.E.Edit.job c.args.edit.now) (g.E.Edit.left c.args.edit.now)
