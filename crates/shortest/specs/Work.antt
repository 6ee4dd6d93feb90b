-- What is lent to the wiring, and how it stands, over the lists of `Lines`. Assumes nothing.
use Rattle.std.specs.Prelude.{List, ℕ}
use Rattle.model.specs.Job.{Job}
use Rattle.shortest.specs.Lines.{Lent, Standing, Advanced}
use Rattle.shortest.specs.declared.wiring.Work.{Work}

abbrev pub LentTo : (job rec : List ℕ) → Work → Type 0
LentTo job rec s = Lent job rec s.prices.now s.marks.now s.queue.now s.parent.now s.slot.now s.stack.now s.rim.now

abbrev pub StandingAt : Job → List ℕ → Work → Type 0
StandingAt J rec s = Standing J rec s.prices.now s.marks.now

abbrev pub AdvancedAt : Job → (ℕ → Type 0) → (rec rec' : List ℕ) → Work → Type 0
AdvancedAt J P rec rec' s = Advanced J P rec rec' s.prices.now s.marks.now
