-- How the search stands, and what its steps promise, over the lists of `Growing`. Assumes nothing.
use Rattle.std.specs.Prelude.{◌≡◌, List, ℕ, ◌<◌, Result, Ok, Err, length, get_or}
use Rattle.std.proofs.Common.{◌∙◌}
use Rattle.model.specs.Job.{Job}
use Rattle.augment.specs.Spread.{Alike}
use Rattle.augment.specs.Queue.{alike_then}
use Rattle.augment.specs.declared.reach.Way.{Way}
use Rattle.shortest.specs.Growing.{Trial, Tried, Growing, Outcome, Rounded, Opened}
use Rattle.shortest.specs.declared.expand.Growth.{Growth}
use Rattle.shortest.specs.declared.expand.Search.{Search}

-- the slices are those that were lent, each as long as it was
pub record SameLent (s t : Search) : Type 0 where
  pub marks : t.marks.ghost_name ≡ s.marks.ghost_name
  pub queue : t.queue.ghost_name ≡ s.queue.ghost_name
  pub parent : t.parent.ghost_name ≡ s.parent.ghost_name
  pub slot : t.slot.ghost_name ≡ s.slot.ghost_name
  pub stack : t.stack.ghost_name ≡ s.stack.ghost_name
  pub rim : t.rim.ghost_name ≡ s.rim.ghost_name
  pub alike : Alike s.marks.now s.queue.now s.parent.now s.slot.now t.marks.now t.queue.now t.parent.now t.slot.now
  pub stacks : length t.stack.now ≡ length s.stack.now
  pub rims : length t.rim.now ≡ length s.rim.now

pub lent-then : {s t u : Search} → SameLent s t → SameLent t u → SameLent s u
lent-then a b =
    record {
      marks = b.marks ∙ a.marks;
      queue = b.queue ∙ a.queue;
      parent = b.parent ∙ a.parent;
      slot = b.slot ∙ a.slot;
      stack = b.stack ∙ a.stack;
      rim = b.rim ∙ a.rim;
      alike = alike_then a.alike b.alike.marks b.alike.queue b.alike.parents b.alike.slots;
      stacks = b.stacks ∙ a.stacks;
      rims = b.rims ∙ a.rims;
    }

-- a step answers a way out, or the growth that the search then has
abbrev pub at_growth : Growth → Result Unit Way → Result Growth Way
at_growth g (Ok _) = Ok g
at_growth g (Err y) = Err y

abbrev pub TrialAt : (job rec prices : List ℕ) → Search → ℕ → ℕ → Type 0
TrialAt job rec prices s u i = Trial job rec prices s.marks.now s.queue.now s.parent.now s.slot.now s.stack.now u i s.growth

abbrev pub TriedAt : Job → (rec prices : List ℕ) → (u k i edge : ℕ) → Search → Search → Result Unit Way → Type 0
TriedAt J rec prices u k i edge s t r =
    Tried J rec prices u k i edge s.marks.now s.queue.now s.parent.now s.slot.now s.stack.now s.growth t.marks.now t.queue.now t.parent.now t.slot.now t.stack.now
    (at_growth t.growth r)

abbrev pub GrowingAt : Job → (rec prices : List ℕ) → ℕ → Search → Type 0
GrowingAt J rec prices start s = Growing J rec prices start s.marks.now s.queue.now s.parent.now s.slot.now s.stack.now s.rim.now s.growth

abbrev pub OutcomeAt : Job → (rec prices : List ℕ) → ℕ → (Growth → Type 0) → Search → Result Unit Way → Type 0
OutcomeAt J rec prices start P s r = Outcome J rec prices start s.marks.now s.queue.now s.parent.now s.slot.now s.stack.now s.rim.now P (at_growth s.growth r)

abbrev pub RoundedAt : Job → (rec prices : List ℕ) → ℕ → List ℕ → Search → Result Unit Way → Type 0
RoundedAt J rec prices start prices' s r =
    Rounded J rec prices start prices' s.marks.now s.queue.now s.parent.now s.slot.now s.stack.now s.rim.now (at_growth s.growth r)

-- the spots on the rim are those on the stack, and nothing else is changed
pub record Restacked (s t : Search) : Type 0 where
  pub marks : t.marks.now ≡ s.marks.now
  pub queue : t.queue.now ≡ s.queue.now
  pub parent : t.parent.now ≡ s.parent.now
  pub slot : t.slot.now ≡ s.slot.now
  pub rim : t.rim.now ≡ s.rim.now
  pub size : length t.stack.now ≡ length s.stack.now
  pub again : (j : ℕ) → j < s.growth.rims → get_or t.stack.now j 0 ≡ get_or s.rim.now j 0
  pub growth : t.growth ≡ record { n = s.growth.n; top = s.growth.rims; rims = 0; least = 1500000 }

abbrev pub OpenedAt : Job → (rec prices : List ℕ) → ℕ → List ℕ → Search → Way → Type 0
OpenedAt J rec prices start prices' s y = Opened J rec prices start prices' s.marks.now s.queue.now s.parent.now s.slot.now y
