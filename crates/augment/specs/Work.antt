-- What is lent to the search for a wire, and what its steps promise, over the lists of `Steps`. Assumes nothing.
use Rattle.std.specs.Prelude.{◌≡◌, List, ℕ, ◌≤◌, ◌<◌, Result, length}
use Rattle.model.specs.Job.{Job}
use Rattle.std.proofs.Common.{◌∙◌}
use Rattle.augment.specs.Spread.{Room, Alike}
use Rattle.augment.specs.Steps.{Whole, Ready, Tried, Grown, Expanded, Front, Searched}
use Rattle.augment.specs.Queue.{alike_then}
use Rattle.augment.specs.Turns.{swapped, front-turned}
use Rattle.augment.specs.declared.reach.Way.{Way}
use Rattle.augment.specs.declared.work.Work.{Work}

-- the slices are those that were lent, each as long as it was
pub record SameLent (s t : Work) : Type 0 where
  pub marks : t.marks.ghost_name ≡ s.marks.ghost_name
  pub queue : t.queue.ghost_name ≡ s.queue.ghost_name
  pub parent : t.parent.ghost_name ≡ s.parent.ghost_name
  pub slot : t.slot.ghost_name ≡ s.slot.ghost_name
  pub lists : t.lists.ghost_name ≡ s.lists.ghost_name
  pub alike : Alike s.marks.now s.queue.now s.parent.now s.slot.now t.marks.now t.queue.now t.parent.now t.slot.now
  pub size : length t.lists.now ≡ length s.lists.now

pub same-then : {s t u : Work} → SameLent s t → SameLent t u → SameLent s u
same-then a b =
    record {
      marks = b.marks ∙ a.marks;
      queue = b.queue ∙ a.queue;
      parent = b.parent ∙ a.parent;
      slot = b.slot ∙ a.slot;
      lists = b.lists ∙ a.lists;
      alike = alike_then a.alike b.alike.marks b.alike.queue b.alike.parents b.alike.slots;
      size = b.size ∙ a.size;
    }

-- what is lent is long enough
pub record LentTo (job rec : List ℕ) (s : Work) : Type 0 where
  pub whole : Whole job rec
  pub room : Room s.marks.now s.queue.now s.parent.now s.slot.now
  pub lists : 26513 ≤ length s.lists.now

-- only the lists are changed
pub record ListsOnly (s t : Work) : Type 0 where
  pub marks : t.marks.now ≡ s.marks.now
  pub queue : t.queue.now ≡ s.queue.now
  pub parent : t.parent.now ≡ s.parent.now
  pub slot : t.slot.now ≡ s.slot.now
  pub lists : length t.lists.now ≡ length s.lists.now

-- only the marks are changed
pub record MarksOnly (s t : Work) : Type 0 where
  pub marks : length t.marks.now ≡ length s.marks.now
  pub queue : t.queue.now ≡ s.queue.now
  pub parent : t.parent.now ≡ s.parent.now
  pub slot : t.slot.now ≡ s.slot.now
  pub lists : t.lists.now ≡ s.lists.now

-- the h-th and the i-th in the queue change places
pub record Exchanged (h i : ℕ) (s t : Work) : Type 0 where
  pub marks : t.marks.now ≡ s.marks.now
  pub queue : t.queue.now ≡ swapped s.queue.now h i
  pub parent : t.parent.now ≡ swapped s.parent.now h i
  pub slot : t.slot.now ≡ swapped s.slot.now h i
  pub lists : length t.lists.now ≡ length s.lists.now

abbrev pub ReadyAt : (job rec : List ℕ) → Work → (u h n : ℕ) → Type 0
ReadyAt job rec s u h n = Ready job rec s.marks.now s.queue.now s.parent.now s.slot.now u h n

abbrev pub TriedAt : Job → List ℕ → (u k h n : ℕ) → Work → Work → Result ℕ Way → Type 0
TriedAt J rec u k h n s t r = Tried J rec u k h s.marks.now s.queue.now s.parent.now s.slot.now n t.marks.now t.queue.now t.parent.now t.slot.now r

abbrev pub ExpandedAt : Job → List ℕ → (u h n : ℕ) → Work → Work → Result ℕ Way → Type 0
ExpandedAt J rec u h n s t r = Expanded J rec u h s.marks.now s.queue.now s.parent.now s.slot.now n t.marks.now t.queue.now t.parent.now t.slot.now r

abbrev pub GrownAt : Job → List ℕ → (u k h n : ℕ) → Work → Work → ℕ → Type 0
GrownAt J rec u k h n s t m = Grown J rec u k h s.marks.now s.queue.now s.parent.now s.slot.now n t.marks.now t.queue.now t.parent.now t.slot.now m

abbrev pub FrontAt : Job → List ℕ → ℕ → List ℕ → Work → (h n : ℕ) → Type 0
FrontAt J rec start t₀ s h n = Front J rec start t₀ s.marks.now s.queue.now s.parent.now s.slot.now h n

abbrev pub SearchedAt : Job → List ℕ → ℕ → List ℕ → Work → Result ℕ Way → Type 0
SearchedAt J rec start t₀ s r = Searched J rec start t₀ s.marks.now s.queue.now s.parent.now s.slot.now r

-- the search stands as before
pub front-exchanged : {J : Job} {rec : List ℕ} {start : ℕ} {t₀ : List ℕ} {s t : Work} {h n i : ℕ} → FrontAt J rec start t₀ s h n → h ≤ i → i < n
    → Exchanged h i s t → FrontAt J rec start t₀ t h n
front-exchanged {i = i} F lo hi e = rw e.marks (front-turned F i lo hi e.queue e.parent e.slot)
