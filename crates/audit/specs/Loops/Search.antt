-- How the search stands, and what its steps promise, over the lists of `Dfs`. Assumes nothing.
use Rattle.std.specs.Prelude.{◌≡◌, List, ℕ, ◌-◌, ◌%◌, ◌≤◌, ◌<◌, ◌≢◌, Option, Some, None, Result, Ok, Err, length, get_or}
use Rattle.channel.specs.Map.{spots}
use Rattle.channel.specs.Map.Origins.{origin_of}
use Rattle.audit.specs.Loops.{Closed}
use Rattle.audit.specs.Loops.Dfs.{Edge, Dfs, Kept, Still, Aimed, Begun}
use Rattle.audit.specs.declared.loops.Search.{Search}
use Rattle.audit.specs.declared.loops.Ring.{Ring}
use Rattle.audit.specs.declared.loops.Met.{Met}
use Rattle.audit.specs.declared.loops.Met.TheVariants.{New, Hit}

-- the slices are those that were lent
pub record SameLent (s t : Search) : Type 0 where
  pub marks : t.fin.ghost_name ≡ s.fin.ghost_name
  pub stack : t.st.ghost_name ≡ s.st.ghost_name
  pub slots : t.sl.ghost_name ≡ s.sl.ghost_name

-- beside the marks, which are as many, the search stands as it did
pub record ForgetsOnly (s t : Search) : Type 0 where
  pub marks : length t.fin.now ≡ length s.fin.now
  pub stack : t.st.now ≡ s.st.now
  pub slots : t.sl.now ≡ s.sl.now
  pub height : t.height ≡ s.height
  pub done : t.done ≡ s.done

-- the state of the search
abbrev pub Standing : List ℕ → Search → Type 0
Standing rec s = Dfs rec s.fin.now s.st.now s.sl.now s.height s.done

-- nothing is on the stack
pub record Idle (rec : List ℕ) (s : Search) : Type 0 where
  pub empty : s.height ≡ 0
  pub state : Dfs rec s.fin.now s.st.now s.sl.now 0 s.done

-- v is not seen, and the top of the stack leads to it
abbrev pub AimedAt : List ℕ → Search → ℕ → Type 0
AimedAt rec s v = Aimed rec s.fin.now s.st.now s.sl.now s.height s.done v

-- v is on the stack, and its top leads to it
pub record Meets (rec : List ℕ) (s : Search) (v : ℕ) : Type 0 where
  pub state : Standing rec s
  pub edge : Edge rec (get_or s.st.now (s.height - 1) 0) (get_or s.sl.now (s.height - 1) 0 % 8) v
  pub on : get_or s.fin.now v 0 ≡ 1

-- one turn: the top leads to a spot that is not seen, or to one on the stack, and as many are on it and done as before; or it is done, and the stack shrinks
abbrev pub Turned : List ℕ → Search → Search → Option Met → Type 0
Turned rec s t (Some (New v)) = AimedAt rec t v × Still s.fin.now t.fin.now × (t.height ≡ s.height) × (t.done ≡ s.done)
Turned rec s t (Some (Hit v)) = Meets rec t v × (t.height ≡ s.height) × (t.done ≡ s.done)
Turned rec s t None = Standing rec t × Still s.fin.now t.fin.now × (t.height < s.height)

-- the turns up to a new spot: the top leads to it, or to one on the stack; or nothing is left on the stack
abbrev pub Resumed : List ℕ → Search → Search → Option Met → Type 0
Resumed rec s t (Some (New v)) = AimedAt rec t v × Still s.fin.now t.fin.now
Resumed rec s t (Some (Hit v)) = Meets rec t v
Resumed rec s t None = Idle rec t × Kept s.fin.now t.fin.now

-- a ring stands, and what is done is so with nothing left on the stack
pub record RingLeft (rec : List ℕ) (t : Search) (r : Ring) : Type 0 where
  pub ring : Closed rec t.st.now t.sl.now r.from r.to
  pub state : Dfs rec t.fin.now t.st.now t.sl.now 0 r.done

-- the search from one spot: all that was seen is done; or a ring stands
abbrev pub Searched : List ℕ → List ℕ → Search → Result Unit Ring → Type 0
Searched rec fin t (Ok _) = Idle rec t × Kept fin t.fin.now
Searched rec fin t (Err r) = RingLeft rec t r

-- the search from the spot of the i-th load byte: where there is one, it is seen
abbrev pub Traced : List ℕ → ℕ → List ℕ → Search → Result Unit Ring → Type 0
Traced rec i fin t (Ok _) = Idle rec t × Kept fin t.fin.now × (origin_of rec i < spots → get_or t.fin.now (origin_of rec i) 0 ≢ 0)
Traced rec i fin t (Err r) = RingLeft rec t r

-- the search from the spots of the fresh links from the a-th to before the b-th: they are seen
abbrev pub FreshTraced : List ℕ → List ℕ → ℕ → ℕ → List ℕ → Search → Result Unit Ring → Type 0
FreshTraced old rec a b fin t (Ok _) = Idle rec t × Kept fin t.fin.now × ((i : ℕ) → a ≤ i → i < b → Begun old rec t.fin.now i)
FreshTraced old rec a b fin t (Err r) = RingLeft rec t r
