-- Parts of a text in an output that is filled from its start. Assumes nothing.
use Rattle.std.specs.Prelude.{◌≡◌, List, ℕ}
use Rattle.writing.specs.declared.output.Output.{Output}
use Rattle.writing.specs.Writer.{Room, Puts}

-- the output has room for `part` behind what stands in it
abbrev pub Fits : List ℕ → Output → Type 0
Fits part o = Room o.bytes.now o.length part

-- `part` stands behind what stood in the output, which is the same slice
pub record Appends (part : List ℕ) (old new : Output) : Type 0 where
  pub lent : new.bytes.ghost_name ≡ old.bytes.ghost_name
  pub puts : Puts old.bytes.now old.length part new.bytes.now new.length
