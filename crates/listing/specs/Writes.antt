-- Bytes written on a page behind those that stand on it. Assumes nothing.
use Rattle.std.specs.Prelude.{List, ℕ}
use Rattle.listing.specs.declared.page.Page.{Page}
use Rattle.listing.specs.Puts.{Puts}

-- the bytes bs stand on the page behind those that stood on it, and no other byte of it has changed
abbrev pub Writes : List ℕ → Page → Page → Type 0
Writes bs old new = Puts bs old.length old.bytes new.bytes new.length
