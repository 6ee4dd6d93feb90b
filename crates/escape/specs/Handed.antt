-- What the program reads, and what it hands to standard output: where it says that all was printed, as many bytes as the listing has, and where the writer's bytes are known,
-- the listing's bytes behind them. Assumes nothing.
use Rattle.std.specs.Prelude.{◌≡◌, List, ℕ, length, take, IfSome, IfOk, OnOk}
use Rattle.std.proofs.Common.{Ok, subst}
use Rattle.std.specs.declared.option.Option.{Option}
use Rattle.std.specs.declared.result.Result.{Result}
use Rattle.std.specs.Io.KnownBytes.{Appends}

abbrev pub Handed : {E : Type 0} → Result ℕ E → List ℕ → Type 0
Handed result bytes = IfOk result (λ n. n ≡ length bytes)

-- the text that is read: where the reader's bytes are known, the first 65,536 of them
abbrev pub IsRead : Option (List ℕ) → List ℕ → Type 0
IsRead known text = IfSome known (λ xs. text ≡ take 65536 xs)

-- what a writer holds before and after
abbrev pub Held : {E : Type 0} → Option (List ℕ) → Option (List ℕ) → Result ℕ E → List ℕ → Type 0
Held old new result bytes = OnOk result (Appends old new bytes)

pub handed-all : {E : Type 0} {r : Result ℕ E} {n : ℕ} (bytes : List ℕ) → r ≡ Ok n → Handed r bytes → n ≡ length bytes
handed-all {E} bytes e h = subst (λ (x : Result ℕ E). Handed x bytes) e h

pub handed-as : {E : Type 0} (r : Result ℕ E) {a b : List ℕ} → a ≡ b → Handed r a → Handed r b
handed-as r e h = subst (Handed r) e h
