-- Document 01, "Record and operations": "Wherever a record is taken, 1 comes before every other number." A call on a damaged record is refused by 1, and one
-- on a legal record does what its paragraph says. Assumes nothing.
use Rattle.std.specs.Prelude.{refl, List, ℕ}
use Rattle.model.specs.Record.{Legal}
use Rattle.model.specs.Calls.{refused, After, after, On}

pub on-damaged : {P : Type 0} (rec scratch output : List ℕ) → (Legal rec → ⊥) → On rec scratch output (after (refused 1) rec scratch output) P
on-damaged rec scratch output n = record { damaged = λ m. refl; legal = λ g. absurd (n g) }

pub on-legal : {P : Type 0} {rec scratch output : List ℕ} {a : After} → Legal rec → P → On rec scratch output a P
on-legal g p = record { damaged = λ n. absurd (n g); legal = λ h. p }
