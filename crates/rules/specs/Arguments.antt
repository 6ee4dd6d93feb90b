-- A number as an argument of a program writes it: one or more decimal digits. Assumes nothing.
use Rattle.std.specs.Prelude.{◌≡◌, Bool, List, Option, Some, None, ℕ, zero, suc, ◌+◌, ◌-◌, ◌*◌, min, ◌<◌, T, length, get_or}
use Rattle.model.specs.Job.{in_range}

-- the bytes of 0 to 9
abbrev pub is_digit : ℕ → Bool
is_digit b = in_range 48 57 b

-- the number that the first n bytes of a text write
unfoldable pub decimal : List ℕ → ℕ → ℕ
decimal text zero = 0
decimal text (suc n) = 10 * decimal text n + (get_or text n 0 - 48)

-- Every number of more than ten digits is out of every range, so one stands for all.
abbrev pub capped : ℕ → ℕ
capped n = min n 10000000000

pub data Written (text : List ℕ) : Option ℕ → Type 0 where
  empty : length text ≡ 0 → Written text None
  other : (i : ℕ) → i < length text → (T (is_digit (get_or text i 0)) → ⊥) → Written text None
  digits : 0 < length text → ((i : ℕ) → i < length text → T (is_digit (get_or text i 0))) → Written text (Some (capped (decimal text (length text))))
