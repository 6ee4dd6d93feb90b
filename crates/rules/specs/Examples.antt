-- Document 02, K1: measures with the answer that they get. Assumes nothing.
use Rattle.std.specs.Prelude.{List, [], ◌∷◌, Ok, Err, ℕ}
use Rattle.rules.specs.declared.Refusal.TheVariants.{OutOfRange, NoCapacity}
use Rattle.rules.specs.Rules.{Answer}

pub record Row : Type 0 where
  pub p : ℕ
  pub d : ℕ
  pub w : ℕ
  pub s : ℕ
  pub answer : Answer

abbrev row : ℕ → ℕ → ℕ → ℕ → Answer → Row
row p d w s a = record { p = p; d = d; w = w; s = s; answer = a }

-- O, its remainder, k, what is left, D
abbrev five : ℕ → ℕ → ℕ → ℕ → ℕ → Answer
five O remainder k left D = Ok (record { orthogonal = O; remainder = remainder; count = k; left = left; diagonal = D })

abbrev pub rows : List Row
rows =
    -- "For 800, 400, 100, 75: O is 1 remainder 150, k is 3 with 280,000 left, D is 2."
    row 800 400 100 75 (five 1 150 3 280000 2)
    -- "For 1000, 500, 100, 100: O is 2 remainder 0, k is 4 with 40,000 left, D is 4."
    ∷ row 1000 500 100 100 (five 2 0 4 40000 4)
    -- each measure below and above its range
    ∷ row 0 400 100 75 (Err OutOfRange)
    ∷ row 100001 400 100 75 (Err OutOfRange)
    ∷ row 800 0 100 75 (Err OutOfRange)
    ∷ row 800 100001 100 75 (Err OutOfRange)
    ∷ row 800 400 0 75 (Err OutOfRange)
    ∷ row 800 400 100001 75 (Err OutOfRange)
    ∷ row 800 400 100 0 (Err OutOfRange)
    ∷ row 800 400 100 100001 (Err OutOfRange)
    -- p one under d + s
    ∷ row 399 300 100 100 (Err NoCapacity)
    -- O is 0, 1, 8 and 9
    ∷ row 599 300 100 100 (Err NoCapacity)
    ∷ row 600 300 100 100 (five 1 0 2 80000 2)
    ∷ row 2199 300 100 100 (five 8 199 13 671202 13)
    ∷ row 2200 300 100 100 (Err NoCapacity)
    ∷ []
