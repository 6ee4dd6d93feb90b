-- Document 01, "Lanes and pairing": the order of lanes round a place. Round a place the lanes of a link come from left to right for one who looks out
-- from the place along the link: a departing lane counts so from its left, an arriving one from its right, since it looks the other way. Assumes
-- nothing.
use mathlib.Core.Path.{◌≡◌, refl, sym, ap, ◌∙◌}
use mathlib.Core.Bool.{Bool, true, false}
use mathlib.Core.List.{List, [], ◌∷◌, ◌++◌}
use mathlib.Core.Option.{some}
use Prim.Native.Nat.{ℕ, zero, suc, ◌+◌, ◌-◌, ◌<◌}
use native.Mathlib.Nat.{not-suc-le-zero, le_of_suc-le-suc}
use native.Mathlib.Omega.{arith}
use lib.Dec.{eqb}
use lib.ListN.{length, get_elem?, length-append}
use Rattle.sums.specs.Counting.{each}
use Rattle.sums.specs.Tests.{Same, same, other, same?}
use Rattle.sums.specs.Entries.{entry-left, entry-right}
use Rattle.model.specs.Links.{Step, turn}
use Rattle.model.specs.Wires.{End, arrival, departure, falling_ends, rising_ends, ends_on}

pub length-falling : (n : ℕ) (g : ℕ → End) → length (falling_ends n g) ≡ n
unfolding falling_ends
length-falling zero g = refl
length-falling (suc n) g = ap suc (length-falling n g)

pub length-rising : (n : ℕ) (g : ℕ → End) → length (rising_ends n g) ≡ n
unfolding each
length-rising zero g = refl
length-rising (suc n) g = omega (arith, length-append (rising_ends n g) (g n ∷ []), length-rising n g)

pub falling-at : (n i : ℕ) (g : ℕ → End) → i < n → get_elem? (falling_ends n g) i ≡ some (g (n - 1 - i))
unfolding falling_ends
falling-at zero i g l = absurd (not-suc-le-zero l)
falling-at (suc n) zero g l = ap (λ (j : ℕ). some (g j)) (omega arith)
falling-at (suc n) (suc i) g l = falling-at n i g (le_of_suc-le-suc l) ∙ ap (λ (j : ℕ). some (g j)) (omega arith)

pub rising-at : (n i : ℕ) (g : ℕ → End) → i < n → get_elem? (rising_ends n g) i ≡ some (g i)
unfolding each
rising-at zero i g l = absurd (not-suc-le-zero l)
rising-at (suc n) i g l = by (eqb i n) (same? i n) (rising-at n i g)
  where
    by : (b : Bool) → Same i n b → (i < n → get_elem? (rising_ends n g) i ≡ some (g i)) → get_elem? (rising_ends n g ++ (g n ∷ [])) i ≡ some (g i)
    by true (same e) r =
        let k : i ≡ length (rising_ends n g) + 0 = omega (arith, length-rising n g) in
        ap (get_elem? (rising_ends n g ++ (g n ∷ []))) k ∙ (entry-right (rising_ends n g) (g n ∷ []) 0 ∙ ap (λ (j : ℕ). some (g j)) (sym e))
    by false (other e) r = entry-left (rising_ends n g) (g n ∷ []) i (omega (arith, length-rising n g)) ∙ r (omega arith)

-- Round a place, a link first: the arriving lanes from the last to 0, then the departing ones from 0 on, then the links that follow.
module _ (f : Step → ℕ) (s : Step) (l : List Step) where
  abbrev arriving : List End
  arriving = falling_ends (f (turn s)) (arrival s)

  abbrev departing : List End
  departing = rising_ends (f s) (departure s)

  pub lane-order :
      ((i : ℕ) → i < f (turn s) → get_elem? (ends_on f (s ∷ l)) i ≡ some (arrival s (f (turn s) - 1 - i)))
      × ((i : ℕ) → i < f s → get_elem? (ends_on f (s ∷ l)) (f (turn s) + i) ≡ some (departure s i))
      × ((i : ℕ) → get_elem? (ends_on f (s ∷ l)) (f (turn s) + (f s + i)) ≡ get_elem? (ends_on f l) i)
  unfolding ends_on
  lane-order = (first, second, third)
    where
      later : (i : ℕ) → get_elem? (arriving ++ (departing ++ ends_on f l)) (f (turn s) + i) ≡ get_elem? (departing ++ ends_on f l) i
      later i =
          ap (λ (n : ℕ). get_elem? (arriving ++ (departing ++ ends_on f l)) (n + i)) (sym (length-falling (f (turn s)) (arrival s)))
          ∙ entry-right arriving (departing ++ ends_on f l) i

      first : (i : ℕ) → i < f (turn s) → get_elem? (arriving ++ (departing ++ ends_on f l)) i ≡ some (arrival s (f (turn s) - 1 - i))
      first i h =
          entry-left arriving (departing ++ ends_on f l) i (omega (arith, length-falling (f (turn s)) (arrival s)))
          ∙ falling-at (f (turn s)) i (arrival s) h

      second : (i : ℕ) → i < f s → get_elem? (arriving ++ (departing ++ ends_on f l)) (f (turn s) + i) ≡ some (departure s i)
      second i h =
          later i ∙ (entry-left departing (ends_on f l) i (omega (arith, length-rising (f s) (departure s))) ∙ rising-at (f s) i (departure s) h)

      third : (i : ℕ) → get_elem? (arriving ++ (departing ++ ends_on f l)) (f (turn s) + (f s + i)) ≡ get_elem? (ends_on f l) i
      third i =
          later (f s + i)
          ∙ (ap (λ (n : ℕ). get_elem? (departing ++ ends_on f l) (n + i)) (sym (length-rising (f s) (departure s))) ∙ entry-right departing (ends_on f l) i)
