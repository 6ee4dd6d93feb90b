-- Request K8, "The four-pin listing is fixed again: four wires by (out p 0), then (length 0) and (mean 0 0)": the whole listing of the four-pin job whose wires
-- leave directly. Assumes nothing.
use Rattle.std.specs.Prelude.{◌≡◌, refl, ◌≢◌, Bool, true, false, ◌&&◌, List, [], ◌∷◌, ◌++◌, ℕ, zero, suc, ◌+◌, ◌-◌, ◌≤◌, ◌<◌, T, eqb, ltb}
use Rattle.std.proofs.Common.{sym, ap, ap₂, subst, ◌∙◌, add-zero, add-suc, arith, le-ltb}
use Rattle.std.proofs.Math.Option.{none}
use Rattle.std.proofs.Math.Decide.{dec_le}
use Rattle.sums.specs.Counting.{only, each, those, total, sum}
use Rattle.model.specs.Job.{is_open, is_chosen, is_missing}
use Rattle.model.specs.Links.{pin, at, places, direct, behind_of, ahead_of, Step, go, head}
use Rattle.model.specs.Loads.{departures}
use Rattle.model.specs.Wires.{falling_ends, ends_on, arrival_at, leaving, first_loaded, onward, hop_at, is_wired, wire_count, part_at}
use Rattle.model.specs.Left.{hop_count}
use Rattle.model.specs.Length.{held_length}
use Rattle.model.specs.Listing.{tens, decimal, close, pair_line, spread, row, column, wire_word, part_bytes, parts_bytes, wire_line, cell_wire, wires_line, wires_from, length_line, mean_line, wires_listing}
use Rattle.model.proofs.FourPins.{wires_along, job22}
use Rattle.listing.specs.Spread.{spread-split, spread_none}
use Rattle.listing.specs.Walked.{each-past, part_none}

abbrev directs : Step → ℕ
directs = wires_along (go direct 0 0 ∷ go direct 0 1 ∷ go direct 1 0 ∷ go direct 1 1 ∷ [])

-- ---- a wire of one part

-- behind its end a wire has no hop
none_after : (r c n k : ℕ) → hop_at job22 directs r c n ≡ none → hop_at job22 directs r c (n + k) ≡ none
unfolding hop_at
none_after r c n zero e = ap (hop_at job22 directs r c) (add-zero n) ∙ e
none_after r c n (suc k) e = ap (hop_at job22 directs r c) (add-suc n k) ∙ ap (onward job22 directs) (none_after r c n k e)

one-part : (r c : ℕ) (l : List ℕ) → hop_at job22 directs r c 1 ≡ none
    → only (is_wired job22 directs r c) (pair_line wire_word r c (41 ∷ []) ++ (parts_bytes job22 directs r c 1 ++ close)) ≡ l → wire_line job22 directs r c ≡ l
unfolding wire_line parts_bytes
one-part r c l e g =
    ap (λ (ps : List ℕ). only (is_wired job22 directs r c) (pair_line wire_word r c (41 ∷ []) ++ (ps ++ close)))
    (each-past (λ i. part_bytes (part_at job22 directs r c i)) 1 11200
    (λ i h. let more : 1 + (i - 1) ≡ i = omega arith in part_none job22 directs r c i (ap (hop_at job22 directs r c) (sym more) ∙ none_after r c 1 (i - 1) e)))
    ∙ g

-- ---- the lines

-- (wire (pin 0 0) (out p 0)), and so on
abbrev direct_line : ℕ → ℕ → List ℕ
direct_line r c =
    40 ∷ 119 ∷ 105 ∷ 114 ∷ 101 ∷ 32 ∷ 40 ∷ 112 ∷ 105 ∷ 110 ∷ 32 ∷ (48 + r) ∷ 32 ∷ (48 + c) ∷ 41 ∷ 32 ∷ 40 ∷ 111 ∷ 117 ∷ 116 ∷ 32 ∷ 112 ∷ 32 ∷ 48 ∷ 41
    ∷ 41 ∷ 10 ∷ []

-- (wires 4)
abbrev first_line : List ℕ
first_line = 40 ∷ 119 ∷ 105 ∷ 114 ∷ 101 ∷ 115 ∷ 32 ∷ 52 ∷ 41 ∷ 10 ∷ []

-- (length 0), (mean 0 0)
abbrev last_lines : List ℕ
last_lines =
    40 ∷ 108 ∷ 101 ∷ 110 ∷ 103 ∷ 116 ∷ 104 ∷ 32 ∷ 48 ∷ 41 ∷ 10 ∷ 40 ∷ 109 ∷ 101 ∷ 97 ∷ 110 ∷ 32 ∷ 48 ∷ 32 ∷ 48 ∷ 41 ∷ 10 ∷ []

directs-listed :
    (wires_line job22 directs ≡ first_line)
    × (wire_line job22 directs 0 0 ≡ direct_line 0 0) × (wire_line job22 directs 0 1 ≡ direct_line 0 1)
    × (wire_line job22 directs 1 0 ≡ direct_line 1 0) × (wire_line job22 directs 1 1 ≡ direct_line 1 1)
    × (length_line job22 directs ++ mean_line job22 directs ≡ last_lines)
unfolding decimal tens parts_bytes part_at hop_at leaving first_loaded arrival_at ends_on falling_ends each is_wired wire_count departures total places those
    is_chosen is_missing is_open head ahead_of behind_of held_length hop_count sum
directs-listed = (refl, one-part 0 0 _ refl refl, one-part 0 1 _ refl refl, one-part 1 0 _ refl refl, one-part 1 1 _ refl refl, refl)

-- ---- the cells that have no wire

-- a pin outside the two rows and columns
unwired-line : (r c : ℕ) → (ltb r 2 && ltb c 2) ≡ false → wire_line job22 directs r c ≡ []
unfolding wire_line is_wired is_chosen
unwired-line r c e = by (ltb r 2 && ltb c 2) (eqb (job22.mark r c) 1) (ltb 0 (departures directs (at pin r c))) e
  where
    by : (a b d : Bool) → a ≡ false
        → only ((a && b) && d) (pair_line wire_word r c (41 ∷ []) ++ (parts_bytes job22 directs r c 11201 ++ close)) ≡ []
    by true b d z = absurd (subst T z tt)
    by false b d z = refl

and-right-false : (a b : Bool) → b ≡ false → (a && b) ≡ false
and-right-false true b e = e
and-right-false false b e = refl

blank : (p : ℕ) → (2 ≤ p) → (p ≢ 40) → (p ≢ 41) → cell_wire job22 directs p ≡ []
blank p l m n = by (dec_le 2 (row p))
  where
    by : Dec (2 ≤ row p) → cell_wire job22 directs p ≡ []
    by (yes h) = unwired-line (row p) (column p) (ap (λ (b : Bool). b && ltb (column p) 2) (le-ltb (row p) 2 h))
    by (no h) = unwired-line (row p) (column p) (and-right-false (ltb (row p) 2) (ltb (column p) 2) (le-ltb (column p) 2 (omega (arith, l, m, n, h))))

-- ---- the whole

wires : wires_from job22 directs 0 ≡ direct_line 0 0 ++ (direct_line 0 1 ++ (direct_line 1 0 ++ direct_line 1 1))
unfolding spread
wires =
    let g : ℕ → List ℕ = cell_wire job22 directs in
    let D = directs-listed in
    let last : spread g 42 1558 ≡ [] = spread_none g 1558 42 (λ q h. blank q (omega (arith, h)) (λ e. omega (arith, h, e)) (λ e. omega (arith, h, e))) in
    let gap : spread g 2 38 ≡ [] = none_between g 2 38 (λ q h k. blank q h (λ e. omega (arith, k, e)) (λ e. omega (arith, k, e))) in
    ap₂ (λ (a b : List ℕ). a ++ (b ++ spread g 2 1598)) D.1 D.2
    ∙ ap (λ (l : List ℕ). direct_line 0 0 ++ (direct_line 0 1 ++ l))
    (spread-split g 2 38 1560
    ∙ (ap (λ (l : List ℕ). l ++ spread g 40 1560) gap
    ∙ (ap₂ (λ (a b : List ℕ). a ++ (b ++ spread g 42 1558)) D.3 D.4 ∙ ap (λ (l : List ℕ). direct_line 1 0 ++ (direct_line 1 1 ++ l)) last)))
  where
    none_between : (g : ℕ → List ℕ) (p n : ℕ) → ((q : ℕ) → p ≤ q → q < p + n → g q ≡ []) → spread g p n ≡ []
    none_between g p zero h = refl
    none_between g p (suc n) h =
        ap₂ ◌++◌ (h p (omega arith) (omega arith)) (none_between g (suc p) n (λ q l m. h q (omega (arith, l)) (omega (arith, m))))

pub listing-four : wires_listing job22 directs ≡ first_line ++ ((direct_line 0 0 ++ (direct_line 0 1 ++ (direct_line 1 0 ++ direct_line 1 1))) ++ last_lines)
unfolding wires_listing
listing-four = ap₂ (λ (a b : List ℕ). a ++ (b ++ (length_line job22 directs ++ mean_line job22 directs))) directs-listed.0 wires
    ∙ ap (λ (l : List ℕ). first_line ++ ((direct_line 0 0 ++ (direct_line 0 1 ++ (direct_line 1 0 ++ direct_line 1 1))) ++ l)) directs-listed.5
