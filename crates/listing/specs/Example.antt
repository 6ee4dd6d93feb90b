-- Document 01, "The listing", on its examples: the lines of the four-pin job with the wires that document 01 prints, the part of a direct exit, the whole listing of a short
-- job and of a refusal, and the lines of a near missing pin. Assumes nothing.
use Rattle.std.specs.Prelude.{◌≡◌, refl, ◌≢◌, Bool, true, false, not, List, [], ◌∷◌, ◌++◌, ℕ, zero, suc, ◌+◌, ◌≤◌, ◌<◌, T, eqb, ltb, length, get_or, replicate}
use Rattle.std.proofs.Common.{sym, ap, ap₂, subst, ◌∙◌, append-nil, arith, ltb→lt, nltb→le, length-append}
use Rattle.std.proofs.Math.Option.{none}
use Rattle.std.proofs.lemmas.List.{length-replicate, get_or-replicate}
use Rattle.std.proofs.Math.ListN.{get_or-append, get_or-eq_default}
use Rattle.sums.specs.Counting.{only, each, those, total}
use Rattle.sums.specs.Tests.{Same, same, other, same?}
use Rattle.model.specs.Job.{is_open, is_chosen, is_missing}
use Rattle.model.specs.Links.{pin, places, behind_of, ahead_of, head}
use Rattle.model.specs.Loads.{departures}
use Rattle.model.specs.Wires.{falling_ends, ends_on, arrival_at, leaving, first_loaded, hop_at, is_wired, wire_count, out, part_at}
use Rattle.model.specs.Examples.{job_shut, job_missing}
use Rattle.model.proofs.FourPins.{job22, loads22, sound22}
use Rattle.model.specs.Listing.{tens, decimal, close, line, pair_line, spread, row, column}
use Rattle.model.specs.Near.{spot}
use Rattle.listing.specs.Near.{near_word, pin_word, entry_word, exit_word, short_word, near_line, chosen_line, missing_lines, side_lines, centre_lines, group_lines, short_listing, refused_listing}
use Rattle.model.specs.Listing.{wire_word, part_bytes, parts_bytes, wire_line, wires_line}
use Rattle.listing.specs.Spread.{spread_none}
use Rattle.listing.specs.Walked.{parts-end}

-- ---- four pins

-- (wire (pin 0 0) (to 0 0 n 0) (out n 0))
abbrev line00 : List ℕ
line00 =
    40 ∷ 119 ∷ 105 ∷ 114 ∷ 101 ∷ 32 ∷ 40 ∷ 112 ∷ 105 ∷ 110 ∷ 32 ∷ 48 ∷ 32 ∷ 48 ∷ 41 ∷ 32 ∷ 40 ∷ 116 ∷ 111 ∷ 32 ∷ 48 ∷ 32 ∷ 48 ∷ 32 ∷ 110 ∷ 32 ∷ 48
    ∷ 41 ∷ 32 ∷ 40 ∷ 111 ∷ 117 ∷ 116 ∷ 32 ∷ 110 ∷ 32 ∷ 48 ∷ 41 ∷ 41 ∷ 10 ∷ []

-- (wire (pin 0 1) (to 0 0 e 0) (out e 0))
abbrev line01 : List ℕ
line01 =
    40 ∷ 119 ∷ 105 ∷ 114 ∷ 101 ∷ 32 ∷ 40 ∷ 112 ∷ 105 ∷ 110 ∷ 32 ∷ 48 ∷ 32 ∷ 49 ∷ 41 ∷ 32 ∷ 40 ∷ 116 ∷ 111 ∷ 32 ∷ 48 ∷ 32 ∷ 48 ∷ 32 ∷ 101 ∷ 32 ∷ 48
    ∷ 41 ∷ 32 ∷ 40 ∷ 111 ∷ 117 ∷ 116 ∷ 32 ∷ 101 ∷ 32 ∷ 48 ∷ 41 ∷ 41 ∷ 10 ∷ []

-- (wire (pin 1 0) (to 0 0 w 0) (out w 0))
abbrev line10 : List ℕ
line10 =
    40 ∷ 119 ∷ 105 ∷ 114 ∷ 101 ∷ 32 ∷ 40 ∷ 112 ∷ 105 ∷ 110 ∷ 32 ∷ 49 ∷ 32 ∷ 48 ∷ 41 ∷ 32 ∷ 40 ∷ 116 ∷ 111 ∷ 32 ∷ 48 ∷ 32 ∷ 48 ∷ 32 ∷ 119 ∷ 32 ∷ 48
    ∷ 41 ∷ 32 ∷ 40 ∷ 111 ∷ 117 ∷ 116 ∷ 32 ∷ 119 ∷ 32 ∷ 48 ∷ 41 ∷ 41 ∷ 10 ∷ []

-- (wire (pin 1 1) (to 0 0 s 0) (out s 0))
abbrev line11 : List ℕ
line11 =
    40 ∷ 119 ∷ 105 ∷ 114 ∷ 101 ∷ 32 ∷ 40 ∷ 112 ∷ 105 ∷ 110 ∷ 32 ∷ 49 ∷ 32 ∷ 49 ∷ 41 ∷ 32 ∷ 40 ∷ 116 ∷ 111 ∷ 32 ∷ 48 ∷ 32 ∷ 48 ∷ 32 ∷ 115 ∷ 32 ∷ 48
    ∷ 41 ∷ 32 ∷ 40 ∷ 111 ∷ 117 ∷ 116 ∷ 32 ∷ 115 ∷ 32 ∷ 48 ∷ 41 ∷ 41 ∷ 10 ∷ []

-- (wires 4)
abbrev first22 : List ℕ
first22 = 40 ∷ 119 ∷ 105 ∷ 114 ∷ 101 ∷ 115 ∷ 32 ∷ 52 ∷ 41 ∷ 10 ∷ []

-- the line of a pin whose wire has two parts
two-parts : (r c : ℕ) (l : List ℕ) → hop_at job22 loads22 r c 2 ≡ none
    → only (is_wired job22 loads22 r c) (pair_line wire_word r c (41 ∷ []) ++ (parts_bytes job22 loads22 r c 2 ++ close)) ≡ l → wire_line job22 loads22 r c ≡ l
unfolding wire_line
two-parts r c l e g =
    ap (λ (ps : List ℕ). only (is_wired job22 loads22 r c) (pair_line wire_word r c (41 ∷ []) ++ (ps ++ close))) (parts-end job22 loads22 sound22 r c 2 11199 e) ∙ g

pub lines22 :
    (wires_line job22 loads22 ≡ first22)
    × (wire_line job22 loads22 0 0 ≡ line00) × (wire_line job22 loads22 0 1 ≡ line01)
    × (wire_line job22 loads22 1 0 ≡ line10) × (wire_line job22 loads22 1 1 ≡ line11)
unfolding decimal tens parts_bytes part_at hop_at leaving first_loaded arrival_at ends_on falling_ends each is_wired wire_count departures total places those
    is_chosen is_missing is_open head ahead_of behind_of
lines22 = (refl, two-parts 0 0 line00 refl refl, two-parts 0 1 line01 refl refl, two-parts 1 0 line10 refl refl, two-parts 1 1 line11 refl refl)

-- ---- a direct exit

-- " (out p 0)"
pub direct-part : part_bytes (out pin 0) ≡ 32 ∷ 40 ∷ 111 ∷ 117 ∷ 116 ∷ 32 ∷ 112 ∷ 32 ∷ 48 ∷ 41 ∷ []
unfolding decimal tens
direct-part = refl

-- ---- 3 by 3, every tile closed, pin (1, 1) chosen

-- the cell of pin (1, 1), and the near bytes: that pin alone
abbrev inner : ℕ
inner = 41

abbrev near_shut : List ℕ
near_shut = replicate 657 0 ++ (1 ∷ [])

-- (short 1), (near pin 1 1)
abbrev bytes_shut : List ℕ
bytes_shut =
    40 ∷ 115 ∷ 104 ∷ 111 ∷ 114 ∷ 116 ∷ 32 ∷ 49 ∷ 41 ∷ 10 ∷ 40 ∷ 110 ∷ 101 ∷ 97 ∷ 114 ∷ 32 ∷ 112 ∷ 105 ∷ 110 ∷ 32 ∷ 49 ∷ 32 ∷ 49 ∷ 41 ∷ 10 ∷ []

near-size : length near_shut ≡ 658
near-size = length-append {A = ℕ} (replicate 657 0) (1 ∷ []) ∙ ap (λ (n : ℕ). n + 1) (length-replicate {A = ℕ} 657 0)

-- every byte but that of the pin is 0
zero-else : (i : ℕ) → i ≢ 657 → get_or near_shut i 0 ≡ 0
zero-else i h = by (ltb i 657) (ltb→lt i 657) (nltb→le i 657)
  where
    by : (t : Bool) → (T t → i < 657) → (T (not t) → 657 ≤ i) → get_or near_shut i 0 ≡ 0
    by true l m = get_or-append {A = ℕ} (replicate 657 0) (1 ∷ []) 0 i (subst (λ (n : ℕ). i < n) (sym (length-replicate {A = ℕ} 657 0)) (l tt)) ∙ get_or-replicate 657 i 0 0 (l tt)
    by false l m = get_or-eq_default near_shut 0 {n = i} (subst (λ (n : ℕ). n ≤ i) (sym near-size) (omega (arith, h, m tt)))

-- no cell but that of the pin has a line
far : (k : ℕ) (front end : List ℕ) (p : ℕ) → k < 8 → p ≢ inner → near_line near_shut k front end p ≡ []
far k front end p l h =
    ap (λ (b : ℕ). only (eqb b 1) (pair_line front (row p) (column p) end)) (zero-else (spot k (row p) (column p)) (λ e. h (omega (arith, e, l))))

abbrev nothing : List ℕ
nothing = []

only_none : (b : Bool) → only b nothing ≡ nothing
only_none true = refl
only_none false = refl

blank : (g p : ℕ) → p ≢ inner → group_lines job_shut near_shut g p ≡ []
unfolding group_lines chosen_line missing_lines side_lines centre_lines
blank zero p h = ap (λ (l : List ℕ). only (is_chosen job_shut (row p) (column p)) l) (far 1 pin_word close p (omega arith) h) ∙ only_none (is_chosen job_shut (row p) (column p))
blank (suc zero) p h =
    ap₂ (λ (l m : List ℕ). only (is_missing job_shut (row p) (column p)) (l ++ m)) (far 0 entry_word close p (omega arith) h) (far 1 exit_word close p (omega arith) h)
    ∙ only_none (is_missing job_shut (row p) (column p))
blank (suc (suc g)) p h =
    ap₂ ◌++◌
    (ap₂ ◌++◌ (far 2 near_word (32 ∷ 110 ∷ close) p (omega arith) h)
    (ap₂ ◌++◌ (far 3 near_word (32 ∷ 101 ∷ close) p (omega arith) h) (ap₂ ◌++◌ (far 4 near_word (32 ∷ 115 ∷ close) p (omega arith) h) (far 5 near_word (32 ∷ 119 ∷ close) p (omega arith) h))))
    (ap₂ ◌++◌ (far 6 near_word (32 ∷ 99 ∷ 105 ∷ close) p (omega arith) h) (far 7 near_word (32 ∷ 99 ∷ 111 ∷ close) p (omega arith) h))

-- cells of which at most one has lines
spread-one : (g : ℕ → List ℕ) (n p m : ℕ) → p ≤ m → m < p + n → ((q : ℕ) → q ≢ m → g q ≡ []) → spread g p n ≡ g m
unfolding spread
spread-one g zero p m a b h = absurd (omega arith)
spread-one g (suc n) p m a b h = by (eqb p m) (same? p m) (λ l. spread-one g n (suc p) m l (omega (arith, b)) h)
  where
    by : (t : Bool) → Same p m t → (suc p ≤ m → spread g (suc p) n ≡ g m) → g p ++ spread g (suc p) n ≡ g m
    by true (same e) later =
        ap₂ (λ (q : ℕ) (l : List ℕ). g q ++ l) e (spread_none g n (suc p) (λ q k. h q (λ (z : q ≡ m). omega (arith, e, k, z)))) ∙ append-nil (g m)
    by false (other e) later = ap₂ ◌++◌ (h p e) (later (omega (arith, a, e)))

only-inner : (g : ℕ) → spread (group_lines job_shut near_shut g) 0 1600 ≡ group_lines job_shut near_shut g inner
only-inner g = spread-one (group_lines job_shut near_shut g) 1600 0 inner (omega arith) (omega arith) (blank g)

pub listing-shut : short_listing job_shut near_shut 1 ≡ bytes_shut
unfolding short_listing group_lines chosen_line missing_lines side_lines centre_lines decimal tens is_chosen is_missing
listing-shut = ap₂ (λ (l m : List ℕ). line short_word 1 ++ (l ++ m)) (only-inner 0) (ap₂ ◌++◌ (only-inner 1) (only-inner 2))

-- ---- a missing pin, entry before exit

-- (near ri 0 1), (near ro 0 1)
abbrev bytes_missing : List ℕ
bytes_missing =
    40 ∷ 110 ∷ 101 ∷ 97 ∷ 114 ∷ 32 ∷ 114 ∷ 105 ∷ 32 ∷ 48 ∷ 32 ∷ 49 ∷ 41 ∷ 10 ∷ 40 ∷ 110 ∷ 101 ∷ 97 ∷ 114 ∷ 32 ∷ 114 ∷ 111 ∷ 32 ∷ 48 ∷ 32 ∷ 49 ∷ 41 ∷ 10
    ∷ []

-- the lines of the cell of pin (0, 1), wherever both are near
pub missing-listed : (near : List ℕ) → get_or near (spot 0 0 1) 0 ≡ 1 → get_or near (spot 1 0 1) 0 ≡ 1 → group_lines job_missing near 1 1 ≡ bytes_missing
unfolding group_lines missing_lines is_missing decimal tens
missing-listed near a b =
    ap₂ (λ (x y : ℕ). only (eqb x 1) (pair_line entry_word 0 1 close) ++ only (eqb y 1) (pair_line exit_word 0 1 close)) a b

-- (refused 6 45)
abbrev refused45 : List ℕ
refused45 = 40 ∷ 114 ∷ 101 ∷ 102 ∷ 117 ∷ 115 ∷ 101 ∷ 100 ∷ 32 ∷ 54 ∷ 32 ∷ 52 ∷ 53 ∷ 41 ∷ 10 ∷ []

pub listing-refused : refused_listing 45 ≡ refused45
unfolding refused_listing decimal tens
listing-refused = refl
