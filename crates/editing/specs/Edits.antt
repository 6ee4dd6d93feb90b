-- Document 01, "Mark" and "close", with K5: the answer of an edit by its tests, and the record that an edit of a legal one leaves. Assumes nothing.
use Rattle.std.specs.Prelude.{◌≡◌, refl, ◌≢◌, Bool, true, false, not, List, [], ◌∷◌, ℕ, ◌≤◌, ◌<◌, T, eqb, leb}
use Rattle.std.proofs.Common.{sym, ap, subst, ◌∙◌, le-leb, eq-eqb, ne_eqb}
use Rattle.std.proofs.lemmas.Bool.{not-true, not-false, lt-leb}
use Rattle.model.specs.Job.{Job, marked, closed, is_pin, is_tile}
use Rattle.model.specs.Links.{Step}
use Rattle.model.specs.Record.{job_of, load, Legal, record_of, over}
use Rattle.model.specs.Left.{mark_left, close_left}
use Rattle.model.specs.Calls.{refused, done, After, after, Test, test, asked, edited, marked_by, closed_by}
use Rattle.model.proofs.Asked.{asked-fails, asked-holds}
use Rattle.channel.specs.Map.Places.{pin-cell, tile-cell}

-- ---- the tests

-- K is the edited job, `left` the loads that stay, b the greatest mark or state, m the one given, v the one that stands there
module _ (K : Job) (left : Step → ℕ) (rec : List ℕ) (there : Bool) (b m v : ℕ) (t : Bool) (e : t ≡ there) where
  abbrev known : List Test
  known = test (leb m b) 5 ∷ []

  abbrev answer : After
  answer = asked (test there 4 ∷ known) rec [] (edited (eqb v m) K left rec)

  edited-nowhere : not t ≡ true → after (refused 4) rec [] [] ≡ answer
  edited-nowhere n = sym (asked-fails rec [] (edited (eqb v m) K left rec) there 4 known (sym e ∙ not-true t n))

  module _ (n : not t ≡ false) where
    is-there : answer ≡ asked known rec [] (edited (eqb v m) K left rec)
    is-there = asked-holds rec [] (edited (eqb v m) K left rec) there 4 known (sym e ∙ not-false t n)

    edited-unknown : b < m → after (refused 5) rec [] [] ≡ answer
    edited-unknown l = sym (is-there ∙ asked-fails rec [] (edited (eqb v m) K left rec) (leb m b) 5 [] (lt-leb m b l))

    module _ (l : m ≤ b) (w : ℕ) (q : w ≡ v) where
      edited-as : (z : Bool) → eqb w m ≡ z → edited z K left rec ≡ answer
      edited-as z s =
          ap (λ (x : Bool). edited x K left rec) (sym s ∙ ap (λ (x : ℕ). eqb x m) q)
          ∙ sym (is-there ∙ asked-holds rec [] (edited (eqb v m) K left rec) (leb m b) 5 [] (le-leb m b l))

      edited-same : w ≡ m → after done rec [] [] ≡ answer
      edited-same s = edited-as true (eq-eqb w m s)

      edited-anew : (rec' : List ℕ) → w ≢ m → rec' ≡ over (record_of K left) rec → after done rec' [] [] ≡ answer
      edited-anew rec' s r = ap (λ x. after done x [] []) r ∙ edited-as false (ne_eqb w m s)

-- ---- Mark, and Close where tiles are edited

-- whether the pin or the tile is there, the greatest mark or state, the one that stands there, the edited job, and the loads that stay
abbrev pub is_there : Bool → Job → ℕ → ℕ → Bool
is_there false J r c = is_pin J r c
is_there true J r c = is_tile J r c

abbrev pub most : Bool → ℕ
most false = 2
most true = 1

abbrev pub value_in : Bool → Job → ℕ → ℕ → ℕ
value_in false J r c = J.mark r c
value_in true J r c = J.state r c

abbrev pub with_value : Bool → Job → ℕ → ℕ → ℕ → Job
with_value false J r c v = marked J r c v
with_value true J r c v = closed J r c v

abbrev pub left_by : Bool → Job → (Step → ℕ) → ℕ → ℕ → Step → ℕ
left_by false J f r c = mark_left J f r c
left_by true J f r c = close_left J f r c

-- the record of the edited job with the wires that stay
abbrev pub set_in : Bool → ℕ → ℕ → ℕ → List ℕ → List ℕ
set_in k r c v rec = over (record_of (with_value k (job_of rec) r c v) (left_by k (job_of rec) (load rec) r c)) rec

abbrev pub edited_by : Bool → ℕ → ℕ → ℕ → List ℕ → After
edited_by false r c v rec = marked_by r c v rec
edited_by true r c v rec = closed_by r c v rec

module _ (tiles : Bool) (rec : List ℕ) (r c v : ℕ) where
  abbrev J : Job
  J = job_of rec

  abbrev f : Step → ℕ
  f = load rec

  by_tests : (k : Bool) → answer (with_value k J r c v) (left_by k J f r c) rec (is_there k J r c) (most k) v (value_in k J r c) (is_there k J r c) refl ≡ edited_by k r c v rec
  by_tests false = refl
  by_tests true = refl

  there-cell : (k : Bool) → Legal rec → T (is_there k J r c) → (r < 40) × (c < 40)
  there-cell false g t = pin-cell J g.values.array r c t
  there-cell true g t = tile-cell J g.values.array r c t

  module _ (t : Bool) (e : t ≡ is_there tiles J r c) where
    pub edit-nowhere : not t ≡ true → after (refused 4) rec [] [] ≡ edited_by tiles r c v rec
    edit-nowhere n = edited-nowhere (with_value tiles J r c v) (left_by tiles J f r c) rec (is_there tiles J r c) (most tiles) v (value_in tiles J r c) t e n ∙ by_tests tiles

    module _ (n : not t ≡ false) where
      pub edit-cell : Legal rec → (r < 40) × (c < 40)
      edit-cell g = there-cell tiles g (subst T (sym (not-false t n) ∙ e) tt)

      pub edit-unknown : most tiles < v → after (refused 5) rec [] [] ≡ edited_by tiles r c v rec
      edit-unknown l = edited-unknown (with_value tiles J r c v) (left_by tiles J f r c) rec (is_there tiles J r c) (most tiles) v (value_in tiles J r c) t e n l ∙ by_tests tiles

      module _ (l : v ≤ most tiles) (w : ℕ) (q : w ≡ value_in tiles J r c) where
        pub edit-same : w ≡ v → after done rec [] [] ≡ edited_by tiles r c v rec
        edit-same s = edited-same (with_value tiles J r c v) (left_by tiles J f r c) rec (is_there tiles J r c) (most tiles) v (value_in tiles J r c) t e n l w q s ∙ by_tests tiles

        pub edit-anew : (rec' : List ℕ) → w ≢ v → rec' ≡ set_in tiles r c v rec → after done rec' [] [] ≡ edited_by tiles r c v rec
        edit-anew rec' s x =
            edited-anew (with_value tiles J r c v) (left_by tiles J f r c) rec (is_there tiles J r c) (most tiles) v (value_in tiles J r c) t e n l w q rec' s x
            ∙ by_tests tiles
