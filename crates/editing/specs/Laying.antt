-- K3, "Wires already laid", with K5: the answer of setting a count by its tests, and the record that it leaves. Assumes nothing.
use Rattle.std.specs.Prelude.{◌≡◌, ◌≢◌, Bool, true, false, not, List, [], ◌∷◌, ℕ, suc, ◌≤◌, ◌<◌, T, eqb, leb}
use Rattle.std.proofs.Common.{sym, ap, subst, ◌∙◌, arith, le-leb, eq-eqb, ne_eqb}
use Rattle.std.proofs.lemmas.Bool.{not-true, not-false, lt-leb}
use Rattle.model.specs.Job.{Job, side_of, laid_on, laid_by, is_tile}
use Rattle.model.specs.Links.{Step}
use Rattle.model.specs.Record.{job_of, load, Legal, record_of, over}
use Rattle.model.specs.Left.{laid_left}
use Rattle.model.specs.Calls.{refused, done, After, after, Test, test, asked, edited, laid_in}
use Rattle.model.proofs.Asked.{asked-fails, asked-holds}
use Rattle.channel.specs.Map.Places.{pin-cell}

-- the record of the job with the count, with the wires that stay
abbrev pub count_in : ℕ → ℕ → ℕ → ℕ → List ℕ → List ℕ
count_in r c d n rec = over (record_of (laid_by (job_of rec) (side_of r c d) n) (laid_left (job_of rec) (load rec) (side_of r c d) n)) rec

module _ (rec : List ℕ) (r c d n : ℕ) where
  abbrev J : Job
  J = job_of rec

  abbrev left : Step → ℕ
  left = laid_left J (load rec) (side_of r c d) n

  -- what is left when no test fails, and the tests
  abbrev laid : After
  laid = edited (eqb (laid_on J (side_of r c d)) n) (laid_by J (side_of r c d) n) left rec

  abbrev counted : List Test
  counted = test (leb n J.O) 11 ∷ []

  abbrev named : List Test
  named = test (leb d 3) 5 ∷ counted

  module _ (t : Bool) (e : t ≡ is_tile J r c) where
    pub lay-nowhere : not t ≡ true → after (refused 4) rec [] [] ≡ laid_in r c d n rec
    lay-nowhere x = sym (asked-fails rec [] laid (is_tile J r c) 4 named (sym e ∙ not-true t x))

    module _ (x : not t ≡ false) where
      is-there : laid_in r c d n rec ≡ asked named rec [] laid
      is-there = asked-holds rec [] laid (is_tile J r c) 4 named (sym e ∙ not-false t x)

      pub lay-unknown : 3 < d → after (refused 5) rec [] [] ≡ laid_in r c d n rec
      lay-unknown l = sym (is-there ∙ asked-fails rec [] laid (leb d 3) 5 counted (lt-leb d 3 l))

      -- the tile lies where both tiles of a side are on the grid
      pub lay-cell : Legal rec → (r < 39) × (c < 39)
      lay-cell g =
          let (a, b) = pin-cell J g.values.array (suc r) (suc c) (subst T (sym (not-false t x) ∙ e) tt) in
          (omega arith, omega arith)

      module _ (l : d ≤ 3) (o : ℕ) (f : o ≡ J.O) where
        is-named : laid_in r c d n rec ≡ asked counted rec [] laid
        is-named = is-there ∙ asked-holds rec [] laid (leb d 3) 5 counted (le-leb d 3 l)

        pub lay-above : o < n → after (refused 11) rec [] [] ≡ laid_in r c d n rec
        lay-above h = sym (is-named ∙ asked-fails rec [] laid (leb n J.O) 11 [] (lt-leb n J.O (omega arith)))

        module _ (h : n ≤ o) (w : ℕ) (q : w ≡ laid_on J (side_of r c d)) where
          laid_as : (z : Bool) → eqb w n ≡ z → edited z (laid_by J (side_of r c d) n) left rec ≡ laid_in r c d n rec
          laid_as z s =
              ap (λ (y : Bool). edited y (laid_by J (side_of r c d) n) left rec) (sym s ∙ ap (λ (m : ℕ). eqb m n) q)
              ∙ sym (is-named ∙ asked-holds rec [] laid (leb n J.O) 11 [] (le-leb n J.O (omega arith)))

          pub lay-same : w ≡ n → after done rec [] [] ≡ laid_in r c d n rec
          lay-same s = laid_as true (eq-eqb w n s)

          pub lay-anew : (rec' : List ℕ) → w ≢ n → rec' ≡ count_in r c d n rec → after done rec' [] [] ≡ laid_in r c d n rec
          lay-anew rec' s y = ap (λ z. after done z [] []) y ∙ laid_as false (ne_eqb w n s)
