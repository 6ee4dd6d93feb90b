-- K7, "Diagonal capacity by tile", with K5: the answer of giving a tile its D by its tests, and the record that it leaves. Assumes nothing.
use Rattle.std.specs.Prelude.{◌≡◌, ◌≢◌, Bool, true, false, not, ◌&&◌, List, [], ◌∷◌, ℕ, suc, ◌+◌, ◌*◌, ◌<◌, T, eqb, leb}
use Rattle.std.proofs.Common.{sym, ap, subst, ◌∙◌, arith, leb→le, eq-eqb, ne_eqb}
use Rattle.std.proofs.lemmas.Bool.{not-true, not-false}
use Rattle.sums.specs.Tests.{and_left, and_right}
use Rattle.model.specs.Job.{Job, with_own_d, own_for, diagonal_by, tile_d, in_range, is_tile}
use Rattle.model.specs.Links.{Step}
use Rattle.model.specs.Record.{job_of, load, Legal, record_of, over}
use Rattle.model.specs.Left.{centre_left}
use Rattle.model.specs.Calls.{refused, done, After, after, Test, test, asked, edited, diagonal_in}
use Rattle.model.proofs.Asked.{asked-fails, asked-holds}
use Rattle.model.proofs.RecordOf.{range-most}
use Rattle.channel.specs.Map.{row_of, column_of}
use Rattle.channel.specs.Map.Darts.{cell_row, cell-column}
use Rattle.channel.specs.Map.Places.{pin-cell}

-- the record of the job with that own D, with the wires that stay
abbrev pub own_in : ℕ → ℕ → ℕ → List ℕ → List ℕ
own_in r c v rec = over (record_of (with_own_d (job_of rec) r c v) (centre_left (job_of rec) (load rec) r c)) rec

module _ (rec : List ℕ) (r c d : ℕ) where
  abbrev J : Job
  J = job_of rec

  abbrev left : Step → ℕ
  left = centre_left J (load rec) r c

  -- what is left when no test fails, and the tests
  abbrev given : After
  given = edited (eqb (tile_d J r c) d) (diagonal_by J r c d) left rec

  abbrev ranged : List Test
  ranged = test (in_range J.O (2 * J.O) d) 3 ∷ []

  module _ (t : Bool) (e : t ≡ is_tile J r c) where
    pub diagonal-nowhere : not t ≡ true → after (refused 4) rec [] [] ≡ diagonal_in r c d rec
    diagonal-nowhere x = sym (asked-fails rec [] given (is_tile J r c) 4 ranged (sym e ∙ not-true t x))

    module _ (x : not t ≡ false) where
      is-there : diagonal_in r c d rec ≡ asked ranged rec [] given
      is-there = asked-holds rec [] given (is_tile J r c) 4 ranged (sym e ∙ not-false t x)

      pub diagonal-cell : Legal rec → (r < 39) × (c < 39)
      diagonal-cell g =
          let (a, b) = pin-cell J g.values.array (suc r) (suc c) (subst T (sym (not-false t x) ∙ e) tt) in
          (omega arith, omega arith)

      -- the range, as a program reads it
      module _ (o : ℕ) (k : o ≡ J.O) (u : Bool) (f : u ≡ in_range o (2 * o) d) where
        range-read : u ≡ in_range J.O (2 * J.O) d
        range-read = f ∙ ap (λ (n : ℕ). in_range n (2 * n) d) k

        pub diagonal-out : not u ≡ true → after (refused 3) rec [] [] ≡ diagonal_in r c d rec
        diagonal-out y = sym (is-there ∙ asked-fails rec [] given (in_range J.O (2 * J.O) d) 3 [] (sym range-read ∙ not-true u y))

        module _ (y : not u ≡ false) where
          -- a value in range is small
          pub diagonal-small : Legal rec → d < 256
          diagonal-small g =
              omega (
                arith,
                k,
                leb→le d (2 * o) (and_right (leb o d) (leb d (2 * o)) (subst T (sym (not-false u y) ∙ f) tt)),
                range-most 1 8 J.O (and_left (in_range 1 8 J.O) (in_range J.O (2 * J.O) J.D && in_range 0 16 J.E) g.values.caps),
              )

          -- w is what the tile has, read by its cell, and z whether that is d
          module _ (w : ℕ) (m : c < 40) (q : w ≡ tile_d J (row_of (41 + 40 * r + c)) (column_of (41 + 40 * r + c))) where
            there : w ≡ tile_d J r c
            there = q ∙ (λ i. tile_d J (cell_row (41 + 40 * r + c) r c (λ j. 41 + 40 * r + c) m i) (cell-column (41 + 40 * r + c) r c (λ j. 41 + 40 * r + c) m i))

            pub given-as : (z : Bool) → eqb w d ≡ z → edited z (diagonal_by J r c d) left rec ≡ diagonal_in r c d rec
            given-as z s =
                ap (λ (b : Bool). edited b (diagonal_by J r c d) left rec) (sym s ∙ ap (λ (n : ℕ). eqb n d) there)
                ∙ sym (is-there ∙ asked-holds rec [] given (in_range J.O (2 * J.O) d) 3 [] (sym range-read ∙ not-false u y))

            pub diagonal-same : w ≡ d → after done rec [] [] ≡ diagonal_in r c d rec
            diagonal-same s = given-as true (eq-eqb w d s)

            pub diagonal-anew : (rec' : List ℕ) (v : ℕ) → v ≡ own_for J d → w ≢ d → rec' ≡ own_in r c v rec → after done rec' [] [] ≡ diagonal_in r c d rec
            diagonal-anew rec' v p s z =
                ap (λ x. after done x [] []) (z ∙ ap (λ (n : ℕ). own_in r c n rec) p) ∙ given-as false (ne_eqb w d s)
