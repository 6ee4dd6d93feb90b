-- Cells that pass the test of their tile's own D have one that a tile may have, or none, and the other way round. Assumes nothing.
use Rattle.std.specs.Prelude.{◌≡◌, Bool, ◌&&◌, ◌||◌, List, ℕ, ◌*◌, ◌<◌}
use Rattle.std.proofs.Math.Path.{refl, subst}
use Rattle.std.proofs.Common.{sym}
use Rattle.std.proofs.Math.Bool.{true, false, not}
use Rattle.std.proofs.Math.Dec.{T, eqb, leb}
use Rattle.model.specs.Job.{Job, is_tile, own_d_fits, AddedFits}
use Rattle.model.specs.Record.{own_d_plane, cell, added_of, job_of}
use Rattle.channel.specs.Map.Bools.{or-false}
use Rattle.cell.specs.Cell.{own_fits}
use Rattle.cell.specs.Cell.Tests.{on-grid, off-grid}

module _ (rec : List ℕ) where
  abbrev J : Job
  J = job_of rec

  abbrev OwnFits : ℕ → ℕ → Bool
  OwnFits r c = elim (is_tile J r c) [ true ↦ own_d_fits J (J.added.own_d r c) | false ↦ eqb (J.added.own_d r c) 0 ]

  -- as a program reads it
  pub own_read : (r c d a b o n : ℕ) (t : Bool) → d ≡ cell rec own_d_plane r c → t ≡ is_tile J r c → a ≡ J.O → b ≡ J.O → o ≡ 2 * b → n ≡ J.D
      → (eqb d 0 || (t && ((leb a d && leb d o) && not (eqb d n)))) ≡ own_fits rec r c
  unfolding own_fits job_of added_of
  own_read r c d a b o n t e f g h k m = rw (e, f, g, k, h, m) (by (is_tile J r c))
    where
      by : (t : Bool) → (eqb (cell rec own_d_plane r c) 0 || (t && ((leb J.O (cell rec own_d_plane r c) && leb (cell rec own_d_plane r c) (2 * J.O)) && not (eqb (cell rec own_d_plane r c) J.D))))
          ≡ elim t as (λ x. Bool) [ true ↦ own_d_fits J (cell rec own_d_plane r c) | false ↦ eqb (cell rec own_d_plane r c) 0 ]
      by true = refl
      by false = or-false (eqb (cell rec own_d_plane r c) 0)

  pub own-pass : AddedFits J → (r c : ℕ) → T (own_fits rec r c)
  unfolding own_fits
  own-pass f r c = f.own_d r c

  pub owns-all : ((r c : ℕ) → r < 40 → c < 40 → T (own_fits rec r c)) → (r c : ℕ) → T (OwnFits r c)
  unfolding own_fits job_of added_of
  owns-all t = on-grid (λ r c. T (OwnFits r c)) t (λ r c e. none-fits (is_tile J r c) (cell rec own_d_plane r c) (off-grid rec own_d_plane r c e))
    where
      none-fits : (b : Bool) (d : ℕ) → d ≡ 0 → T (elim b as (λ x. Bool) [ true ↦ own_d_fits J d | false ↦ eqb d 0 ])
      none-fits true d e = subst (λ (n : ℕ). T (own_d_fits J n)) (sym e) tt
      none-fits false d e = subst (λ (n : ℕ). T (eqb n 0)) (sym e) tt
