-- K7: where a tile's own D stands in a record, and the D of a tile by it. Assumes nothing.
use Rattle.std.specs.Prelude.{◌≡◌, ◌≢◌, List, ℕ, ◌+◌, ◌≤◌, ◌<◌, eqb, get_or}
use Rattle.std.proofs.Math.Path.{sym}
use Rattle.std.proofs.Common.{◌∙◌, eq-eqb, ne_eqb}
use Rattle.model.specs.Job.{tile_d}
use Rattle.model.specs.Record.{own_d_plane, cell, added_of, job_of}
use Rattle.channel.specs.Map.{row_of, column_of}
use Rattle.channel.specs.Map.Bools.{if-true, if-false}
use Rattle.channel.specs.Map.Grid.{cell-byte}

module _ (rec : List ℕ) (x : ℕ) (l : 41 ≤ x) (m : x < 1641) where
  abbrev own : ℕ
  own = cell rec own_d_plane (row_of x) (column_of x)

  own-byte : own ≡ get_or rec (31127 + x) 0
  own-byte = cell-byte rec own_d_plane x l m

  -- the job's where the byte is 0
  pub tile-none : get_or rec (31127 + x) 0 ≡ 0 → (job_of rec).D ≡ tile_d (job_of rec) (row_of x) (column_of x)
  unfolding job_of added_of
  tile-none z = sym (if-true (eqb own 0) (get_or rec 3 0) own (eq-eqb own 0 (own-byte ∙ z)))

  pub tile-own : get_or rec (31127 + x) 0 ≢ 0 → get_or rec (31127 + x) 0 ≡ tile_d (job_of rec) (row_of x) (column_of x)
  unfolding job_of added_of
  tile-own n = sym (if-false (eqb own 0) (get_or rec 3 0) own (ne_eqb own 0 (λ z. n (sym own-byte ∙ z))) ∙ own-byte)
