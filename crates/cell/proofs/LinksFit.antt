-- Cells that pass the test of their links have loads in range, within their limits and only where a wire may go, and the other way round. Assumes nothing.
use Rattle.std.specs.Prelude.{List, ℕ, ◌<◌, T}
use Rattle.model.specs.Job.{Job, caps_fit}
use Rattle.model.specs.Record.{job_of}
use Rattle.cell.specs.Cell.{links_fit}
use Rattle.cell.specs.Cell.Links.{LoadsFit, links-all-by, links-pass-by}
use Rattle.cell.specs.Cell.Rooms.{fits-are}

module _ (rec : List ℕ) where
  abbrev J : Job
  J = job_of rec

  -- cells that pass
  module _ (caps : T (caps_fit J.O J.D J.E)) (t : (r c : ℕ) → r < 40 → c < 40 → T (links_fit rec r c)) where
    pub links-all : LoadsFit rec
    links-all = links-all-by rec fits-are caps t

  -- loads that fit
  module _ (fit : LoadsFit rec) where
    pub links-pass : (r c : ℕ) → T (links_fit rec r c)
    links-pass = links-pass-by rec fits-are fit
