-- The part of a wire of a legal record fits a word: it lies in the array, at a place with a number, on a lane below a load, and no load is above 16. Assumes
-- nothing.
use Rattle.std.specs.Prelude.{◌≡◌, Bool, ◌&&◌, List, ℕ, ◌<◌, eqb, ltb}
use Rattle.std.proofs.Math.Path.{refl}
use Rattle.std.proofs.Math.Bool.{true, false}
use Rattle.std.proofs.Math.Option.{Option, none, some}
use Rattle.std.proofs.Common.{arith, lt→ltb}
use Rattle.std.proofs.Math.Dec.{T}
use Rattle.sums.specs.Tests.{and_left, and_right, and_both}
use Rattle.model.specs.Job.{Job, array_fits, is_tile, is_open}
use Rattle.model.specs.Links.{PlaceKind, pin, missing, side, centre, outside, nowhere, Place, holds, is_place, enters, is_entered, Step, head, tail, may}
use Rattle.model.specs.Record.{job_of, load, Legal}
use Rattle.model.specs.Wires.{Hop, unwired, part_for, hop_at, is_wired, part_of, part_at}
use Rattle.channel.specs.Map.Places.{tile-cell, missing-cell}
use Rattle.channel.specs.Map.Carried.{step_small}
use Rattle.wire.specs.Next.{hop-may}
use Rattle.wire.specs.Apart.{wire-loaded}
use Rattle.talusdish.specs.Words.{is_numbered, part_fits}

open-cell : (J : Job) → T (array_fits J.rows J.columns) → (r c : ℕ) → T (is_open J r c) → (r < 40) × (c < 40)
unfolding is_open
open-cell J fits r c t = tile-cell J fits r c (and_left (is_tile J r c) (eqb (J.state r c) 0) t)

four-fit : (a b c d : Bool) → T a → T b → T c → T d → T (a && (b && (c && d)))
four-fit a b c d s t u v = and_both a (b && (c && d)) s (and_both b (c && d) t (and_both c d u v))

in_array : (r c i : ℕ) → r < 40 → c < 40 → i < 32 → (b : Bool) → T b → T (ltb r 64 && (ltb c 64 && (ltb i 32 && b)))
in_array r c i k l m b t =
    four-fit (ltb r 64) (ltb c 64) (ltb i 32) b (lt→ltb r 64 (omega arith)) (lt→ltb c 64 (omega arith)) (lt→ltb i 32 m) t

-- a place of the array has a number of its own
place-numbered : (J : Job) (p : PlaceKind) (r c : ℕ) → T (holds J p r c) → T (is_numbered p)
place-numbered J pin r c t = tt
place-numbered J missing r c t = tt
place-numbered J centre r c t = tt
place-numbered J outside r c t = absurd t
place-numbered J nowhere r c t = absurd t
place-numbered J (side d) r c t = tt

-- a place that is entered, from one of the array
entered-fits : (J : Job) → T (array_fits J.rows J.columns) → (x : Place) → T (is_place J x) → (p : PlaceKind) (r c i : ℕ) → T (enters J p r c) → i < 32
    → T (part_fits (part_for x p r c i))
entered-fits J fits x h pin r c i t l = absurd t
entered-fits J fits x h missing r c i t l = let (a, b) = missing-cell J fits r c t in in_array r c i a b l true tt
entered-fits J fits x h centre r c i t l = let (a, b) = open-cell J fits r c t in in_array r c i a b l true tt
entered-fits J fits x h outside r c i t l =
    and_both (ltb i 32) (is_numbered x.kind) (lt→ltb i 32 l) (place-numbered J x.kind x.row x.column h)
entered-fits J fits x h nowhere r c i t l = absurd t
entered-fits J fits x h (side d) r c i t l = let (a, b) = open-cell J fits r c t in in_array r c i a b l true tt

module _ (rec : List ℕ) (g : Legal rec) where
  abbrev J : Job
  J = job_of rec

  abbrev f : Step → ℕ
  f = load rec

  hop-fits : (h : Hop) → h.lane < f h.step → T (part_fits (part_of J f (some h)))
  unfolding may
  hop-fits h l =
      let m = hop-may J f g.sound.feasible h l in
      let t = tail J h.step in
      let y = head J h.step in
      entered-fits J g.values.array t (and_left (is_place J t) (is_entered J y) m) y.kind y.row y.column h.lane
      (and_right (is_place J t) (is_entered J y) m) (omega (arith, step_small g.sound.feasible (record { job = g.values.caps; tiles = g.values.added }) h.step))

  pub part-fits : (r c i : ℕ) → T (part_fits (part_at J f r c i))
  unfolding part_at
  part-fits r c i = by (is_wired J f r c) (hop_at J f r c i) (λ w h e. wire-loaded J f g.sound r c i h w e) refl
    where
      by : (w : Bool) (o : Option Hop) → (T w → (h : Hop) → hop_at J f r c i ≡ some h → h.lane < f h.step) → hop_at J f r c i ≡ o
          → T (part_fits (elim w [ true ↦ part_of J f o | false ↦ unwired ]))
      by true none k e = tt
      by true (some h) k e = hop-fits h (k tt h e)
      by false o k e = tt
