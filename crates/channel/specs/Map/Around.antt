-- The slots of a place's exit: the darts there, slot by slot, take the steps around the place in the clockwise order. Each is one row of the table.
-- Assumes nothing.
use Rattle.std.specs.Prelude.{◌≡◌, List, [], ◌∷◌, ℕ, zero, suc, ◌+◌, ◌*◌, ◌<◌, T, eqb, get_or}
use Rattle.std.proofs.Common.{subst, subst₂, arith}
use Rattle.std.proofs.Math.Option.{some}
use Rattle.std.proofs.Math.ListN.{get_elem?}
use Rattle.model.specs.Links.{north, east, south, west, pin, missing, centre, side, north_side, link, Step, around_of}
use Rattle.model.specs.Near.{spot}
use Rattle.model.specs.Record.{kinds}
use Rattle.channel.specs.Map.{darts, step_of, carries, is_link_dart, links, owners, signs, codes, kind_of, owner_of, sign_of, code_of}
use Rattle.channel.specs.Map.Darts.{dart-at}

infixr 5 ◌then◌
-- what holds of each slot of a list, from slot j on
pub data Slots (P : ℕ → Step → Type 0) : ℕ → List Step → Type 0 where
  done : {j : ℕ} → Slots P j []
  ◌then◌ : {j : ℕ} {s : Step} {l : List Step} → P j s → Slots P (suc j) l → Slots P j (s ∷ l)

pub slots_at : {P : ℕ → Step → Type 0} {j : ℕ} {l : List Step} → Slots P j l → (k : ℕ) (s : Step) → get_elem? l k ≡ some s → P (j + k) s
slots_at done k s e = let z : ◌≡◌ {A = ℕ} 0 1 = cc in absurd (omega arith)
slots_at {P} {j} (◌then◌ {s = x} p q) zero s e =
    let n : j ≡ j + 0 = omega arith in
    let m : x ≡ s = cc in
    subst₂ P n m p
slots_at {P} {j} (p then q) (suc k) s e =
    let n : suc j + k ≡ j + suc k = omega arith in
    subst (λ (i : ℕ). P i s) n (slots_at q k s e)

-- the dart of a slot takes the step
pub record Takes (u k : ℕ) (s : Step) : Type 0 where
  pub range : 8 * u + k < darts
  pub linked : T (is_link_dart (8 * u + k))
  pub step : step_of (8 * u + k) ≡ s

-- the slot k of the spot of kind q in the cell (r, c), where the cell (i, j) owns the link
takes : (q k r c i j : ℕ) → (q < 8) × (k < 8) × (41 + 40 * r + c + owner_of (8 * q + k) ≡ 41 + 40 * i + j) × (i < 40) × (j < 40)
    → T (carries (code_of (8 * q + k)))
    → Takes (spot q r c) k (record { link = link (get_or kinds (kind_of (8 * q + k)) north_side) i j; forth = eqb (sign_of (8 * q + k)) 0 })
takes q k r c i j h t =
    let (l, u, e) = dart-at (8 * spot q r c + k) (41 + 40 * r + c) (8 * q + k) i j (omega arith) t in
    record { range = l; linked = u; step = e }

-- the darts of each exit, slot by slot
module _ (r c : ℕ) (a : r < 40) (b : c < 40) where
  pub takes-legs : Slots (Takes (spot 1 r c)) 0 (around_of missing r c)
  unfolding owner_of owners kind_of links sign_of signs carries code_of codes
  takes-legs =
      takes 1 0 r c r c (omega arith) tt
      then takes 1 1 r c r c (omega arith) tt
      then takes 1 2 r c r c (omega arith) tt
      then takes 1 3 r c r c (omega arith) tt
      then done

  pub takes-pin : Slots (Takes (spot 1 r c)) 0 (around_of pin r c)
  unfolding owner_of owners kind_of links sign_of signs carries code_of codes
  takes-pin =
      takes 1 0 r c r c (omega arith) tt
      then takes 1 1 r c r c (omega arith) tt
      then takes 1 2 r c r c (omega arith) tt
      then takes 1 3 r c r c (omega arith) tt
      then takes 1 4 r c r c (omega arith) tt
      then done

  pub takes-spokes : Slots (Takes (spot 7 r c)) 0 (around_of centre r c)
  unfolding owner_of owners kind_of links sign_of signs carries code_of codes
  takes-spokes =
      takes 7 0 r c r c (omega arith) tt
      then takes 7 1 r c r c (omega arith) tt
      then takes 7 2 r c r c (omega arith) tt
      then takes 7 3 r c r c (omega arith) tt
      then done

module _ (r c : ℕ) (a : suc r < 40) (b : suc c < 40) where
  pub takes-north : Slots (Takes (spot 2 r c)) 0 (around_of (side north) r c)
  unfolding owner_of owners kind_of links sign_of signs carries code_of codes
  takes-north =
      takes 2 0 r c r c (omega arith) tt
      then takes 2 1 r c r c (omega arith) tt
      then takes 2 2 r c r c (omega arith) tt
      then takes 2 3 r c r c (omega arith) tt
      then takes 2 4 r c r c (omega arith) tt
      then done

  pub takes-east : Slots (Takes (spot 3 r c)) 0 (around_of (side east) r c)
  unfolding owner_of owners kind_of links sign_of signs carries code_of codes
  takes-east =
      takes 3 0 r c r (suc c) (omega arith) tt
      then takes 3 1 r c r c (omega arith) tt
      then takes 3 2 r c r c (omega arith) tt
      then takes 3 3 r c r c (omega arith) tt
      then takes 3 4 r c r (suc c) (omega arith) tt
      then done

  pub takes-south : Slots (Takes (spot 4 r c)) 0 (around_of (side south) r c)
  unfolding owner_of owners kind_of links sign_of signs carries code_of codes
  takes-south =
      takes 4 0 r c (suc r) c (omega arith) tt
      then takes 4 1 r c r c (omega arith) tt
      then takes 4 2 r c r c (omega arith) tt
      then takes 4 3 r c r c (omega arith) tt
      then takes 4 4 r c (suc r) (suc c) (omega arith) tt
      then done

  pub takes-west : Slots (Takes (spot 5 r c)) 0 (around_of (side west) r c)
  unfolding owner_of owners kind_of links sign_of signs carries code_of codes
  takes-west =
      takes 5 0 r c r c (omega arith) tt
      then takes 5 1 r c r c (omega arith) tt
      then takes 5 2 r c r c (omega arith) tt
      then takes 5 3 r c r c (omega arith) tt
      then takes 5 4 r c (suc r) c (omega arith) tt
      then done
