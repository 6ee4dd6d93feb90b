-- The letters of places by the kind of a place's spot. Assumes nothing.
use Rattle.std.specs.Prelude.{◌≡◌, List, [], ◌∷◌, ℕ, get_or}
use Rattle.model.specs.Listing.{letter_of}
use Rattle.channel.specs.Map.Entered.{kind_at, by_kind}

abbrev pub letters : List ℕ
letters = 114 ∷ 112 ∷ 110 ∷ 101 ∷ 115 ∷ 119 ∷ 99 ∷ 99 ∷ []

pub letter-kind : (k : ℕ) → get_or letters k 0 ≡ letter_of (kind_at k)
letter-kind k = by_kind letter_of k
