-- What the near side of a short job names, in the words of the listing. Assumes nothing.
use Rattle.std.specs.Prelude.{List, ◌∷◌, ℕ}
use Rattle.model.specs.Listing.{close}
use Rattle.listing.specs.Near.{near_word, pin_word, entry_word, exit_word}
use Rattle.listing.specs.declared.near.Spot.{Spot}
use Rattle.listing.specs.declared.near.Spot.TheVariants.{Pin, Entry, Exit, North, East, South, West, CentreIn, CentreOut}
use Rattle.listing.specs.declared.near.Group.{Group}
use Rattle.listing.specs.declared.near.Group.TheVariants.{Chosen, Missing, Tiles}

-- the number of a spot's kind
abbrev pub kind_of : Spot → ℕ
kind_of Entry = 0
kind_of Pin = 1
kind_of Exit = 1
kind_of North = 2
kind_of East = 3
kind_of South = 4
kind_of West = 5
kind_of CentreIn = 6
kind_of CentreOut = 7

-- what its line begins with
abbrev pub front_of : Spot → List ℕ
front_of Entry = entry_word
front_of Pin = pin_word
front_of Exit = exit_word
front_of North = near_word
front_of East = near_word
front_of South = near_word
front_of West = near_word
front_of CentreIn = near_word
front_of CentreOut = near_word

-- and what it ends with
abbrev pub end_of : Spot → List ℕ
end_of Entry = close
end_of Pin = close
end_of Exit = close
end_of North = 32 ∷ 110 ∷ close
end_of East = 32 ∷ 101 ∷ close
end_of South = 32 ∷ 115 ∷ close
end_of West = 32 ∷ 119 ∷ close
end_of CentreIn = 32 ∷ 99 ∷ 105 ∷ close
end_of CentreOut = 32 ∷ 99 ∷ 111 ∷ close

-- the number of a group
abbrev pub rank_of : Group → ℕ
rank_of Chosen = 0
rank_of Missing = 1
rank_of Tiles = 2
