-- Document 02, "Rim pins leave directly": "The 64-byte job and the 3 by 3 case are now all wired"; and so are the job of one open tile that a laid wire makes
-- short, and the 3 by 3 case before its inner pin is chosen. Their greatest number is that of the chosen pins, by routes that together exceed no limit; the
-- empty near side says that no routes are more. Assumes nothing.
use mathlib.Core.Path.{◌≡◌, refl, sym, subst}
use mathlib.Core.Bool.{false}
use mathlib.Core.List.{List, [], ◌∷◌, Memᴰ}
use native.Mathlib.Omega.{arith}
use lib.Dec.{T}
use lib.ListN.{length}
use Rattle.sums.specs.Counting.{each, those, total}
use Rattle.sums.specs.Tests.{every}
use Rattle.model.specs.Job.{Job, is_open, is_chosen, is_missing}
use Rattle.model.specs.Links.{north, east, south, west, north_side, corner, spoke, leg, direct, places, behind_of, ahead_of, limit_of, go, come, head, may}
use Rattle.model.specs.Route.{Route, Greatest, chosen_count}
use Rattle.model.specs.Examples.{job64, job33, job_two, job_earlier, wireds}
use Rattle.model.proofs.Bound.{routes-le-sum}
use Rattle.model.proofs.ByTest.{together_test, together-by-test}
use Rattle.model.proofs.Empty.{empty-near, empty-sum}

all-by-test : (J : Job) (rs : List (Route J)) → T (together_test J rs) → length rs ≡ chosen_count J → Greatest J (chosen_count J)
all-by-test J rs t n =
    record {
      routes = rs;
      together = together-by-test J rs t;
      size = n;
      most = λ qs F. omega (arith, routes-le-sum J (λ i. false) (empty-near J) qs F, empty-sum J);
    }

abbrev routes64 : List (Route job64)
unfolding is_chosen is_missing is_open may head ahead_of behind_of
routes64 = record { row = 0; column = 0; steps = go direct 0 0 ∷ []; chosen = tt; chain = (refl, tt, refl) } ∷ []

abbrev routes33 : List (Route job33)
unfolding is_chosen is_missing is_open may head ahead_of behind_of
routes33 =
    record { row = 0; column = 0; steps = go direct 0 0 ∷ []; chosen = tt; chain = (refl, tt, refl) }
    ∷ record { row = 1; column = 0; steps = go direct 1 0 ∷ []; chosen = tt; chain = (refl, tt, refl) }
    ∷ record {
      row = 1;
      column = 1;
      steps = go (leg west) 1 1 ∷ come (spoke south) 0 0 ∷ go (spoke north) 0 0 ∷ go north_side 0 0 ∷ [];
      chosen = tt;
      chain = (refl, tt, (refl, tt, (refl, tt, (refl, tt, refl))));
    }
    ∷ []

abbrev routes_two : List (Route job_two)
unfolding is_chosen is_missing is_open may head ahead_of behind_of
routes_two =
    record {
      row = 1;
      column = 1;
      steps = go (leg north) 1 1 ∷ go (corner west) 0 1 ∷ go north_side 0 1 ∷ [];
      chosen = tt;
      chain = (refl, tt, (refl, tt, (refl, tt, refl)));
    }
    ∷ record {
      row = 1;
      column = 2;
      steps = go (leg west) 1 2 ∷ come (corner east) 0 1 ∷ come (corner north) 0 1 ∷ go north_side 0 1 ∷ [];
      chosen = tt;
      chain = (refl, tt, (refl, tt, (refl, tt, (refl, tt, refl))));
    }
    ∷ []

abbrev routes_earlier : List (Route job_earlier)
unfolding is_chosen is_missing is_open may head ahead_of behind_of
routes_earlier =
    record { row = 0; column = 0; steps = go direct 0 0 ∷ []; chosen = tt; chain = (refl, tt, refl) }
    ∷ record { row = 1; column = 0; steps = go direct 1 0 ∷ []; chosen = tt; chain = (refl, tt, refl) }
    ∷ []

pub wireds-hold : (J : Job) → Memᴰ J wireds → Greatest J (chosen_count J)
unfolding every total places each those is_chosen is_missing is_open may head ahead_of behind_of limit_of
wireds-hold J (Memᴰ.head e) = subst (λ (K : Job). Greatest K (chosen_count K)) (sym e) (all-by-test job64 routes64 tt refl)
wireds-hold J (Memᴰ.tail (Memᴰ.head e)) = subst (λ (K : Job). Greatest K (chosen_count K)) (sym e) (all-by-test job33 routes33 tt refl)
wireds-hold J (Memᴰ.tail (Memᴰ.tail (Memᴰ.head e))) = subst (λ (K : Job). Greatest K (chosen_count K)) (sym e) (all-by-test job_two routes_two tt refl)
wireds-hold J (mathlib.Core.List.Memᴰ.tail (mathlib.Core.List.Memᴰ.tail (mathlib.Core.List.Memᴰ.tail (mathlib.Core.List.Memᴰ.tail x16)))) = elim x16 [ ]
wireds-hold J (Memᴰ.tail (Memᴰ.tail (Memᴰ.tail (Memᴰ.head e)))) =
    subst (λ (K : Job). Greatest K (chosen_count K)) (sym e) (all-by-test job_earlier routes_earlier tt refl)
