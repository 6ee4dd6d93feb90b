-- The rounds of document 01: for as many arrivals as departures each position stands in exactly one pair, a pair joins two kinds, and the rounds give the
-- pairs of one pass with a stack, in the same order. By what one round strikes out. Assumes nothing.
use Rattle.std.specs.Prelude.{ℕ, zero, suc, ◌+◌, ◌*◌, ◌≤◌, ◌<◌, Bool, true, false, not, List, [], ◌∷◌, ◌≡◌, refl, eqb, length}
use Rattle.std.proofs.Common.{arith, not-suc-le-zero, add-zero, zero-add, sym, ◌∙◌, ap, eqb-true, ne_eqb}
use Rattle.std.specs.Bool.{beq}
use Rattle.std.proofs.Math.Option.{Option, none, some}
use Rattle.std.proofs.lemmas.Bool.{eqb-false}
use Rattle.sums.specs.Counting.{when, sum}
use Rattle.model.specs.Pairing.{Pair, Struck, keep, strike, rounds, range, pairs_of}
use Rattle.pairing.specs.Pass.{left, run, listed, paired, passed}

pub same_true : (a b : Bool) → beq a b ≡ true → a ≡ b
same_true true true e = refl
same_true true false e = sym e
same_true false true e = e
same_true false false e = refl

pub same_false : (a b : Bool) → beq a b ≡ false → b ≡ not a
same_false true true e = e
same_false true false e = refl
same_false false true e = refl
same_false false false e = sym e

pub same_refl : (a : Bool) → beq a a ≡ true
same_refl true = refl
same_refl false = refl

pub same_not : (a : Bool) → beq (not a) a ≡ false
same_not true = refl
same_not false = refl

pub not-not : (a : Bool) → not (not a) ≡ a
not-not true = refl
not-not false = refl

-- how many of a list's positions are of kind k
abbrev pub kinds : (ℕ → Bool) → Bool → List ℕ → ℕ
kinds w k [] = 0
kinds w k (x ∷ l) = when (beq (w x) k) 1 + kinds w k l

-- every pair of a list is so
pub data Each (P : ℕ → ℕ → Type 0) : List Pair → Type 0 where
  no_more : Each P []
  one_more : {p : Pair} {l : List Pair} → P p.fst p.snd → Each P l → Each P (p ∷ l)

abbrev pub Differ : (ℕ → Bool) → ℕ → ℕ → Type 0
Differ w a b = w b ≡ not (w a)

module _ (w : ℕ → Bool) where
  -- the clauses of the definitions, by cases
  pub strike-same : (x y : ℕ) (l : List ℕ) → beq (w x) (w y) ≡ true → strike w (x ∷ y ∷ l) ≡ keep x (strike w (y ∷ l))
  strike-same x y l e = rw (e, strike)

  pub strike-differ : (x y : ℕ) (l : List ℕ) → beq (w x) (w y) ≡ false
      → strike w (x ∷ y ∷ l) ≡ some (record { pair = record { fst = x; snd = y }; rest = l })
  strike-differ x y l e = rw (e, strike)

  pub rounds-none : (f : ℕ) (l : List ℕ) → strike w l ≡ none → rounds w (suc f) l ≡ []
  rounds-none f l e = rw (e, rounds)

  pub rounds-some : (f : ℕ) (l : List ℕ) (s : Struck) → strike w l ≡ some s → rounds w (suc f) l ≡ s.pair ∷ rounds w f s.rest
  rounds-some f l s e = rw (e, rounds)

  pub left-none : (f : ℕ) (l : List ℕ) → strike w l ≡ none → left w (suc f) l ≡ l
  left-none f l e = rw (e, left)

  pub left-some : (f : ℕ) (l : List ℕ) (s : Struck) → strike w l ≡ some s → left w (suc f) l ≡ left w f s.rest
  left-some f l s e = rw (e, left)

  -- what one round does
  pub record Fair (l : List ℕ) (s : Struck) : Type 0 where
    pub differ : beq (w s.pair.fst) (w s.pair.snd) ≡ false
    pub size : length l ≡ 2 + length s.rest
    pub each : (i : ℕ) → listed i l ≡ when (eqb i s.pair.fst) 1 + when (eqb i s.pair.snd) 1 + listed i s.rest
    pub even : kinds w true l + kinds w false s.rest ≡ kinds w false l + kinds w true s.rest

  abbrev pub All-fair : List ℕ → Option Struck → Type 0
  All-fair l none = Unit {0}
  All-fair l (some s) = Fair l s

  even-two : (a b : Bool) → beq a b ≡ false → when (beq a true) 1 + when (beq b true) 1 ≡ when (beq a false) 1 + when (beq b false) 1
  even-two true true e = let z : ◌≡◌ {A = ℕ} 0 1 = cc in omega arith
  even-two true false e = refl
  even-two false true e = refl
  even-two false false e = let z : ◌≡◌ {A = ℕ} 0 1 = cc in omega arith

  keep-fair : (x : ℕ) (l : List ℕ) (o : Option Struck) → All-fair l o → All-fair (x ∷ l) (keep x o)
  keep-fair x l none h = tt
  keep-fair x l (some s) h =
      record {
        differ = h.differ;
        size = omega arith;
        each = λ i. let e = h.each i in omega arith;
        even = omega arith;
      }

  pub strike-fair : (l : List ℕ) → All-fair l (strike w l)
  strike-fair [] = tt
  strike-fair (x ∷ []) = tt
  strike-fair (x ∷ y ∷ l) = go (beq (w x) (w y)) refl (strike-fair (y ∷ l))
    where
      go : (b : Bool) → beq (w x) (w y) ≡ b → All-fair (y ∷ l) (strike w (y ∷ l)) → All-fair (x ∷ y ∷ l) (strike w (x ∷ y ∷ l))
      go true e h = rw (strike-same x y l e) (keep-fair x (y ∷ l) (strike w (y ∷ l)) h)
      go false e h =
          rw (strike-differ x y l e) (record {
            differ = e;
            size = omega arith;
            each = λ i. omega arith;
            even = let z = even-two (w x) (w y) e in omega arith;
          })

  -- each position stands in the pairs and in what is left as often as in the list
  pub rounds-each : (f : ℕ) (l : List ℕ) (i : ℕ) → paired i (rounds w f l) + listed i (left w f l) ≡ listed i l
  rounds-each zero l i = omega arith
  rounds-each (suc f) l i = go (strike w l) refl (strike-fair l) (rounds-each f)
    where
      go : (o : Option Struck) → strike w l ≡ o → All-fair l o → ((r : List ℕ) (i : ℕ) → paired i (rounds w f r) + listed i (left w f r) ≡ listed i r)
          → paired i (rounds w (suc f) l) + listed i (left w (suc f) l) ≡ listed i l
      go none e h ih = rw (rounds-none f l e, left-none f l e) (omega arith)
      go (some s) e h ih = rw (rounds-some f l s e, left-some f l s e) (omega (arith, h.each i, ih s.rest i))

  pub rounds-length : (f : ℕ) (l : List ℕ) → 2 * length (rounds w f l) + length (left w f l) ≡ length l
  rounds-length zero l = omega arith
  rounds-length (suc f) l = go (strike w l) refl (strike-fair l) (rounds-length f)
    where
      go : (o : Option Struck) → strike w l ≡ o → All-fair l o → ((r : List ℕ) → 2 * length (rounds w f r) + length (left w f r) ≡ length r)
          → 2 * length (rounds w (suc f) l) + length (left w (suc f) l) ≡ length l
      go none e h ih = rw (rounds-none f l e, left-none f l e) (omega arith)
      go (some s) e h ih = rw (rounds-some f l s e, left-some f l s e) (omega (arith, h.size, ih s.rest))

  -- a list with no such neighbours is of one kind
  pub keep-none : (x : ℕ) (o : Option Struck) → keep x o ≡ none → o ≡ none
  keep-none x none e = refl
  keep-none x (some s) e = cc

  pub none-one-kind : (k : Bool) (x : ℕ) (l : List ℕ) → w x ≡ k → strike w (x ∷ l) ≡ none
      → (kinds w k (x ∷ l) ≡ suc (length l)) × (kinds w (not k) (x ∷ l) ≡ 0)
  none-one-kind true x [] ke e = rw ke (omega arith)
  none-one-kind false x [] ke e = rw ke (omega arith)
  none-one-kind k x (y ∷ l) ke e = go k ke (beq (w x) (w y)) refl (λ k h g. none-one-kind k y l h g)
    where
      go : (k : Bool) → w x ≡ k → (b : Bool) → beq (w x) (w y) ≡ b
          → ((k : Bool) → w y ≡ k → strike w (y ∷ l) ≡ none → (kinds w k (y ∷ l) ≡ suc (length l)) × (kinds w (not k) (y ∷ l) ≡ 0))
          → (kinds w k (x ∷ y ∷ l) ≡ suc (length (y ∷ l))) × (kinds w (not k) (x ∷ y ∷ l) ≡ 0)
      go true ke true d ih =
          let r = ih true (sym (same_true (w x) (w y) d) ∙ ke) (keep-none x (strike w (y ∷ l)) (sym (strike-same x y l d) ∙ e)) in
          rw ke (omega arith)
      go false ke true d ih =
          let r = ih false (sym (same_true (w x) (w y) d) ∙ ke) (keep-none x (strike w (y ∷ l)) (sym (strike-same x y l d) ∙ e)) in
          rw ke (omega arith)
      go true ke false d ih = let q = sym (strike-differ x y l d) ∙ e in let z : ◌≡◌ {A = ℕ} 0 1 = cc in omega arith
      go false ke false d ih = let q = sym (strike-differ x y l d) ∙ e in let z : ◌≡◌ {A = ℕ} 0 1 = cc in omega arith

  none-even : (l : List ℕ) → strike w l ≡ none → kinds w true l ≡ kinds w false l → l ≡ []
  none-even [] e q = refl
  none-even (x ∷ l) e q = go (w x) refl
    where
      go : (k : Bool) → w x ≡ k → x ∷ l ≡ []
      go true ke = let r = none-one-kind true x l ke e in absurd (omega arith)
      go false ke = let r = none-one-kind false x l ke e in absurd (omega arith)

  -- for as many arrivals as departures nothing is left
  pub nothing_left : (f : ℕ) (l : List ℕ) → length l ≤ f → kinds w true l ≡ kinds w false l → left w f l ≡ []
  nothing_left zero [] h q = refl
  nothing_left zero (x ∷ l) h q = absurd (not-suc-le-zero h)
  nothing_left (suc f) l h q = go (strike w l) refl (strike-fair l) (nothing_left f)
    where
      go : (o : Option Struck) → strike w l ≡ o → All-fair l o → ((r : List ℕ) → length r ≤ f → kinds w true r ≡ kinds w false r → left w f r ≡ [])
          → left w (suc f) l ≡ []
      go none e g ih = left-none f l e ∙ none-even l e q
      go (some s) e g ih = left-some f l s e ∙ ih s.rest (let z = g.size in omega arith) (let z = g.even in omega arith)

  -- each pair joins two kinds
  pub rounds-differ : (f : ℕ) (l : List ℕ) → Each (Differ w) (rounds w f l)
  rounds-differ zero l = no_more
  rounds-differ (suc f) l = go (strike w l) refl (strike-fair l) (rounds-differ f)
    where
      go : (o : Option Struck) → strike w l ≡ o → All-fair l o → ((r : List ℕ) → Each (Differ w) (rounds w f r)) → Each (Differ w) (rounds w (suc f) l)
      go none e g ih = rw (rounds-none f l e) no_more
      go (some s) e g ih = rw (rounds-some f l s e) (one_more (same_false (w s.pair.fst) (w s.pair.snd) g.differ) (ih s.rest))

-- the positions 0 .. n-1
listed_below : (p f i : ℕ) → i < p → listed i (range p f) ≡ 0
listed_below p zero i h = refl
listed_below p (suc f) i h =
    let e = ne_eqb i p (λ q. omega arith) in
    let r = listed_below (suc p) f i (omega arith) in
    rw (e, r)

listed_above : (p f i : ℕ) → p + f ≤ i → listed i (range p f) ≡ 0
listed_above p zero i h = refl
listed_above p (suc f) i h =
    let e = ne_eqb i p (λ q. omega arith) in
    let r = listed_above (suc p) f i (omega arith) in
    rw (e, r)

listed_in : (p f i : ℕ) → p ≤ i → i < p + f → listed i (range p f) ≡ 1
listed_in p zero i h g = absurd (omega arith)
listed_in p (suc f) i h g = go (eqb i p) refl (λ q. listed_in (suc p) f i q (omega arith))
  where
    go : (b : Bool) → eqb i p ≡ b → (suc p ≤ i → listed i (range (suc p) f) ≡ 1) → listed i (range p (suc f)) ≡ 1
    go true e ih = let q = eqb-true i p e in let z = listed_below (suc p) f i (omega arith) in rw (e, z)
    go false e ih = let q = eqb-false i p e in let z = ih (omega arith) in rw (e, z)

pub length-range : (p f : ℕ) → length (range p f) ≡ f
length-range p zero = refl
length-range p (suc f) = ap suc (length-range (suc p) f)

kinds-range : (w : ℕ → Bool) (k : Bool) (p f : ℕ) → passed w k p + kinds w k (range p f) ≡ passed w k (p + f)
unfolding sum
kinds-range w k p zero = simp add-zero
kinds-range w k p (suc f) =
    let r = kinds-range w k (suc p) f in
    let q : p + suc f ≡ suc p + f = omega arith in
    omega (arith, ap (passed w k) q)

-- a perfect matching: each position below n stands in exactly one of the pairs, and once there; no other stands in any
pub nothing-left-at : (w : ℕ → Bool) (n : ℕ) → passed w true n ≡ passed w false n → left w n (range 0 n) ≡ []
unfolding sum
nothing-left-at w n q =
    let a = kinds-range w true 0 n in
    let b = kinds-range w false 0 n in
    nothing_left w n (range 0 n) (let z = length-range 0 n in omega arith) (omega (arith, simp zero-add at a, simp zero-add at b))

pub pairs-each : (w : ℕ → Bool) (n : ℕ) → passed w true n ≡ passed w false n → (i : ℕ) → i < n → paired i (pairs_of w n) ≡ 1
pairs-each w n q i h =
    let r = rounds-each w n (range 0 n) i in
    let o = listed_in 0 n i (omega arith) (omega arith) in
    omega (arith, rw (nothing-left-at w n q, o) at r)

pub pairs-no-other : (w : ℕ → Bool) (n : ℕ) (i : ℕ) → n ≤ i → paired i (pairs_of w n) ≡ 0
pairs-no-other w n i h =
    let r = rounds-each w n (range 0 n) i in
    let o = listed_above 0 n i (omega arith) in
    omega (arith, rw o at r)

pub pairs-differ : (w : ℕ → Bool) (n : ℕ) → Each (Differ w) (pairs_of w n)
pairs-differ w n = rounds-differ w n (range 0 n)

-- the rounds give the pairs of the one pass, in the same order
-- a stack put back in front of what is to come
abbrev pub onto : List ℕ → List ℕ → List ℕ
onto [] l = l
onto (a ∷ st) l = onto st (a ∷ l)

abbrev pub Uni : (ℕ → Bool) → Bool → List ℕ → Type 0
Uni w k [] = Unit {0}
Uni w k (a ∷ st) = (w a ≡ k) × Uni w k st

length-onto : (st l : List ℕ) → length (onto st l) ≡ length st + length l
length-onto [] l = omega arith
length-onto (a ∷ st) l = let r = length-onto st (a ∷ l) in omega arith

module _ (w : ℕ → Bool) where
  pub run-push : (a : ℕ) (st : List ℕ) (p f : ℕ) → beq (w a) (w p) ≡ true → run w (a ∷ st) p (suc f) ≡ run w (p ∷ a ∷ st) (suc p) f
  run-push a st p f e = rw (e, run)

  pub run-pop : (a : ℕ) (st : List ℕ) (p f : ℕ) → beq (w a) (w p) ≡ false → run w (a ∷ st) p (suc f) ≡ record { fst = a; snd = p } ∷ run w st (suc p) f
  run-pop a st p f e = rw (e, run)

  -- the first pair lies past a stack of the kind that what follows it starts with
  strike-onto : (k : Bool) (st : List ℕ) → Uni w k st → (x : ℕ) (l : List ℕ) → w x ≡ k → (s : Struck) → strike w (x ∷ l) ≡ some s
      → strike w (onto st (x ∷ l)) ≡ some (record { pair = s.pair; rest = onto st s.rest })
  strike-onto k [] u x l ke s e = e
  strike-onto k (b ∷ st) u x l ke s e =
      strike-onto k st u.1 b (x ∷ l) u.0 (record { pair = s.pair; rest = b ∷ s.rest })
      (strike-same w b x l (ap (λ c. beq c (w x)) u.0 ∙ ap (λ c. beq k c) ke ∙ same_refl k) ∙ ap (keep b) e)

  -- a stack of one kind has none
  strike-uni : (k : Bool) (st : List ℕ) → Uni w k st → (x : ℕ) (l : List ℕ) → w x ≡ k → strike w (x ∷ l) ≡ none → strike w (onto st (x ∷ l)) ≡ none
  strike-uni k [] u x l ke e = e
  strike-uni k (b ∷ st) u x l ke e =
      strike-uni k st u.1 b (x ∷ l) u.0
      (strike-same w b x l (ap (λ c. beq c (w x)) u.0 ∙ ap (λ c. beq k c) ke ∙ same_refl k) ∙ ap (keep b) e)

  strike-stack : (k : Bool) (st : List ℕ) → Uni w k st → strike w (onto st []) ≡ none
  strike-stack k [] u = refl
  strike-stack k (a ∷ st) u = strike-uni k st u.1 a [] u.0 refl

  rounds-run : (f : ℕ) (g : ℕ) (k : Bool) (st : List ℕ) (p : ℕ) → Uni w k st → length (onto st (range p f)) ≤ g
      → rounds w g (onto st (range p f)) ≡ run w st p f
  rounds-run zero zero k st p u h = refl
  rounds-run zero (suc g) k st p u h = rounds-none w g (onto st []) (strike-stack k st u)
  rounds-run (suc f) g k [] p u h = rounds-run f g (w p) (p ∷ []) (suc p) (refl, tt) h
  rounds-run (suc f) g k (a ∷ st) p u h =
      go (beq (w a) (w p)) refl g h
      (λ e. rounds-run f g k (p ∷ a ∷ st) (suc p) (sym (same_true (w a) (w p) e) ∙ u.0, u) h)
      (λ g h. rounds-run f g k st (suc p) u.1 h)
    where
      go : (b : Bool) → beq (w a) (w p) ≡ b → (g : ℕ) → length (onto (a ∷ st) (range p (suc f))) ≤ g
          → (beq (w a) (w p) ≡ true → rounds w g (onto (p ∷ a ∷ st) (range (suc p) f)) ≡ run w (p ∷ a ∷ st) (suc p) f)
          → ((g : ℕ) → length (onto st (range (suc p) f)) ≤ g → rounds w g (onto st (range (suc p) f)) ≡ run w st (suc p) f)
          → rounds w g (onto (a ∷ st) (range p (suc f))) ≡ run w (a ∷ st) p (suc f)
      go true e g h i₁ i₂ = i₁ e ∙ sym (run-push a st p f e)
      go false e zero h i₁ i₂ = absurd (omega (arith, length-onto (a ∷ st) (range p (suc f))))
      go false e (suc g) h i₁ i₂ =
          rounds-some w g (onto st (a ∷ p ∷ range (suc p) f)) (record { pair = record { fst = a; snd = p }; rest = onto st (range (suc p) f) })
          (strike-onto k st u.1 a (p ∷ range (suc p) f) u.0 (record { pair = record { fst = a; snd = p }; rest = range (suc p) f })
          (strike-differ w a p (range (suc p) f) e))
          ∙ ap (λ l. record { fst = a; snd = p } ∷ l) (i₂ g (omega (arith, length-onto st (range (suc p) f), length-onto (a ∷ st) (range p (suc f)))))
          ∙ sym (run-pop a st p f e)

pub pairs-run : (w : ℕ → Bool) (n : ℕ) → pairs_of w n ≡ run w [] 0 n
pairs-run w n = rounds-run w n n true [] 0 tt (let z = length-range 0 n in omega arith)
