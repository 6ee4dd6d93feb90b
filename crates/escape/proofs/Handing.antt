-- A listing handed to a writer part by part: what the writer holds, and how many bytes it got. Assumes nothing.
use Rattle.std.proofs.Common.{◌≡◌, sym, ap, subst, ◌∙◌, List, [], ◌++◌, ℕ, ◌+◌, ◌≤◌, length, take, append-nil, append_assoc, length-append, arith}
use Rattle.std.specs.declared.option.Option.{Option}
use Rattle.std.specs.declared.option.Option.TheVariants.{None, Some}
use Rattle.std.specs.Io.KnownBytes.{Appends}
use Rattle.listing.specs.Puts.{Puts, Parts, puts-page}

pub appends-more : (a b c : Option (List ℕ)) (x y : List ℕ) → Appends a b x → Appends b c y → Appends a c (x ++ y)
appends-more None b c x y p q = tt
appends-more (Some s) None c x y p q = absurd p
appends-more (Some s) (Some t) None x y p q = absurd q
appends-more (Some s) (Some t) (Some u) x y p q = q ∙ (ap (λ (l : List ℕ). l ++ y) p ∙ append_assoc s x y)

-- of the whole, some bytes are handed on, n of them, and the rest is left
pub record Handing (old now : Option (List ℕ)) (whole rest : List ℕ) (n : ℕ) : Type 0 where
  pub bytes : List ℕ
  pub split : whole ≡ bytes ++ rest
  pub count : n ≡ length bytes
  pub held : Appends old now bytes

pub handing-first : {old now : Option (List ℕ)} {whole rest : List ℕ} {n : ℕ} (x : List ℕ) → whole ≡ x ++ rest → n ≡ length x → Appends old now x
    → Handing old now whole rest n
handing-first x s c h = record { bytes = x; split = s; count = c; held = h }

pub handing-more : {old mid now : Option (List ℕ)} {whole before rest : List ℕ} {n m : ℕ} (x : List ℕ) → Handing old mid whole before n → before ≡ x ++ rest
    → m ≡ length x → Appends mid now x → Handing old now whole rest (n + m)
handing-more {old} {mid} {now} {rest = rest} x H s c h =
    record {
      bytes = H.bytes ++ x;
      split = H.split ∙ (ap (λ (l : List ℕ). H.bytes ++ l) s ∙ sym (append_assoc H.bytes x rest));
      count = omega (arith, H.count, c, length-append H.bytes x);
      held = appends-more old mid now H.bytes x H.held h;
    }

-- nothing is left
pub handing-all : {old now : Option (List ℕ)} {whole rest : List ℕ} {n : ℕ} → rest ≡ [] → Handing old now whole rest n → (n ≡ length whole) × Appends old now whole
handing-all {old} {now} z H =
    let e = sym (H.split ∙ (ap (λ (x : List ℕ). H.bytes ++ x) z ∙ append-nil H.bytes)) in
    (H.count ∙ ap length e, subst (Appends old now) e H.held)

-- ---- pages

-- a page whose first r bytes are handed on
pub page-first : {old now : Option (List ℕ)} {whole rest bs page page' : List ℕ} {r n : ℕ} → Puts bs 0 page page' r → r ≤ length page → whole ≡ bs ++ rest
    → n ≡ length (take r page') → Appends old now (take r page') → Handing old now whole rest n
page-first {rest = rest} {page' = page'} {r = r} P l s c h = handing-first (take r page') (s ∙ ap (λ (x : List ℕ). x ++ rest) (puts-page P l)) c h

pub page-more : {old mid now : Option (List ℕ)} {whole before rest page page' : List ℕ} {n r m : ℕ} → Handing old mid whole before n
    → Parts before rest 0 page page' r → r ≤ length page → m ≡ length (take r page') → Appends mid now (take r page') → Handing old now whole rest (n + m)
page-more {rest = rest} {page' = page'} {r = r} H P l c h =
    handing-more (take r page') H (P.split ∙ ap (λ (x : List ℕ). x ++ rest) (puts-page P.puts l)) c h

-- the same where more bytes z are left behind
pub page-more-before : {old mid now : Option (List ℕ)} {whole before rest page page' : List ℕ} {n r m : ℕ} (z : List ℕ) → Handing old mid whole (before ++ z) n
    → Parts before rest 0 page page' r → r ≤ length page → m ≡ length (take r page') → Appends mid now (take r page') → Handing old now whole (rest ++ z) (n + m)
page-more-before {rest = rest} {page' = page'} {r = r} z H P l c h =
    handing-more (take r page') H
    (ap (λ (x : List ℕ). x ++ z) (P.split ∙ ap (λ (x : List ℕ). x ++ rest) (puts-page P.puts l)) ∙ append_assoc (take r page') rest z) c h

pub page-last : {old mid now : Option (List ℕ)} {whole before bs page page' : List ℕ} {n r m : ℕ} → Handing old mid whole before n → before ≡ bs
    → Puts bs 0 page page' r → r ≤ length page → m ≡ length (take r page') → Appends mid now (take r page') → Handing old now whole [] (n + m)
page-last {page' = page'} {r = r} H e P l c h = handing-more (take r page') H (e ∙ (puts-page P l ∙ sym (append-nil (take r page')))) c h

-- no more bytes than the whole has
pub handing-less : {old now : Option (List ℕ)} {whole rest : List ℕ} {n : ℕ} → Handing old now whole rest n → n ≤ length whole
handing-less {rest = rest} H = omega (arith, H.count, ap length H.split, length-append H.bytes rest)
