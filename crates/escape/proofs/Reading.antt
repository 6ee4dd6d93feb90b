-- A buffer filled by reads, each behind the one before: what the reader has given. Assumes nothing.
use Rattle.std.proofs.Common.{◌≡◌, sym, ap, ap₂, ◌∙◌, List, [], ◌++◌, ℕ, ◌+◌, ◌≤◌, length, take, append-nil, append_assoc, length-take-le, le_refl, drop_at, take_all, refl}
use Rattle.std.proofs.lemmas.Slice.{take-put_mid_below}
use Rattle.std.specs.declared.option.Option.{Option}
use Rattle.std.specs.declared.option.Option.TheVariants.{None, Some}
use Rattle.std.specs.Io.KnownBytes.{Consumes, IsAtEnd}
use Rattle.std.specs.Option.{IfSome}
use borrow.Rule.Slice.PartMut.{put_mid, post_of}
use lib.Seq.{take-add, take-append-le, take-append_seam}

pub consumes-none : (r : Option (List ℕ)) → Consumes r r []
consumes-none None = tt
consumes-none (Some xs) = refl

pub consumes-more : (a b c : Option (List ℕ)) (x y : List ℕ) → Consumes a b x → Consumes b c y → Consumes a c (x ++ y)
consumes-more None b c x y p q = tt
consumes-more (Some s) None c x y p q = absurd p
consumes-more (Some s) (Some t) None x y p q = absurd q
consumes-more (Some s) (Some t) (Some u) x y p q = p ∙ (ap (λ (l : List ℕ). x ++ l) q ∙ sym (append_assoc x y u))

-- the first a bytes as before, and the n behind them
pub filled : (a k n : ℕ) (xs ys : List ℕ) → a ≤ length xs → n ≤ length ys → take (a + n) (put_mid a k xs ys) ≡ take a xs ++ take n ys
filled a k n xs ys within fits =
    let after = post_of a k xs in
    take-add a n (put_mid a k xs ys)
    ∙ ap₂ ◌++◌ (take-put_mid_below a k xs ys a (le_refl a) within)
    (ap (take n) (drop_at (take a xs) (ys ++ after) a (length-take-le a xs within)) ∙ take-append-le n ys after fits)

-- a full buffer, and a reader that has ended
pub read-full : (a b : Option (List ℕ)) (x : List ℕ) (n : ℕ) → length x ≡ n → Consumes a b x → IfSome a (λ xs. x ≡ take n xs)
read-full None b x n l p = tt
read-full (Some s) None x n l p = absurd p
read-full (Some s) (Some t) x n l p = sym (ap (take n) p ∙ (ap (λ (k : ℕ). take k (x ++ t)) (sym l) ∙ take-append_seam x t))

pub read-ended : (a b : Option (List ℕ)) (x : List ℕ) (n : ℕ) → length x ≤ n → Consumes a b x → IsAtEnd b → IfSome a (λ xs. x ≡ take n xs)
read-ended None b x n l p e = tt
read-ended (Some s) None x n l p e = absurd p
read-ended (Some s) (Some t) x n l p e = sym (ap (take n) (p ∙ (ap (λ (y : List ℕ). x ++ y) e ∙ append-nil x)) ∙ take_all n x l)
