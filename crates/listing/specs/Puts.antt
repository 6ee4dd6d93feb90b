-- Bytes laid on a page one after another. Assumes nothing.
use Rattle.std.specs.Prelude.{◌≡◌, refl, Bool, true, false, List, [], ◌∷◌, ◌++◌, ℕ, suc, ◌+◌, ◌≤◌, ◌<◌, length, get_or, set, take, drop}
use Rattle.std.proofs.Common.{sym, ap, ap₂, subst, ◌∙◌, drop-drop, append-nil, append_assoc, add-zero, add-suc, suc-add, add-one, arith, length-append, take-suc, length-take-le}
use Rattle.std.proofs.lemmas.List.Edits.{sets, sets-eq}
use Rattle.std.proofs.Math.Seq.{length-sets, take-append_seam}
use Rattle.sums.specs.Counting.{only}

-- the bytes bs stand on the page from `at` on, r is the place after them, and the rest of the page is as it was
pub record Puts (bs : List ℕ) (at : ℕ) (old new : List ℕ) (r : ℕ) : Type 0 where
  pub bytes : new ≡ sets old at bs
  pub next : r ≡ at + length bs

-- of the bytes `before`, some are laid so, and the bytes `rest` are left
pub record Parts (before rest : List ℕ) (at : ℕ) (old new : List ℕ) (r : ℕ) : Type 0 where
  pub bytes : List ℕ
  pub puts : Puts bytes at old new r
  pub split : before ≡ bytes ++ rest

pub sets-append : (a b l : List ℕ) (i : ℕ) → sets l i (a ++ b) ≡ sets (sets l i a) (i + length a) b
sets-append [] b l i = ap (λ (k : ℕ). sets l k b) (sym (add-zero i))
sets-append (x ∷ a) b l i =
    sets-append a b (set l i x) (suc i) ∙ ap (λ (k : ℕ). sets (sets (set l i x) (suc i) a) k b) (suc-add i (length a) ∙ sym (add-suc i (length a)))

pub puts_none : {at : ℕ} {l : List ℕ} → Puts [] at l l at
puts_none {at} = record { bytes = refl; next = sym (add-zero at) }

pub puts_then : {a b : List ℕ} {at m r : ℕ} {l p q : List ℕ} → Puts a at l p m → Puts b m p q r → Puts (a ++ b) at l q r
puts_then {a} {b} {at} {m} {r} {l} {p} {q} P Q =
    record {
      bytes = Q.bytes ∙ (ap₂ (λ (t : List ℕ) (k : ℕ). sets t k b) P.bytes P.next ∙ sym (sets-append a b l at));
      next = omega (arith, Q.next, P.next, length-append a b);
    }

pub puts-as : {a b : List ℕ} {at r : ℕ} {l p : List ℕ} → a ≡ b → Puts a at l p r → Puts b at l p r
puts-as {a} {b} {at} {r} {l} {p} e P = subst (λ (x : List ℕ). Puts x at l p r) e P

-- bytes that stand under a condition
pub puts-if : {b : Bool} {a : List ℕ} {at r : ℕ} {l p : List ℕ} → b ≡ true → Puts a at l p r → Puts (only b a) at l p r
puts-if {a = a} e P = puts-as (ap (λ (x : Bool). only x a) (sym e)) P

pub puts-not : {b : Bool} {at : ℕ} {l : List ℕ} (a : List ℕ) → b ≡ false → Puts (only b a) at l l at
puts-not a e = puts-as (ap (λ (x : Bool). only x a) (sym e)) puts_none

-- one byte more of a list
pub sets_more : (w l : List ℕ) (at k : ℕ) → k < length w → set (sets l at (take k w)) (at + k) (get_or w k 0) ≡ sets l at (take (k + 1) w)
sets_more w l at k h =
    ap (λ (n : ℕ). set (sets l at (take k w)) (at + n) (get_or w k 0)) (sym (length-take-le k w (omega arith)))
    ∙ (sym (sets-append (take k w) (get_or w k 0 ∷ []) l at) ∙ ap (sets l at) (sym (take-suc w k 0 h) ∙ ap (λ (n : ℕ). take n w) (sym (add-one k))))

-- bytes in place of as many
pub sets-part : (a k : ℕ) (xs ys : List ℕ) → k ≡ length ys → a + k ≤ length xs → take a xs ++ (ys ++ drop k (drop a xs)) ≡ sets xs a ys
sets-part a k xs ys e h =
    let n : a + length ys ≡ a + k = omega arith in
    sym
    (sets-eq ys xs a (omega arith)
    ∙ (append_assoc (take a xs) ys (drop (a + length ys) xs)
    ∙ ap (λ (r : List ℕ). take a xs ++ (ys ++ r)) (ap (λ (m : ℕ). drop m xs) n ∙ sym (drop-drop k a xs))))

pub puts-length : {bs old new : List ℕ} {at r : ℕ} → Puts bs at old new r → length new ≡ length old
puts-length {bs} {old} {at = at} P = ap length P.bytes ∙ length-sets old at bs

-- nothing yet, one part and the next, and all when nothing is left
pub parts_none : {before old : List ℕ} {at : ℕ} → Parts before before at old old at
parts_none = record { bytes = []; puts = puts_none; split = refl }

pub parts_then : {before middle rest old mid new : List ℕ} {at m r : ℕ} → Parts before middle at old mid m → Parts middle rest m mid new r
    → Parts before rest at old new r
parts_then {rest = rest} P Q =
    record {
      bytes = P.bytes ++ Q.bytes;
      puts = puts_then P.puts Q.puts;
      split = P.split ∙ (ap (λ (x : List ℕ). P.bytes ++ x) Q.split ∙ sym (append_assoc P.bytes Q.bytes rest));
    }

pub parts_all : {before rest old new : List ℕ} {at r : ℕ} → Parts before rest at old new r → rest ≡ [] → Puts before at old new r
parts_all P z = puts-as (sym (P.split ∙ (ap (λ (x : List ℕ). P.bytes ++ x) z ∙ append-nil P.bytes))) P.puts

-- what is left by another name
pub parts-as : {before rest rest' old new : List ℕ} {at r : ℕ} → rest ≡ rest' → Parts before rest at old new r → Parts before rest' at old new r
parts-as {before} {at = at} {r = r} e P = record { bytes = P.bytes; puts = P.puts; split = P.split ∙ ap (λ (x : List ℕ). P.bytes ++ x) e }

-- as many as were laid
pub parts-length : {before rest old new : List ℕ} {at r : ℕ} → Parts before rest at old new r → at + length before ≡ r + length rest
parts-length {rest = rest} P = omega (arith, ap length P.split, length-append P.bytes rest, P.puts.next)

-- on a page from its start: its first bytes
pub puts-page : {bs old new : List ℕ} {r : ℕ} → Puts bs 0 old new r → r ≤ length old → bs ≡ take r new
puts-page {bs} {old} {new} {r} P l =
    let e : r ≡ length bs = omega (arith, P.next) in
    let fits : 0 + length bs ≤ length old = omega (arith, l) in
    sym
    (ap₂ (λ (k : ℕ) (x : List ℕ). take k x) e (P.bytes ∙ sets-eq bs old 0 fits) ∙ take-append_seam bs (drop (0 + length bs) old))
