-- Laws of the line at an offset. A line of a group is its word with a parenthesis and a space, two numbers, its tail and its end; the words differ in their
-- second byte, so one that stands there is the word of every line that begins there. Assumes nothing.
use mathlib.Core.Path.{◌≡◌, refl, sym, ap, subst, ◌∙◌}
use mathlib.Core.Logic.{◌≢◌}
use mathlib.Core.Bool.{true, false}
use mathlib.Core.List.{List, [], ◌∷◌, ◌++◌, append_assoc}
use Rattle.std.specs.Prelude.{Some, None}
use Prim.Native.Nat.{ℕ, ◌<◌}
use borrow.Author.Tests.{ne_eqb}
use lib.Dec.{T}
use native.Mathlib.Omega.{arith}
use lib.ListN.{get_or, drop}
use Rattle.model.specs.Text.{decimal, Group, chosen_pins, missing_pins, closed_tiles, own_ds, laid_sides, says, array_line, group_line, end_line}
use Rattle.model.specs.Text.{group_word, group_of, line_bytes}
use Rattle.model.proofs.TextUnique.{words-unique}
use Rattle.line.specs.declared.group.Group.{Group as CodeGroup}
use Rattle.line.specs.declared.group.Group.TheVariants.{Chosen, Missing, Closed, Own, Laid}
use Rattle.line.specs.declared.scan.Read.{Read}
use Rattle.line.specs.declared.lines.Entry.{Entry}
use Rattle.line.specs.declared.lines.Line.TheVariants.{Tells}
use Rattle.line.specs.Groups.{text_group}
use Rattle.line.specs.Scan.{WordAt, NumberAt, two, TwoAt}
use Rattle.line.specs.Lines.{opening, behind, stop, after_stop, TailAt, RestAt, LineAt, ArrayAt}
use Rattle.line.proofs.Scanned.{after-word, after-number, after_two}

-- ---- the bytes of a line

pub group-bytes : (g : Group) (r c d v : ℕ) (X : List ℕ) → line_bytes (group_line g r c d v) ++ X ≡ opening g ++ behind g r c d v X
unfolding line_bytes
group-bytes chosen_pins r c d v X = simp append_assoc
group-bytes missing_pins r c d v X = simp append_assoc
group-bytes closed_tiles r c d v X = simp append_assoc
group-bytes own_ds r c d v X = simp append_assoc
group-bytes laid_sides r c d v X = simp append_assoc

-- behind the opening stand two numbers and a byte, and then the rest of the tail
pub behind-two : (g : Group) (r c d v : ℕ) (X : List ℕ) → behind g r c d v X ≡ two r c (stop g) (after_stop g d v (10 ∷ X))
behind-two chosen_pins r c d v X = refl
behind-two missing_pins r c d v X = refl
behind-two closed_tiles r c d v X = refl
behind-two own_ds r c d v X = simp append_assoc
behind-two laid_sides r c d v X = simp append_assoc

pub stop-low : (g : Group) → stop g < 48
stop-low chosen_pins = omega arith
stop-low missing_pins = omega arith
stop-low closed_tiles = omega arith
stop-low own_ds = omega arith
stop-low laid_sides = omega arith

-- (array (pins
abbrev pub pins_part : List ℕ
pins_part = 40 ∷ 97 ∷ 114 ∷ 114 ∷ 97 ∷ 121 ∷ 32 ∷ 40 ∷ 112 ∷ 105 ∷ 110 ∷ 115 ∷ 32 ∷ []

-- (caps
abbrev pub caps_part : List ℕ
caps_part = 32 ∷ 40 ∷ 99 ∷ 97 ∷ 112 ∷ 115 ∷ 32 ∷ []

-- a parenthesis and the end of the line
abbrev pub end_part : List ℕ
end_part = 41 ∷ 10 ∷ []

array-bytes : (a b o d e : ℕ) (X : List ℕ)
    → line_bytes (array_line a b o d e) ++ X ≡ pins_part ++ two a b 41 (caps_part ++ (decimal o ++ (32 ∷ two d e 41 (end_part ++ X))))
unfolding line_bytes
array-bytes a b o d e X = simp append_assoc

-- ---- groups

-- every number past the four is the last group's
pub group-else : (n : ℕ) → n ≢ 2 → n ≢ 3 → n ≢ 4 → n ≢ 5 → laid_sides ≡ group_of n
unfolding group_of
group-else n a b d e =
    λ i. elim (sym (ne_eqb n 2 a) i) as (λ x. Group) [
      | true ↦ chosen_pins
      | false ↦ elim (sym (ne_eqb n 3 b) i) as (λ x. Group) [
        | true ↦ missing_pins
        | false ↦ elim (sym (ne_eqb n 4 d) i) as (λ x. Group) [
          | true ↦ closed_tiles
          | false ↦ elim (sym (ne_eqb n 5 e) i) as (λ x. Group) [ true ↦ own_ds | false ↦ laid_sides ]
        ]
      ]
    ]

-- ---- the tail of a line

-- what follows a tail
stop-unique : (g : Group) (d v d' v' : ℕ) (X Y : List ℕ) → after_stop g d v X ≡ after_stop g d' v' Y → X ≡ Y
stop-unique chosen_pins d v d' v' X Y e = e
stop-unique missing_pins d v d' v' X Y e = e
stop-unique closed_tiles d v d' v' X Y e = e
stop-unique own_ds d v d' v' X Y e = (after-number v v' 41 X Y (omega arith) e).1
stop-unique laid_sides d v d' v' X Y e = (after-number v v' 41 X Y (omega arith) (ap (drop 2) e)).1

-- ---- the rest of a line

module _ (text : List ℕ) (at : ℕ) (group : CodeGroup) where
  abbrev g : Group
  g = text_group group

  module _ (p : Read (ℕ × ℕ)) (e : TwoAt text at (stop g) (Some p)) where
    rest_then : (x y d v : ℕ) (X : List ℕ) → drop at text ≡ behind g x y d v X → drop p.next text ≡ after_stop g d v (10 ∷ X)
    rest_then x y d v X q = (after_two p.value.0 p.value.1 x y (stop g) _ _ (stop-low g) (sym e.3 ∙ (q ∙ behind-two g x y d v X))).2

    pub rest-no-tail : TailAt text p.next g None → RestAt text at group None
    rest-no-tail f x y d v X t lx ly lv q = f d v _ t lv (rest_then x y d v X q)

    module _ (t : Read (ℕ × ℕ)) (i : TailAt text p.next g (Some t)) where
      pub rest-wrong : WordAt text t.next (10 ∷ []) None → RestAt text at group None
      rest-wrong f x y d v X u lx ly lv q = f X (stop-unique g t.value.0 t.value.1 d v _ _ (sym i.3 ∙ rest_then x y d v X q))

-- ---- a line

differ : {A : Type 0} (i : ℕ) (X Y : List ℕ) → get_or X i 0 ≢ get_or Y i 0 → X ≡ Y → A
differ i X Y n e = absurd (n (ap (λ (l : List ℕ). get_or l i 0) e))

opening-unique : (g h : Group) (X Y : List ℕ) → opening g ++ X ≡ opening h ++ Y → (g ≡ h) × (X ≡ Y)
opening-unique g h X Y e =
    words-unique g h X Y (sym (append_assoc (group_word g) (32 ∷ []) X) ∙ (ap (drop 1) e ∙ append_assoc (group_word h) (32 ∷ []) Y))

opening-goes-on : (g : Group) (X Y : List ℕ) → opening g ++ X ≢ line_bytes end_line ++ Y
unfolding line_bytes
opening-goes-on chosen_pins X Y e = differ 1 _ _ (omega arith) e
opening-goes-on missing_pins X Y e = differ 1 _ _ (omega arith) e
opening-goes-on closed_tiles X Y e = differ 1 _ _ (omega arith) e
opening-goes-on own_ds X Y e = differ 1 _ _ (omega arith) e
opening-goes-on laid_sides X Y e = differ 1 _ _ (omega arith) e

module _ (text : List ℕ) (at : ℕ) where
  -- the word of a group stands there, and then the rest of its line
  module _ (group : CodeGroup) (n : ℕ) (e : drop at text ≡ opening (text_group group) ++ drop n text) where
    pub line-group : (r : Read Entry) → RestAt text n group (Some r) → LineAt text at (Some (record { value = Tells r.value; next = r.next }))
    line-group r (p, t, s, q) =
        let v : Entry = r.value in
        let there : drop at text ≡ opening (text_group v.group) ++ drop n text = e ∙ ap (λ (h : CodeGroup). opening (text_group h) ++ drop n text) (sym p) in (
          t,
          s,
          there
              ∙ (ap (λ (X : List ℕ). opening (text_group v.group) ++ X) q ∙ sym (group-bytes (text_group v.group) v.row v.column v.side v.value (drop r.next text))),
        )

    pub line-group-none : RestAt text n group None → LineAt text at None
    line-group-none f = (
      λ h r c d v X t lr lc lv q.
          let (x, y) = opening-unique (text_group group) h (drop n text) (behind h r c d v X) (sym e ∙ (q ∙ group-bytes h r c d v X)) in
          f r c d v X (subst (λ (k : Group). T (says k d v)) (sym x) t) lr lc lv (y ∙ ap (λ (k : Group). behind k r c d v X) (sym x)),
      λ X q. opening-goes-on (text_group group) (drop n text) X (sym e ∙ q),
    )

  pub line-end : (n : ℕ) → drop at text ≡ 40 ∷ 101 ∷ 110 ∷ 100 ∷ 41 ∷ 10 ∷ drop n text → drop at text ≡ line_bytes end_line ++ drop n text
  unfolding line_bytes
  line-end n e = e

  -- no opening of the five stands there, and no end line
  pub line-none : ((i : ℕ) → i < 5 → WordAt text at (opening (text_group (get_or (Chosen ∷ Missing ∷ Closed ∷ Own ∷ Laid ∷ []) i Chosen))) None)
      → WordAt text at (40 ∷ 101 ∷ 110 ∷ 100 ∷ 41 ∷ 10 ∷ []) None → LineAt text at None
  unfolding line_bytes
  line-none f h = (λ g r c d v X t lr lc lv e. each-opening g (behind g r c d v X) (e ∙ group-bytes g r c d v X), λ X e. h X e)
    where
      each-opening : (g : Group) → WordAt text at (opening g) None
      each-opening chosen_pins = f 0 (omega arith)
      each-opening missing_pins = f 1 (omega arith)
      each-opening closed_tiles = f 2 (omega arith)
      each-opening own_ds = f 3 (omega arith)
      each-opening laid_sides = f 4 (omega arith)

-- ---- the array line

module _ (text : List ℕ) where
  pub array-no-word : WordAt text 0 pins_part None → ArrayAt text None
  array-no-word f a b o d e X l q = f _ (q ∙ array-bytes a b o d e X)

  module _ (pins : ℕ) (p : WordAt text 0 pins_part (Some pins)) where
    pins-then : (a b o d e : ℕ) (X : List ℕ) → text ≡ line_bytes (array_line a b o d e) ++ X
        → drop pins text ≡ two a b 41 (caps_part ++ (decimal o ++ (32 ∷ two d e 41 (end_part ++ X))))
    pins-then a b o d e X q = after-word pins_part _ _ (sym p.1 ∙ (q ∙ array-bytes a b o d e X))

    pub array-no-pins : TwoAt text pins 41 None → ArrayAt text None
    array-no-pins f a b o d e X l q = f a b _ l.rows l.columns (pins-then a b o d e X q)

    module _ (size : Read (ℕ × ℕ)) (s : TwoAt text pins 41 (Some size)) where
      two_then : (x y o d e : ℕ) (X : List ℕ) → text ≡ line_bytes (array_line x y o d e) ++ X
          → drop size.next text ≡ caps_part ++ (decimal o ++ (32 ∷ two d e 41 (end_part ++ X)))
      two_then x y o d e X q = (after_two size.value.0 size.value.1 x y 41 _ _ (omega arith) (sym s.3 ∙ pins-then x y o d e X q)).2

      pub array-no-caps : WordAt text size.next caps_part None → ArrayAt text None
      array-no-caps f x y o d e X l q = f _ (two_then x y o d e X q)

      module _ (caps : ℕ) (c : WordAt text size.next caps_part (Some caps)) where
        caps-then : (x y o d e : ℕ) (X : List ℕ) → text ≡ line_bytes (array_line x y o d e) ++ X → drop caps text ≡ decimal o ++ (32 ∷ two d e 41 (end_part ++ X))
        caps-then x y o d e X q = after-word caps_part _ _ (sym c.1 ∙ two_then x y o d e X q)

        pub array-no-o : NumberAt text caps 32 None → ArrayAt text None
        array-no-o f x y o d e X l q = f o _ l.O (caps-then x y o d e X q)

        module _ (most : Read ℕ) (m : NumberAt text caps 32 (Some most)) where
          o-then : (x y z d e : ℕ) (X : List ℕ) → text ≡ line_bytes (array_line x y z d e) ++ X → drop most.next text ≡ two d e 41 (end_part ++ X)
          o-then x y z d e X q = (after-number most.value z 32 _ _ (omega arith) (sym m.2 ∙ caps-then x y z d e X q)).1

          pub array-no-others : TwoAt text most.next 41 None → ArrayAt text None
          array-no-others f x y z d e X l q = f d e _ l.D l.E (o-then x y z d e X q)

          module _ (others : Read (ℕ × ℕ)) (r : TwoAt text most.next 41 (Some others)) where
            pub array-no-end : WordAt text others.next end_part None → ArrayAt text None
            array-no-end f x y z u v X l q = f X (after_two others.value.0 others.value.1 u v 41 _ _ (omega arith) (sym r.3 ∙ o-then x y z u v X q)).2

            pub array-is : (next : ℕ) → WordAt text others.next end_part (Some next)
                → ArrayAt text (Some (record {
                  value = record {
                    array = record { rows = size.value.0; columns = size.value.1 };
                    capacities = record { orthogonal = most.value; diagonal = others.value.0; extra = others.value.1 };
                  };
                  next = next;
                }))
            array-is next w = (
              record { rows = s.0; columns = s.1; O = m.0; D = r.0; E = r.1 },
              w.0,
              p.1
                  ∙ (ap (λ (S : List ℕ). pins_part ++ S)
                  (s.3 ∙ ap (two size.value.0 size.value.1 41) (c.1 ∙ ap (λ (S : List ℕ). caps_part ++ S)
                  (m.2 ∙ ap (λ (S : List ℕ). decimal most.value ++ (32 ∷ S)) (r.3 ∙ ap (two others.value.0 others.value.1 41) w.1))))
                  ∙ sym (array-bytes size.value.0 size.value.1 most.value others.value.0 others.value.1 (drop next text))),
            )
