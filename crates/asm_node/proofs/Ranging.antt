-- The value of a term is no number, or one of its range.
use Rattle.std.proofs.Common.{◌≡◌, ℕ, ℤ, pos, int_div, int_rem, Bool as Truth, true, false, if◌then◌else◌, List, [], ◌∷◌, refl, subst, arith, ◌≤ℤ◌}
use Rattle.std.specs.Prelude.{⊤}
use Rattle.std.proofs.lemmas.Int.{ints}
use Rattle.std.specs.Ordering.{int_eq}
use Rattle.asm_domain.specs.declared.value.Value.{Value}
use Rattle.asm_domain.specs.declared.value.Value.TheVariants.{Undef, Bool, Int, Elem}
use Rattle.asm_domain.specs.declared.interval.Interval.{Interval}
use Rattle.asm_domain.specs.Interval.{IsWithin, Spans}
use Rattle.asm_domain.specs.Narrow.{IsNarrow}
use Rattle.asm_domain.proofs.Sizes.{holds_quotients, holds_rests}
use Rattle.asm_sign.specs.Vocabulary.{Vocabulary}
use Rattle.asm_node.specs.declared.operator.Op.{Op}
use Rattle.asm_node.specs.declared.operator.Op.TheVariants as op
use Rattle.asm_node.specs.Values.{is_element, within, result_of, connective, comparison, arithmetic, division, negation, of_number}
use Rattle.asm_node.specs.Values as values
use Rattle.asm_node.specs.Exact.{IsSmall}
use Rattle.asm_node.specs.Ranges.{Range, NoNumber, From, Numbers, numbers_in, IsRangeOf, IsNarrowRange, IsIn, results, results_of_one, sizes, of_one, of_two, operator_numbers, IsDomainRange}

-- ---- numbers of a range

pub range_in : (numbers : Numbers) (r : Range) (v : Value) → IsRangeOf numbers r → ((z : ℤ) → v ≡ Int z → numbers z) → IsIn r v
range_in numbers NoNumber (Int z) h f = absurd (h z (f z refl))
range_in numbers (From i) (Int z) h f = h.holds_all z (f z refl)
range_in numbers NoNumber Undef h f = tt
range_in numbers NoNumber (Bool b) h f = tt
range_in numbers NoNumber (Elem d k) h f = tt
range_in numbers (From i) Undef h f = tt
range_in numbers (From i) (Bool b) h f = tt
range_in numbers (From i) (Elem d k) h f = tt

narrow_between : (l z h : ℤ) → l ≤ℤ z → z ≤ℤ h → IsNarrow l → IsNarrow h → IsNarrow z
narrow_between l z h lz zh nl nh = omega (arith, ints)

-- a value of a narrow range is small
pub small_in : (r : Range) (v : Value) → IsNarrowRange r → IsIn r v → IsSmall v
small_in NoNumber (Int z) n i = absurd i
small_in (From k) (Int z) n i = narrow_between k.low z k.high i.from i.to n.0 n.1
small_in r Undef n i = tt
small_in r (Bool b) n i = tt
small_in r (Elem d k) n i = tt

-- ---- domains

module _ (signature : Vocabulary) where
  pub element_in : (d : ℕ) (r : Range) (v : Value) → IsDomainRange signature d r → is_element signature.domains d v ≡ true → IsIn r v
  element_in d r v h e = range_in _ r v h (λ z f. subst (λ (y : Value). is_element signature.domains d y ≡ true) f e)

  pub within_in : (d : ℕ) (r : Range) (v : Value) → IsDomainRange signature d r → IsIn r (within signature.domains d v)
  within_in d r v h =
      elim (is_element signature.domains d v) as (λ (b : Truth). is_element signature.domains d v ≡ b → IsIn r (if b then v else Undef)) [
        | true ↦ λ e. element_in d r v h e
        | false ↦ λ e. tt
      ] refl

-- ---- operators

connected : (t : Range) (f : Truth → Truth → Truth) (v w : Value) → IsIn t (connective f v w)
connected t f (Bool p) (Bool q) = tt
connected t f (Bool p) Undef = tt
connected t f (Bool p) (Int z) = tt
connected t f (Bool p) (Elem d k) = tt
connected t f Undef w = tt
connected t f (Int z) w = tt
connected t f (Elem d k) w = tt

compared : (t : Range) (f : ℤ → ℤ → Truth) (v w : Value) → IsIn t (comparison f v w)
compared t f (Int x) (Int y) = tt
compared t f (Int x) Undef = tt
compared t f (Int x) (Bool b) = tt
compared t f (Int x) (Elem d k) = tt
compared t f Undef w = tt
compared t f (Bool b) w = tt
compared t f (Elem d k) w = tt

calculated : (t : Range) (f : ℤ → ℤ → ℤ) (r s : Range) (v w : Value) → IsIn r v → IsIn s w → IsRangeOf (results f r s) t → IsIn t (arithmetic f v w)
calculated t f r s (Int x) (Int y) i j h = range_in _ t (Int (f x y)) h (λ z e. (x, y, i, j, (let q : f x y ≡ z = cc (e) in q)))
calculated t f r s (Int x) Undef i j h = tt
calculated t f r s (Int x) (Bool b) i j h = tt
calculated t f r s (Int x) (Elem d k) i j h = tt
calculated t f r s Undef w i j h = tt
calculated t f r s (Bool b) w i j h = tt
calculated t f r s (Elem d k) w i j h = tt

-- a division's result is no greater in size than what is divided
abbrev Shrinks : (ℤ → ℤ → ℤ) → Type 0
Shrinks f = (i j k : Interval) → Spans (sizes (From i)) k → (x y : ℤ) → IsWithin i x → IsWithin j y → (int_eq y (pos 0) ≡ false) → IsWithin k (f x y)

divided : (f : ℤ → ℤ → ℤ) → Shrinks f → (t r s : Range) (v w : Value) → IsIn r v → IsIn s w → IsRangeOf (sizes r) t → IsIn t (division f v w)
divided f shrinks t r s (Int x) (Int y) i j h =
    elim (int_eq y (pos 0)) as (λ (b : Truth). int_eq y (pos 0) ≡ b → IsIn t (if b then Undef else Int (f x y))) [
      | true ↦ λ e. tt
      | false ↦ λ e. go t r s i j h e
    ] refl
  where
    go : (t r s : Range) → numbers_in r x → numbers_in s y → IsRangeOf (sizes r) t → int_eq y (pos 0) ≡ false → numbers_in t (f x y)
    go t NoNumber s i j h e = absurd i
    go t (From a) NoNumber i j h e = absurd j
    go NoNumber (From a) (From b) i j h e = absurd (h x (x, i, refl))
    go (From k) (From a) (From b) i j h e = shrinks a b k h x y i j e
divided f shrinks t r s (Int x) Undef i j h = tt
divided f shrinks t r s (Int x) (Bool b) i j h = tt
divided f shrinks t r s (Int x) (Elem d k) i j h = tt
divided f shrinks t r s Undef w i j h = tt
divided f shrinks t r s (Bool b) w i j h = tt
divided f shrinks t r s (Elem d k) w i j h = tt

not_zero : (y : ℤ) → int_eq y (pos 0) ≡ false → y ≡ pos 0 → ⊥
not_zero y e f = let q : int_eq (pos 0) (pos 0) ≡ false = subst (λ (u : ℤ). int_eq u (pos 0) ≡ false) f e in absurd (cc (q))

quotients : Shrinks int_div
quotients i j k s x y is is' e = holds_quotients i j k s x y is is' (not_zero y e)

rests : Shrinks int_rem
rests i j k s x y is is' e = holds_rests i j k s x y is is' (not_zero y e)

pub two_in : (o : Op) (t r s : Range) (v w : Value) → IsIn r v → IsIn s w → IsRangeOf (of_two o r s) t → IsIn t (values.of_two o v w)
two_in op.Iff t r s v w i j h = connected t _ v w
two_in op.Implies t r s v w i j h = connected t _ v w
two_in op.Or t r s v w i j h = connected t _ v w
two_in op.Xor t r s v w i j h = connected t _ v w
two_in op.And t r s v w i j h = connected t _ v w
two_in op.Not t r s v w i j h = tt
two_in op.Equal t r s v w i j h = tt
two_in op.NotEqual t r s v w i j h = tt
two_in op.Less t r s v w i j h = compared t _ v w
two_in op.LessEqual t r s v w i j h = compared t _ v w
two_in op.Greater t r s v w i j h = compared t _ v w
two_in op.GreaterEqual t r s v w i j h = compared t _ v w
two_in op.Plus t r s v w i j h = calculated t _ r s v w i j h
two_in op.Minus t r s v w i j h = calculated t _ r s v w i j h
two_in op.Negate t r s v w i j h = tt
two_in op.Times t r s v w i j h = calculated t _ r s v w i j h
two_in op.Mod t r s v w i j h = divided int_rem rests t r s v w i j h
two_in op.Idiv t r s v w i j h = divided int_div quotients t r s v w i j h
two_in op.Min t r s v w i j h = calculated t _ r s v w i j h
two_in op.Max t r s v w i j h = calculated t _ r s v w i j h
two_in op.Abs t r s v w i j h = tt
two_in op.IsDefined t r s v w i j h = tt
two_in op.IsUndefined t r s v w i j h = tt

negated : (t : Range) (v : Value) → IsIn t (negation v)
negated t (Bool p) = tt
negated t Undef = tt
negated t (Int z) = tt
negated t (Elem d k) = tt

turned : (f : ℤ → ℤ) (t r : Range) (v : Value) → IsIn r v → IsRangeOf (results_of_one f r) t → IsIn t (of_number f v)
turned f t r (Int x) i h = range_in _ t (Int (f x)) h (λ z e. (x, i, (let q : f x ≡ z = cc (e) in q)))
turned f t r Undef i h = tt
turned f t r (Bool b) i h = tt
turned f t r (Elem d k) i h = tt

pub one_in : (o : Op) (t r : Range) (v : Value) → IsIn r v → IsRangeOf (of_one o r) t → IsIn t (values.of_one o v)
one_in op.Not t r v i h = negated t v
one_in op.Negate t r v i h = turned _ t r v i h
one_in op.Abs t r v i h = turned _ t r v i h
one_in op.IsDefined t r v i h = tt
one_in op.IsUndefined t r v i h = tt
one_in op.Iff t r v i h = tt
one_in op.Implies t r v i h = tt
one_in op.Or t r v i h = tt
one_in op.Xor t r v i h = tt
one_in op.And t r v i h = tt
one_in op.Equal t r v i h = tt
one_in op.NotEqual t r v i h = tt
one_in op.Less t r v i h = tt
one_in op.LessEqual t r v i h = tt
one_in op.Greater t r v i h = tt
one_in op.GreaterEqual t r v i h = tt
one_in op.Plus t r v i h = tt
one_in op.Minus t r v i h = tt
one_in op.Times t r v i h = tt
one_in op.Mod t r v i h = tt
one_in op.Idiv t r v i h = tt
one_in op.Min t r v i h = tt
one_in op.Max t r v i h = tt

-- values are in the ranges at their places
abbrev pub AreIn : List Range → List Value → Type 0
AreIn [] [] = ⊤
AreIn (r ∷ rs) (v ∷ vs) = IsIn r v × AreIn rs vs
AreIn _ _ = ⊥

pub result_in : (o : Op) (t : Range) (rs : List Range) (vs : List Value) → AreIn rs vs → IsRangeOf (operator_numbers o rs) t → IsIn t (result_of o vs)
result_in o t [] [] i h = tt
result_in o t (r ∷ []) (v ∷ []) i h = one_in o t r v i.0 h
result_in o t (r ∷ s ∷ []) (v ∷ w ∷ []) i h = two_in o t r s v w i.0 i.1.0 h
result_in o t (r ∷ s ∷ q ∷ rs) (v ∷ w ∷ u ∷ vs) i h = tt
result_in o t [] (v ∷ vs) i h = absurd i
result_in o t (r ∷ rs) [] i h = absurd i
result_in o t (r ∷ []) (v ∷ w ∷ vs) i h = absurd (i.1)
result_in o t (r ∷ s ∷ rs) (v ∷ []) i h = absurd (i.1)
result_in o t (r ∷ s ∷ []) (v ∷ w ∷ u ∷ vs) i h = absurd (i.1.1)
result_in o t (r ∷ s ∷ q ∷ rs) (v ∷ w ∷ []) i h = absurd (i.1.1)
