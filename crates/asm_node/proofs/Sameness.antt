-- Values that test as the same are equal.
use Rattle.std.proofs.Common.{◌≡◌, Bool as Truth, true, false, ◌&&◌, List, [], ◌∷◌, nat_eq, refl, sym, ap, ◌∙◌, subst, true≢false, T, eqb→eq, eq-eqb}
use Rattle.std.specs.Ordering.{is_eq}
use Rattle.std.specs.Cmp.{Equal-is, tied_itself}
use Rattle.std.specs.FinSet.{int_cmp-IsAntisymmetric}
use Rattle.std.specs.Ordering.{int_cmp}
use Rattle.std.proofs.lemmas.Cmp.{int_cmp_total}
use Rattle.asm_domain.specs.declared.value.Value.{Value}
use Rattle.asm_domain.specs.declared.value.Value.TheVariants.{Undef, Bool, Int, Elem}
use Rattle.asm_node.specs.Values.{same, same_all}

pub and_first : (a b : Truth) → (a && b) ≡ true → a ≡ true
and_first true b is = refl
and_first false b is = is

pub and_second : (a b : Truth) → (a && b) ≡ true → b ≡ true
and_second true b is = is
and_second false b is = absurd (true≢false (sym is))

pub same_is : (a b : Value) → same a b ≡ true → a ≡ b
same_is Undef Undef is = refl
same_is (Bool true) (Bool true) is = refl
same_is (Bool false) (Bool false) is = refl
same_is (Int x) (Int y) is = ap Int (int_cmp-IsAntisymmetric x y ((Equal-is (int_cmp x y)).0 is))
same_is (Elem d k) (Elem e l) is = λ i. Elem (eqb→eq d e (subst T (sym (and_first _ _ is)) tt) i) (eqb→eq k l (subst T (sym (and_second _ _ is)) tt) i)
same_is _ _ is = absurd (true≢false (sym is))

pub same_all_is : (vs ws : List Value) → same_all vs ws ≡ true → vs ≡ ws
same_all_is [] [] is = refl
same_all_is (v ∷ vs) (w ∷ ws) is = λ i. same_is v w (and_first (same v w) (same_all vs ws) is) i ∷ same_all_is vs ws (and_second (same v w) (same_all vs ws) is) i
same_all_is [] (w ∷ ws) is = absurd (true≢false (sym is))
same_all_is (v ∷ vs) [] is = absurd (true≢false (sym is))

pub same_itself : (v : Value) → same v v ≡ true
same_itself Undef = refl
same_itself (Bool true) = refl
same_itself (Bool false) = refl
same_itself (Int x) = ap is_eq (tied_itself int_cmp_total x)
same_itself (Elem d k) = ap (λ b. b && nat_eq k k) (eq-eqb d d refl) ∙ eq-eqb k k refl

pub same_all_itself : (vs : List Value) → same_all vs vs ≡ true
same_all_itself [] = refl
same_all_itself (v ∷ vs) = ap (λ b. b && same_all vs vs) (same_itself v) ∙ same_all_itself vs
