use Prim.Native.Nat.{min}
use Rattle.std.proofs.Common.{◌≡◌, ℕ, zero, suc, List, [], ◌∷◌, length, drop, refl, sym, ◌∙◌, arith}
use Rattle.asm_domain.specs.declared.value.Value.{Value}
use Rattle.asm_node.specs.declared.term.Binder.{Binder}
use Rattle.asm_node.specs.Term.{Places, put_tuple}
use Rattle.asm_eval.proofs.bind.bound.Goals as goal

no_values : (bs : List Binder) (e : Places) → put_tuple bs [] e ≡ e
no_values [] e = refl
no_values (b ∷ bs) e = refl

-- one of the lists is at its end
at_end : (bs : List Binder) (vs : List Value) (e : Places) (n : ℕ) → n ≡ min (length bs) (length vs) → put_tuple (drop n bs) (drop n vs) e ≡ e
at_end [] vs e zero is = refl
at_end [] vs e (suc n) is = absurd (omega (arith, is))
at_end (b ∷ bs) [] e zero is = refl
at_end (b ∷ bs) [] e (suc n) is = absurd (omega (arith, is))
at_end (b ∷ bs) (v ∷ vs) e zero is = absurd (omega (arith, is))
at_end (b ∷ bs) (v ∷ vs) e (suc n) is = at_end bs vs e n (omega (arith, is))

pub loop-left-init : goal.loop-left-init
loop-left-init c = record {
  few_binders = omega (arith, c.min-left.ensures);
  few_values = omega (arith, c.min-left.ensures);
  places = c.in_ok-bound.ensures.places ∙ sym (at_end _ _ _ _ c.min-left.ensures);
  weight = omega (arith, c.min-left.ensures, c.in_ok-bound.ensures.weight);
}
