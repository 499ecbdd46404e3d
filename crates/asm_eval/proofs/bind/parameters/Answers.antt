use Prim.Native.Nat.{min}
use Rattle.std.proofs.Common.{◌≡◌, ℕ, zero, suc, List, [], ◌∷◌, length, drop, refl, sym, ◌∙◌, arith}
use Rattle.asm_domain.specs.declared.value.Value.{Value}
use Rattle.asm_node.specs.Term.{nowhere}
use Rattle.asm_eval.specs.World.{parameters_at}
use Rattle.asm_eval.proofs.bind.parameters.Goals as goal

-- one of the lists is at its end
at_end : (xs : List ℕ) (vs : List Value) (n : ℕ) → n ≡ min (length xs) (length vs) → parameters_at (drop n xs) (drop n vs) ≡ nowhere
at_end [] vs zero is = refl
at_end [] vs (suc n) is = absurd (omega (arith, is))
at_end (x ∷ xs) [] zero is = refl
at_end (x ∷ xs) [] (suc n) is = absurd (omega (arith, is))
at_end (x ∷ xs) (v ∷ vs) zero is = absurd (omega (arith, is))
at_end (x ∷ xs) (v ∷ vs) (suc n) is = at_end xs vs n (omega (arith, is))

pub loop-left-init : goal.loop-left-init
loop-left-init c = record {
  few_variables = omega (arith, c.min-left.ensures);
  few_values = omega (arith, c.min-left.ensures);
  places = c.new-env.ensures.places ∙ sym (at_end _ _ _ c.min-left.ensures);
  weight = omega (arith, c.min-left.ensures, c.new-env.ensures.weight);
}
