use Rattle.std.proofs.Common.{◌≡◌, ℕ, ◌&&◌, List, [], ◌∷◌, nat_eq, refl, ap, ◌∙◌}
use lib.Pointwise.{pointwise}
use Rattle.asm_node.specs.Machine.{same_name}
use Rattle.asm_bind.proofs.constant.is_same_name.Goals as goal

same_name-is : (xs ys : List ℕ) → pointwise nat_eq xs ys ≡ same_name xs ys
same_name-is [] [] = refl
same_name-is [] (y ∷ ys) = refl
same_name-is (x ∷ xs) [] = refl
same_name-is (x ∷ xs) (y ∷ ys) = ap (λ b. nat_eq x y && b) (same_name-is xs ys)

pub returns : goal.returns
returns c = c.eq.ensures ∙ (λ i. pointwise nat_eq (c.text.ensures i) (c.text-2.ensures i)) ∙ same_name-is c.args.name.now c.args.other.now
