-- The values of a whole trail as an assignment.
use Rattle.std.proofs.Common.{◌≡◌, ℕ, ◌<◌, List, length, arith, ap, sym, ◌∙◌, Bool, true}
use Rattle.cnf_base.specs.declared.lit.Lit.{Lit}
use Rattle.cnf_base.specs.Clauses.{IsSatisfied, variables, formula_true, value_in}
use Rattle.cnf_gate.proofs.Meaning.{formula_agrees}

pub satisfied_by : (f g : List (List Lit)) (a : List Bool) (v : ℕ → Bool) (count : ℕ) → f ≡ g → count ≡ variables g → length a ≡ count
    → ((n : ℕ) → n < count → value_in a n ≡ v n) → formula_true v f ≡ true → IsSatisfied g a
satisfied_by f g a v count e k l h s = record {
  whole = l ∙ k;
  clauses = formula_agrees (value_in a) v g (λ n m. h n (omega arith)) ∙ (ap (formula_true v) (sym e) ∙ s);
}
