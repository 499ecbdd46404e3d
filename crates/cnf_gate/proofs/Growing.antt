-- Builders that have grown.
use Rattle.std.proofs.Common.{◌≡◌, ℕ, ◌≤◌, List, [], ◌∷◌, ◌++◌, append_assoc, append-nil, arith, sym, ◌∙◌, Bool, true, ap}
use Rattle.cnf_base.specs.declared.lit.Lit.{Lit}
use Rattle.cnf_base.specs.Clauses.{clause_true, formula_true}
use Rattle.cnf_gate.specs.Built.{Built, AddsGate, AddsGroup, Grows}
use Rattle.cnf_gate.proofs.Step.{all_split}

-- nothing was added
pub grows_same : (b : Built) → Grows b b [] []
grows_same b = record { holds = λ v h. h; count = omega arith; groups_are = sym (append-nil b.groups); required_are = sym (append-nil b.required) }

-- one growth after the other
pub grows_then : (a b c : Built) (gs hs rs ss : List (List Lit)) → Grows a b gs rs → Grows b c hs ss → Grows a c (gs ++ hs) (rs ++ ss)
grows_then a b c gs hs rs ss g h = record {
  holds = λ v k. g.holds v (h.holds v k);
  count = omega (arith, g.count, h.count);
  groups_are = h.groups_are ∙ (ap (λ (z : List (List Lit)). z ++ hs) g.groups_are ∙ append_assoc a.groups gs hs);
  required_are = h.required_are ∙ (ap (λ (z : List (List Lit)). z ++ ss) g.required_are ∙ append_assoc a.required rs ss);
}

-- clauses came behind the old ones
pub holds_front : (old more new : List (List Lit)) → new ≡ old ++ more → (v : ℕ → Bool) → formula_true v new ≡ true → formula_true v old ≡ true
holds_front old more new e v h = (all_split (clause_true v) old more (ap (formula_true v) (sym e) ∙ h)).0

pub grows_adds : (old new : Built) → AddsGate old new → old.count ≤ new.count → Grows old new [] []
grows_adds old new a k = record {
  holds = holds_front old.fixed a.more new.fixed a.fixed;
  count = k;
  groups_are = a.groups ∙ sym (append-nil old.groups);
  required_are = a.required ∙ sym (append-nil old.required);
}

pub grows_group : (old new : Built) (g : List Lit) → AddsGroup old new g → old.count ≤ new.count → Grows old new (g ∷ []) []
grows_group old new g a k = record {
  holds = holds_front old.fixed a.more new.fixed a.fixed;
  count = k;
  groups_are = a.groups;
  required_are = a.required ∙ sym (append-nil old.required);
}
