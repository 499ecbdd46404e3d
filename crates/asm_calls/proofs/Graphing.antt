-- The graph of a model's rules.
use Rattle.std.proofs.Common.{◌≡◌, List, [], ◌∷◌, map, Some, refl, ap, ◌∙◌}
use Rattle.std.specs.Str.{bytes_eq}
use Rattle.asm_tree.specs.declared.unit.LoadedUnit.{LoadedUnit}
use Rattle.name_table.specs.Numbered.{number_of}
use Rattle.asm_faults.specs.At.{Name}
use Rattle.asm_faults.specs.Files.{DeclaredRule, rules}
use Rattle.asm_faults.specs.Calls.{node_of, numbers_of, called_rules, rule_place, rule_graph}
use Rattle.asm_faults.proofs.Finding.{position-map}
use Rattle.asm_calls.specs.declared.caller.Caller.{Caller}
use Rattle.asm_calls.specs.Called.{rules_in}
use Rattle.asm_calls.specs.Callers.{rule_caller, rule_names}

map-map : {A B C : Type 0} (g : B → C) (f : A → B) (xs : List A) → map g (map f xs) ≡ map (λ x. g (f x)) xs
map-map g f [] = refl
map-map g f (x ∷ xs) = ap (λ ys. g (f x) ∷ ys) (map-map g f xs)

-- ---- rules

rule_number : (units : List LoadedUnit) (x : Name) → number_of (rule_names units) x ≡ rule_place units x
rule_number units x = position-map (λ (name : Name). bytes_eq name x) (λ (r : DeclaredRule). r.name.text) (rules units)

rule_calls : (units : List LoadedUnit) (r : DeclaredRule) → rules_in (rule_names units) r.body ≡ numbers_of (rule_place units) (called_rules r.body)
unfolding rules_in
rule_calls units r = λ j. numbers_of (λ (x : Name). rule_number units x j) (called_rules r.body)

pub rules_graph : (units : List LoadedUnit) → map (λ (c : Caller). node_of (Some c.calls)) (map (rule_caller (rule_names units)) (rules units)) ≡ rule_graph units
rules_graph units =
    map-map (λ (c : Caller). node_of (Some c.calls)) (rule_caller (rule_names units)) (rules units)
    ∙ (λ j. map (λ (r : DeclaredRule). node_of (Some (rule_calls units r j))) (rules units))
