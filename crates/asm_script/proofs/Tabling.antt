-- The tables of a model are what its own rules say.
use Rattle.std.proofs.Common.{◌≡◌, List, [], ◌∷◌, refl, sym, ap, ◌∙◌}
use Rattle.std.specs.Prelude.{map}
use Rattle.asm_sign.specs.Vocabulary.{Vocabulary}
use Rattle.asm_node.specs.declared.definition.MacroRule.{MacroRule}
use Rattle.asm_node.specs.Machine.{Machine, Macro}
use Rattle.asm_node.specs.Parts.{macro_by}
use Rattle.asm_faults.specs.At.{Name}
use Rattle.asm_faults.specs.Bodies.{RuleHead}
use Rattle.asm_tree.specs.declared.rule.RawRule.{RawRule}
use Rattle.asm_script.specs.Script.{head_of, heads_in, rule_fault, rule_names}
use Rattle.asm_script.specs.Tables.{AreTablesOf, fault_among}

map-map : {A B C : Type 0} (g : B → C) (f : A → B) (xs : List A) → map g (map f xs) ≡ map (λ (x : A). g (f x)) xs
map-map g f [] = refl
map-map g f (x ∷ xs) = ap (λ ys. g (f x) ∷ ys) (map-map g f xs)

module _ (m : Machine) (rules : List MacroRule) (are : map macro_by rules ≡ m.rules) where
  pub heads_are : (v : Vocabulary) (heads : List RuleHead) → v ≡ m.signature → heads ≡ map (λ (r : MacroRule). head_of v (macro_by r)) rules → heads ≡ heads_in m
  heads_are v heads same is =
      is
      ∙ sym (map-map (head_of v) macro_by rules)
      ∙ ap (map (head_of v)) are
      ∙ ap (λ (w : Vocabulary). map (head_of w) m.rules) same

  pub names_are : (names : List Name) → names ≡ map (λ (r : MacroRule). r.name) rules → names ≡ rule_names m
  names_are names is =
      is
      ∙ sym (map-map (λ (macro : Macro). macro.name) macro_by rules)
      ∙ ap (map (λ (macro : Macro). macro.name)) are

-- what is wrong first with a rule, by the tables of a model
pub same_fault : (held m : Machine) (known intervals : Vocabulary) (heads : List RuleHead) (names : List Name) (raw : RawRule) → AreTablesOf held known intervals heads names → held ≡ m → fault_among known heads raw ≡ rule_fault m raw
same_fault held m known intervals heads names raw are same =
    ap (λ (v : Vocabulary). fault_among v heads raw) are.known_are
    ∙ ap (λ (hs : List RuleHead). fault_among held.signature hs raw) are.heads_are
    ∙ ap (λ (n : Machine). rule_fault n raw) same
