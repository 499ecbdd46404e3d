-- A checked model whose intervals are known is well formed.
use Rattle.std.proofs.Common.{◌≡◌, ◌≤◌, length, Some, slice_get, All}
use Rattle.std.specs.Prelude.{map}
use Rattle.asm_sign.specs.declared.function.Function.{Function}
use Rattle.asm_node.specs.Machine.{Machine, Definition, Macro}
use Rattle.asm_node.specs.Declarations.{AreDeclarations}
use Rattle.asm_node.specs.Values.{whole}
use Rattle.asm_node.specs.Ranges.{Ranges, no_ranges, AreParameters, IsRanged}
use Rattle.asm_node.specs.RuleRanges.{IsRangedRule}
use Rattle.asm_node.specs.WellFormed.{IsWellFormed}
use Rattle.asm_sound.specs.Checked.{IsChecked}

-- no interval is refused in the body of a definition
abbrev pub IsRangedDefinition : Machine → Definition → Type 0
IsRangedDefinition m d = (function : Function) → slice_get m.signature.functions d.function ≡ Some function → (ranges : Ranges) × AreParameters m.signature d.parameters function.domains ranges × IsRanged m.signature ranges d.body

-- no interval is refused in the body of a macro rule
abbrev pub IsRangedMacro : Machine → Macro → Type 0
IsRangedMacro m macro = (ranges : Ranges) × AreParameters m.signature (map (λ p. p.variable) macro.parameters) (map (λ p. p.domain) macro.parameters) ranges × IsRangedRule m.signature ranges macro.body

-- no interval of a model is refused
pub record AreRanged (m : Machine) : Type 0 where
  pub definitions : All (IsRangedDefinition m) m.definitions
  pub initial_terms : All (IsRangedDefinition m) m.initial_terms
  pub rules : All (IsRangedMacro m) m.rules
  pub invariants : All (IsRanged m.signature no_ranges) m.invariants
  pub main : IsRangedRule m.signature no_ranges m.main

pub well_formed : (m : Machine) → length m.signature.domains ≤ whole → AreDeclarations m.signature → IsChecked m → AreRanged m → IsWellFormed m
well_formed m few declarations c r = record {
  few_domains = few;
  declarations = declarations;
  functions = c.functions;
  definitions = λ k d lt. (let t = c.definitions k d lt in
      let i = r.definitions k d lt t.function t.is_function in
      record { function = t.function; is_function = t.is_function; is_of_kind = t.is_of_kind; parameters = t.parameters; type = t.type; is_type = t.is_type; typed = t.typed; ranges = i.0; are_ranges = i.1; ranged = i.2; readable = t.readable });
  defined_once = c.defined_once;
  defined = c.defined;
  definitions_end = c.definitions_end;
  rules_end = c.rules_end;
  initial_terms = λ k d lt. (let t = c.initial_terms k d lt in
      let i = r.initial_terms k d lt t.function t.is_function in
      record { function = t.function; is_function = t.is_function; is_of_kind = t.is_of_kind; parameters = t.parameters; type = t.type; is_type = t.is_type; typed = t.typed; ranges = i.0; are_ranges = i.1; ranged = i.2; readable = t.readable });
  initial_once = c.initial_once;
  rules = λ k d lt. (let t = c.rules k d lt in
      let i = r.rules k d lt in
      record { declared = t.declared; typed = t.typed; ranges = i.0; are_ranges = i.1; ranged = i.2 });
  invariants = λ k d lt. (let t = c.invariants k d lt in record { condition = record { typed = t.typed; ranged = r.invariants k d lt }; readable = t.readable });
  main = record { typed = c.main; ranged = r.main };
}
