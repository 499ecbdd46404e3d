-- The rules of a model as others call them, over any files that declare rules of their names.
use Rattle.std.proofs.Common.{◌≡◌, ℕ, ◌+◌, Bool as Truth, true, false, cond, List, [], ◌∷◌, ◌++◌, Option, Some, None, if◌then◌else◌, slice_get, refl, sym, ap, ◌∙◌, append-nil}
use Rattle.std.specs.Prelude.{map, bytes_eq}
use Rattle.std.specs.List.{find, flat_map, position, position_from}
use Rattle.std.specs.Option.{option_map, unwrap_or}
use Rattle.std.proofs.lemmas.Iterator.Adapters.{position_from-zero}
use Rattle.asm_sign.specs.Vocabulary.{Vocabulary}
use Rattle.asm_node.specs.declared.term.Binder.{Binder}
use Rattle.asm_node.specs.declared.term_type.TermType.{TermType}
use Rattle.asm_node.specs.Machine.{Machine, Macro}
use Rattle.asm_node.specs.Types.{domain_type}
use Rattle.asm_tree.specs.declared.rule.RawRuleKind.TheVariants as rule_kind
use Rattle.asm_tree.specs.declared.unit.LoadedUnit.{LoadedUnit}
use Rattle.asm_tree.specs.declared.unit.RawDefinition.{RawDefinition}
use Rattle.asm_tree.specs.declared.unit.RawDefinition.TheVariants as definition
use Rattle.asm_tree.specs.declared.unit.RawUnitKind.TheVariants.{Asm}
use Rattle.asm_faults.specs.At.{Name}
use Rattle.asm_faults.specs.Bodies.{RuleHead, head_named}
use Rattle.asm_faults.specs.Calls.{rule_place}
use Rattle.asm_faults.specs.Files.{DeclaredRule, rule_in, rules}
use Rattle.asm_sound.proofs.Heads.{find_place, some_is}
use Rattle.asm_sound.proofs.TypedRules.{Belong, HasMacro}
use Rattle.asm_sound.proofs.TypedTerms.{no_some}
use Rattle.asm_script.specs.Script.{AreNamedAlike, head_of, heads_in, rule_names}
use Rattle.asm_script.proofs.Keeping.{IsKept}

fused : (v : Vocabulary) (ps : List Binder) → map (λ (b : Binder). domain_type v.domains b.domain) ps ≡ map (domain_type v.domains) (map (λ (b : Binder). b.domain) ps)
fused v [] = refl
fused v (p ∷ ps) = ap (λ (types : List (Option TermType)). domain_type v.domains p.domain ∷ types) (fused v ps)

-- the first head of a name is that of the first rule of the name
head_found : (v : Vocabulary) (macros : List Macro) (r : Name) → head_named (map (head_of v) macros) r ≡ option_map (head_of v) (find (λ (macro : Macro). bytes_eq macro.name r) macros)
head_found v [] r = refl
head_found v (macro ∷ macros) r = by (bytes_eq macro.name r) (head_found v macros r)
  where
    by : (b : Truth) → head_named (map (head_of v) macros) r ≡ option_map (head_of v) (find (λ (macro : Macro). bytes_eq macro.name r) macros)
        → (if b then Some (head_of v macro) else head_named (map (head_of v) macros) r) ≡ option_map (head_of v) (cond b (Some macro) (find (λ (macro : Macro). bytes_eq macro.name r) macros))
    by true e = refl
    by false e = e

place_from : {A B : Type 0} (test : B → Truth) (f : A → B) (i : ℕ) (xs : List A) → position_from test i (map f xs) ≡ position_from (λ x. test (f x)) i xs
place_from test f i [] = refl
place_from test f i (x ∷ xs) = ap (λ (o : Option ℕ). cond (test (f x)) (Some i) o) (place_from test f (i + 1) xs)

place_of_image : {A B : Type 0} (test : B → Truth) (f : A → B) (xs : List A) → position test (map f xs) ≡ position (λ x. test (f x)) xs
place_of_image test f xs = position_from-zero test (map f xs) ∙ place_from test f 0 xs ∙ sym (position_from-zero (λ x. test (f x)) xs)

-- a rule has the place of its name among the rules of the model
place_is : (units : List LoadedUnit) (m : Machine) → AreNamedAlike units m → (r : Name) → rule_place units r ≡ position (λ (macro : Macro). bytes_eq macro.name r) m.rules
place_is units m alike r =
    sym (place_of_image (λ (name : Name). bytes_eq name r) (λ (q : DeclaredRule). q.name.text) (rules units))
    ∙ ap (position (λ (name : Name). bytes_eq name r)) alike
    ∙ place_of_image (λ (name : Name). bytes_eq name r) (λ (macro : Macro). macro.name) m.rules

-- the heads belong to the model's rules, whatever numbers variables have
pub belong : (number : Name → ℕ) (units : List LoadedUnit) (m : Machine) → IsKept m → AreNamedAlike units m → Belong number m.signature units (heads_in m) m.rules
belong number units m is_kept alike r h is = by (find test m.rules) refl
  where
    test : Macro → Truth
    test macro = bytes_eq macro.name r

    by : (o : Option Macro) → find test m.rules ≡ o → HasMacro number m.signature units m.rules r h
    by None e = absurd (no_some h (sym (ap (option_map (head_of m.signature)) e) ∙ sym (head_found m.signature m.rules r) ∙ is))
    by (Some macro) e =
        (let same = some_is (head_of m.signature macro) h (sym (ap (option_map (head_of m.signature)) e) ∙ sym (head_found m.signature m.rules r) ∙ is) in
        let at = find_place test m.rules macro e in
        record {
          macro = macro;
          is_macro = ap (λ (o : Option ℕ). slice_get m.rules (unwrap_or o 0)) (place_is units m alike r ∙ at.1) ∙ at.2;
          types = ap (λ (z : RuleHead). z.types) (sym same) ∙ fused m.signature macro.parameters;
          known = is_kept.parameters at.0 macro at.2;
        })

-- ---- files with rules of given names

abbrev rule_named : Name → RawDefinition
rule_named name = definition.Rule (record { at = 0; text = name }) [] (record { at = 0; kind = rule_kind.Skip })

abbrev pub files_named : List Name → List LoadedUnit
files_named names = record {
  file = 0;
  unit = record {
    kind = Asm;
    name = record { at = 0; text = [] };
    imports = [];
    declarations = [];
    definitions = map rule_named names;
    main = None;
    init = None;
  };
} ∷ []

names_from : (names : List Name) → map (λ (q : DeclaredRule). q.name.text) (flat_map rule_in (map (λ (d : RawDefinition). (0, d)) (map rule_named names))) ≡ names
names_from [] = refl
names_from (name ∷ names) = ap (λ (others : List Name). name ∷ others) (names_from names)

pub named_alike : (m : Machine) → AreNamedAlike (files_named (rule_names m)) m
named_alike m =
    let of : List RawDefinition → List DeclaredRule = λ ds. flat_map rule_in (map (λ (d : RawDefinition). (0, d)) ds) in
    ap (map (λ (q : DeclaredRule). q.name.text)) (append-nil (flat_map rule_in (map (λ (d : RawDefinition). (0, d)) (map rule_named (rule_names m)) ++ [])) ∙ ap (flat_map rule_in) (append-nil (map (λ (d : RawDefinition). (0, d)) (map rule_named (rule_names m)))))
    ∙ names_from (rule_names m)
