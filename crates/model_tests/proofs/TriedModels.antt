-- Models of dynamic functions alone, as the tests have.
use Rattle.std.proofs.Common.{◌≡◌, ℕ, zero, suc, ◌≤◌, true, List, [], ◌∷◌, map, length, slice_get, Some, All, ℤ, refl, sym, subst, arith}
use Rattle.std.specs.declared.alloc.Global.{Global}
use Rattle.std.specs.declared.rc.Rc.{Rc}
use Rattle.std.proofs.lemmas.Int.{ints}
use Rattle.asm_domain.specs.declared.interval.Interval.{Interval}
use Rattle.asm_domain.specs.declared.value.Value.{Value}
use Rattle.asm_domain.specs.declared.value.Value.TheVariants.{Undef, Bool, Int, Elem}
use Rattle.asm_domain.specs.Interval.{IsWithin}
use Rattle.asm_domain.specs.Universe.{AreDistinct}
use Rattle.asm_source.specs.declared.sources.Place.{Place}
use Rattle.asm_sign.specs.declared.function.DeclaredDomain.{DeclaredDomain}
use Rattle.asm_sign.specs.declared.function.FunKind.TheVariants.{Controlled}
use Rattle.asm_sign.specs.declared.function.Function.{Function}
use Rattle.asm_sign.specs.Kind.{is_dynamic, is_kept}
use Rattle.asm_sign.specs.Vocabulary.{Vocabulary, IsDeclared}
use Rattle.asm_node.specs.declared.definition.Definition as program
use Rattle.asm_node.specs.declared.definition.MacroRule.{MacroRule}
use Rattle.asm_node.specs.declared.rule.Rule as node
use Rattle.asm_node.specs.declared.term.Term.{Term}
use Rattle.asm_node.specs.Declarations.{AreDeclarations}
use Rattle.asm_node.specs.Exact.{IsSmall}
use Rattle.asm_node.specs.Machine.{Machine, Definition, has_kind}
use Rattle.asm_node.specs.Parts.{defined_by, macro_by, machine_from}
use Rattle.asm_node.specs.Ranges.{no_ranges, Range, NoNumber, From, IsConstantRange, IsNarrowRange}
use Rattle.asm_node.specs.RuleTree.{Rule, Skip, plain_rule}
use Rattle.asm_node.specs.Tree.{Const, plain}
use Rattle.asm_node.specs.declared.term_type.TermType.TheVariants.{Integer}
use Rattle.asm_node.specs.Types.{IsConstant}
use Rattle.asm_node.specs.Values.{whole}
use Rattle.asm_node.specs.WellFormed.{IsDefinition, IsRule, IsWellFormed, any_kind, is_defined}
use Rattle.model_tests.proofs.Declared.{numbers_declared, of_numbers, one_item}

-- a machine without definitions, macro rules and invariants
abbrev pub plain_machine : Vocabulary → List Definition → Rule → Machine
plain_machine v initial_terms main = record { signature = v; definitions = []; initial_terms = initial_terms; rules = []; invariants = []; main = main }

none_distinct : {A : Type 0} → AreDistinct {A = A} []
none_distinct = record { one_place = λ i j x is js. absurd (cc is) }

-- it is well formed where its functions are dynamic, and its initial terms and its main rule are well formed
pub plain_formed : (v : Vocabulary) (ds : List Definition) (r : Rule) → length v.domains ≤ whole → AreDeclarations v → All (IsDeclared v.domains) v.functions
    → ((f : ℕ) (function : Function) → slice_get v.functions f ≡ Some function → is_dynamic function.kind ≡ true)
    → All (IsDefinition (plain_machine v ds r) is_kept (λ kind. is_defined)) ds → AreDistinct (map (λ (d : Definition). d.function) ds) → IsRule (plain_machine v ds r) r → IsWellFormed (plain_machine v ds r)
plain_formed v ds r few declarations functions dynamic initial_terms once main = record {
  few_domains = few;
  declarations = declarations;
  functions = functions;
  definitions = λ k d lt. absurd (omega (arith, lt));
  defined_once = none_distinct;
  defined = λ f function is static none. absurd (cc (dynamic f function is, static));
  definitions_end = λ f function is. (subst (λ o. has_kind any_kind o ≡ true) (sym is) refl, tt);
  rules_end = λ f. tt;
  initial_terms = initial_terms;
  initial_once = once;
  rules = λ k macro lt. absurd (omega (arith, lt));
  invariants = λ k t lt. absurd (omega (arith, lt));
  main = main;
}

-- the machine of a model of such parts
pub same_machine : (v v' : Vocabulary) (main : Rc node.Rule Global) (r : Rule) (invariants : List (Rc Term Global)) (initial_terms definitions : List program.Definition) (ds : List Definition) (rules : List MacroRule)
    → v ≡ v' → plain_rule main.value ≡ r → invariants ≡ [] → map defined_by initial_terms ≡ ds → definitions ≡ [] → rules ≡ []
    → ◌≡◌ {A = Machine} (machine_from v main invariants initial_terms definitions rules) (plain_machine v' ds r)
same_machine v v' main r invariants initial_terms definitions ds rules same_v same_main no_invariants same_terms no_definitions no_rules =
    λ i. record {
      signature = same_v i;
      definitions = map defined_by (no_definitions i);
      initial_terms = same_terms i;
      rules = map macro_by (no_rules i);
      invariants = map (λ t. plain t.value) (no_invariants i);
      main = same_main i;
    }

-- ---- constants

abbrev only : ℤ → Interval
only z = record { low = z; high = z; ordered = omega (arith, ints) }

within_only : (x z : ℤ) → x ≡ z → IsWithin (only x) z
within_only x z is = record { from = omega (arith, ints, is); to = omega (arith, ints, is) }

-- a small number and `undef` have ranges
pub constant_ranged : (v : Value) → IsConstant [] v Integer → IsSmall v → (r : Range) × (IsConstantRange v r × IsNarrowRange r)
constant_ranged Undef typed small = (NoNumber, (tt, tt))
constant_ranged (Int x) typed small = (From (only x), (record { holds_all = λ z is. within_only x z is; least = refl; greatest = refl }, (small, small)))
constant_ranged (Bool b) typed small = absurd (cc typed)
constant_ranged (Elem d k) typed small = absurd (cc typed.0)

small_constant : (v : Value) (domains : List DeclaredDomain) → IsConstant [] v Integer → IsConstant domains v Integer
small_constant Undef domains typed = tt
small_constant (Int x) domains typed = typed
small_constant (Bool b) domains typed = typed
small_constant (Elem d k) domains typed = absurd (cc typed.0)

-- ---- a function of some numbers, and its initial value

abbrev pub one_function : Vocabulary
one_function = of_numbers

abbrev pub starts_at : Value → Definition
starts_at v = record { function = 0; parameters = []; body = Const v }

one_declared : All (IsDeclared one_function.domains) one_function.functions
one_declared zero f lt = record { few = omega arith; declared = λ k n below. absurd (omega (arith, below)); codomain = λ _. omega arith }
one_declared (suc k) f lt = absurd (omega (arith, lt))

one_dynamic : (f : ℕ) (function : Function) → slice_get one_function.functions f ≡ Some function → is_dynamic function.kind ≡ true
one_dynamic zero function is = let e : record { name = []; kind = Controlled; domains = []; codomain = 1 } ≡ function = cc is in subst (λ (g : Function). is_dynamic g.kind ≡ true) e refl
one_dynamic (suc f) function is = absurd (cc is)

pub one_formed : (place : Place) (v : Value) → IsConstant [] v Integer → IsSmall v → IsWellFormed (plain_machine one_function (starts_at v ∷ []) (Skip place))
one_formed place v typed small =
    plain_formed one_function (starts_at v ∷ []) (Skip place) (omega arith) numbers_declared one_declared one_dynamic initial_terms (one_item 0) (record { typed = tt; ranged = tt })
  where
    initial_terms : All (IsDefinition (plain_machine one_function (starts_at v ∷ []) (Skip place)) is_kept (λ kind. is_defined)) (starts_at v ∷ [])
    initial_terms zero d lt = record {
      function = record { name = []; kind = Controlled; domains = []; codomain = 1 };
      is_function = refl;
      is_of_kind = refl;
      parameters = refl;
      type = Integer;
      is_type = refl;
      typed = small_constant v one_function.domains typed;
      ranges = no_ranges;
      are_ranges = λ y. refl;
      ranged = constant_ranged v typed small;
      readable = tt;
    }
    initial_terms (suc k) d lt = absurd (omega (arith, lt))
