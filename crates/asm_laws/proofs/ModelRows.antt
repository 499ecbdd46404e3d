-- A worked model: a truth value x, and the main rule x := not x.
use Rattle.std.proofs.Common.{◌≡◌, ℕ, zero, suc, ◌<◌, List, [], ◌∷◌, length, slice_get, Some, None, All, refl, sym, ap, subst, ◌∙◌, arith}
use Rattle.std.specs.Prelude.{false}
use Rattle.asm_source.specs.declared.sources.Place.{Place}
use Rattle.asm_domain.specs.Universe.{AreDistinct, MakeDomain, Named, Truths, elements}
use Rattle.asm_domain.proofs.Elements.{truths_make}
use Rattle.asm_sign.specs.declared.function.DeclaredDomain.{DeclaredDomain}
use Rattle.asm_sign.specs.declared.function.FunKind.TheVariants.{Controlled}
use Rattle.asm_sign.specs.declared.function.Function.{Function}
use Rattle.asm_sign.specs.Kind.{is_dynamic}
use Rattle.asm_sign.specs.Vocabulary.{IsDeclared}
use Rattle.asm_node.specs.declared.operator.Op.TheVariants.{Not}
use Rattle.asm_node.specs.Declarations.{AreDeclarations}
use Rattle.asm_node.specs.Tree.{Get, Oper, none, more}
use Rattle.asm_node.specs.RuleTree.{Update}
use Rattle.asm_node.specs.Machine.{Machine}
use Rattle.asm_node.specs.Ranges.{NoNumber}
use Rattle.asm_node.specs.declared.term_type.TermType.TheVariants.{Boolean}
use Rattle.asm_node.specs.Reads.{may_be_read}
use Rattle.asm_node.specs.WellFormed.{IsWellFormed, IsRule, IsDefined, any_kind}

abbrev place : Place
place = record { file = 0; at = 0 }

abbrev truths : DeclaredDomain
truths = record { name = None; domain = Truths }

abbrev x : Function
x = record { name = 120 ∷ []; kind = Controlled; domains = []; codomain = 0 }

abbrev model : Machine
model = record {
  signature = record { domains = truths ∷ []; functions = x ∷ [] };
  definitions = [];
  initial_terms = [];
  rules = [];
  invariants = [];
  main = Update place 0 none (Oper Not (more (Get 0 none) none));
}

all_of_none : {A : Type 0} (P : A → Type 0) → All P []
all_of_none P k d lt = absurd (omega (arith, lt))

all_of_one : {A : Type 0} (P : A → Type 0) (x : A) → P x → All P (x ∷ [])
all_of_one P x p zero d lt = p
all_of_one P x p (suc k) d lt = absurd (omega (arith, lt))

none_distinct : {A : Type 0} → AreDistinct {A = A} []
none_distinct = record { one_place = λ i j x at. absurd (cc (at)) }

declared : IsDeclared (truths ∷ []) x
declared = record { few = omega arith; declared = all_of_none (λ n. n < length (truths ∷ [])); codomain = λ _. omega arith }

defined : (f : ℕ) (function : Function) → slice_get (x ∷ []) f ≡ Some function → IsDefined model f function
defined zero function at static = absurd (let e : x ≡ function = cc (at) in let s : is_dynamic x.kind ≡ false = subst (λ (g : Function). is_dynamic g.kind ≡ false) (sym e) static in cc (s))
defined (suc f) function at static = absurd (cc (at))

ends : (f : ℕ) (function : Function) → slice_get (x ∷ []) f ≡ Some function → may_be_read model any_kind 32 f
ends zero function at = (refl, tt)
ends (suc f) function at = absurd (cc (at))

main : IsRule model model.main
main = record {
  typed = (x, refl, refl, tt, (Boolean, refl, (Boolean ∷ [], ((x, refl, tt, refl), tt), (refl, refl))));
  ranged = (([], tt), (NoNumber, (NoNumber ∷ [], ((([], tt), λ z is. absurd (cc (is))), tt), λ z is. is, tt)));
}

-- ---- its domain and its function

one_alone : {A : Type 0} (y : A) → AreDistinct (y ∷ [])
one_alone {A = A} y = record { one_place = one }
  where
    one : (i j : ℕ) (z : A) → slice_get (y ∷ []) i ≡ Some z → slice_get (y ∷ []) j ≡ Some z → i ≡ j
    one zero zero z is js = refl
    one zero (suc j) z is js = absurd (cc js)
    one (suc i) j z is js = absurd (cc is)

truths_once : (k : ℕ) (d : DeclaredDomain) → slice_get (truths ∷ []) k ≡ Some d → d.domain ≡ Truths → k ≡ 0
truths_once zero d at is = refl
truths_once (suc k) d at is = absurd (cc at)

unnamed : (k number : ℕ) (names : List (List ℕ)) (d : DeclaredDomain) → slice_get (truths ∷ []) k ≡ Some d → d.domain ≡ Named number names → ⊥
unnamed zero number names d at is = let e : truths ≡ d = cc at in let both : Truths ≡ Named number names = ap (λ (z : DeclaredDomain). z.domain) e ∙ is in cc both
unnamed (suc k) number names d at is = cc at

truths_have_elements : (k : ℕ) (d : DeclaredDomain) → slice_get (truths ∷ []) k ≡ Some d → MakeDomain (elements d.domain)
truths_have_elements zero d at = let e : truths ≡ d = cc at in subst (λ (z : DeclaredDomain). MakeDomain (elements z.domain)) e truths_make
truths_have_elements (suc k) d at = absurd (cc at)

declarations : AreDeclarations model.signature
declarations = record {
  truths = truths;
  are_first = refl;
  are_truths = refl;
  once = truths_once;
  numbered = record { number_is = λ k number names d at is. absurd (unnamed k number names d at is) };
  have_elements = truths_have_elements;
  domain_names = one_alone None;
  function_names = one_alone x.name;
  constants = λ k number names d at is _. absurd (unnamed k number names d at is);
}

pub is_well_formed : IsWellFormed model
is_well_formed = record {
  few_domains = omega arith;
  declarations = declarations;
  functions = all_of_one (IsDeclared (truths ∷ [])) x declared;
  definitions = λ k d lt. absurd (omega (arith, lt));
  defined_once = none_distinct;
  defined = defined;
  definitions_end = ends;
  rules_end = λ f. tt;
  initial_terms = λ k d lt. absurd (omega (arith, lt));
  initial_once = none_distinct;
  rules = λ k d lt. absurd (omega (arith, lt));
  invariants = λ k d lt. absurd (omega (arith, lt));
  main = main;
}
