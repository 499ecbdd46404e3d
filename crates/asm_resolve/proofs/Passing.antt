-- Passes one after the other.
use Rattle.std.proofs.Common.{◌≡◌, Bool as Truth, true, false, List, [], ◌∷◌, ◌++◌, Option, Some, None, Result, Ok, Err, refl, sym, ap, subst, ◌∙◌}
use Rattle.std.specs.Prelude.{is_none}
use Rattle.asm_tree.specs.declared.unit.LoadedUnit.{LoadedUnit}
use Rattle.asm_faults.specs.declared.fault.Fault.{Fault}
use Rattle.asm_faults.specs.DomainFaults.{name_faults, domain_faults}
use Rattle.asm_faults.specs.FunctionFaults.{signature_of, function_faults}
use Rattle.asm_faults.specs.First.{noted, or_later, first_fault}
use Rattle.asm_faults.specs.Check.{model_fault}
use Rattle.asm_faults.proofs.Order.{none_at_all}
use Rattle.asm_faults.specs.declared.error.ModelError.{ModelError}
use Rattle.asm_faults.specs.declared.error.ModelError.TheVariants as error
use Rattle.asm_resolve.specs.Resolved.{Tells, declaration_faults, signature_faults, use_faults}

-- the last pass alone has what all have left
pub last_alone : (faults : List Fault) → noted None faults ≡ first_fault (faults ∷ [])
last_alone faults = by (noted None faults)
  where
    by : (o : Option Fault) → o ≡ or_later o None
    by None = refl
    by (Some f) = refl

stays : (o later : Option Fault) → is_none o ≡ false → o ≡ or_later o later
stays None later some = absurd (cc some)
stays (Some f) later some = refl

moves : (o later : Option Fault) → is_none o ≡ true → or_later o later ≡ later
moves None later none = refl
moves (Some f) later none = absurd (cc none)

is_nothing : (o : Option Fault) → is_none o ≡ true → o ≡ None
is_nothing None none = refl
is_nothing (Some f) none = absurd (cc none)

-- a pass that finds anything is the last
pub ends_here : (now : Option Fault) (faults : List Fault) (passes : List (List Fault)) → now ≡ noted None faults → is_none now ≡ false → now ≡ first_fault (faults ∷ passes)
ends_here now faults passes is some = subst (λ (o : Option Fault). now ≡ or_later o (first_fault passes)) is (stays now (first_fault passes) some)

-- a pass that finds nothing leaves it to the others
pub goes_on : (now : Option Fault) (faults : List Fault) (passes : List (List Fault)) → now ≡ noted None faults → is_none now ≡ true → first_fault (faults ∷ passes) ≡ first_fault passes
goes_on now faults passes is none = moves (noted None faults) (first_fault passes) (sym (ap is_none is) ∙ none)

-- ---- where nothing is found, nothing is wrong

first_none : (faults : List Fault) (later : Option Fault) → or_later (noted None faults) later ≡ None → (faults ≡ []) × (later ≡ None)
first_none faults later none = by (noted None faults) refl none
  where
    by : (o : Option Fault) → noted None faults ≡ o → or_later o later ≡ None → (faults ≡ []) × (later ≡ None)
    by None e is = (none_at_all faults e, is)
    by (Some f) e is = absurd (cc is)

pub names_none : (units : List LoadedUnit) → first_fault (declaration_faults units) ≡ None → name_faults units ≡ []
names_none units none = (first_none (name_faults units) (first_fault (domain_faults units ∷ [])) none).0

pub domains_none : (units : List LoadedUnit) → first_fault (declaration_faults units) ≡ None → domain_faults units ≡ []
domains_none units none = (first_none (domain_faults units) None (first_none (name_faults units) (first_fault (domain_faults units ∷ [])) none).1).0

pub none_noted : (old now : Option Fault) (faults : List Fault) → old ≡ None → now ≡ noted old faults → now ≡ None → faults ≡ []
none_noted old now faults empty is none = none_at_all faults (ap (λ (o : Option Fault). noted o faults) (sym empty) ∙ sym is ∙ none)

-- ---- groups of passes

first_both : (xs ys : List (List Fault)) → first_fault (xs ++ ys) ≡ or_later (first_fault xs) (first_fault ys)
first_both [] ys = refl
first_both (x ∷ xs) ys = ap (or_later (noted None x)) (first_both xs ys) ∙ by (noted None x)
  where
    by : (o : Option Fault) → or_later o (or_later (first_fault xs) (first_fault ys)) ≡ or_later (or_later o (first_fault xs)) (first_fault ys)
    by None = refl
    by (Some f) = refl

-- what is told of the first group is told of all
tells_first : (units : List LoadedUnit) (o later : Option Fault) (e : ModelError) → Tells units o e → Tells units (or_later o later) e
tells_first units None later (error.Fault kind name place) t = absurd (cc t)
tells_first units (Some f) later (error.Fault kind name place) t = t
tells_first units o later error.Memory t = tt

-- where the first group finds nothing, what is told of the second is told of all
tells_later : (units : List LoadedUnit) (o later : Option Fault) (e : ModelError) → o ≡ None → Tells units later e → Tells units (or_later o later) e
tells_later units o later e none t = subst (λ (p : Option Fault). Tells units (or_later p later) e) (sym none) t

module _ (units : List LoadedUnit) where
  pub after_declarations : first_fault (declaration_faults units) ≡ None → function_faults units ≡ [] → first_fault (signature_faults units) ≡ None
  after_declarations none functions = first_both (declaration_faults units) (function_faults units ∷ []) ∙ ap (λ (o : Option Fault). or_later o (first_fault (function_faults units ∷ []))) none ∙ ap (λ (l : List Fault). first_fault (l ∷ [])) functions

  pub declarations_told : (e : ModelError) → Tells units (first_fault (declaration_faults units)) e → Tells units (first_fault (signature_faults units)) e
  declarations_told e t = subst (λ (o : Option Fault). Tells units o e) (sym (first_both (declaration_faults units) (function_faults units ∷ []))) (tells_first units (first_fault (declaration_faults units)) (first_fault (function_faults units ∷ [])) e t)

  pub functions_told : (e : ModelError) → first_fault (declaration_faults units) ≡ None → Tells units (first_fault (function_faults units ∷ [])) e → Tells units (first_fault (signature_faults units)) e
  functions_told e none t = subst (λ (o : Option Fault). Tells units o e) (sym (first_both (declaration_faults units) (function_faults units ∷ []))) (tells_later units (first_fault (declaration_faults units)) (first_fault (function_faults units ∷ [])) e none t)

  all_is : model_fault units ≡ or_later (first_fault (signature_faults units)) (first_fault (use_faults (signature_of units) units))
  all_is = first_both (signature_faults units) (use_faults (signature_of units) units)

  pub nothing_wrong : first_fault (signature_faults units) ≡ None → first_fault (use_faults (signature_of units) units) ≡ None → model_fault units ≡ None
  nothing_wrong first later = all_is ∙ ap (λ (o : Option Fault). or_later o (first_fault (use_faults (signature_of units) units))) first ∙ later

  pub signature_told : (e : ModelError) → Tells units (first_fault (signature_faults units)) e → Tells units (model_fault units) e
  signature_told e t = subst (λ (o : Option Fault). Tells units o e) (sym all_is) (tells_first units (first_fault (signature_faults units)) (first_fault (use_faults (signature_of units) units)) e t)

  pub uses_told : (e : ModelError) → first_fault (signature_faults units) ≡ None → Tells units (first_fault (use_faults (signature_of units) units)) e → Tells units (model_fault units) e
  uses_told e none t = subst (λ (o : Option Fault). Tells units o e) (sym all_is) (tells_later units (first_fault (signature_faults units)) (first_fault (use_faults (signature_of units) units)) e none t)
