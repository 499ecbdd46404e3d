-- What a signature asks of domains and functions holds where nothing is wrong with functions.
use Rattle.std.proofs.Common.{◌≡◌, ◌≤◌, List, [], length, sym, subst, ap}
use Rattle.std.specs.Prelude.{All}
use Rattle.asm_sign.specs.declared.function.DeclaredDomain.{DeclaredDomain}
use Rattle.asm_sign.specs.declared.function.Function.{Function}
use Rattle.asm_sign.specs.Vocabulary.{Vocabulary, AreNumbered, IsDeclared, locations}
use Rattle.asm_tree.specs.declared.unit.LoadedUnit.{LoadedUnit}
use Rattle.asm_faults.specs.FunctionFaults.{domains_of, signature_of, function_faults}
use Rattle.asm_sound.proofs.Signature.{signature_numbered, signature_declared}
use Rattle.asm_resolve.proofs.Locations.{few_locations}

module _ (units : List LoadedUnit) (ds : List DeclaredDomain) (fs : List Function) (domains_are : ds ≡ domains_of units) where
  pub numbered : AreNumbered ds
  numbered = subst (λ (l : List DeclaredDomain). AreNumbered l) (sym domains_are) (signature_numbered units)

  pub declared : fs ≡ (signature_of units).functions → function_faults units ≡ [] → All (IsDeclared ds) fs
  declared functions_are none =
      subst (λ (l : List DeclaredDomain). All (IsDeclared l) fs) (sym domains_are)
      (subst (λ (l : List Function). All (IsDeclared (domains_of units)) l) (sym functions_are) (signature_declared units none))

  abbrev vocabulary : List DeclaredDomain → List Function → Vocabulary
  vocabulary ds fs = record { domains = ds; functions = fs }

  pub few : fs ≡ (signature_of units).functions → function_faults units ≡ [] → length (locations record { domains = ds; functions = fs }) ≤ 4096
  few functions_are none =
      subst (λ (l : List DeclaredDomain). length (locations (vocabulary l fs)) ≤ 4096) (sym domains_are)
      (subst (λ (l : List Function). length (locations (vocabulary (domains_of units) l)) ≤ 4096) (sym functions_are) (few_locations units none))
