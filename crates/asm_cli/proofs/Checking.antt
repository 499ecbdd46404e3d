-- What the check of a model prints.
use Rattle.std.proofs.Common.{◌≡◌, ◌∙◌, ℕ, suc, ◌+◌, ◌-◌, ◌≤◌, List, [], ◌∷◌, length, Option, Some, None, refl, sym, ap, subst, inl, arith}
use Rattle.std.specs.Option.{option_map}
use Rattle.std.specs.List.{enumerate_from}
use Rattle.std.proofs.lemmas.List.{length-map}
use Rattle.asm_io.proofs.Printing.{part_of_none}
use Rattle.asm_source.specs.declared.sources.Place.{Place}
use Rattle.asm_source.specs.declared.sources.Source.{Source}
use Rattle.asm_sign.specs.Vocabulary.{locations}
use Rattle.asm_node.specs.Machine.{Machine}
use Rattle.asm_tree.specs.declared.unit.LoadedUnit.{LoadedUnit}
use Rattle.asm_faults.specs.declared.fault.Fault.{Fault as Found}
use Rattle.asm_faults.specs.declared.fault.ModelFault.{ModelFault}
use Rattle.asm_faults.specs.Files.{domains, functions, rules, invariants}
use Rattle.asm_faults.specs.FunctionFaults.{signature_of, domains_of, function_of, declared_domain}
use Rattle.asm_faults.specs.Check.{model_fault}
use Rattle.asm_faults.specs.declared.error.ModelError.{ModelError}
use Rattle.asm_faults.specs.declared.error.ModelError.TheVariants.{Fault, Memory}
use Rattle.asm_faults.specs.Model.{IsModelOf}
use Rattle.asm_resolve.specs.Resolved.{told_of}
use Rattle.asm_cli.specs.declared.counts.Counts.{Counts}
use Rattle.asm_cli.specs.declared.exit.Exit.{Exit}
use Rattle.asm_cli.specs.declared.exit.Exit.TheVariants as exit
use Rattle.asm_cli.specs.Counts.{counts_of, counts_text}
use Rattle.asm_cli.specs.Fault.{model_fault_text}
use Rattle.asm_cli.specs.Answer.{Saying, Says, says_faulted, says_checked}
use Rattle.asm_cli.specs.Reply.{Replies}

never : {A : Type 0} (x : A) → None ≡ Some x → ⊥
never x e = cc

same_some : {A : Type 0} (x y : A) → Some x ≡ Some y → x ≡ y
same_some x y e = cc

-- ---- what is said

-- where there is no memory, nothing is said
pub nothing_said : {K : Type 0} (written : K → Option (List ℕ)) (faults : K → ℕ) (k : K) (says : Saying) → Replies written faults k k says exit.Memory
nothing_said written faults k says = record {
  answer = tt;
  prefix = record { text = []; adds = part_of_none (written k) []; is_said = inl refl };
  no_read = λ e. cc;
  write_fault = λ e. absurd (cc e);
  later = omega arith;
}

module _ {K : Type 0} (written : K → Option (List ℕ)) (faults : K → ℕ) (old new : K) (sources : List Source) (units : List LoadedUnit) (exit : Exit) where
  pub faultless_said : model_fault units ≡ None → Replies written faults old new (Says (counts_text (counts_of units)) 0) exit → Replies written faults old new (says_checked sources units) exit
  faultless_said none r = subst (λ (o : Option Found). Replies written faults old new (says_faulted sources units o) exit) (sym none) r

  says_told : ModelError → Saying
  says_told (Fault kind name place) text code = Says (model_fault_text sources kind name place) 3 text code
  says_told Memory text code = Unit {0}

  said_by : (o : Option Found) (kind : ModelFault) (name : List ℕ) (place : Place) → option_map (told_of units) o ≡ Some (Fault kind name place)
      → Replies written faults old new (Says (model_fault_text sources kind name place) 3) exit → Replies written faults old new (says_faulted sources units o) exit
  unfolding says_told
  said_by None kind name place told r = absurd (never (Fault kind name place) told)
  said_by (Some f) kind name place told r =
      subst (λ (e : ModelError). Replies written faults old new (says_told e) exit) (sym (same_some (told_of units f) (Fault kind name place) told)) r

  pub fault_said : (kind : ModelFault) (name : List ℕ) (place : Place) → option_map (told_of units) (model_fault units) ≡ Some (Fault kind name place)
      → Replies written faults old new (Says (model_fault_text sources kind name place) 3) exit → Replies written faults old new (says_checked sources units) exit
  fault_said kind name place told r = said_by (model_fault units) kind name place told r

-- ---- counts

length_numbered : {A : Type 0} (n : ℕ) (xs : List A) → length (enumerate_from n xs) ≡ length xs
length_numbered n [] = refl
length_numbered n (x ∷ xs) = ap suc (length_numbered (n + 1) xs)

declared_count : (units : List LoadedUnit) → length (domains_of units) ≡ suc (length (domains units))
declared_count units = ap suc (length-map (enumerate_from 1 (domains units)) (declared_domain units) ∙ length_numbered 1 (domains units))

pub some_domains : (units : List LoadedUnit) (m : Machine) → IsModelOf units m → 1 ≤ length m.signature.domains
some_domains units m is =
    let count = ap (λ (x : Machine). length x.signature.domains) is.machine_is ∙ declared_count units in
    omega (arith, count)

pub counts_are : (units : List LoadedUnit) (m : Machine) → IsModelOf units m → (d f r i l : ℕ)
    → d ≡ length m.signature.domains - 1 → f ≡ length m.signature.functions → r ≡ length m.rules → i ≡ length m.invariants → l ≡ length (locations m.signature)
    → ◌≡◌ {A = Counts} (record { domains = d; functions = f; rules = r; invariants = i; locations = l }) (counts_of units)
counts_are units m is d f r i l d_is f_is r_is i_is l_is =
    let ds : d ≡ length (domains units) = (let count = ap (λ (x : Machine). length x.signature.domains) is.machine_is ∙ declared_count units in omega (arith, count, d_is)) in
    let fs : f ≡ length (functions units) = f_is ∙ ap (λ (x : Machine). length x.signature.functions) is.machine_is ∙ length-map (functions units) (function_of (domains_of units)) in
    let rs : r ≡ length (rules units) = r_is ∙ ap (λ (x : Machine). length x.rules) is.machine_is ∙ length-map (rules units) _ in
    let vs : i ≡ length (invariants units) = i_is ∙ ap (λ (x : Machine). length x.invariants) is.machine_is ∙ length-map (invariants units) _ in
    let ls : l ≡ length (locations (signature_of units)) = l_is ∙ ap (λ (x : Machine). length (locations x.signature)) is.machine_is in
    (λ k. record { domains = ds k; functions = fs k; rules = rs k; invariants = vs k; locations = ls k })
