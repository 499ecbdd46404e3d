-- What is missing, part by part.
use Rattle.std.proofs.Common.{◌≡◌, refl, List, [], ◌∷◌, ◌++◌, Option, ap, sym, ◌∙◌, flat_map}
use Rattle.asm_sign.specs.declared.function.DeclaredDomain as sign
use Rattle.asm_sign.specs.Vocabulary.{Vocabulary}
use Rattle.asm_tree.specs.declared.term.RawName.{RawName}
use Rattle.asm_tree.specs.declared.unit.RawFunction.{RawFunction}
use Rattle.asm_tree.specs.declared.unit.RawUnit.{RawUnit}
use Rattle.asm_tree.specs.declared.unit.LoadedUnit.{LoadedUnit}
use Rattle.asm_faults.specs.declared.fault.Fault.{Fault}
use Rattle.asm_faults.specs.At.{Name}
use Rattle.asm_faults.specs.First.{noted}
use Rattle.asm_faults.specs.Files.{Of, named_of, DeclaredFunction, function_in, functions, definitions}
use Rattle.asm_faults.specs.FunctionFaults.{domains_of, signature_of}
use Rattle.asm_faults.specs.Missing.{defined_names, undefined, missing_main, missing_init, missing_faults}
use Rattle.asm_faults.proofs.Noting.{noted_append}
use Rattle.asm_typing.specs.BodyPieces.{texts, given_name, over_definitions, over_declarations, undefined_at, undefined_in}
use Rattle.asm_typing.proofs.BodyParts.{given_names, over_declared}
use Rattle.asm_typing.proofs.Walks.{map-map}

-- the names of the functions that are given a definition
pub defined_are : (units : List LoadedUnit) → texts (over_definitions given_name units) ≡ defined_names units
defined_are units =
    let text : Of RawName → Name = λ p. p.1.text in
    let name : Of RawFunction → Of RawName = λ p. (p.0, p.1.name) in
    ap texts (sym (given_names units)) ∙ map-map text name (definitions units)

-- a function is looked for in the same way
undefined_is : (units : List LoadedUnit) (f : DeclaredFunction) → undefined units f ≡ undefined_in (domains_of units) (defined_names units) f
undefined_is units f = refl

pub missing_noted : (units : List LoadedUnit) (v : Vocabulary) (first now last : Option Fault) (defined : List Name) → v ≡ signature_of units → defined ≡ defined_names units
    → now ≡ noted first (over_declarations (undefined_at v.domains defined) units)
    → last ≡ noted now (flat_map (λ (p : Of RawUnit). missing_main p ++ missing_init p) (named_of (λ (u : RawUnit). u ∷ []) units))
    → last ≡ noted first (missing_faults units)
missing_noted units v first now last defined vs ds a b =
    let h : Of RawUnit → List Fault = λ p. missing_main p ++ missing_init p in
    let domains : List sign.DeclaredDomain = domains_of units in
    let names : List Name = defined_names units in
    let parts : List Fault = flat_map h (named_of (λ (u : RawUnit). u ∷ []) units) in
    let own : List Fault = flat_map (undefined units) (functions units) in
    let same : v.domains ≡ domains = ap (λ (w : Vocabulary). w.domains) vs in
    let listed : over_declarations (undefined_at domains names) units ≡ flat_map (undefined_in domains names) (functions units) = sym (over_declared (undefined_in domains names) function_in units) in
    let alike : flat_map (undefined_in domains names) (functions units) ≡ own = λ j. flat_map (λ (f : DeclaredFunction). sym (undefined_is units f) j) (functions units) in
    let one : now ≡ noted first own =
    a
    ∙ ap (λ (ds : List sign.DeclaredDomain). noted first (over_declarations (undefined_at ds defined) units)) same
    ∙ ap (λ (xs : List Name). noted first (over_declarations (undefined_at domains xs) units)) ds
    ∙ ap (noted first) listed
    ∙ ap (noted first) alike in
    b ∙ ap (λ (x : Option Fault). noted x parts) one ∙ sym (noted_append first own parts)
