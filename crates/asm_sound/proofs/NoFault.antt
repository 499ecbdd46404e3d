-- Where the passes have no first fault, none of them finds anything wrong.
use Rattle.std.proofs.Common.{◌≡◌, List, [], ◌∷◌, Option, Some, None, refl, sym}
use Rattle.asm_tree.specs.declared.unit.LoadedUnit.{LoadedUnit}
use Rattle.asm_faults.specs.declared.fault.Fault.{Fault}
use Rattle.asm_faults.specs.First.{noted, or_later, first_fault}
use Rattle.asm_faults.specs.DomainFaults.{name_faults, domain_faults}
use Rattle.asm_faults.specs.FunctionFaults.{function_faults, signature_of}
use Rattle.asm_faults.specs.Bodies.{body_faults}
use Rattle.asm_faults.specs.Missing.{missing_faults}
use Rattle.asm_faults.specs.Calls.{call_faults, read_faults}
use Rattle.asm_faults.specs.Ranges.{range_faults}
use Rattle.asm_faults.specs.Check.{model_fault}
use Rattle.asm_faults.proofs.Order.{none_at_all}
use Rattle.asm_sound.specs.Checked.{AreFaultless}
use Rattle.asm_sound.proofs.TypedTerms.{no_some}

first_none : (faults : List Fault) (later : Option Fault) → or_later (noted None faults) later ≡ None → (faults ≡ []) × (later ≡ None)
first_none faults later none = by (noted None faults) refl none
  where
    by : (o : Option Fault) → noted None faults ≡ o → or_later o later ≡ None → (faults ≡ []) × (later ≡ None)
    by None e is = (none_at_all faults e, is)
    by (Some a) e is = absurd (no_some a (sym is))

-- none of the passes finds anything wrong
record AreAllNone (units : List LoadedUnit) : Type 0 where
  faultless : AreFaultless units
  undisputed : domain_faults units ≡ []
  unrefused : range_faults (signature_of units) units ≡ []

all_none : (units : List LoadedUnit) → model_fault units ≡ None → AreAllNone units
all_none units none =
    let calls : List Fault = call_faults (signature_of units) units in
    let reads : List Fault = read_faults (signature_of units) units in
    let ranges : List Fault = range_faults (signature_of units) units in
    let bodies : List Fault = body_faults (signature_of units) units in
    let of_names = first_none (name_faults units) (first_fault (domain_faults units ∷ function_faults units ∷ bodies ∷ missing_faults units ∷ calls ∷ reads ∷ ranges ∷ [])) none in
    let of_domains = first_none (domain_faults units) (first_fault (function_faults units ∷ bodies ∷ missing_faults units ∷ calls ∷ reads ∷ ranges ∷ [])) of_names.1 in
    let of_functions = first_none (function_faults units) (first_fault (bodies ∷ missing_faults units ∷ calls ∷ reads ∷ ranges ∷ [])) of_domains.1 in
    let of_bodies = first_none bodies (first_fault (missing_faults units ∷ calls ∷ reads ∷ ranges ∷ [])) of_functions.1 in
    let of_missing = first_none (missing_faults units) (first_fault (calls ∷ reads ∷ ranges ∷ [])) of_bodies.1 in
    let of_calls = first_none calls (first_fault (reads ∷ ranges ∷ [])) of_missing.1 in
    let of_reads = first_none reads (first_fault (ranges ∷ [])) of_calls.1 in
    let of_ranges = first_none ranges (first_fault []) of_reads.1 in
    record {
      faultless = record { names = of_names.0; functions = of_functions.0; bodies = of_bodies.0; missing = of_missing.0; calls = of_calls.0; reads = of_reads.0 };
      undisputed = of_domains.0;
      unrefused = of_ranges.0;
    }

pub faultless : (units : List LoadedUnit) → model_fault units ≡ None → AreFaultless units
faultless units none = (all_none units none).faultless

-- and none refuses an interval
pub unrefused : (units : List LoadedUnit) → model_fault units ≡ None → range_faults (signature_of units) units ≡ []
unrefused units none = (all_none units none).unrefused

-- and none finds anything wrong with domains
pub undisputed : (units : List LoadedUnit) → model_fault units ≡ None → domain_faults units ≡ []
undisputed units none = (all_none units none).undisputed
