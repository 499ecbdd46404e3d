use Rattle.std.proofs.Common.{◌≡◌, ℕ, List, [], ◌∷◌, ◌++◌, Option, ap, sym, ◌∙◌, arith, get_or, flat_map}
use Rattle.asm_faults.specs.declared.fault.Fault.{Fault}
use Rattle.asm_faults.specs.First.{noted}
use Rattle.std.proofs.Common.{◌-◌}
use Rattle.asm_tree.specs.declared.unit.RawUnit.{RawUnit}
use Rattle.asm_tree.specs.declared.unit.LoadedUnit.{LoadedUnit}
use Rattle.asm_faults.specs.Files.{Of, named_of}
use Rattle.asm_faults.specs.Missing.{missing_main, missing_init}
use Rattle.asm_faults.proofs.Noting.{noted_append}
use Rattle.asm_typing.proofs.BodyParts.{one_part, no_units}
use Rattle.asm_typing.proofs.Walks.{named_last}
use Rattle.asm_typing.proofs.missing_pass.last_parts.Goals as goal

pub returns-then-count-eq0 : goal.returns-then-count-eq0
returns-then-count-eq0 c =
    let h : Of RawUnit → List Fault = λ p. missing_main p ++ missing_init p in
    ap (λ (us : List LoadedUnit). noted c.args.first.now (flat_map h (named_of (λ (u : RawUnit). u ∷ []) us))) (sym (no_units c.args.units.now (omega arith)))

pub returns : goal.returns
returns c =
    let h : Of RawUnit → List Fault = λ p. missing_main p ++ missing_init p in
    let i : ℕ = c.args.count - 1 in
    let u : LoadedUnit = c.index-units-last.result in
    let first : Option Fault = c.args.first.now in
    let whole : RawUnit = (get_or c.args.units.now i u).unit in
    let both : c.missing_init.new.first ≡ noted first (h (i, whole)) =
    c.in_ok-missing_init.ensures ∙ ap (λ (x : Option Fault). noted x (missing_init (i, whole))) c.in_ok-missing_main.ensures ∙ sym (noted_append first (missing_main (i, whole)) (missing_init (i, whole))) in
    both
    ∙ ap (λ (v : LoadedUnit). noted first (h (i, v.unit))) (sym c.index-units-last.is)
    ∙ one_part h (i, u.unit) first
    ∙ ap (λ (ps : List (Of RawUnit)). noted first (flat_map h ps)) (sym (named_last (λ (r : RawUnit). r ∷ []) c.args.units.now i u (omega arith) c.index-units-last.is))
