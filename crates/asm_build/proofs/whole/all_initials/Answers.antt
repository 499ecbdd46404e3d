use Rattle.std.proofs.Common.{ℕ, ◌-◌, map, length, sym, ap, ◌∙◌}
use Rattle.asm_tree.specs.declared.unit.RawFunction.{RawFunction}
use Rattle.asm_faults.specs.Files.{Of}
use Rattle.asm_faults.specs.Model.{definition_of}
use Rattle.asm_build.proofs.Walks.{map-map}
use Rattle.asm_build.proofs.Gathering.{initials_of, none_named_of, last_place, initials_named, no_initials_named}
use Rattle.asm_build.proofs.Adding.{added_none, added_same}
use Rattle.asm_build.proofs.whole.all_initials.Goals as goal

pub returns-then-is_empty : goal.returns-then-is_empty
returns-then-is_empty c = added_none c.args.maker.now _ c.args.initial_terms.now (λ number. ap (map (definition_of number c.args.known.now c.args.units.now)) (none_named_of initials_of c.args.units.now (sym c.is_empty.ensures ∙ c.if-is_empty.true)))

pub returns-in_ok-add_functions-in-Some : goal.returns-in_ok-add_functions-in-Some
returns-in_ok-add_functions-in-Some c =
    let i : ℕ = length c.args.units.now - 1 in
    let pair : RawFunction → Of RawFunction = λ f. (i, f) in
    added_same _ _ (λ number.
    sym (ap (map (definition_of number c.args.known.now c.args.units.now)) (initials_named c.args.units.now i c.unit_at-unit.result.now c.in-Some.init c.slice.result.now (last_place (length c.args.units.now) (sym c.is_empty.ensures ∙ c.if-is_empty.false)) c.unit_at-unit.ensures (cc) c.slice.ensures) ∙ map-map (definition_of number c.args.known.now c.args.units.now) pair c.slice.result.now))
    (c.in_ok-add_functions-in-Some.ensures c.args.units.now i)

pub returns-in-None : goal.returns-in-None
returns-in-None c = added_none c.args.maker.now _ c.args.initial_terms.now (λ number. ap (map (definition_of number c.args.known.now c.args.units.now)) (no_initials_named c.args.units.now (length c.args.units.now - 1) c.unit_at-unit.result.now (last_place (length c.args.units.now) (sym c.is_empty.ensures ∙ c.if-is_empty.false)) c.unit_at-unit.ensures (cc)))
