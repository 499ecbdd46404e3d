use Rattle.std.proofs.Common.{◌-◌, List, map, length, sym, ap, ◌∙◌}
use Rattle.asm_node.specs.Machine.{Macro}
use Rattle.asm_tree.specs.declared.unit.RawMain.{RawMain}
use Rattle.asm_faults.specs.Files.{Of, main_in}
use Rattle.asm_faults.specs.Model.{macro_of}
use Rattle.asm_build.proofs.Gathering.{mains_of, none_named_of, last_place, last_file, main_named, no_main_named, main_is, no_main_is}
use Rattle.asm_build.proofs.Adding.{added_nothing, added_same}
use Rattle.asm_build.proofs.whole.main_rule.Goals as goal

pub returns-then-is_empty-clause-main : goal.returns-then-is_empty-clause-main
returns-then-is_empty-clause-main c = record { is_of_pool = c.in_ok-no_rule.ensures.pool; is_tree = λ number agrees. c.in_ok-no_rule.ensures.tree ∙ no_main_is number c.args.known.now c.args.units.now (none_named_of mains_of c.args.units.now (sym c.is_empty.ensures ∙ c.if-is_empty.true)) }

pub returns-then-is_empty-clause-added : goal.returns-then-is_empty-clause-added
returns-then-is_empty-clause-added c = added_nothing _ c.args.rules.now c.in_ok-no_rule.ensures.grown (λ number.
    let macros : List (Of RawMain) → List Macro = λ ms. map (macro_of number c.args.known.now c.args.units.now) (map main_in ms) in ap macros (none_named_of mains_of c.args.units.now (sym c.is_empty.ensures ∙ c.if-is_empty.true)))

pub returns-in_ok-add_main-in-Some-clause-main : goal.returns-in_ok-add_main-in-Some-clause-main
returns-in_ok-add_main-in-Some-clause-main c = record {
  is_of_pool = c.in_ok-add_main-in-Some.ensures.made.is_of_pool;
  is_tree = λ number agrees.
      c.in_ok-add_main-in-Some.ensures.made.is_tree number c.args.units.now agrees c.requires
      ∙ main_is number c.args.known.now c.args.units.now (length c.args.units.now - 1) c.unit_at-unit.result.now.file c.in-Some.main (main_named c.args.units.now (length c.args.units.now - 1) c.unit_at-unit.result.now c.in-Some.main (last_place (length c.args.units.now) (sym c.is_empty.ensures ∙ c.if-is_empty.false)) c.unit_at-unit.ensures (cc)) (last_file c.args.units.now (length c.args.units.now - 1) c.unit_at-unit.result.now c.unit_at-unit.ensures);
}

pub returns-in_ok-add_main-in-Some-clause-added : goal.returns-in_ok-add_main-in-Some-clause-added
returns-in_ok-add_main-in-Some-clause-added c = added_same _ _ (λ number.
    let macros : List (Of RawMain) → List Macro = λ ms. map (macro_of number c.args.known.now c.args.units.now) (map main_in ms) in ap macros (sym (main_named c.args.units.now (length c.args.units.now - 1) c.unit_at-unit.result.now c.in-Some.main (last_place (length c.args.units.now) (sym c.is_empty.ensures ∙ c.if-is_empty.false)) c.unit_at-unit.ensures (cc))))
    (c.in_ok-add_main-in-Some.ensures.added c.args.units.now (length c.args.units.now - 1) c.requires (last_file c.args.units.now (length c.args.units.now - 1) c.unit_at-unit.result.now c.unit_at-unit.ensures))

pub returns-in_ok-no_rule-in-None-clause-main : goal.returns-in_ok-no_rule-in-None-clause-main
returns-in_ok-no_rule-in-None-clause-main c = record { is_of_pool = c.in_ok-no_rule-in-None.ensures.pool; is_tree = λ number agrees. c.in_ok-no_rule-in-None.ensures.tree ∙ no_main_is number c.args.known.now c.args.units.now (no_main_named c.args.units.now (length c.args.units.now - 1) c.unit_at-unit.result.now (last_place (length c.args.units.now) (sym c.is_empty.ensures ∙ c.if-is_empty.false)) c.unit_at-unit.ensures (cc)) }

pub returns-in_ok-no_rule-in-None-clause-added : goal.returns-in_ok-no_rule-in-None-clause-added
returns-in_ok-no_rule-in-None-clause-added c = added_nothing _ c.args.rules.now c.in_ok-no_rule-in-None.ensures.grown (λ number.
    let macros : List (Of RawMain) → List Macro = λ ms. map (macro_of number c.args.known.now c.args.units.now) (map main_in ms) in ap macros (no_main_named c.args.units.now (length c.args.units.now - 1) c.unit_at-unit.result.now (last_place (length c.args.units.now) (sym c.is_empty.ensures ∙ c.if-is_empty.false)) c.unit_at-unit.ensures (cc)))
