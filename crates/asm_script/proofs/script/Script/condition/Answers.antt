use Rattle.std.proofs.Common.{◌≡◌, None, sym, ap, subst, ◌∙◌}
use Rattle.std.specs.Prelude.{IfOk, IfErr}
use Rattle.asm_sign.specs.Vocabulary.{Vocabulary}
use Rattle.asm_node.specs.Machine.{Machine}
use Rattle.asm_node.specs.Tree.{plain}
use Rattle.asm_script.specs.Script.{IsConditionOf, Tells, condition_fault}
use Rattle.asm_script.proofs.Answering.{condition_answered}
use Rattle.asm_script.proofs.Keeping.{IsKept, kept}
use Rattle.asm_script.proofs.script.Script.condition.Goals as goal

pub condition_of-requires : goal.condition_of-requires
condition_of-requires c = c.self.invariant.intervals_are ∙ sym c.self.invariant.known_are

pub returns-clause-faultless : goal.returns-clause-faultless
returns-clause-faultless c =
    let same = c.self.invariant.known_are ∙ ap (λ (m : Machine). m.signature) c.self.view_is in
    subst (λ (v : Vocabulary). IfOk c.condition_of.result (λ t. condition_fault v c.args.raw.now ≡ None)) same c.condition_of.ensures.faultless

pub returns-clause-term : goal.returns-clause-term
returns-clause-term c =
    let same = c.self.invariant.known_are ∙ ap (λ (m : Machine). m.signature) c.self.view_is in
    subst (λ (v : Vocabulary). IfOk c.condition_of.result (λ t. IsConditionOf v c.args.raw.now (plain t.value))) same c.condition_of.ensures.term

pub returns-clause-sound : goal.returns-clause-sound
returns-clause-sound c =
    let m = c.args.self.now in
    let raw = c.args.raw.now in
    let same = c.self.invariant.known_are ∙ ap (λ (m : Machine). m.signature) c.self.view_is in
    let is_kept : IsKept m = subst IsKept c.self.view_is (kept c.self.inside.model.now) in
    condition_answered m raw c.condition_of.result is_kept
    (subst (λ (v : Vocabulary). IfOk c.condition_of.result (λ t. condition_fault v raw ≡ None)) same c.condition_of.ensures.faultless)
    (subst (λ (v : Vocabulary). IfOk c.condition_of.result (λ t. IsConditionOf v raw (plain t.value))) same c.condition_of.ensures.term)

pub returns-clause-fault : goal.returns-clause-fault
returns-clause-fault c =
    let same = c.self.invariant.known_are ∙ ap (λ (m : Machine). m.signature) c.self.view_is in
    subst (λ (v : Vocabulary). IfErr c.condition_of.result (Tells c.args.file (condition_fault v c.args.raw.now))) same c.condition_of.ensures.fault
