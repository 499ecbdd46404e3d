use Rattle.std.proofs.Common.{◌≡◌, ◌∙◌, sym, subst, ap, arith, Some, None, List, length}
use Rattle.asm_domain.specs.Universe.{IsRank}
use Rattle.asm_sign.specs.Vocabulary.{locations}
use Rattle.asm_node.specs.Model.{machine_of}
use Rattle.enc_group.specs.declared.group.Entry.{Entry}
use Rattle.enc_group.specs.Binding.{group_at}
use Rattle.enc_term.proofs.Standing.{slot_below, kept_means, asked_means, absent_means, kept_group, asked_group, absent_group}
use Rattle.enc_term.proofs.reading.location_group.Goals as goal

pub group_of-kept-requires : goal.group_of-kept-requires
group_of-kept-requires c =
    let rank = subst (λ s. IsRank (locations s) (c.args.number, c.args.values.now) (Some c.in-Some.slot)) c.signature.ensures c.in-Some.ensures.rank in
    let below = slot_below (machine_of c.args.context.now.model.now) c.args.number c.args.values.now c.in-Some.slot rank in
    let long : length c.groups_of.result.now ≡ _ = ap (λ (gs : List (List Entry)). length gs) c.groups_of.ensures in
    omega (arith, below, c.requires.bits.1.states_long, long)

pub group_of-asked-requires : goal.group_of-asked-requires
group_of-asked-requires c =
    let rank = subst (λ s. IsRank (locations s) (c.args.number, c.args.values.now) (Some c.in-Some.slot)) c.signature.ensures c.in-Some.ensures.rank in
    let below = slot_below (machine_of c.args.context.now.model.now) c.args.number c.args.values.now c.in-Some.slot rank in
    let long : length c.slice.result.now ≡ _ = ap (λ (gs : List (List Entry)). length gs) c.slice.ensures in
    omega (arith, below, c.requires.bits.1.inputs_long, long)

pub returns-in_ok-from_slice-in-Some-clause-means : goal.returns-in_ok-from_slice-in-Some-clause-means
returns-in_ok-from_slice-in-Some-clause-means c = λ v t w s.
    let rank = subst (λ s. IsRank (locations s) (c.args.number, c.args.values.now) (Some c.in-Some.slot)) c.signature.ensures c.in-Some.ensures.rank in
    kept_means v (machine_of c.args.context.now.model.now) c.args.context.now.bits.now c.args.context.now.version w s c.args.number c.args.values.now c.args.function.now.kind c.in-Some.slot c.in_ok-from_slice-in-Some.field-0 rank
    (sym c.is_kept.ensures ∙ c.if-is_kept.true) (c.in_ok-from_slice-in-Some.ensures ∙ c.group_of-kept.ensures ∙ ap (λ gs. group_at gs c.in-Some.slot) c.groups_of.ensures)

pub returns-in_ok-from_slice-in-Some-clause-group : goal.returns-in_ok-from_slice-in-Some-clause-group
returns-in_ok-from_slice-in-Some-clause-group c = λ b are vss at.
    let rank = subst (λ s. IsRank (locations s) (c.args.number, c.args.values.now) (Some c.in-Some.slot)) c.signature.ensures c.in-Some.ensures.rank in
    kept_group b (machine_of c.args.context.now.model.now) c.args.context.now.bits.now c.args.context.now.version are c.args.number c.args.function.now c.args.values.now vss at c.in-Some.slot c.in_ok-from_slice-in-Some.field-0 rank c.requires.function
    (sym c.is_kept.ensures ∙ c.if-is_kept.true) (c.in_ok-from_slice-in-Some.ensures ∙ c.group_of-kept.ensures ∙ ap (λ gs. group_at gs c.in-Some.slot) c.groups_of.ensures)

pub returns-in_ok-from_slice-in-Some-2-clause-means : goal.returns-in_ok-from_slice-in-Some-2-clause-means
returns-in_ok-from_slice-in-Some-2-clause-means c = λ v t w s.
    let rank = subst (λ s. IsRank (locations s) (c.args.number, c.args.values.now) (Some c.in-Some.slot)) c.signature.ensures c.in-Some.ensures.rank in
    asked_means v (machine_of c.args.context.now.model.now) c.args.context.now.bits.now c.args.context.now.version w s c.args.number c.args.values.now c.args.function.now.kind c.in-Some.slot c.in_ok-from_slice-in-Some-2.field-0 rank
    (sym c.is_kept.ensures ∙ c.if-is_kept.false) (c.in_ok-from_slice-in-Some-2.ensures ∙ c.group_of-asked.ensures ∙ ap (λ gs. group_at gs c.in-Some.slot) c.slice.ensures)

pub returns-in_ok-from_slice-in-Some-2-clause-group : goal.returns-in_ok-from_slice-in-Some-2-clause-group
returns-in_ok-from_slice-in-Some-2-clause-group c = λ b are vss at.
    let rank = subst (λ s. IsRank (locations s) (c.args.number, c.args.values.now) (Some c.in-Some.slot)) c.signature.ensures c.in-Some.ensures.rank in
    asked_group b (machine_of c.args.context.now.model.now) c.args.context.now.bits.now c.args.context.now.version are c.args.number c.args.function.now c.args.values.now vss at c.in-Some.slot c.in_ok-from_slice-in-Some-2.field-0 rank c.requires.function
    (c.in_ok-from_slice-in-Some-2.ensures ∙ c.group_of-asked.ensures ∙ ap (λ gs. group_at gs c.in-Some.slot) c.slice.ensures)

pub returns-in_ok-constant-in-None-clause-means : goal.returns-in_ok-constant-in-None-clause-means
returns-in_ok-constant-in-None-clause-means c = λ v t w s.
    let rank = subst (λ s. IsRank (locations s) (c.args.number, c.args.values.now) None) c.signature.ensures c.in-None.ensures.rank in
    absent_means v (machine_of c.args.context.now.model.now) c.args.context.now.bits.now c.args.context.now.version w s c.args.number c.args.values.now c.args.function.now.kind c.in_ok-constant-in-None.field-0 rank
    (c.in_ok-constant-in-None.ensures.means v t)

pub returns-in_ok-constant-in-None-clause-group : goal.returns-in_ok-constant-in-None-clause-group
returns-in_ok-constant-in-None-clause-group c = λ b are vss at.
    let rank = subst (λ s. IsRank (locations s) (c.args.number, c.args.values.now) None) c.signature.ensures c.in-None.ensures.rank in
    absent_group b (machine_of c.args.context.now.model.now) c.args.context.now.bits.now c.args.context.now.version are c.args.number c.args.function.now c.args.values.now vss at c.in_ok-constant-in-None.field-0 rank
    c.in_ok-constant-in-None.ensures.values c.in_ok-constant-in-None.ensures.within
