use Rattle.std.proofs.Common.{◌≡◌, [], sym, ap, ◌∙◌, subst}
use Rattle.asm_node.specs.Model.{machine_of}
use Rattle.asm_node.specs.RuleTree.{plain_rule}
use Rattle.asm_node.specs.Taking.{Yields, outcome}
use Rattle.asm_laws.specs.Choosing.{by_small_words}
use Rattle.asm_eval.specs.World.{world_in}
use Rattle.asm_fire.specs.Answer.{Halts}
use Rattle.asm_fire.specs.Drawing.{by_drawing, choosing_of}
use Rattle.asm_fire.proofs.Drawings.{serving, no_fault}
use Rattle.asm_fire.proofs.drawing.draw_words.Goals as goal

pub unreachable-requires : goal.unreachable-requires
unreachable-requires g c =
    let w = world_in (machine_of c.args.model.now) (g.S.Store.state c.args.store.now) c.args.input.now in
    let choosing = choosing_of c.args.choices.now in
    let halts = subst (λ e. Halts e c.fire_by.new.chooser.words (outcome (by_drawing choosing) w (plain_rule c.args.rule.now.value) c.new-drawing.result.words)) c.in-Err-Stop.field-0-is
    (c.in-Err-Stop.ensures.fires (by_drawing choosing) [] (sym (ap (λ m. by_drawing (choosing_of m)) c.new-drawing.ensures.choices), sym c.new-drawing.ensures.path)) in
    no_fault choosing w (plain_rule c.args.rule.now.value) c.requires.gives.0 c.in-Err-Stop.field-0-0 c.fire_by.new.chooser.words c.requires.gives.1 (ap (outcome (by_drawing choosing) w (plain_rule c.args.rule.now.value)) (sym c.new-drawing.ensures.words) ∙ halts)

pub returns-in-Ok-clause-drawn : goal.returns-in-Ok-clause-drawn
returns-in-Ok-clause-drawn g c =
    let w = world_in (machine_of c.args.model.now) (g.S.Store.state c.args.store.now) c.args.input.now in
    let choosing = choosing_of c.args.choices.now in
    let drawn = ap (outcome (by_drawing choosing) w (plain_rule c.args.rule.now.value)) (sym c.new-drawing.ensures.words)
    ∙ c.in-Ok.ensures.fires (by_drawing choosing) [] (sym (ap (λ m. by_drawing (choosing_of m)) c.new-drawing.ensures.choices), sym c.new-drawing.ensures.path) in
    let k = serving choosing w (plain_rule c.args.rule.now.value) c.requires.gives.0 c.in-Ok.field-0 c.fire_by.new.chooser.words c.requires.gives.1 drawn in
    (c.requires.gives.0, c.requires.gives.1, k.0 ∙ ap (λ ws. Yields c.requires.gives.0 ws.0) (sym c.of.ensures))

pub returns-in-Ok-clause-serve : goal.returns-in-Ok-clause-serve
returns-in-Ok-clause-serve g c = λ u is.
    let w = world_in (machine_of c.args.model.now) (g.S.Store.state c.args.store.now) c.args.input.now in
    let choosing = choosing_of c.args.choices.now in
    let drawn = ap (outcome (by_drawing choosing) w (plain_rule c.args.rule.now.value)) (sym c.new-drawing.ensures.words)
    ∙ c.in-Ok.ensures.fires (by_drawing choosing) [] (sym (ap (λ m. by_drawing (choosing_of m)) c.new-drawing.ensures.choices), sym c.new-drawing.ensures.path) in
    let k = serving choosing w (plain_rule c.args.rule.now.value) u c.in-Ok.field-0 c.fire_by.new.chooser.words is drawn in
    subst (λ ws. outcome by_small_words w (plain_rule c.args.rule.now.value) ws.0 ≡ Yields u []) (sym c.of.ensures) k.1
