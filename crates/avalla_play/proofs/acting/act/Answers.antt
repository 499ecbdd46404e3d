use Rattle.std.proofs.Common.{◌≡◌, ◌≤◌, ◌+◌, sym, ap, subst, ◌∙◌, arith}
use Rattle.std.specs.Prelude.{Ok, IfOk}
use Rattle.asm_io.specs.Writes.{Writes}
use Rattle.asm_node.specs.Model.{machine_of}
use Rattle.asm_node.specs.Words.{left}
use Rattle.asm_run.specs.declared.error.OutError.TheVariants.{Write}
use Rattle.avalla_play.specs.declared.stage.Stage.{Stage}
use Rattle.avalla_command.specs.Acts.{Act, IsAct, act_of}
use Rattle.avalla_play.specs.Moves.{Point, acted}
use Rattle.avalla_play.specs.Standing.{IsReady, Lands, point_of}
use Rattle.avalla_play.proofs.Inputs.{set-is_input}
use Rattle.avalla_play.proofs.Writing.{from_ok, none-written}
use Rattle.avalla_play.proofs.acting.act.Goals as goal

pub step_until-requires-clause-condition : goal.step_until-requires-clause-condition
step_until-requires-clause-condition g c = subst (IsAct (machine_of c.args.context.now.model.now)) (ap act_of c.in-StepUntil.is) c.requires.act

pub check-requires-clause-condition : goal.check-requires-clause-condition
check-requires-clause-condition g c = subst (IsAct (machine_of c.args.context.now.model.now)) (ap act_of c.in-Check.is) c.requires.act

pub make_step-requires-in-Exec-clause-rule : goal.make_step-requires-in-Exec-clause-rule
make_step-requires-in-Exec-clause-rule g c = subst (IsAct (machine_of c.args.context.now.model.now)) (ap act_of c.in-Exec.is) c.requires.act

pub returns-in_ok-set_value-in-Set-clause-writes : goal.returns-in_ok-set_value-in-Set-clause-writes
returns-in_ok-set_value-in-Set-clause-writes g c =
    let q : Point = point_of c.args.stage.now (left c.args.words.now) in
    none-written g.K.Sink.written g.K.Sink.faults c.args.sink.now _ _ (ap (λ (a : Act). (acted (machine_of c.args.context.now.model.now) c.args.context.now.sources.now c.args.context.now.budget a q).text) (ap act_of c.in-Set.is))

pub returns-in_ok-set_value-in-Set-clause-lands : goal.returns-in_ok-set_value-in-Set-clause-lands
returns-in_ok-set_value-in-Set-clause-lands g c =
    let m = machine_of c.args.context.now.model.now in
    let q : Point = point_of c.args.stage.now (left c.args.words.now) in
    let is = ap act_of c.in-Set.is in
    let sets = c.in_ok-set_value-in-Set.ensures in
    record {
      leads = ap (λ (a : Act). (acted m c.args.context.now.sources.now c.args.context.now.budget a q).to) is ∙ sym (ap (λ (s : Stage). Ok (point_of s (left c.args.words.now))) sets);
      ready = subst (IsReady m) (sym sets) (record { machine = c.requires.ready.machine; going = c.requires.ready.going; input = set-is_input m c.args.stage.now.input _ _ c.requires.ready.input (subst (IsAct m) is c.requires.act) });
    }

pub returns-in_ok-set_value-in-Set-clause-checks : goal.returns-in_ok-set_value-in-Set-clause-checks
returns-in_ok-set_value-in-Set-clause-checks g c =
    let same = ap (λ (s : Stage). s.checks) c.in_ok-set_value-in-Set.ensures in
    omega (arith, same)

pub returns-in-Step-clause-writes : goal.returns-in-Step-clause-writes
returns-in-Step-clause-writes g c =
    let m = machine_of c.args.context.now.model.now in
    let q : Point = point_of c.args.stage.now (left c.args.words.now) in
    subst (λ (a : Act). Writes g.K.Sink.written g.K.Sink.faults c.args.sink.now c.make_step.new.sink (acted m c.args.context.now.sources.now c.args.context.now.budget a q).text Write c.make_step.result) (sym (ap act_of c.in-Step.is)) c.make_step.ensures.writes

pub returns-in-Step-clause-lands : goal.returns-in-Step-clause-lands
returns-in-Step-clause-lands g c =
    let m = machine_of c.args.context.now.model.now in
    let q : Point = point_of c.args.stage.now (left c.args.words.now) in
    subst (λ (a : Act). IfOk c.make_step.result (λ end. Lands end m c.make_step.new.stage (left c.make_step.new.words) (acted m c.args.context.now.sources.now c.args.context.now.budget a q).to)) (sym (ap act_of c.in-Step.is)) c.make_step.ensures.lands

pub returns-in-Step-clause-checks : goal.returns-in-Step-clause-checks
returns-in-Step-clause-checks g c =
    from_ok c.make_step.result (λ _. c.make_step.new.stage.checks ≡ c.args.stage.now.checks) (λ _. c.make_step.new.stage.checks ≤ c.args.stage.now.checks + 1) (λ _ same. omega (arith, same)) c.make_step.ensures.checks

pub returns-in-StepUntil-clause-writes : goal.returns-in-StepUntil-clause-writes
returns-in-StepUntil-clause-writes g c =
    let m = machine_of c.args.context.now.model.now in
    let q : Point = point_of c.args.stage.now (left c.args.words.now) in
    subst (λ (a : Act). Writes g.K.Sink.written g.K.Sink.faults c.args.sink.now c.step_until.new.sink (acted m c.args.context.now.sources.now c.args.context.now.budget a q).text Write c.step_until.result) (sym (ap act_of c.in-StepUntil.is)) c.step_until.ensures.writes

pub returns-in-StepUntil-clause-lands : goal.returns-in-StepUntil-clause-lands
returns-in-StepUntil-clause-lands g c =
    let m = machine_of c.args.context.now.model.now in
    let q : Point = point_of c.args.stage.now (left c.args.words.now) in
    subst (λ (a : Act). IfOk c.step_until.result (λ end. Lands end m c.step_until.new.stage (left c.step_until.new.words) (acted m c.args.context.now.sources.now c.args.context.now.budget a q).to)) (sym (ap act_of c.in-StepUntil.is)) c.step_until.ensures.lands

pub returns-in-StepUntil-clause-checks : goal.returns-in-StepUntil-clause-checks
returns-in-StepUntil-clause-checks g c =
    from_ok c.step_until.result (λ _. c.step_until.new.stage.checks ≡ c.args.stage.now.checks) (λ _. c.step_until.new.stage.checks ≤ c.args.stage.now.checks + 1) (λ _ same. omega (arith, same)) c.step_until.ensures.checks

pub returns-in-Check-clause-writes : goal.returns-in-Check-clause-writes
returns-in-Check-clause-writes g c =
    let m = machine_of c.args.context.now.model.now in
    let q : Point = point_of c.args.stage.now (left c.args.words.now) in
    subst (λ (a : Act). Writes g.K.Sink.written g.K.Sink.faults c.args.sink.now c.check.new.sink (acted m c.args.context.now.sources.now c.args.context.now.budget a q).text Write c.check.result) (sym (ap act_of c.in-Check.is)) (c.check.ensures.writes (left c.args.words.now))

pub returns-in-Check-clause-lands : goal.returns-in-Check-clause-lands
returns-in-Check-clause-lands g c =
    let m = machine_of c.args.context.now.model.now in
    let s : Stage = c.args.stage.now in
    let words = left c.args.words.now in
    let sources = c.args.context.now.sources.now in
    let budget = c.args.context.now.budget in
    let is = ap act_of c.in-Check.is in
    subst (λ (a : Act). IfOk c.check.result (λ end. Lands end m c.check.new.stage words (acted m sources budget a (point_of s words)).to)) (sym is)
    (from_ok c.check.result _ _ (λ end lands. lands words) c.check.ensures.lands)

pub returns-in-Exec-clause-writes : goal.returns-in-Exec-clause-writes
returns-in-Exec-clause-writes g c =
    let m = machine_of c.args.context.now.model.now in
    let q : Point = point_of c.args.stage.now (left c.args.words.now) in
    subst (λ (a : Act). Writes g.K.Sink.written g.K.Sink.faults c.args.sink.now c.make_step-in-Exec.new.sink (acted m c.args.context.now.sources.now c.args.context.now.budget a q).text Write c.make_step-in-Exec.result) (sym (ap act_of c.in-Exec.is)) c.make_step-in-Exec.ensures.writes

pub returns-in-Exec-clause-lands : goal.returns-in-Exec-clause-lands
returns-in-Exec-clause-lands g c =
    let m = machine_of c.args.context.now.model.now in
    let q : Point = point_of c.args.stage.now (left c.args.words.now) in
    subst (λ (a : Act). IfOk c.make_step-in-Exec.result (λ end. Lands end m c.make_step-in-Exec.new.stage (left c.make_step-in-Exec.new.words) (acted m c.args.context.now.sources.now c.args.context.now.budget a q).to)) (sym (ap act_of c.in-Exec.is)) c.make_step-in-Exec.ensures.lands

pub returns-in-Exec-clause-checks : goal.returns-in-Exec-clause-checks
returns-in-Exec-clause-checks g c =
    from_ok c.make_step-in-Exec.result (λ _. c.make_step-in-Exec.new.stage.checks ≡ c.args.stage.now.checks) (λ _. c.make_step-in-Exec.new.stage.checks ≤ c.args.stage.now.checks + 1) (λ _ same. omega (arith, same)) c.make_step-in-Exec.ensures.checks
