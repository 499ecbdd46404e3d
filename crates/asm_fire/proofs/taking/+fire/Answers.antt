use Rattle.std.proofs.Common.{◌≡◌, ℕ, ◌+◌, ◌-◌, ◌*◌, ◌<◌, ◌≤◌, true, List, [], ◌∷◌, ◌++◌, length, drop, slice_get, T, eqb→eq, refl, sym, ap, subst, ◌∙◌, arith}
use Rattle.std.specs.Prelude.{Contains}
use Rattle.std.specs.Option.{IsSome}
use Rattle.std.specs.FinSet as set
use Rattle.std.specs.FinMap as finite
use Rattle.std.proofs.lemmas.Result.{err_from_is_err_and}
use Rattle.asm_domain.specs.declared.value.Value.{Value}
use Rattle.asm_domain.specs.declared.value.Value.TheVariants.{Bool}
use Rattle.asm_node.specs.declared.path.Step.TheVariants.{Part, Bound, Called}
use Rattle.asm_node.specs.declared.stop.Stop.TheVariants.{UndefGuard}
use Rattle.asm_node.specs.Env.{places_of}
use Rattle.asm_node.specs.Machine.{tuples_of}
use Rattle.asm_node.specs.Model.{machine_of, macro_by}
use Rattle.asm_node.specs.RuleTree.{plain_kind, plain_rule, plain_rules}
use Rattle.asm_node.specs.Step.{IsState}
use Rattle.asm_node.specs.Taking.{Yields, Faults, and_then, evaluated, update, taken, taken_all, after_set, fired, guarded, each, candidates, chosen, stand_for, bodies_within}
use Rattle.asm_node.specs.Term.{Gives, branch, put, put_tuple, val, vals}
use Rattle.asm_node.specs.Tree.{Const, plain, plain_all}
use Rattle.asm_node.specs.UpdateSet.{consistent, touches, override, fire}
use Rattle.asm_update.specs.Clash.{HaveLocations}
use Rattle.asm_eval.specs.World.{world_in}
use Rattle.asm_eval.proofs.Evaluating.{less_work}
use Rattle.asm_fire.specs.Answer.{Fires, Halts}
use Rattle.asm_fire.specs.Chooser.{Stay, step_of}
use Rattle.asm_fire.specs.Fault.{fire_error}
use Rattle.asm_fire.specs.Sound.{IsEverExact, AreEverExact, IsSoundIn, AreSoundIn, sound_within}
use Rattle.asm_fire.specs.Work.{parts, parts_all, macro_rooms}
use Rattle.asm_fire.proofs.Firing.{plain_kind-Par, halts, halts-evaluated, halts-guard, guard-is, positive, index-same, after-consistent, after-inconsistent, clashing, no_clash, parts-item, sound-item, taken_all-drop, each-drop, chosen-some, chosen-none, macro-room, sound-enter, ok_any, ok_err, ok_then, bodies-enter, bodies-none, past}
use Rattle.asm_fire.proofs.Keeping.{have_slots, have_locations, fired-state, are-tuples, kept-by}
use Rattle.asm_fire.proofs.taking.+fire.Goals as goal

pub fire_rule-fire_update-requires : goal.fire_rule-fire_update-requires
fire_rule-fire_update-requires g t c =
    let w = world_in (machine_of c.args.world.now.model.now) (g.S.Store.state c.args.world.now.store.now) c.args.world.now.input.now in
    record { arguments = subst (λ ts. AreEverExact (machine_of c.args.world.now.model.now) c.args.world.now.input.now (places_of c.args.env.now) (plain_all ts)) (sym c.slice.ensures) (subst (IsSoundIn (machine_of c.args.world.now.model.now) c.args.world.now.input.now (sound_within (machine_of c.args.world.now.model.now) c.args.world.now.input.now c.args.count) (places_of c.args.env.now)) (ap plain_rule (sym c.deref.ensures) ∙ ap plain_kind c.in-Update.is) c.requires).0; value = (subst (IsSoundIn (machine_of c.args.world.now.model.now) c.args.world.now.input.now (sound_within (machine_of c.args.world.now.model.now) c.args.world.now.input.now c.args.count) (places_of c.args.env.now)) (ap plain_rule (sym c.deref.ensures) ∙ ap plain_kind c.in-Update.is) c.requires).1 }

pub fire_rule-returns-in-Update : goal.fire_rule-returns-in-Update
fire_rule-returns-in-Update g t c =
    let w = world_in (machine_of c.args.world.now.model.now) (g.S.Store.state c.args.world.now.store.now) c.args.world.now.input.now in
    record {
      fires = λ pick path is. subst (Fires c.fire_update.result (g.C.Chooser.words c.args.chooser.now)) (sym (ap (λ r. taken pick (bodies_within pick c.args.count) (path) w (places_of c.args.env.now) (r) (g.C.Chooser.words c.args.chooser.now)) (ap plain_rule (sym c.deref.ensures) ∙ ap plain_kind c.in-Update.is) ∙ ap (λ xs. evaluated (vals w (places_of c.args.env.now) (plain_all xs)) (g.C.Chooser.words c.args.chooser.now) (λ vs. update w c.in-Update.place c.in-Update.function (slice_get w.machine.signature.functions c.in-Update.function) vs (val w (places_of c.args.env.now) (plain c.in-Update.value.value)) (g.C.Chooser.words c.args.chooser.now))) (sym c.slice.ensures))) (c.fire_update.ensures (g.C.Chooser.words c.args.chooser.now));
      stays = ok_any c.fire_update.result (λ pick path is. is);
      kept = refl;
    }

pub fire_rule-fire_all-requires : goal.fire_rule-fire_all-requires
fire_rule-fire_all-requires g t c =
    let w = world_in (machine_of c.args.world.now.model.now) (g.S.Store.state c.args.world.now.store.now) c.args.world.now.input.now in
    let few : parts (plain_rule c.args.rule.now.value) ≡ 1 + parts_all (plain_rules c.in-Par.rules) = ap parts (ap plain_rule (sym c.deref.ensures) ∙ ap plain_kind c.in-Par.is ∙ plain_kind-Par c.in-Par.field-0 c.in-Par.rules) in
    let same : parts_all (plain_rules c.slice-in-Par.result.now) ≡ parts_all (plain_rules c.in-Par.rules) = ap (λ rs. parts_all (plain_rules rs)) c.slice-in-Par.ensures in
    λ κs h. (omega arith, (h.0, (h.1, subst (λ rs. AreSoundIn (machine_of c.args.world.now.model.now) c.args.world.now.input.now (sound_within (machine_of c.args.world.now.model.now) c.args.world.now.input.now c.args.count) (places_of c.args.env.now) (plain_rules rs)) (sym c.slice-in-Par.ensures) (subst (IsSoundIn (machine_of c.args.world.now.model.now) c.args.world.now.input.now (sound_within (machine_of c.args.world.now.model.now) c.args.world.now.input.now c.args.count) (places_of c.args.env.now)) (ap plain_rule (sym c.deref.ensures) ∙ ap plain_kind c.in-Par.is ∙ plain_kind-Par c.in-Par.field-0 c.in-Par.rules) c.requires))))

pub fire_rule-returns-in-Par : goal.fire_rule-returns-in-Par
fire_rule-returns-in-Par g t c =
    let w = world_in (machine_of c.args.world.now.model.now) (g.S.Store.state c.args.world.now.store.now) c.args.world.now.input.now in
    record {
      fires = λ pick path is. subst (Fires c.fire_all.result (g.C.Chooser.words c.fire_all.new.chooser)) (sym (ap (λ r. taken pick (bodies_within pick c.args.count) (path) w (places_of c.args.env.now) (r) (g.C.Chooser.words c.args.chooser.now)) (ap plain_rule (sym c.deref.ensures) ∙ ap plain_kind c.in-Par.is ∙ plain_kind-Par c.in-Par.field-0 c.in-Par.rules) ∙ ap (λ rs. taken_all pick (bodies_within pick c.args.count) path 0 w (places_of c.args.env.now) (plain_rules rs) set.empty (g.C.Chooser.words c.args.chooser.now)) (sym c.slice-in-Par.ensures))) (c.fire_all.ensures.fires pick path is);
      stays = c.fire_all.ensures.stays;
      kept = c.fire_all.ensures.kept;
    }

pub fire_rule-fire_part-requires : goal.fire_rule-fire_part-requires
fire_rule-fire_part-requires g t c =
    let w = world_in (machine_of c.args.world.now.model.now) (g.S.Store.state c.args.world.now.store.now) c.args.world.now.input.now in
    let few : parts (plain_rule c.args.rule.now.value) ≡ 1 + parts (plain_rule c.in-Seq.first.value) + parts (plain_rule c.in-Seq.second.value) = ap parts (ap plain_rule (sym c.deref.ensures) ∙ ap plain_kind c.in-Seq.is) in
    λ κs h. (omega arith, (h.0, (h.1, (subst (IsSoundIn (machine_of c.args.world.now.model.now) c.args.world.now.input.now (sound_within (machine_of c.args.world.now.model.now) c.args.world.now.input.now c.args.count) (places_of c.args.env.now)) (ap plain_rule (sym c.deref.ensures) ∙ ap plain_kind c.in-Seq.is) c.requires).0)))

pub fire_rule-fire_after-requires : goal.fire_rule-fire_after-requires
fire_rule-fire_after-requires g t c =
    let w = world_in (machine_of c.args.world.now.model.now) (g.S.Store.state c.args.world.now.store.now) c.args.world.now.input.now in
    let few : parts (plain_rule c.args.rule.now.value) ≡ 1 + parts (plain_rule c.in-Seq.first.value) + parts (plain_rule c.in-Seq.second.value) = ap parts (ap plain_rule (sym c.deref.ensures) ∙ ap plain_kind c.in-Seq.is) in
    λ κs h. (omega arith, (h.0, (h.1, ((subst (IsSoundIn (machine_of c.args.world.now.model.now) c.args.world.now.input.now (sound_within (machine_of c.args.world.now.model.now) c.args.world.now.input.now c.args.count) (places_of c.args.env.now)) (ap plain_rule (sym c.deref.ensures) ∙ ap plain_kind c.in-Seq.is) c.requires).1, kept-by (machine_of c.args.world.now.model.now) c.args.world.now.input.now (g.C.Chooser.way c.args.chooser.now) (g.met.C.Chooser.picks_candidates c.args.chooser.now (g.C.Chooser.way c.args.chooser.now) (g.C.Chooser.path c.args.chooser.now) (g.met.C.Chooser.is_way c.args.chooser.now)) c.args.count (g.C.Chooser.path c.args.chooser.now ++ Part 0 ∷ []) (g.S.Store.state c.args.world.now.store.now) (places_of c.args.env.now) (plain_rule c.in-Seq.first.value) (g.C.Chooser.words c.args.chooser.now) (g.C.Chooser.words c.fire_part.new.chooser) c.in_ok-updates-in-Seq.updates c.args.world.now.is_state (subst (IsSoundIn (machine_of c.args.world.now.model.now) c.args.world.now.input.now (sound_within (machine_of c.args.world.now.model.now) c.args.world.now.input.now c.args.count) (places_of c.args.env.now)) (ap plain_rule (sym c.deref.ensures) ∙ ap plain_kind c.in-Seq.is) c.requires).0 (c.in_ok-updates-in-Seq.ensures.fires (g.C.Chooser.way c.args.chooser.now) (g.C.Chooser.path c.args.chooser.now) (g.met.C.Chooser.is_way c.args.chooser.now))))))

pub fire_rule-returns-in_err-updates-in-Seq : goal.fire_rule-returns-in_err-updates-in-Seq
fire_rule-returns-in_err-updates-in-Seq g t c =
    let w = world_in (machine_of c.args.world.now.model.now) (g.S.Store.state c.args.world.now.store.now) c.args.world.now.input.now in
    record {
      fires = λ pick path is. let p = err_from_is_err_and c.from_residual.result c.from_residual.ensures.1 in rw (p.1, p.2) (subst (Halts c.in_err-updates-in-Seq.field-0.0 (g.C.Chooser.words c.fire_part.new.chooser)) (sym (ap (λ r. taken pick (bodies_within pick c.args.count) (path) w (places_of c.args.env.now) (r) (g.C.Chooser.words c.args.chooser.now)) (ap plain_rule (sym c.deref.ensures) ∙ ap plain_kind c.in-Seq.is))) (halts c.in_err-updates-in-Seq.field-0.0 (g.C.Chooser.words c.fire_part.new.chooser) (taken pick (bodies_within pick c.args.count) (path ++ Part 0 ∷ []) w (places_of c.args.env.now) (plain_rule c.in-Seq.first.value) (g.C.Chooser.words c.args.chooser.now)) (λ u s. after_set u s (λ s. taken pick (bodies_within pick c.args.count) (path ++ Part 1 ∷ []) (fired w u) (places_of c.args.env.now) (plain_rule c.in-Seq.second.value) s)) (c.in_err-updates-in-Seq.ensures.fires pick path is)));
      stays = let p = err_from_is_err_and c.from_residual.result c.from_residual.ensures.1 in ok_err (λ _. Stay (g.C.Chooser.ways c.args.chooser.now) (g.C.Chooser.ways c.fire_part.new.chooser)) _ c.from_residual.result p.1;
      kept = c.in_err-updates-in-Seq.ensures.kept;
    }

pub fire_rule-returns-in-Seq : goal.fire_rule-returns-in-Seq
fire_rule-returns-in-Seq g t c =
    let w = world_in (machine_of c.args.world.now.model.now) (g.S.Store.state c.args.world.now.store.now) c.args.world.now.input.now in
    record {
      fires = λ pick path is. subst (Fires c.fire_after.result (g.C.Chooser.words c.fire_after.new.chooser)) (sym (ap (λ r. taken pick (bodies_within pick c.args.count) (path) w (places_of c.args.env.now) (r) (g.C.Chooser.words c.args.chooser.now)) (ap plain_rule (sym c.deref.ensures) ∙ ap plain_kind c.in-Seq.is) ∙ ap (λ a. and_then a (λ u s. after_set u s (λ s. taken pick (bodies_within pick c.args.count) (path ++ Part 1 ∷ []) (fired w u) (places_of c.args.env.now) (plain_rule c.in-Seq.second.value) s))) (c.in_ok-updates-in-Seq.ensures.fires pick path is))) (c.fire_after.ensures.fires pick path (c.in_ok-updates-in-Seq.ensures.stays pick path is));
      stays = ok_then (g.C.Chooser.ways c.args.chooser.now) (g.C.Chooser.ways c.fire_part.new.chooser) (g.C.Chooser.ways c.fire_after.new.chooser) c.fire_after.result c.in_ok-updates-in-Seq.ensures.stays c.fire_after.ensures.stays;
      kept = c.fire_after.ensures.kept ∙ c.in_ok-updates-in-Seq.ensures.kept;
    }

pub fire_rule-guard_of-requires : goal.fire_rule-guard_of-requires
fire_rule-guard_of-requires g t c =
    let w = world_in (machine_of c.args.world.now.model.now) (g.S.Store.state c.args.world.now.store.now) c.args.world.now.input.now in
    (subst (IsSoundIn (machine_of c.args.world.now.model.now) c.args.world.now.input.now (sound_within (machine_of c.args.world.now.model.now) c.args.world.now.input.now c.args.count) (places_of c.args.env.now)) (ap plain_rule (sym c.deref.ensures) ∙ ap plain_kind c.in-If.is) c.requires).0

pub fire_rule-returns-in_err-holds-in-If : goal.fire_rule-returns-in_err-holds-in-If
fire_rule-returns-in_err-holds-in-If g t c =
    let w = world_in (machine_of c.args.world.now.model.now) (g.S.Store.state c.args.world.now.store.now) c.args.world.now.input.now in
    record {
      fires = λ pick path is. let p = err_from_is_err_and c.from_residual-in_err-holds-in-If.result c.from_residual-in_err-holds-in-If.ensures.1 in rw (p.1, p.2) (subst (Halts c.in_err-holds-in-If.field-0.0 (g.C.Chooser.words c.args.chooser.now)) (sym (ap (λ r. taken pick (bodies_within pick c.args.count) (path) w (places_of c.args.env.now) (r) (g.C.Chooser.words c.args.chooser.now)) (ap plain_rule (sym c.deref.ensures) ∙ ap plain_kind c.in-If.is))) (halts-guard c.in_err-holds-in-If.field-0.0 c.in-If.place (val w (places_of c.args.env.now) (plain c.in-If.guard.value)) (g.C.Chooser.words c.args.chooser.now) (taken pick (bodies_within pick c.args.count) (path ++ Part 0 ∷ []) w (places_of c.args.env.now) (plain_rule c.in-If.then_part.value) (g.C.Chooser.words c.args.chooser.now)) (taken pick (bodies_within pick c.args.count) (path ++ Part 1 ∷ []) w (places_of c.args.env.now) (plain_rule c.in-If.else_part.value) (g.C.Chooser.words c.args.chooser.now)) (c.in_err-holds-in-If.ensures (g.C.Chooser.words c.args.chooser.now))));
      stays = ok_any c.from_residual-in_err-holds-in-If.result (λ pick path is. is);
      kept = refl;
    }

pub fire_rule-fire_part-requires-then-holds : goal.fire_rule-fire_part-requires-then-holds
fire_rule-fire_part-requires-then-holds g t c =
    let w = world_in (machine_of c.args.world.now.model.now) (g.S.Store.state c.args.world.now.store.now) c.args.world.now.input.now in
    let few : parts (plain_rule c.args.rule.now.value) ≡ 1 + parts (plain_rule c.in-If.then_part.value) + parts (plain_rule c.in-If.else_part.value) = ap parts (ap plain_rule (sym c.deref.ensures) ∙ ap plain_kind c.in-If.is) in
    λ κs h. (omega arith, (h.0, (h.1, (subst (IsSoundIn (machine_of c.args.world.now.model.now) c.args.world.now.input.now (sound_within (machine_of c.args.world.now.model.now) c.args.world.now.input.now c.args.count) (places_of c.args.env.now)) (ap plain_rule (sym c.deref.ensures) ∙ ap plain_kind c.in-If.is) c.requires).1)))

pub fire_rule-returns-then-holds : goal.fire_rule-returns-then-holds
fire_rule-returns-then-holds g t c =
    let w = world_in (machine_of c.args.world.now.model.now) (g.S.Store.state c.args.world.now.store.now) c.args.world.now.input.now in
    record {
      fires = λ pick path is. subst (Fires c.fire_part-then-holds.result (g.C.Chooser.words c.fire_part-then-holds.new.chooser)) (sym (ap (λ r. taken pick (bodies_within pick c.args.count) (path) w (places_of c.args.env.now) (r) (g.C.Chooser.words c.args.chooser.now)) (ap plain_rule (sym c.deref.ensures) ∙ ap plain_kind c.in-If.is) ∙ ap (λ o. evaluated o (g.C.Chooser.words c.args.chooser.now) (λ v. branch v (taken pick (bodies_within pick c.args.count) (path ++ Part 0 ∷ []) w (places_of c.args.env.now) (plain_rule c.in-If.then_part.value) (g.C.Chooser.words c.args.chooser.now)) (taken pick (bodies_within pick c.args.count) (path ++ Part 1 ∷ []) w (places_of c.args.env.now) (plain_rule c.in-If.else_part.value) (g.C.Chooser.words c.args.chooser.now)) (Faults (UndefGuard c.in-If.place) (g.C.Chooser.words c.args.chooser.now)))) (guard-is c.in-If.place (val w (places_of c.args.env.now) (plain c.in-If.guard.value)) (g.C.Chooser.words c.args.chooser.now) (g.C.Chooser.words c.args.chooser.now) c.in_ok-holds-in-If.holds (c.in_ok-holds-in-If.ensures (g.C.Chooser.words c.args.chooser.now)) ∙ ap (λ b. Gives (Bool b)) c.if-holds.true))) (c.fire_part-then-holds.ensures.fires pick path is);
      stays = c.fire_part-then-holds.ensures.stays;
      kept = c.fire_part-then-holds.ensures.kept;
    }

pub fire_rule-fire_part-requires-else-holds : goal.fire_rule-fire_part-requires-else-holds
fire_rule-fire_part-requires-else-holds g t c =
    let w = world_in (machine_of c.args.world.now.model.now) (g.S.Store.state c.args.world.now.store.now) c.args.world.now.input.now in
    let few : parts (plain_rule c.args.rule.now.value) ≡ 1 + parts (plain_rule c.in-If.then_part.value) + parts (plain_rule c.in-If.else_part.value) = ap parts (ap plain_rule (sym c.deref.ensures) ∙ ap plain_kind c.in-If.is) in
    λ κs h. (omega arith, (h.0, (h.1, (subst (IsSoundIn (machine_of c.args.world.now.model.now) c.args.world.now.input.now (sound_within (machine_of c.args.world.now.model.now) c.args.world.now.input.now c.args.count) (places_of c.args.env.now)) (ap plain_rule (sym c.deref.ensures) ∙ ap plain_kind c.in-If.is) c.requires).2)))

pub fire_rule-returns-in-If : goal.fire_rule-returns-in-If
fire_rule-returns-in-If g t c =
    let w = world_in (machine_of c.args.world.now.model.now) (g.S.Store.state c.args.world.now.store.now) c.args.world.now.input.now in
    record {
      fires = λ pick path is. subst (Fires c.fire_part-else-holds.result (g.C.Chooser.words c.fire_part-else-holds.new.chooser)) (sym (ap (λ r. taken pick (bodies_within pick c.args.count) (path) w (places_of c.args.env.now) (r) (g.C.Chooser.words c.args.chooser.now)) (ap plain_rule (sym c.deref.ensures) ∙ ap plain_kind c.in-If.is) ∙ ap (λ o. evaluated o (g.C.Chooser.words c.args.chooser.now) (λ v. branch v (taken pick (bodies_within pick c.args.count) (path ++ Part 0 ∷ []) w (places_of c.args.env.now) (plain_rule c.in-If.then_part.value) (g.C.Chooser.words c.args.chooser.now)) (taken pick (bodies_within pick c.args.count) (path ++ Part 1 ∷ []) w (places_of c.args.env.now) (plain_rule c.in-If.else_part.value) (g.C.Chooser.words c.args.chooser.now)) (Faults (UndefGuard c.in-If.place) (g.C.Chooser.words c.args.chooser.now)))) (guard-is c.in-If.place (val w (places_of c.args.env.now) (plain c.in-If.guard.value)) (g.C.Chooser.words c.args.chooser.now) (g.C.Chooser.words c.args.chooser.now) c.in_ok-holds-in-If.holds (c.in_ok-holds-in-If.ensures (g.C.Chooser.words c.args.chooser.now)) ∙ ap (λ b. Gives (Bool b)) c.if-holds.false))) (c.fire_part-else-holds.ensures.fires pick path is);
      stays = c.fire_part-else-holds.ensures.stays;
      kept = c.fire_part-else-holds.ensures.kept;
    }

pub fire_rule-eval_in-requires : goal.fire_rule-eval_in-requires
fire_rule-eval_in-requires g t c =
    let w = world_in (machine_of c.args.world.now.model.now) (g.S.Store.state c.args.world.now.store.now) c.args.world.now.input.now in
    (subst (IsSoundIn (machine_of c.args.world.now.model.now) c.args.world.now.input.now (sound_within (machine_of c.args.world.now.model.now) c.args.world.now.input.now c.args.count) (places_of c.args.env.now)) (ap plain_rule (sym c.deref.ensures) ∙ ap plain_kind c.in-Let.is) c.requires).0 (g.S.Store.state c.args.world.now.store.now) c.args.world.now.is_state

pub fire_rule-fire_with-requires : goal.fire_rule-fire_with-requires
fire_rule-fire_with-requires g t c =
    let w = world_in (machine_of c.args.world.now.model.now) (g.S.Store.state c.args.world.now.store.now) c.args.world.now.input.now in
    let few : parts (plain_rule c.args.rule.now.value) ≡ 1 + parts (plain_rule c.in-Let.body.value) = ap parts (ap plain_rule (sym c.deref.ensures) ∙ ap plain_kind c.in-Let.is) in
    λ κs h. (omega arith, (h.0, (h.1, (subst (IsSoundIn (machine_of c.args.world.now.model.now) c.args.world.now.input.now (sound_within (machine_of c.args.world.now.model.now) c.args.world.now.input.now c.args.count) (places_of c.args.env.now)) (ap plain_rule (sym c.deref.ensures) ∙ ap plain_kind c.in-Let.is) c.requires).1 (g.S.Store.state c.args.world.now.store.now) c.in_ok-value-in-Let.value c.args.world.now.is_state c.in_ok-value-in-Let.ensures)))

pub fire_rule-returns-in_err-value-in-Let : goal.fire_rule-returns-in_err-value-in-Let
fire_rule-returns-in_err-value-in-Let g t c =
    let w = world_in (machine_of c.args.world.now.model.now) (g.S.Store.state c.args.world.now.store.now) c.args.world.now.input.now in
    record {
      fires = λ pick path is. let p = err_from_is_err_and c.from_residual-in_err-value-in-Let.result c.from_residual-in_err-value-in-Let.ensures.1 in rw (p.1, p.2) (subst (Halts (fire_error c.in_err-value-in-Let.field-0.0) (g.C.Chooser.words c.args.chooser.now)) (sym (ap (λ r. taken pick (bodies_within pick c.args.count) (path) w (places_of c.args.env.now) (r) (g.C.Chooser.words c.args.chooser.now)) (ap plain_rule (sym c.deref.ensures) ∙ ap plain_kind c.in-Let.is))) (halts-evaluated c.in_err-value-in-Let.field-0.0 (g.C.Chooser.words c.args.chooser.now) (val w (places_of c.args.env.now) (plain c.in-Let.term.value)) (λ v. taken pick (bodies_within pick c.args.count) (path ++ Bound (v ∷ []) ∷ []) w (put c.in-Let.variable (Const v) (places_of c.args.env.now)) (plain_rule c.in-Let.body.value) (g.C.Chooser.words c.args.chooser.now)) c.in_err-value-in-Let.ensures));
      stays = ok_any c.from_residual-in_err-value-in-Let.result (λ pick path is. is);
      kept = refl;
    }

pub fire_rule-returns-in-Let : goal.fire_rule-returns-in-Let
fire_rule-returns-in-Let g t c =
    let w = world_in (machine_of c.args.world.now.model.now) (g.S.Store.state c.args.world.now.store.now) c.args.world.now.input.now in
    record {
      fires = λ pick path is. subst (Fires c.fire_with.result (g.C.Chooser.words c.fire_with.new.chooser)) (sym (ap (λ r. taken pick (bodies_within pick c.args.count) (path) w (places_of c.args.env.now) (r) (g.C.Chooser.words c.args.chooser.now)) (ap plain_rule (sym c.deref.ensures) ∙ ap plain_kind c.in-Let.is) ∙ ap (λ o. evaluated o (g.C.Chooser.words c.args.chooser.now) (λ v. taken pick (bodies_within pick c.args.count) (path ++ Bound (v ∷ []) ∷ []) w (put c.in-Let.variable (Const v) (places_of c.args.env.now)) (plain_rule c.in-Let.body.value) (g.C.Chooser.words c.args.chooser.now))) c.in_ok-value-in-Let.ensures)) (c.fire_with.ensures.fires pick path is);
      stays = c.fire_with.ensures.stays;
      kept = c.fire_with.ensures.kept;
    }

pub fire_rule-fire_forall-requires : goal.fire_rule-fire_forall-requires
fire_rule-fire_forall-requires g t c =
    let w = world_in (machine_of c.args.world.now.model.now) (g.S.Store.state c.args.world.now.store.now) c.args.world.now.input.now in
    let few : parts (plain_rule c.args.rule.now.value) ≡ 1 + parts (plain_rule c.in-Forall.body.value) = ap parts (ap plain_rule (sym c.deref.ensures) ∙ ap plain_kind c.in-Forall.is) in
    λ κs h. (omega arith, (h.0, (h.1, subst (λ bs. (vs : List Value) → Contains (tuples_of (machine_of c.args.world.now.model.now).signature bs) vs → IsEverExact (machine_of c.args.world.now.model.now) c.args.world.now.input.now (put_tuple bs vs (places_of c.args.env.now)) (plain c.in-Forall.guard.value) × IsSoundIn (machine_of c.args.world.now.model.now) c.args.world.now.input.now (sound_within (machine_of c.args.world.now.model.now) c.args.world.now.input.now c.args.count) (put_tuple bs vs (places_of c.args.env.now)) (plain_rule c.in-Forall.body.value)) (sym c.slice-in-Forall.ensures) (subst (IsSoundIn (machine_of c.args.world.now.model.now) c.args.world.now.input.now (sound_within (machine_of c.args.world.now.model.now) c.args.world.now.input.now c.args.count) (places_of c.args.env.now)) (ap plain_rule (sym c.deref.ensures) ∙ ap plain_kind c.in-Forall.is) c.requires))))

pub fire_rule-returns-in-Forall : goal.fire_rule-returns-in-Forall
fire_rule-returns-in-Forall g t c =
    let w = world_in (machine_of c.args.world.now.model.now) (g.S.Store.state c.args.world.now.store.now) c.args.world.now.input.now in
    record {
      fires = λ pick path is. subst (Fires c.fire_forall.result (g.C.Chooser.words c.fire_forall.new.chooser)) (sym (ap (λ r. taken pick (bodies_within pick c.args.count) (path) w (places_of c.args.env.now) (r) (g.C.Chooser.words c.args.chooser.now)) (ap plain_rule (sym c.deref.ensures) ∙ ap plain_kind c.in-Forall.is) ∙ ap (λ bs. each (λ vs ws. guarded c.in-Forall.place (val w (put_tuple bs vs (places_of c.args.env.now)) (plain c.in-Forall.guard.value)) (taken pick (bodies_within pick c.args.count) (path ++ Bound vs ∷ []) w (put_tuple bs vs (places_of c.args.env.now)) (plain_rule c.in-Forall.body.value) ws) ws) (tuples_of w.machine.signature bs) set.empty (g.C.Chooser.words c.args.chooser.now)) (sym c.slice-in-Forall.ensures))) (c.fire_forall.ensures.fires pick path is);
      stays = c.fire_forall.ensures.stays;
      kept = c.fire_forall.ensures.kept;
    }

pub fire_rule-candidates-requires : goal.fire_rule-candidates-requires
fire_rule-candidates-requires g t c =
    let w = world_in (machine_of c.args.world.now.model.now) (g.S.Store.state c.args.world.now.store.now) c.args.world.now.input.now in
    λ vs at. subst (λ bs. IsEverExact (machine_of c.args.world.now.model.now) c.args.world.now.input.now (put_tuple bs vs (places_of c.args.env.now)) (plain c.in-Choose.guard.value)) (sym c.slice-in-Choose-2.ensures) ((subst (IsSoundIn (machine_of c.args.world.now.model.now) c.args.world.now.input.now (sound_within (machine_of c.args.world.now.model.now) c.args.world.now.input.now c.args.count) (places_of c.args.env.now)) (ap plain_rule (sym c.deref.ensures) ∙ ap plain_kind c.in-Choose.is) c.requires).0 vs (subst (λ ts. Contains ts vs) (c.slice-in-Choose-3.ensures ∙ c.in_ok-tuples-in-Choose.ensures ∙ (λ i. tuples_of (c.signature.ensures i) (c.slice-in-Choose.ensures i))) at)).0

pub fire_rule-returns-in_err-found-in-Choose : goal.fire_rule-returns-in_err-found-in-Choose
fire_rule-returns-in_err-found-in-Choose g t c =
    let w = world_in (machine_of c.args.world.now.model.now) (g.S.Store.state c.args.world.now.store.now) c.args.world.now.input.now in
    record {
      fires = λ pick path is. let p = err_from_is_err_and c.from_residual-in_err-found-in-Choose.result c.from_residual-in_err-found-in-Choose.ensures.1 in rw (p.1, p.2) (subst (Halts c.in_err-found-in-Choose.field-0.0 (g.C.Chooser.words c.args.chooser.now)) (sym (ap (λ r. taken pick (bodies_within pick c.args.count) (path) w (places_of c.args.env.now) (r) (g.C.Chooser.words c.args.chooser.now)) (ap plain_rule (sym c.deref.ensures) ∙ ap plain_kind c.in-Choose.is))) (halts c.in_err-found-in-Choose.field-0.0 (g.C.Chooser.words c.args.chooser.now) (candidates c.in-Choose.place (λ vs. val w (put_tuple c.in-Choose.binders vs (places_of c.args.env.now)) (plain c.in-Choose.guard.value)) (tuples_of w.machine.signature c.in-Choose.binders) [] (g.C.Chooser.words c.args.chooser.now)) (λ found s. chosen found (and_then (pick path c.in-Choose.place found s) (λ vs s. taken pick (bodies_within pick c.args.count) (path ++ Bound vs ∷ []) w (put_tuple c.in-Choose.binders vs (places_of c.args.env.now)) (plain_rule c.in-Choose.body.value) s)) (taken pick (bodies_within pick c.args.count) (path ++ Part 1 ∷ []) w (places_of c.args.env.now) (plain_rule c.in-Choose.otherwise.value) s)) (subst (Halts c.in_err-found-in-Choose.field-0.0 (g.C.Chooser.words c.args.chooser.now)) (sym (λ i. candidates c.in-Choose.place (λ vs. val w (put_tuple (sym c.slice-in-Choose-2.ensures i) vs (places_of c.args.env.now)) (plain c.in-Choose.guard.value)) (sym (c.slice-in-Choose-3.ensures ∙ c.in_ok-tuples-in-Choose.ensures ∙ (λ i. tuples_of (c.signature.ensures i) (c.slice-in-Choose.ensures i))) i) [] (g.C.Chooser.words c.args.chooser.now))) (c.in_err-found-in-Choose.ensures (g.C.Chooser.words c.args.chooser.now)))));
      stays = ok_any c.from_residual-in_err-found-in-Choose.result (λ pick path is. is);
      kept = refl;
    }

pub fire_rule-fire_part-requires-then-is_empty : goal.fire_rule-fire_part-requires-then-is_empty
fire_rule-fire_part-requires-then-is_empty g t c =
    let w = world_in (machine_of c.args.world.now.model.now) (g.S.Store.state c.args.world.now.store.now) c.args.world.now.input.now in
    let few : parts (plain_rule c.args.rule.now.value) ≡ 1 + parts (plain_rule c.in-Choose.body.value) + parts (plain_rule c.in-Choose.otherwise.value) = ap parts (ap plain_rule (sym c.deref.ensures) ∙ ap plain_kind c.in-Choose.is) in
    λ κs h. (omega arith, (h.0, (h.1, (subst (IsSoundIn (machine_of c.args.world.now.model.now) c.args.world.now.input.now (sound_within (machine_of c.args.world.now.model.now) c.args.world.now.input.now c.args.count) (places_of c.args.env.now)) (ap plain_rule (sym c.deref.ensures) ∙ ap plain_kind c.in-Choose.is) c.requires).1)))

pub fire_rule-returns-then-is_empty : goal.fire_rule-returns-then-is_empty
fire_rule-returns-then-is_empty g t c =
    let w = world_in (machine_of c.args.world.now.model.now) (g.S.Store.state c.args.world.now.store.now) c.args.world.now.input.now in
    record {
      fires = λ pick path is. subst (Fires c.fire_part-then-is_empty.result (g.C.Chooser.words c.fire_part-then-is_empty.new.chooser)) (sym (ap (λ r. taken pick (bodies_within pick c.args.count) (path) w (places_of c.args.env.now) (r) (g.C.Chooser.words c.args.chooser.now)) (ap plain_rule (sym c.deref.ensures) ∙ ap plain_kind c.in-Choose.is) ∙ ap (λ a. and_then a (λ found s. chosen found (and_then (pick path c.in-Choose.place found s) (λ vs s. taken pick (bodies_within pick c.args.count) (path ++ Bound vs ∷ []) w (put_tuple c.in-Choose.binders vs (places_of c.args.env.now)) (plain_rule c.in-Choose.body.value) s)) (taken pick (bodies_within pick c.args.count) (path ++ Part 1 ∷ []) w (places_of c.args.env.now) (plain_rule c.in-Choose.otherwise.value) s))) ((λ i. candidates c.in-Choose.place (λ vs. val w (put_tuple (sym c.slice-in-Choose-2.ensures i) vs (places_of c.args.env.now)) (plain c.in-Choose.guard.value)) (sym (c.slice-in-Choose-3.ensures ∙ c.in_ok-tuples-in-Choose.ensures ∙ (λ i. tuples_of (c.signature.ensures i) (c.slice-in-Choose.ensures i))) i) [] (g.C.Chooser.words c.args.chooser.now)) ∙ c.in_ok-found-in-Choose.ensures (g.C.Chooser.words c.args.chooser.now)) ∙ chosen-none c.in_ok-found-in-Choose.found (and_then (pick path c.in-Choose.place c.in_ok-found-in-Choose.found (g.C.Chooser.words c.args.chooser.now)) (λ vs s. taken pick (bodies_within pick c.args.count) (path ++ Bound vs ∷ []) w (put_tuple c.in-Choose.binders vs (places_of c.args.env.now)) (plain_rule c.in-Choose.body.value) s)) (taken pick (bodies_within pick c.args.count) (path ++ Part 1 ∷ []) w (places_of c.args.env.now) (plain_rule c.in-Choose.otherwise.value) (g.C.Chooser.words c.args.chooser.now)) (eqb→eq (length c.in_ok-found-in-Choose.found) 0 (subst T (sym (sym c.is_empty.ensures ∙ c.if-is_empty.true)) tt)))) (c.fire_part-then-is_empty.ensures.fires pick path is);
      stays = c.fire_part-then-is_empty.ensures.stays;
      kept = c.fire_part-then-is_empty.ensures.kept;
    }

pub fire_rule-fire_chosen-requires : goal.fire_rule-fire_chosen-requires
fire_rule-fire_chosen-requires g t c =
    let w = world_in (machine_of c.args.world.now.model.now) (g.S.Store.state c.args.world.now.store.now) c.args.world.now.input.now in
    let few : parts (plain_rule c.args.rule.now.value) ≡ 1 + parts (plain_rule c.in-Choose.body.value) + parts (plain_rule c.in-Choose.otherwise.value) = ap parts (ap plain_rule (sym c.deref.ensures) ∙ ap plain_kind c.in-Choose.is) in
    λ κs h. (omega arith, (h.0, (h.1, (subst (λ xs. 0 < length xs) (sym c.slice-else-is_empty-2.ensures) (positive (length c.in_ok-found-in-Choose.found) (sym c.is_empty.ensures ∙ c.if-is_empty.false)), λ vs at. subst (λ bs. IsSoundIn (machine_of c.args.world.now.model.now) c.args.world.now.input.now (sound_within (machine_of c.args.world.now.model.now) c.args.world.now.input.now c.args.count) (put_tuple bs vs (places_of c.args.env.now)) (plain_rule c.in-Choose.body.value)) (sym c.slice-else-is_empty.ensures) ((subst (IsSoundIn (machine_of c.args.world.now.model.now) c.args.world.now.input.now (sound_within (machine_of c.args.world.now.model.now) c.args.world.now.input.now c.args.count) (places_of c.args.env.now)) (ap plain_rule (sym c.deref.ensures) ∙ ap plain_kind c.in-Choose.is) c.requires).0 vs (are-tuples c.in-Choose.place (λ vs. val w (put_tuple c.in-Choose.binders vs (places_of c.args.env.now)) (plain c.in-Choose.guard.value)) (tuples_of w.machine.signature c.in-Choose.binders) c.in_ok-found-in-Choose.found (g.C.Chooser.words c.args.chooser.now) (g.C.Chooser.words c.args.chooser.now) ((λ i. candidates c.in-Choose.place (λ vs. val w (put_tuple (sym c.slice-in-Choose-2.ensures i) vs (places_of c.args.env.now)) (plain c.in-Choose.guard.value)) (sym (c.slice-in-Choose-3.ensures ∙ c.in_ok-tuples-in-Choose.ensures ∙ (λ i. tuples_of (c.signature.ensures i) (c.slice-in-Choose.ensures i))) i) [] (g.C.Chooser.words c.args.chooser.now)) ∙ c.in_ok-found-in-Choose.ensures (g.C.Chooser.words c.args.chooser.now)) vs (subst (λ ts. Contains ts vs) c.slice-else-is_empty-2.ensures at))).1))))

pub fire_rule-returns-in-Choose : goal.fire_rule-returns-in-Choose
fire_rule-returns-in-Choose g t c =
    let w = world_in (machine_of c.args.world.now.model.now) (g.S.Store.state c.args.world.now.store.now) c.args.world.now.input.now in
    record {
      fires = λ pick path is. subst (Fires c.fire_chosen.result (g.C.Chooser.words c.fire_chosen.new.chooser)) (sym (ap (λ r. taken pick (bodies_within pick c.args.count) (path) w (places_of c.args.env.now) (r) (g.C.Chooser.words c.args.chooser.now)) (ap plain_rule (sym c.deref.ensures) ∙ ap plain_kind c.in-Choose.is) ∙ ap (λ a. and_then a (λ found s. chosen found (and_then (pick path c.in-Choose.place found s) (λ vs s. taken pick (bodies_within pick c.args.count) (path ++ Bound vs ∷ []) w (put_tuple c.in-Choose.binders vs (places_of c.args.env.now)) (plain_rule c.in-Choose.body.value) s)) (taken pick (bodies_within pick c.args.count) (path ++ Part 1 ∷ []) w (places_of c.args.env.now) (plain_rule c.in-Choose.otherwise.value) s))) ((λ i. candidates c.in-Choose.place (λ vs. val w (put_tuple (sym c.slice-in-Choose-2.ensures i) vs (places_of c.args.env.now)) (plain c.in-Choose.guard.value)) (sym (c.slice-in-Choose-3.ensures ∙ c.in_ok-tuples-in-Choose.ensures ∙ (λ i. tuples_of (c.signature.ensures i) (c.slice-in-Choose.ensures i))) i) [] (g.C.Chooser.words c.args.chooser.now)) ∙ c.in_ok-found-in-Choose.ensures (g.C.Chooser.words c.args.chooser.now)) ∙ chosen-some c.in_ok-found-in-Choose.found (and_then (pick path c.in-Choose.place c.in_ok-found-in-Choose.found (g.C.Chooser.words c.args.chooser.now)) (λ vs s. taken pick (bodies_within pick c.args.count) (path ++ Bound vs ∷ []) w (put_tuple c.in-Choose.binders vs (places_of c.args.env.now)) (plain_rule c.in-Choose.body.value) s)) (taken pick (bodies_within pick c.args.count) (path ++ Part 1 ∷ []) w (places_of c.args.env.now) (plain_rule c.in-Choose.otherwise.value) (g.C.Chooser.words c.args.chooser.now)) (positive (length c.in_ok-found-in-Choose.found) (sym c.is_empty.ensures ∙ c.if-is_empty.false)) ∙ (λ i. and_then (pick path c.in-Choose.place (sym c.slice-else-is_empty-2.ensures i) (g.C.Chooser.words c.args.chooser.now)) (λ vs s. taken pick (bodies_within pick c.args.count) (path ++ Bound vs ∷ []) w (put_tuple (sym c.slice-else-is_empty.ensures i) vs (places_of c.args.env.now)) (plain_rule c.in-Choose.body.value) s)))) (c.fire_chosen.ensures.fires pick path is);
      stays = c.fire_chosen.ensures.stays;
      kept = c.fire_chosen.ensures.kept;
    }

pub fire_rule-fire_call-requires : goal.fire_rule-fire_call-requires
fire_rule-fire_call-requires g t c =
    let w = world_in (machine_of c.args.world.now.model.now) (g.S.Store.state c.args.world.now.store.now) c.args.world.now.input.now in
    let few : parts (plain_rule c.args.rule.now.value) ≡ 1 = ap parts (ap plain_rule (sym c.deref.ensures) ∙ ap plain_kind c.in-Call.is) in
    λ κs h. (omega arith, (h.0, (h.1, subst (λ ts. sound_within (machine_of c.args.world.now.model.now) c.args.world.now.input.now c.args.count c.in-Call.number (places_of c.args.env.now) (plain_all ts)) (sym c.slice-in-Call.ensures) (subst (IsSoundIn (machine_of c.args.world.now.model.now) c.args.world.now.input.now (sound_within (machine_of c.args.world.now.model.now) c.args.world.now.input.now c.args.count) (places_of c.args.env.now)) (ap plain_rule (sym c.deref.ensures) ∙ ap plain_kind c.in-Call.is) c.requires))))

pub fire_with-fire_part-requires : goal.fire_with-fire_part-requires
fire_with-fire_part-requires g t c =
    let w = world_in (machine_of c.args.world.now.model.now) (g.S.Store.state c.args.world.now.store.now) c.args.world.now.input.now in
    λ κs h. (omega arith, (h.0, (h.1, subst (λ e. IsSoundIn (machine_of c.args.world.now.model.now) c.args.world.now.input.now (sound_within (machine_of c.args.world.now.model.now) c.args.world.now.input.now c.args.count) e (plain_rule c.args.rule.now.value)) (sym c.in_ok-inner.ensures.places) c.requires)))

pub fire_with-returns : goal.fire_with-returns
fire_with-returns g t c =
    let w = world_in (machine_of c.args.world.now.model.now) (g.S.Store.state c.args.world.now.store.now) c.args.world.now.input.now in
    record {
      fires = λ pick path is. subst (λ e. Fires c.fire_part.result (g.C.Chooser.words c.fire_part.new.chooser) (taken pick (bodies_within pick c.args.count) (path ++ Bound (c.args.value ∷ []) ∷ []) w e (plain_rule c.args.rule.now.value) (g.C.Chooser.words c.args.chooser.now))) c.in_ok-inner.ensures.places (c.fire_part.ensures.fires pick path is);
      stays = c.fire_part.ensures.stays;
      kept = c.fire_part.ensures.kept;
    }

pub fire_bound-fire_part-requires : goal.fire_bound-fire_part-requires
fire_bound-fire_part-requires g t c =
    let w = world_in (machine_of c.args.world.now.model.now) (g.S.Store.state c.args.world.now.store.now) c.args.world.now.input.now in
    λ κs h. (omega arith, (h.0, (h.1, subst (λ e. IsSoundIn (machine_of c.args.world.now.model.now) c.args.world.now.input.now (sound_within (machine_of c.args.world.now.model.now) c.args.world.now.input.now c.args.count) e (plain_rule c.args.rule.now.value)) (sym c.in_ok-inner.ensures.places) c.requires)))

pub fire_bound-returns : goal.fire_bound-returns
fire_bound-returns g t c =
    let w = world_in (machine_of c.args.world.now.model.now) (g.S.Store.state c.args.world.now.store.now) c.args.world.now.input.now in
    record {
      fires = λ pick path is. subst (λ e. Fires c.fire_part.result (g.C.Chooser.words c.fire_part.new.chooser) (taken pick (bodies_within pick c.args.count) (path ++ Bound c.args.values.now ∷ []) w e (plain_rule c.args.rule.now.value) (g.C.Chooser.words c.args.chooser.now))) c.in_ok-inner.ensures.places (c.fire_part.ensures.fires pick path is);
      stays = c.fire_part.ensures.stays;
      kept = c.fire_part.ensures.kept;
    }

pub fire_chosen-fire_bound-requires : goal.fire_chosen-fire_bound-requires
fire_chosen-fire_bound-requires g t c =
    let w = world_in (machine_of c.args.world.now.model.now) (g.S.Store.state c.args.world.now.store.now) c.args.world.now.input.now in
    λ κs h. (omega arith, (h.0, (h.1, subst (λ vs. IsSoundIn (machine_of c.args.world.now.model.now) c.args.world.now.input.now (sound_within (machine_of c.args.world.now.model.now) c.args.world.now.input.now c.args.count) (put_tuple c.args.binders.now vs (places_of c.args.env.now)) (plain_rule c.args.body.now.value)) (sym c.slice.ensures) (c.requires.sound c.index-found-number.result (c.in_ok-number.number, c.in_ok-number.ensures.within, sym c.index-found-number.is)))))

pub fire_chosen-returns : goal.fire_chosen-returns
fire_chosen-returns g t c =
    let w = world_in (machine_of c.args.world.now.model.now) (g.S.Store.state c.args.world.now.store.now) c.args.world.now.input.now in
    record {
      fires = λ pick path is. subst (Fires c.fire_bound.result (g.C.Chooser.words c.fire_bound.new.chooser)) (sym (ap (λ a. and_then a (λ vs s. taken pick (bodies_within pick c.args.count) (path ++ Bound vs ∷ []) w (put_tuple c.args.binders.now vs (places_of c.args.env.now)) (plain_rule c.args.body.now.value) s)) (c.in_ok-number.ensures.chooses pick path is) ∙ ap (λ vs. taken pick (bodies_within pick c.args.count) (path ++ Bound vs ∷ []) w (put_tuple c.args.binders.now vs (places_of c.args.env.now)) (plain_rule c.args.body.now.value) (g.C.Chooser.words c.choose.new.self)) (index-same c.args.found.now c.in_ok-number.number [] c.index-found-number.result c.in_ok-number.ensures.within ∙ sym c.index-found-number.is))) (subst (λ vs. Fires c.fire_bound.result (g.C.Chooser.words c.fire_bound.new.chooser) (taken pick (bodies_within pick c.args.count) (path ++ Bound vs ∷ []) w (put_tuple c.args.binders.now vs (places_of c.args.env.now)) (plain_rule c.args.body.now.value) (g.C.Chooser.words c.choose.new.self))) c.slice.ensures (c.fire_bound.ensures.fires pick path (c.in_ok-number.ensures.stays pick path is)));
      stays = ok_then (g.C.Chooser.ways c.args.chooser.now) (g.C.Chooser.ways c.choose.new.self) (g.C.Chooser.ways c.fire_bound.new.chooser) c.fire_bound.result c.in_ok-number.ensures.stays c.fire_bound.ensures.stays;
      kept = c.fire_bound.ensures.kept ∙ c.in_ok-number.ensures.kept;
    }

pub fire_after-apply-requires : goal.fire_after-apply-requires
fire_after-apply-requires g t c =
    let w = world_in (machine_of c.args.world.now.model.now) (g.S.Store.state c.args.world.now.store.now) c.args.world.now.input.now in
    record { consistent = (c.clash.ensures.inconsistent (subst (λ s. HaveLocations s c.args.first) (sym c.signature.ensures) (have_locations (machine_of c.args.world.now.model.now) c.args.first c.requires.kept)) (no_clash c.clash.result (sym c.is_some.ensures ∙ c.if-is_some.false))); slots = subst (λ s. (slot : ℕ) → touches c.args.first slot ≡ true → IsSome (finite.get s slot)) (sym c.in_ok-store.ensures) (have_slots (machine_of c.args.world.now.model.now) (g.S.Store.state c.args.world.now.store.now) c.args.first c.args.world.now.is_state c.requires.kept) }

pub fire_after-fire_part-requires : goal.fire_after-fire_part-requires
fire_after-fire_part-requires g t c =
    let w = world_in (machine_of c.args.world.now.model.now) (g.S.Store.state c.args.world.now.store.now) c.args.world.now.input.now in
    λ κs h. (omega arith, (h.0, (h.1, c.requires.sound)))

pub fire_after-invariant_of-after : goal.fire_after-invariant_of-after
fire_after-invariant_of-after g t c =
    let w = world_in (machine_of c.args.world.now.model.now) (g.S.Store.state c.args.world.now.store.now) c.args.world.now.input.now in
    record { is_state = subst (IsState (machine_of c.args.world.now.model.now)) (sym (c.apply.ensures.fired ∙ ap (λ s. fire s c.args.first) c.in_ok-store.ensures)) (fired-state (machine_of c.args.world.now.model.now) (g.S.Store.state c.args.world.now.store.now) c.args.first c.args.world.now.is_state c.requires.kept) }

pub fire_after-returns-then-is_some : goal.fire_after-returns-then-is_some
fire_after-returns-then-is_some g t c =
    let w = world_in (machine_of c.args.world.now.model.now) (g.S.Store.state c.args.world.now.store.now) c.args.world.now.input.now in
    record {
      fires = λ pick path is. after-inconsistent c.args.first (g.C.Chooser.words c.args.chooser.now) (λ ws. taken pick (bodies_within pick c.args.count) (path ++ Part 1 ∷ []) (fired w c.args.first) (places_of c.args.env.now) (plain_rule c.args.second.now.value) ws) (clashing (consistent c.args.first) c.clash.result c.clash.ensures.consistent (sym c.is_some.ensures ∙ c.if-is_some.true));
      stays = λ pick path is. is;
      kept = refl;
    }

pub fire_after-returns-in_err-later : goal.fire_after-returns-in_err-later
fire_after-returns-in_err-later g t c =
    let w = world_in (machine_of c.args.world.now.model.now) (g.S.Store.state c.args.world.now.store.now) c.args.world.now.input.now in
    record {
      fires = λ pick path is. let p = err_from_is_err_and c.from_residual-in_err-later.result c.from_residual-in_err-later.ensures.1 in rw (p.1, p.2) (subst (Halts c.in_err-later.field-0.0 (g.C.Chooser.words c.fire_part.new.chooser)) (sym (after-consistent c.args.first (g.C.Chooser.words c.args.chooser.now) (λ ws. taken pick (bodies_within pick c.args.count) (path ++ Part 1 ∷ []) (fired w c.args.first) (places_of c.args.env.now) (plain_rule c.args.second.now.value) ws) (c.clash.ensures.inconsistent (subst (λ s. HaveLocations s c.args.first) (sym c.signature.ensures) (have_locations (machine_of c.args.world.now.model.now) c.args.first c.requires.kept)) (no_clash c.clash.result (sym c.is_some.ensures ∙ c.if-is_some.false))))) (halts c.in_err-later.field-0.0 (g.C.Chooser.words c.fire_part.new.chooser) (taken pick (bodies_within pick c.args.count) (path ++ Part 1 ∷ []) (fired w c.args.first) (places_of c.args.env.now) (plain_rule c.args.second.now.value) (g.C.Chooser.words c.args.chooser.now)) (λ v s. Yields (override c.args.first v) s) (subst (λ s. Halts c.in_err-later.field-0.0 (g.C.Chooser.words c.fire_part.new.chooser) (taken pick (bodies_within pick c.args.count) (path ++ Part 1 ∷ []) (world_in (machine_of c.args.world.now.model.now) s c.args.world.now.input.now) (places_of c.args.env.now) (plain_rule c.args.second.now.value) (g.C.Chooser.words c.args.chooser.now))) (c.apply.ensures.fired ∙ ap (λ s. fire s c.args.first) c.in_ok-store.ensures) (c.in_err-later.ensures.fires pick path is))));
      stays = let p = err_from_is_err_and c.from_residual-in_err-later.result c.from_residual-in_err-later.ensures.1 in ok_err (λ _. Stay (g.C.Chooser.ways c.args.chooser.now) (g.C.Chooser.ways c.fire_part.new.chooser)) _ c.from_residual-in_err-later.result p.1;
      kept = c.in_err-later.ensures.kept;
    }

pub fire_after-returns : goal.fire_after-returns
fire_after-returns g t c =
    let w = world_in (machine_of c.args.world.now.model.now) (g.S.Store.state c.args.world.now.store.now) c.args.world.now.input.now in
    record {
      fires = λ pick path is. after-consistent c.args.first (g.C.Chooser.words c.args.chooser.now) (λ ws. taken pick (bodies_within pick c.args.count) (path ++ Part 1 ∷ []) (fired w c.args.first) (places_of c.args.env.now) (plain_rule c.args.second.now.value) ws) (c.clash.ensures.inconsistent (subst (λ s. HaveLocations s c.args.first) (sym c.signature.ensures) (have_locations (machine_of c.args.world.now.model.now) c.args.first c.requires.kept)) (no_clash c.clash.result (sym c.is_some.ensures ∙ c.if-is_some.false))) ∙ ap (λ a. and_then a (λ v s. Yields (override c.args.first v) s)) (ap (λ s. taken pick (bodies_within pick c.args.count) (path ++ Part 1 ∷ []) (world_in (machine_of c.args.world.now.model.now) s c.args.world.now.input.now) (places_of c.args.env.now) (plain_rule c.args.second.now.value) (g.C.Chooser.words c.args.chooser.now)) (sym (c.apply.ensures.fired ∙ ap (λ s. fire s c.args.first) c.in_ok-store.ensures)) ∙ c.in_ok-later.ensures.fires pick path is) ∙ ap (λ u. Yields u (g.C.Chooser.words c.fire_part.new.chooser)) (sym c.in_ok-override_by.ensures.ok);
      stays = c.in_ok-later.ensures.stays;
      kept = c.in_ok-later.ensures.kept;
    }

pub fire_all-fire_part-requires : goal.fire_all-fire_part-requires
fire_all-fire_part-requires g t c =
    let w = world_in (machine_of c.args.world.now.model.now) (g.S.Store.state c.args.world.now.store.now) c.args.world.now.input.now in
    let few = parts-item c.args.rules.now c.loop-number.number c.index-rules-number.result c.loop-number-test.true c.index-rules-number.is in
    λ κs h. (omega arith, (h.0, (h.1, sound-item (machine_of c.args.world.now.model.now) c.args.world.now.input.now (sound_within (machine_of c.args.world.now.model.now) c.args.world.now.input.now c.args.count) (places_of c.args.env.now) c.args.rules.now c.loop-number.number c.index-rules-number.result c.loop-number-test.true c.index-rules-number.is c.requires)))

pub fire_all-returns-in_err-updates : goal.fire_all-returns-in_err-updates
fire_all-returns-in_err-updates g t c =
    let w = world_in (machine_of c.args.world.now.model.now) (g.S.Store.state c.args.world.now.store.now) c.args.world.now.input.now in
    record {
      fires = λ pick path is. let p = err_from_is_err_and c.from_residual.result c.from_residual.ensures.1 in rw (p.1, p.2) (subst (Halts c.in_err-updates.field-0.0 (g.C.Chooser.words c.fire_part.new.chooser)) (sym (c.loop-number.invariant.0 pick path is ∙ taken_all-drop pick (bodies_within pick c.args.count) path c.loop-number.number w (places_of c.args.env.now) c.args.rules.now c.loop-number.number c.index-rules-number.result c.loop-number.all (g.C.Chooser.words c.loop-number.chooser) c.loop-number-test.true c.index-rules-number.is)) (halts c.in_err-updates.field-0.0 (g.C.Chooser.words c.fire_part.new.chooser) (taken pick (bodies_within pick c.args.count) ((path ++ Part c.loop-number.number ∷ [])) w (places_of c.args.env.now) (plain_rule c.index-rules-number.result.value) (g.C.Chooser.words c.loop-number.chooser)) (λ v ws. taken_all pick (bodies_within pick c.args.count) path (c.loop-number.number + 1) w (places_of c.args.env.now) (plain_rules (drop (c.loop-number.number + 1) c.args.rules.now)) (set.union c.loop-number.all v) ws) (c.in_err-updates.ensures.fires pick path (c.loop-number.invariant.1 pick path is))));
      stays = let p = err_from_is_err_and c.from_residual.result c.from_residual.ensures.1 in ok_err (λ _. Stay (g.C.Chooser.ways c.args.chooser.now) (g.C.Chooser.ways c.fire_part.new.chooser)) _ c.from_residual.result p.1;
      kept = c.in_err-updates.ensures.kept ∙ c.loop-number.invariant.2;
    }

pub fire_all-loop-number-preserved : goal.fire_all-loop-number-preserved
fire_all-loop-number-preserved g t c =
    let w = world_in (machine_of c.args.world.now.model.now) (g.S.Store.state c.args.world.now.store.now) c.args.world.now.input.now in (
      λ pick path is. (c.loop-number.invariant.0 pick path is ∙ taken_all-drop pick (bodies_within pick c.args.count) path c.loop-number.number w (places_of c.args.env.now) c.args.rules.now c.loop-number.number c.index-rules-number.result c.loop-number.all (g.C.Chooser.words c.loop-number.chooser) c.loop-number-test.true c.index-rules-number.is) ∙ ap (λ a. and_then a (λ v ws. taken_all pick (bodies_within pick c.args.count) path (c.loop-number.number + 1) w (places_of c.args.env.now) (plain_rules (drop (c.loop-number.number + 1) c.args.rules.now)) (set.union c.loop-number.all v) ws)) (c.in_ok-updates.ensures.fires pick path (c.loop-number.invariant.1 pick path is)) ∙ ap (λ u. taken_all pick (bodies_within pick c.args.count) path (c.loop-number.number + 1) w (places_of c.args.env.now) (plain_rules (drop (c.loop-number.number + 1) c.args.rules.now)) u (g.C.Chooser.words c.fire_part.new.chooser)) (sym c.in_ok-join.ensures),
      λ pick path is. c.in_ok-updates.ensures.stays pick path (c.loop-number.invariant.1 pick path is),
      c.in_ok-updates.ensures.kept ∙ c.loop-number.invariant.2,
    )

pub fire_all-loop-number-init : goal.fire_all-loop-number-init
fire_all-loop-number-init g t c =
    let w = world_in (machine_of c.args.world.now.model.now) (g.S.Store.state c.args.world.now.store.now) c.args.world.now.input.now in
    (λ pick path is. ap (λ u. taken_all pick (bodies_within pick c.args.count) path 0 w (places_of c.args.env.now) (plain_rules c.args.rules.now) u (g.C.Chooser.words c.args.chooser.now)) (sym c.new-all.ensures), λ pick path is. is, refl)

pub fire_all-returns : goal.fire_all-returns
fire_all-returns g t c =
    let w = world_in (machine_of c.args.world.now.model.now) (g.S.Store.state c.args.world.now.store.now) c.args.world.now.input.now in
    record {
      fires = λ pick path is. c.loop-number.invariant.0 pick path is ∙ ap (λ rs. taken_all pick (bodies_within pick c.args.count) path c.loop-number.number w (places_of c.args.env.now) (plain_rules rs) c.loop-number.all (g.C.Chooser.words c.loop-number.chooser)) (past c.args.rules.now c.loop-number.number c.loop-number-test.false);
      stays = c.loop-number.invariant.1;
      kept = c.loop-number.invariant.2;
    }

pub fire_forall-fire_at-requires : goal.fire_forall-fire_at-requires
fire_forall-fire_at-requires g t c =
    let w = world_in (machine_of c.args.world.now.model.now) (g.S.Store.state c.args.world.now.store.now) c.args.world.now.input.now in
    λ κs h. (omega arith, (h.0, (h.1, (subst (λ vs. IsEverExact (machine_of c.args.world.now.model.now) c.args.world.now.input.now (put_tuple c.args.binders.now vs (places_of c.args.env.now)) (plain c.args.guard.now.value)) (sym c.slice.ensures) (c.requires c.tuple-item.result (subst (λ ts. Contains ts c.tuple-item.result) (c.slice-tuple-items.ensures ∙ c.in_ok-tuples.ensures ∙ ap (λ s. tuples_of s c.args.binders.now) c.signature.ensures) (c.loop-tuple.tuple-index, c.loop-tuple-test.true, sym c.tuple-item.is))).0, subst (λ vs. IsSoundIn (machine_of c.args.world.now.model.now) c.args.world.now.input.now (sound_within (machine_of c.args.world.now.model.now) c.args.world.now.input.now c.args.count) (put_tuple c.args.binders.now vs (places_of c.args.env.now)) (plain_rule c.args.body.now.value)) (sym c.slice.ensures) (c.requires c.tuple-item.result (subst (λ ts. Contains ts c.tuple-item.result) (c.slice-tuple-items.ensures ∙ c.in_ok-tuples.ensures ∙ ap (λ s. tuples_of s c.args.binders.now) c.signature.ensures) (c.loop-tuple.tuple-index, c.loop-tuple-test.true, sym c.tuple-item.is))).1))))

pub fire_forall-returns-in_err-updates : goal.fire_forall-returns-in_err-updates
fire_forall-returns-in_err-updates g t c =
    let w = world_in (machine_of c.args.world.now.model.now) (g.S.Store.state c.args.world.now.store.now) c.args.world.now.input.now in
    record {
      fires = λ pick path is. let p = err_from_is_err_and c.from_residual-in_err-updates.result c.from_residual-in_err-updates.ensures.1 in rw (p.1, p.2) (subst (Halts c.in_err-updates.field-0.0 (g.C.Chooser.words c.fire_at.new.chooser)) (sym (c.loop-tuple.invariant.0 pick path is ∙ each-drop (λ vs ws. guarded c.args.place (val w (put_tuple c.args.binders.now vs (places_of c.args.env.now)) (plain c.args.guard.now.value)) (taken pick (bodies_within pick c.args.count) (path ++ Bound vs ∷ []) w (put_tuple c.args.binders.now vs (places_of c.args.env.now)) (plain_rule c.args.body.now.value) ws) ws) c.slice-tuple-items.result.now c.loop-tuple.tuple-index c.tuple-item.result c.loop-tuple.all (g.C.Chooser.words c.loop-tuple.chooser) c.loop-tuple-test.true c.tuple-item.is)) (halts c.in_err-updates.field-0.0 (g.C.Chooser.words c.fire_at.new.chooser) (guarded c.args.place (val w (put_tuple c.args.binders.now c.tuple-item.result (places_of c.args.env.now)) (plain c.args.guard.now.value)) (taken pick (bodies_within pick c.args.count) (path ++ Bound c.tuple-item.result ∷ []) w (put_tuple c.args.binders.now c.tuple-item.result (places_of c.args.env.now)) (plain_rule c.args.body.now.value) (g.C.Chooser.words c.loop-tuple.chooser)) (g.C.Chooser.words c.loop-tuple.chooser)) (λ v ws. each (λ vs ws. guarded c.args.place (val w (put_tuple c.args.binders.now vs (places_of c.args.env.now)) (plain c.args.guard.now.value)) (taken pick (bodies_within pick c.args.count) (path ++ Bound vs ∷ []) w (put_tuple c.args.binders.now vs (places_of c.args.env.now)) (plain_rule c.args.body.now.value) ws) ws) (drop (c.loop-tuple.tuple-index + 1) c.slice-tuple-items.result.now) (set.union c.loop-tuple.all v) ws) (subst (λ vs. Halts c.in_err-updates.field-0.0 (g.C.Chooser.words c.fire_at.new.chooser) (guarded c.args.place (val w (put_tuple c.args.binders.now vs (places_of c.args.env.now)) (plain c.args.guard.now.value)) (taken pick (bodies_within pick c.args.count) (path ++ Bound vs ∷ []) w (put_tuple c.args.binders.now vs (places_of c.args.env.now)) (plain_rule c.args.body.now.value) (g.C.Chooser.words c.loop-tuple.chooser)) (g.C.Chooser.words c.loop-tuple.chooser))) c.slice.ensures (c.in_err-updates.ensures.fires pick path (c.loop-tuple.invariant.1 pick path is)))));
      stays = let p = err_from_is_err_and c.from_residual-in_err-updates.result c.from_residual-in_err-updates.ensures.1 in ok_err (λ _. Stay (g.C.Chooser.ways c.args.chooser.now) (g.C.Chooser.ways c.fire_at.new.chooser)) _ c.from_residual-in_err-updates.result p.1;
      kept = c.in_err-updates.ensures.kept ∙ c.loop-tuple.invariant.2;
    }

pub fire_forall-loop-tuple-preserved : goal.fire_forall-loop-tuple-preserved
fire_forall-loop-tuple-preserved g t c =
    let w = world_in (machine_of c.args.world.now.model.now) (g.S.Store.state c.args.world.now.store.now) c.args.world.now.input.now in (
      λ pick path is. (c.loop-tuple.invariant.0 pick path is ∙ each-drop (λ vs ws. guarded c.args.place (val w (put_tuple c.args.binders.now vs (places_of c.args.env.now)) (plain c.args.guard.now.value)) (taken pick (bodies_within pick c.args.count) (path ++ Bound vs ∷ []) w (put_tuple c.args.binders.now vs (places_of c.args.env.now)) (plain_rule c.args.body.now.value) ws) ws) c.slice-tuple-items.result.now c.loop-tuple.tuple-index c.tuple-item.result c.loop-tuple.all (g.C.Chooser.words c.loop-tuple.chooser) c.loop-tuple-test.true c.tuple-item.is) ∙ ap (λ a. and_then a (λ v ws. each (λ vs ws. guarded c.args.place (val w (put_tuple c.args.binders.now vs (places_of c.args.env.now)) (plain c.args.guard.now.value)) (taken pick (bodies_within pick c.args.count) (path ++ Bound vs ∷ []) w (put_tuple c.args.binders.now vs (places_of c.args.env.now)) (plain_rule c.args.body.now.value) ws) ws) (drop (c.loop-tuple.tuple-index + 1) c.slice-tuple-items.result.now) (set.union c.loop-tuple.all v) ws)) (ap (λ vs. guarded c.args.place (val w (put_tuple c.args.binders.now vs (places_of c.args.env.now)) (plain c.args.guard.now.value)) (taken pick (bodies_within pick c.args.count) (path ++ Bound vs ∷ []) w (put_tuple c.args.binders.now vs (places_of c.args.env.now)) (plain_rule c.args.body.now.value) (g.C.Chooser.words c.loop-tuple.chooser)) (g.C.Chooser.words c.loop-tuple.chooser)) (sym c.slice.ensures) ∙ c.in_ok-updates.ensures.fires pick path (c.loop-tuple.invariant.1 pick path is)) ∙ ap (λ u. each (λ vs ws. guarded c.args.place (val w (put_tuple c.args.binders.now vs (places_of c.args.env.now)) (plain c.args.guard.now.value)) (taken pick (bodies_within pick c.args.count) (path ++ Bound vs ∷ []) w (put_tuple c.args.binders.now vs (places_of c.args.env.now)) (plain_rule c.args.body.now.value) ws) ws) (drop (c.loop-tuple.tuple-index + 1) c.slice-tuple-items.result.now) u (g.C.Chooser.words c.fire_at.new.chooser)) (sym c.in_ok-join.ensures),
      λ pick path is. c.in_ok-updates.ensures.stays pick path (c.loop-tuple.invariant.1 pick path is),
      c.in_ok-updates.ensures.kept ∙ c.loop-tuple.invariant.2,
    )

pub fire_forall-loop-tuple-init : goal.fire_forall-loop-tuple-init
fire_forall-loop-tuple-init g t c =
    let w = world_in (machine_of c.args.world.now.model.now) (g.S.Store.state c.args.world.now.store.now) c.args.world.now.input.now in
    (λ pick path is. ap (λ ts. each (λ vs ws. guarded c.args.place (val w (put_tuple c.args.binders.now vs (places_of c.args.env.now)) (plain c.args.guard.now.value)) (taken pick (bodies_within pick c.args.count) (path ++ Bound vs ∷ []) w (put_tuple c.args.binders.now vs (places_of c.args.env.now)) (plain_rule c.args.body.now.value) ws) ws) ts set.empty (g.C.Chooser.words c.args.chooser.now)) (sym (c.slice-tuple-items.ensures ∙ c.in_ok-tuples.ensures ∙ ap (λ s. tuples_of s c.args.binders.now) c.signature.ensures)) ∙ ap (λ u. each (λ vs ws. guarded c.args.place (val w (put_tuple c.args.binders.now vs (places_of c.args.env.now)) (plain c.args.guard.now.value)) (taken pick (bodies_within pick c.args.count) (path ++ Bound vs ∷ []) w (put_tuple c.args.binders.now vs (places_of c.args.env.now)) (plain_rule c.args.body.now.value) ws) ws) c.slice-tuple-items.result.now u (g.C.Chooser.words c.args.chooser.now)) (sym c.new-all.ensures), λ pick path is. is, refl)

pub fire_forall-returns : goal.fire_forall-returns
fire_forall-returns g t c =
    let w = world_in (machine_of c.args.world.now.model.now) (g.S.Store.state c.args.world.now.store.now) c.args.world.now.input.now in
    record {
      fires = λ pick path is. c.loop-tuple.invariant.0 pick path is ∙ ap (λ ts. each (λ vs ws. guarded c.args.place (val w (put_tuple c.args.binders.now vs (places_of c.args.env.now)) (plain c.args.guard.now.value)) (taken pick (bodies_within pick c.args.count) (path ++ Bound vs ∷ []) w (put_tuple c.args.binders.now vs (places_of c.args.env.now)) (plain_rule c.args.body.now.value) ws) ws) ts c.loop-tuple.all (g.C.Chooser.words c.loop-tuple.chooser)) (past c.slice-tuple-items.result.now c.loop-tuple.tuple-index c.loop-tuple-test.false);
      stays = c.loop-tuple.invariant.1;
      kept = c.loop-tuple.invariant.2;
    }

pub fire_at-fire_guarded-requires : goal.fire_at-fire_guarded-requires
fire_at-fire_guarded-requires g t c =
    let w = world_in (machine_of c.args.world.now.model.now) (g.S.Store.state c.args.world.now.store.now) c.args.world.now.input.now in
    λ κs h. (omega arith, (h.0, (h.1, (subst (λ e. IsEverExact (machine_of c.args.world.now.model.now) c.args.world.now.input.now e (plain c.args.guard.now.value)) (sym c.in_ok-inner.ensures.places) c.requires.guard, subst (λ e. IsSoundIn (machine_of c.args.world.now.model.now) c.args.world.now.input.now (sound_within (machine_of c.args.world.now.model.now) c.args.world.now.input.now c.args.count) e (plain_rule c.args.body.now.value)) (sym c.in_ok-inner.ensures.places) c.requires.body))))

pub fire_at-returns : goal.fire_at-returns
fire_at-returns g t c =
    let w = world_in (machine_of c.args.world.now.model.now) (g.S.Store.state c.args.world.now.store.now) c.args.world.now.input.now in
    record {
      fires = λ pick path is. subst (λ e. Fires c.fire_guarded.result (g.C.Chooser.words c.fire_guarded.new.chooser) (guarded c.args.place (val w e (plain c.args.guard.now.value)) (taken pick (bodies_within pick c.args.count) (path ++ Bound c.args.values.now ∷ []) w e (plain_rule c.args.body.now.value) (g.C.Chooser.words c.args.chooser.now)) (g.C.Chooser.words c.args.chooser.now))) c.in_ok-inner.ensures.places (c.fire_guarded.ensures.fires pick path is);
      stays = c.fire_guarded.ensures.stays;
      kept = c.fire_guarded.ensures.kept;
    }

pub fire_guarded-fire_part-requires : goal.fire_guarded-fire_part-requires
fire_guarded-fire_part-requires g t c =
    let w = world_in (machine_of c.args.world.now.model.now) (g.S.Store.state c.args.world.now.store.now) c.args.world.now.input.now in
    λ κs h. (omega arith, (h.0, (h.1, c.requires.body)))

pub fire_guarded-returns-in_err-holds : goal.fire_guarded-returns-in_err-holds
fire_guarded-returns-in_err-holds g t c =
    let w = world_in (machine_of c.args.world.now.model.now) (g.S.Store.state c.args.world.now.store.now) c.args.world.now.input.now in
    record {
      fires = λ pick path is. let p = err_from_is_err_and c.from_residual.result c.from_residual.ensures.1 in rw (p.1, p.2) (halts-guard c.in_err-holds.field-0.0 c.args.place (val w (places_of c.args.env.now) (plain c.args.guard.now.value)) (g.C.Chooser.words c.args.chooser.now) (taken pick (bodies_within pick c.args.count) (path ++ Bound c.args.values.now ∷ []) w (places_of c.args.env.now) (plain_rule c.args.body.now.value) (g.C.Chooser.words c.args.chooser.now)) (Yields set.empty (g.C.Chooser.words c.args.chooser.now)) (c.in_err-holds.ensures (g.C.Chooser.words c.args.chooser.now)));
      stays = ok_any c.from_residual.result (λ pick path is. is);
      kept = refl;
    }

pub fire_guarded-returns-then-holds : goal.fire_guarded-returns-then-holds
fire_guarded-returns-then-holds g t c =
    let w = world_in (machine_of c.args.world.now.model.now) (g.S.Store.state c.args.world.now.store.now) c.args.world.now.input.now in
    record {
      fires = λ pick path is. subst (Fires c.fire_part.result (g.C.Chooser.words c.fire_part.new.chooser)) (sym (ap (λ o. evaluated o (g.C.Chooser.words c.args.chooser.now) (λ v. branch v (taken pick (bodies_within pick c.args.count) (path ++ Bound c.args.values.now ∷ []) w (places_of c.args.env.now) (plain_rule c.args.body.now.value) (g.C.Chooser.words c.args.chooser.now)) (Yields set.empty (g.C.Chooser.words c.args.chooser.now)) (Faults (UndefGuard c.args.place) (g.C.Chooser.words c.args.chooser.now)))) (guard-is c.args.place (val w (places_of c.args.env.now) (plain c.args.guard.now.value)) (g.C.Chooser.words c.args.chooser.now) (g.C.Chooser.words c.args.chooser.now) c.in_ok-holds.holds (c.in_ok-holds.ensures (g.C.Chooser.words c.args.chooser.now)) ∙ ap (λ b. Gives (Bool b)) c.if-holds.true))) (c.fire_part.ensures.fires pick path is);
      stays = c.fire_part.ensures.stays;
      kept = c.fire_part.ensures.kept;
    }

pub fire_guarded-returns-else-holds : goal.fire_guarded-returns-else-holds
fire_guarded-returns-else-holds g t c =
    let w = world_in (machine_of c.args.world.now.model.now) (g.S.Store.state c.args.world.now.store.now) c.args.world.now.input.now in
    record {
      fires = λ pick path is. (ap (λ o. evaluated o (g.C.Chooser.words c.args.chooser.now) (λ v. branch v (taken pick (bodies_within pick c.args.count) (path ++ Bound c.args.values.now ∷ []) w (places_of c.args.env.now) (plain_rule c.args.body.now.value) (g.C.Chooser.words c.args.chooser.now)) (Yields set.empty (g.C.Chooser.words c.args.chooser.now)) (Faults (UndefGuard c.args.place) (g.C.Chooser.words c.args.chooser.now)))) (guard-is c.args.place (val w (places_of c.args.env.now) (plain c.args.guard.now.value)) (g.C.Chooser.words c.args.chooser.now) (g.C.Chooser.words c.args.chooser.now) c.in_ok-holds.holds (c.in_ok-holds.ensures (g.C.Chooser.words c.args.chooser.now)) ∙ ap (λ b. Gives (Bool b)) c.if-holds.false)) ∙ ap (λ u. Yields u (g.C.Chooser.words c.args.chooser.now)) (sym c.new.ensures);
      stays = λ pick path is. is;
      kept = refl;
    }

pub fire_call-fire_part-requires : goal.fire_call-fire_part-requires
fire_call-fire_part-requires g t c =
    let w = world_in (machine_of c.args.world.now.model.now) (g.S.Store.state c.args.world.now.store.now) c.args.world.now.input.now in
    let few : 4 + 8 * parts (plain_rule c.in-Some.called.now.body.value) ≤ macro_rooms (machine_of c.args.world.now.model.now).rules = macro-room (machine_of c.args.world.now.model.now).rules c.args.number (macro_by c.in-Some.called.now) c.in-Some.ensures in
    let less = less_work c.args.count (macro_rooms (machine_of c.args.world.now.model.now).rules) (8 * parts (plain_rule c.in-Some.called.now.body.value) + 2) 3 (omega arith) (omega arith) in
    λ κs h. (omega arith, (h.0, (h.1, subst (λ e. IsSoundIn (machine_of c.args.world.now.model.now) c.args.world.now.input.now (sound_within (machine_of c.args.world.now.model.now) c.args.world.now.input.now (c.args.count - 1)) e (plain_rule c.in-Some.called.now.body.value)) (sym (c.in_ok-inner-in-Some.ensures ∙ ap (λ ps. stand_for ps (places_of c.args.env.now) (plain_all c.args.actuals.now)) c.slice.ensures)) (sound-enter (machine_of c.args.world.now.model.now) c.args.world.now.input.now c.args.count c.args.number (macro_by c.in-Some.called.now) (places_of c.args.env.now) (plain_all c.args.actuals.now) (let some : 0 < c.args.count = omega arith in some) c.in-Some.ensures c.requires))))

pub fire_call-returns-in_ok-inner-in-Some : goal.fire_call-returns-in_ok-inner-in-Some
fire_call-returns-in_ok-inner-in-Some g t c =
    let w = world_in (machine_of c.args.world.now.model.now) (g.S.Store.state c.args.world.now.store.now) c.args.world.now.input.now in
    record {
      fires = λ pick path is. subst (Fires c.fire_part.result (g.C.Chooser.words c.fire_part.new.chooser)) (sym (bodies-enter pick c.args.count c.args.number (path ++ Called c.args.number ∷ []) (macro_by c.in-Some.called.now) w (places_of c.args.env.now) (plain_all c.args.actuals.now) (g.C.Chooser.words c.args.chooser.now) (let some : 0 < c.args.count = omega arith in some) c.in-Some.ensures)) (subst (λ e. Fires c.fire_part.result (g.C.Chooser.words c.fire_part.new.chooser) (taken pick (bodies_within pick (c.args.count - 1)) (path ++ Called c.args.number ∷ []) w e (plain_rule c.in-Some.called.now.body.value) (g.C.Chooser.words c.args.chooser.now))) (c.in_ok-inner-in-Some.ensures ∙ ap (λ ps. stand_for ps (places_of c.args.env.now) (plain_all c.args.actuals.now)) c.slice.ensures) (c.fire_part.ensures.fires pick path is));
      stays = c.fire_part.ensures.stays;
      kept = c.fire_part.ensures.kept;
    }

pub fire_call-returns-in-None : goal.fire_call-returns-in-None
fire_call-returns-in-None g t c =
    let w = world_in (machine_of c.args.world.now.model.now) (g.S.Store.state c.args.world.now.store.now) c.args.world.now.input.now in
    record {
      fires = λ pick path is. bodies-none pick c.args.count c.args.number (path ++ Called c.args.number ∷ []) w (places_of c.args.env.now) (plain_all c.args.actuals.now) (g.C.Chooser.words c.args.chooser.now) c.in-None.ensures ∙ ap (λ u. Yields u (g.C.Chooser.words c.args.chooser.now)) (sym c.new-in-None.ensures);
      stays = λ pick path is. is;
      kept = refl;
    }

pub fire_part-returns-in_err-updates : goal.fire_part-returns-in_err-updates
fire_part-returns-in_err-updates g t c =
    let w = world_in (machine_of c.args.world.now.model.now) (g.S.Store.state c.args.world.now.store.now) c.args.world.now.input.now in
    record {
      fires = λ pick path is.
          let p = err_from_is_err_and c.from_residual-in_err-updates.result c.from_residual-in_err-updates.ensures.1 in
          subst (λ ws. Fires c.from_residual-in_err-updates.result (g.C.Chooser.words c.fire_rule.new.chooser) (taken pick (bodies_within pick c.args.count) (path ++ step_of c.args.step ∷ []) w (places_of c.args.env.now) (plain_rule c.args.rule.now.value) ws)) c.in_ok-enter.ensures.words
          (rw (p.1, p.2) (c.in_err-updates.ensures.fires pick (path ++ step_of c.args.step ∷ []) (c.in_ok-enter.ensures.enters pick path is)));
      stays = let p = err_from_is_err_and c.from_residual-in_err-updates.result c.from_residual-in_err-updates.ensures.1 in ok_err (λ _. Stay (g.C.Chooser.ways c.args.chooser.now) (g.C.Chooser.ways c.fire_rule.new.chooser)) _ c.from_residual-in_err-updates.result p.1;
      kept = c.in_err-updates.ensures.kept ∙ c.in_ok-enter.ensures.kept;
    }

pub fire_part-returns : goal.fire_part-returns
fire_part-returns g t c =
    let w = world_in (machine_of c.args.world.now.model.now) (g.S.Store.state c.args.world.now.store.now) c.args.world.now.input.now in
    record {
      fires = λ pick path is.
          subst (λ ws. taken pick (bodies_within pick c.args.count) (path ++ step_of c.args.step ∷ []) w (places_of c.args.env.now) (plain_rule c.args.rule.now.value) ws ≡ Yields c.in_ok-updates.updates (g.C.Chooser.words c.leave.new.self)) c.in_ok-enter.ensures.words
          (c.in_ok-updates.ensures.fires pick (path ++ step_of c.args.step ∷ []) (c.in_ok-enter.ensures.enters pick path is) ∙ ap (λ ws. Yields c.in_ok-updates.updates ws) (sym c.leave.ensures.words));
      stays = λ pick path is. c.leave.ensures.leaves pick path (step_of c.args.step) (c.in_ok-updates.ensures.stays pick (path ++ step_of c.args.step ∷ []) (c.in_ok-enter.ensures.enters pick path is));
      kept = c.leave.ensures.kept ∙ c.in_ok-updates.ensures.kept ∙ c.in_ok-enter.ensures.kept;
    }
