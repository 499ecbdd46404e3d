use Rattle.std.proofs.Common.{rules, ◌≡◌, true}
use Rattle.cnf_gate.specs.Built.{is_quiet}
use Rattle.cnf_search.specs.Lines.{known}
use Rattle.cnf_search.specs.Trails.{values}
use Rattle.cnf_search.proofs.Ending.{takes_fail, takes_choose}
use Rattle.cnf_search.proofs.Grown.{sound_grown, placed_grown}
use Rattle.cnf_search.proofs.walk.take_turn.Goals as goal

pub fail-requires-clause-sound : goal.fail-requires-clause-sound
fail-requires-clause-sound c = sound_grown c.args.walk.now c.settle.new.walk c.requires.walking.sound c.in_ok-conflict.ensures.moved

pub choose-requires-clause-sound : goal.choose-requires-clause-sound
choose-requires-clause-sound c = sound_grown c.args.walk.now c.settle.new.walk c.requires.walking.sound c.in_ok-conflict.ensures.moved

pub choose-requires-clause-placed : goal.choose-requires-clause-placed
choose-requires-clause-placed c = placed_grown c.args.groups.now c.args.walk.now c.settle.new.walk c.requires.walking.placed c.in_ok-conflict.ensures.moved

pub returns-in_ok-fail-in-Some-clause-takes : goal.returns-in_ok-fail-in-Some-clause-takes
returns-in_ok-fail-in-Some-clause-takes c =
    takes_fail c.args.groups.now c.args.walk.now c.settle.new.walk c.fail.new.walk c.in_ok-fail-in-Some.field-0 c.requires.guided c.requires.walking c.in_ok-conflict.ensures.moved c.in_ok-fail-in-Some.ensures

pub returns-in_ok-choose-in-None-clause-takes : goal.returns-in_ok-choose-in-None-clause-takes
returns-in_ok-choose-in-None-clause-takes c =
    let quiet : is_quiet (values c.settle.new.walk.trace.entries) (known c.settle.new.walk.checker) ≡ true = search rules in
    takes_choose c.args.groups.now c.args.walk.now c.settle.new.walk c.choose.new.walk c.in_ok-choose-in-None.field-0 c.requires.guided c.requires.walking c.in_ok-conflict.ensures.moved quiet c.in_ok-choose-in-None.ensures
