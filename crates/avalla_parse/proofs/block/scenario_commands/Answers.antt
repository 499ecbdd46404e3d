use Rattle.std.proofs.Common.{◌+◌, ◌-◌, arith, sym, ◌∙◌, length, true}
use Rattle.asm_grammar.proofs.Loops.{front_nil, turn_gives}
use Rattle.asm_grammar.specs.Grammar.{many_at, firsts}
use Rattle.asm_tree.specs.Language.{models}
use Rattle.asm_tree.specs.Scripts as scripts
use Rattle.asm_body.specs.Reading.{read_in}
use Rattle.asm_body.specs.Seen.{all_seen}
use Rattle.asm_body.proofs.Opening.{more_is}
use Rattle.avalla_parse.proofs.block.scenario_commands.Goals as goal

pub items-init : goal.items-init
unfolding scripts.scenario_commands
items-init c =
    rw c.new-items.ensures
    (front_nil models (many_at models (read_in c.args.levels true scripts.scenario_command_at) (firsts models scripts.scenario_command_at) (length c.args.tokens.now - 0) (all_seen c.args.tokens.now)) ∙ sym (more_is c.args.levels true scripts.scenario_command_at c.args.tokens.now))

pub items-preserved : goal.items-preserved
items-preserved c =
    rw (c.in_ok-push.ensures.ok)
    (turn_gives models (read_in c.args.levels true scripts.scenario_command_at) (firsts models scripts.scenario_command_at) (read_in c.args.levels true scripts.scenario_commands (all_seen c.args.tokens.now)) (length c.args.tokens.now - c.items._turn) (length c.args.tokens.now - (c.items._turn + 1))
    c.items.items (all_seen c.items.rest.now) c.items.invariant (omega arith) (sym c.begins_block_or_command.ensures ∙ c.if-not-begins_block_or_command.false) c.in_ok-item.item (all_seen c.in_ok-item.after.now) c.in_ok-item.ensures)
