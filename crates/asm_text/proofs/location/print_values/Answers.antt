use Rattle.std.proofs.Common.{arith}
use Rattle.std.specs.Prelude.{map}
use Rattle.asm_domain.specs.declared.value.Value.TheVariants.{Undef}
use Rattle.asm_text.specs.Texts.{value_text}
use Rattle.asm_text.proofs.Pieces.{ends, done, items_begin, items_more, items_cut, items_end}
use Rattle.asm_text.proofs.location.print_values.Goals as goal

pub items-init : goal.items-init
items-init c = items_begin c.args.out.now (map (value_text c.args.signature.now) c.args.values.now)

pub items-preserved : goal.items-preserved
items-preserved c = items_more c.args.signature.now c.args.values.now c.items.index Undef _ _ _ (omega arith) c.items.invariant c.in_ok-print_item.ensures.ok

pub returns-in_err-print_item : goal.returns-in_err-print_item
returns-in_err-print_item c = ends _ _ _ _ _ c.from_residual.ensures.1 (items_cut c.args.signature.now c.args.values.now c.items.index Undef _ _ _ (omega arith) c.items.invariant c.in_err-print_item.ensures.err)

pub returns : goal.returns
returns c = done _ _ _ _ _ c.items.invariant (items_end c.args.signature.now c.args.values.now c.items.index (omega arith))
