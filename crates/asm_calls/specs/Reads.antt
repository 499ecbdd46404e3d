-- Which functions may not be read, and which may not read them.
use Rattle.std.specs.Prelude.{Bool as Truth, false, true, Option, Some, None}
use Rattle.asm_sign.specs.declared.function.Function.{Function}
use Rattle.asm_sign.specs.declared.function.FunKind.{FunKind}
use Rattle.asm_sign.specs.declared.function.FunKind.TheVariants.{Static, Derived, Controlled, Out, Shared, Monitored}
use Rattle.asm_sign.specs.Kind.{is_dynamic}
use Rattle.asm_node.specs.Machine.{is_monitored}
use Rattle.asm_calls.specs.declared.caller.Caller.{Caller}
use Rattle.asm_calls.specs.declared.read.Reading.{Reading}
use Rattle.asm_calls.specs.declared.read.Reading.TheVariants as reading

abbrev pub is_static_kind : FunKind → Truth
is_static_kind Static = true
is_static_kind Derived = false
is_static_kind Controlled = false
is_static_kind Out = false
is_static_kind Shared = false
is_static_kind Monitored = false

-- a function that is there is static
abbrev pub is_static : Option Function → Truth
is_static None = false
is_static (Some f) = is_static_kind f.kind

-- the functions whose reads are looked for
abbrev pub kinds_of : Reading → FunKind → Truth
kinds_of reading.Dynamic = is_dynamic
kinds_of reading.Monitored = is_monitored

abbrev pub reads_itself : Reading → Caller → Truth
reads_itself reading.Dynamic c = c.dynamic
reads_itself reading.Monitored c = c.monitored
