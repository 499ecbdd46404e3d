-- Kinds of functions.
use Rattle.std.specs.Prelude.{Bool, true, false}
use Rattle.asm_sign.specs.declared.function.FunKind.{FunKind}
use Rattle.asm_sign.specs.declared.function.FunKind.TheVariants.{Static, Derived, Controlled, Out, Shared, Monitored}

-- a function of this kind has locations
abbrev pub is_dynamic : FunKind → Bool
is_dynamic Static = false
is_dynamic Derived = false
is_dynamic Controlled = true
is_dynamic Out = true
is_dynamic Shared = true
is_dynamic Monitored = true

-- a state keeps the values of its locations
abbrev pub is_kept : FunKind → Bool
is_kept Static = false
is_kept Derived = false
is_kept Controlled = true
is_kept Out = true
is_kept Shared = true
is_kept Monitored = false
