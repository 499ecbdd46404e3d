-- What operators give, and which values are elements of a domain.
use Rattle.std.specs.Prelude.{ℕ, ◌^◌, ℤ, pos, ◌+ℤ◌, ◌-ℤ◌, ◌*ℤ◌, neg_ℤ, unsigned_abs, int_lt, int_le, int_div, int_rem, Bool as Truth, true, false, not, ◌&&◌, ◌||◌, nat_eq, nat_le, if◌then◌else◌, List, [], ◌∷◌}
use Rattle.std.specs.Int.{int_min, int_max}
use Rattle.std.specs.Ordering.{int_eq}
use Rattle.std.specs.List.{list_any, list_all, count_by}
use Rattle.asm_domain.specs.declared.value.Value.{Value}
use Rattle.asm_domain.specs.declared.value.Value.TheVariants.{Undef, Bool, Int, Elem}
use Rattle.asm_sign.specs.declared.function.DeclaredDomain.{DeclaredDomain}
use Rattle.asm_sign.specs.Arguments.{elements_at}
use Rattle.asm_node.specs.declared.operator.Op.{Op}
use Rattle.asm_node.specs.declared.operator.Op.TheVariants as op
use Rattle.asm_node.specs.declared.operator.Quantifier.{Quantifier}
use Rattle.asm_node.specs.declared.operator.Quantifier.TheVariants.{Forall, Exist, ExistUnique}

abbrev pub iff : Truth → Truth → Truth
iff p q = if p then q else not q

-- two values are the same; `undef` is the same as itself alone
abbrev pub same : Value → Value → Truth
same Undef Undef = true
same (Bool p) (Bool q) = iff p q
same (Int x) (Int y) = int_eq x y
same (Elem d k) (Elem e l) = nat_eq d e && nat_eq k l
same _ _ = false

-- two lists have the same values at the same places
abbrev pub same_all : List Value → List Value → Truth
same_all [] [] = true
same_all (v ∷ vs) (w ∷ ws) = same v w && same_all vs ws
same_all _ _ = false

abbrev pub is_undef : Value → Truth
is_undef v = same v Undef

-- an operator on truth values; `undef` where an argument is
abbrev pub connective : (Truth → Truth → Truth) → Value → Value → Value
connective f (Bool p) (Bool q) = Bool (f p q)
connective f _ _ = Undef

-- a test of numbers; `undef` where an argument is
abbrev pub comparison : (ℤ → ℤ → Truth) → Value → Value → Value
comparison f (Int x) (Int y) = Bool (f x y)
comparison f _ _ = Undef

-- an operator on numbers; `undef` where an argument is
abbrev pub arithmetic : (ℤ → ℤ → ℤ) → Value → Value → Value
arithmetic f (Int x) (Int y) = Int (f x y)
arithmetic f _ _ = Undef

-- a division's quotient or rest; `undef` where an argument is, and where the divisor is 0
abbrev pub division : (ℤ → ℤ → ℤ) → Value → Value → Value
division f (Int x) (Int y) = if int_eq y (pos 0) then Undef else Int (f x y)
division f _ _ = Undef

abbrev pub negation : Value → Value
negation (Bool p) = Bool (not p)
negation _ = Undef

-- an operator on a number; `undef` where the argument is
abbrev pub of_number : (ℤ → ℤ) → Value → Value
of_number f (Int x) = Int (f x)
of_number f _ = Undef

-- what an operator gives of two arguments; `=` and `!=` tell `undef` from all elements
abbrev pub of_two : Op → Value → Value → Value
of_two op.Iff v w = connective iff v w
of_two op.Implies v w = connective (λ p q. not p || q) v w
of_two op.Or v w = connective ◌||◌ v w
of_two op.Xor v w = connective (λ p q. not (iff p q)) v w
of_two op.And v w = connective ◌&&◌ v w
of_two op.Equal v w = Bool (same v w)
of_two op.NotEqual v w = Bool (not (same v w))
of_two op.Less v w = comparison int_lt v w
of_two op.LessEqual v w = comparison int_le v w
of_two op.Greater v w = comparison (λ x y. int_lt y x) v w
of_two op.GreaterEqual v w = comparison (λ x y. int_le y x) v w
of_two op.Plus v w = arithmetic ◌+ℤ◌ v w
of_two op.Minus v w = arithmetic ◌-ℤ◌ v w
of_two op.Times v w = arithmetic ◌*ℤ◌ v w
of_two op.Mod v w = division int_rem v w
of_two op.Idiv v w = division int_div v w
of_two op.Min v w = arithmetic int_min v w
of_two op.Max v w = arithmetic int_max v w
of_two _ v w = Undef

-- what an operator gives of one argument
abbrev pub of_one : Op → Value → Value
of_one op.Not v = negation v
of_one op.Negate v = of_number neg_ℤ v
of_one op.Abs v = of_number (λ x. pos (unsigned_abs x)) v
of_one op.IsDefined v = Bool (not (is_undef v))
of_one op.IsUndefined v = Bool (is_undef v)
of_one _ v = Undef

-- what an operator gives of its arguments
abbrev pub result_of : Op → List Value → Value
result_of o (v ∷ []) = of_one o v
result_of o (v ∷ w ∷ []) = of_two o v w
result_of o _ = Undef

abbrev pub is_truth : Value → Truth
is_truth (Bool p) = true
is_truth _ = false

abbrev pub is_true : Value → Truth
is_true v = same v (Bool true)

-- whether all of the guard's values are true, at least one is, or exactly one is
abbrev pub decided : Quantifier → List Value → Truth
decided Forall guards = list_all is_true guards
decided Exist guards = list_any is_true guards
decided ExistUnique guards = nat_eq (count_by is_true guards) 1

-- the value of a quantifier whose guard has these values: `undef` where one of them is
abbrev pub quantified : Quantifier → List Value → Value
quantified q guards = if list_all is_truth guards then Bool (decided q guards) else Undef

-- the number that stands in the place of a domain's for the whole numbers from -2^31 to 2^31
abbrev pub whole : ℕ
whole = 4294967295

abbrev pub is_whole : Value → Truth
is_whole (Int z) = nat_le (unsigned_abs z) (2 ^ 31)
is_whole _ = false

-- the value is an element of the domain of this number
abbrev pub is_element : List DeclaredDomain → ℕ → Value → Truth
is_element domains d v = if nat_eq d whole then is_whole v else list_any (λ w. same w v) (elements_at domains d)

-- a value outside the domain reads as `undef`
abbrev pub within : List DeclaredDomain → ℕ → Value → Value
within domains d v = if is_element domains d v then v else Undef

-- the arguments are elements of the domains at their places, one of each
abbrev pub are_arguments : List DeclaredDomain → List ℕ → List Value → Truth
are_arguments domains [] [] = true
are_arguments domains (d ∷ ds) (v ∷ vs) = is_element domains d v && are_arguments domains ds vs
are_arguments domains _ _ = false
