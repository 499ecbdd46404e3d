-- The first element of a domain tells the type of all.
use Rattle.std.proofs.Common.{◌≡◌, [], ◌∷◌, slice_get, Some, refl, subst}
use Rattle.asm_domain.specs.declared.value.Value.{Value}
use Rattle.asm_domain.specs.declared.value.Value.TheVariants.{Undef, Bool, Int, Elem}
use Rattle.asm_domain.specs.Universe.{Universe, Truths, Numbers, Named, elements}
use Rattle.asm_node.specs.declared.term_type.TermType.{TermType}
use Rattle.asm_node.specs.declared.term_type.TermType.TheVariants.{Boolean, Integer, ElementOf}
use Rattle.asm_node.specs.Types.{type_of}

-- the type that a value tells
abbrev pub Tells : Value → TermType → Type 0
Tells Undef type = ⊥
Tells (Bool b) type = Boolean ≡ type
Tells (Int z) type = Integer ≡ type
Tells (Elem d k) type = ElementOf d ≡ type

told : (u : Value) (v : Value) (type : TermType) → Some u ≡ Some v → Tells u type → Tells v type
told u v type e t = let same : u ≡ v = cc in subst (λ (w : Value). Tells w type) same t

pub first_tells : (u : Universe) (v : Value) → slice_get (elements u) 0 ≡ Some v → Tells v (type_of u)
first_tells Truths v e = told _ v _ e refl
first_tells (Numbers []) v e = absurd (cc (e))
first_tells (Numbers (x ∷ xs)) v e = told _ v _ e refl
first_tells (Named n []) v e = absurd (cc (e))
first_tells (Named n (x ∷ xs)) v e = told _ v _ e refl
