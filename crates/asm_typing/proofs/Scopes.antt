-- Variables that are bound.
use Rattle.std.proofs.Common.{◌≡◌, ℕ, suc, ◌+◌, ◌<◌, Bool as Truth, true, false, List, length, drop, get_or, Option, Some, None, refl, ap, ◌∙◌, drop-cons, add-one, if◌then◌else◌}
use Rattle.std.specs.Prelude.{map, bytes_eq}
use Rattle.asm_node.specs.declared.term_type.TermType.{TermType}
use Rattle.asm_faults.specs.Terms.{Scope, or_bound, bound_type}
use Rattle.asm_typing.specs.Bound.{bound_of}
use Rattle.asm_typing.specs.declared.scope.Variable.{Variable}

or_bound-none : (a : Option (Option TermType)) → or_bound a None ≡ a
or_bound-none None = refl
or_bound-none (Some t) = refl

or_bound-assoc : (a b c : Option (Option TermType)) → or_bound (or_bound a b) c ≡ or_bound a (or_bound b c)
or_bound-assoc None b c = refl
or_bound-assoc (Some t) b c = refl

chosen : (t : Truth) (k : Option TermType) (found : Option (Option TermType)) → or_bound (if t then Some k else None) found ≡ (if t then Some k else found)
chosen t k found = elim t as (λ u. or_bound (if u then Some k else None) found ≡ (if u then Some k else found)) [ true ↦ refl | false ↦ refl ]

pub found_first : (scope : Scope) (x : List ℕ) → or_bound (bound_type scope x) None ≡ bound_type scope x
found_first scope x = or_bound-none (bound_type scope x)

-- what is found so far counts where none of the variables that are left has the name
pub found_step : (vs : List Variable) (i : ℕ) (d : Variable) (x : List ℕ) (found : Option (Option TermType)) → i < length vs
    → or_bound (bound_type (map bound_of (drop i vs)) x) found ≡ or_bound (bound_type (map bound_of (drop (i + 1) vs)) x) (if bytes_eq (get_or vs i d).name x then Some (get_or vs i d).kind else found)
found_step vs i d x found h =
    rw (add-one, drop-cons vs i d)
    (or_bound-assoc (bound_type (map bound_of (drop (suc i) vs)) x) (if bytes_eq (get_or vs i d).name x then Some (get_or vs i d).kind else None) found
    ∙ ap (or_bound (bound_type (map bound_of (drop (suc i) vs)) x)) (chosen (bytes_eq (get_or vs i d).name x) (get_or vs i d).kind found))
