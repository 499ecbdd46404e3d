-- What holds in a well-formed model.
use Rattle.std.proofs.Common.{◌≡◌, ℕ, suc, ◌<◌, true, false, if◌then◌else◌, List, [], ◌∷◌, length, nat_eq, slice_get, slice_index_or, Option, Some, All, refl, sym, subst, T, eqb→eq}
use Rattle.std.proofs.lemmas.Option.{slice_get-get_or, slice_get_within}
use Rattle.asm_sign.specs.declared.function.Function.{Function}
use Rattle.asm_node.specs.Machine.{Machine, Definition, definition_of}
use Rattle.asm_node.specs.Ranges.{AreParameters, AreDefinitionsRanged}
use Rattle.asm_node.specs.WellFormed.{IsDefinition, IsWellFormed, is_defined, may_read}

-- an item of a list of such items
pub all_at : {A : Type 0} (P : A → Type 0) (xs : List A) (k : ℕ) (x : A) → All P xs → slice_get xs k ≡ Some x → P x
all_at P xs k x all is =
    let within : k < length xs = slice_get_within xs k x is in
    let here = slice_get-get_or xs k x within in
    let same : slice_index_or xs k x ≡ x = cc (here, is) in
    subst P same (all k x within)

-- a definition that is found is one of the list
pub definition_found : (ds : List Definition) (f : ℕ) (d : Definition) → definition_of ds f ≡ Some d → (k : ℕ) × (slice_get ds k ≡ Some d) × (d.function ≡ f)
definition_found [] f d is = absurd (cc (is))
definition_found (x ∷ ds) f d is =
    elim (nat_eq x.function f) as (λ b. nat_eq x.function f ≡ b → (◌≡◌ {A = Option Definition} (if b then Some x else definition_of ds f) (Some d)) → (k : ℕ) × (slice_get (x ∷ ds) k ≡ Some d) × (d.function ≡ f)) [
      | true ↦ λ same at. (let e : x ≡ d = cc (at) in (0, at, subst (λ (y : Definition). y.function ≡ f) e (eqb→eq x.function f (subst T (sym same) tt))))
      | false ↦ λ _ at. (let found = definition_found ds f d at in (suc found.0, found.1, found.2))
    ] refl is

-- in no definition an interval is refused
pub definitions_ranged : (m : Machine) → IsWellFormed m → AreDefinitionsRanged m
definitions_ranged m well f function d is at =
    let found = definition_found m.definitions f d at in
    let k = all_at (IsDefinition m is_defined may_read) m.definitions found.0 d well.definitions found.1 in
    let same : k.function ≡ function = cc (k.is_function, is, found.2) in
    (k.ranges, subst (λ (g : Function). AreParameters m.signature d.parameters g.domains k.ranges) same k.are_ranges, k.ranged)
