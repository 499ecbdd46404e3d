use Rattle.std.proofs.Common.{◌≡◌, ℕ, ◌+◌, ◌<◌, List, length, Some, slice_get, option_map, sym, ap, ◌∙◌, arith}
use Rattle.std.specs.List.{position}
use Rattle.std.proofs.lemmas.List.Quantifiers.{position-Some}
use Rattle.asm_domain.specs.declared.value.Value.{Value}
use Rattle.asm_domain.specs.declared.value.Value.TheVariants.{Elem}
use Rattle.asm_domain.specs.Universe.{Universe, Truths, Numbers, Named, elements, names_of}
use Rattle.asm_domain.proofs.Elements.{length-named_from, get-named_from}
use Rattle.asm_node.specs.Machine.{same_name}
use Rattle.asm_bind.specs.Given.{named}
use Rattle.asm_bind.proofs.constant.named.Goals as goal

rank_within : (u : Universe) (name : List ℕ) (names : List (List ℕ)) (rank : ℕ) → Some names ≡ names_of u → position (same_name name) names ≡ Some rank → rank < length (elements u)
rank_within Truths name names rank are at = absurd (cc are)
rank_within (Numbers numbers) name names rank are at = absurd (cc are)
rank_within (Named number own) name names rank are at =
    let e : names ≡ own = cc in
    let within = position-Some (same_name name) names rank name at in
    omega (arith, within.0, ap length e, length-named_from number 0 own)

element_at_name : (u : Universe) (name : List ℕ) (names : List (List ℕ)) (rank : ℕ) (v : Value) → Some names ≡ names_of u → position (same_name name) names ≡ Some rank → slice_get (elements u) rank ≡ Some v → Some v ≡ named name u
element_at_name Truths name names rank v are at is = absurd (cc are)
element_at_name (Numbers numbers) name names rank v are at is = absurd (cc are)
element_at_name (Named number own) name names rank v are at is =
    let e : names ≡ own = cc in
    let within = position-Some (same_name name) names rank name at in
    let lt : rank < length own = omega (arith, within.0, ap length e) in
    let has : Some v ≡ Some (Elem number (0 + rank)) = sym is ∙ get-named_from number 0 own rank lt in
    let zero_rank : 0 + rank ≡ rank = omega arith in
    has ∙ ap (λ k. Some (Elem number k)) zero_rank ∙ sym (ap (option_map (λ k. Elem number k)) (ap (position (same_name name)) (sym e) ∙ at))

pub overflow_cast-rank : goal.overflow_cast-rank
overflow_cast-rank c =
    omega (arith, rank_within c.args.domain.now c.args.name.now c.in-Some.names.now c.in-Some-place_of.rank c.in-Some.ensures.value (ap (position (same_name c.args.name.now)) (sym c.slice.ensures) ∙ sym c.place_of.ensures ∙ c.in-Some-place_of.is), c.size-size.ensures.value, c.size-size.ensures.few)

pub element-requires : goal.element-requires
element-requires c =
    rank_within c.args.domain.now c.args.name.now c.in-Some.names.now c.in-Some-place_of.rank c.in-Some.ensures.value (ap (position (same_name c.args.name.now)) (sym c.slice.ensures) ∙ sym c.place_of.ensures ∙ c.in-Some-place_of.is)

pub returns-in-Some-place_of : goal.returns-in-Some-place_of
returns-in-Some-place_of c =
    element_at_name c.args.domain.now c.args.name.now c.in-Some.names.now c.in-Some-place_of.rank c.element.result c.in-Some.ensures.value (ap (position (same_name c.args.name.now)) (sym c.slice.ensures) ∙ sym c.place_of.ensures ∙ c.in-Some-place_of.is) c.element.ensures
