use Rattle.std.proofs.Common.{◌≡◌, ℕ, Some, slice_get, List, if◌then◌else◌, sym, ap, ◌∙◌}
use Rattle.std.specs.List.{list_any}
use Rattle.std.proofs.lemmas.Bool.{ne_eqb}
use Rattle.asm_domain.specs.declared.value.Value.{Value}
use Rattle.asm_domain.specs.Universe.{elements}
use Rattle.asm_sign.specs.declared.function.DeclaredDomain.{DeclaredDomain}
use Rattle.asm_sign.specs.Arguments.{elements_of, elements_at}
use Rattle.asm_node.specs.Values.{same, whole, is_whole, is_element}
use Rattle.asm_node.proofs.Elements.{ranked}
use Rattle.asm_node.proofs.element.is_element.Goals as goal

declared_element : (domains : List DeclaredDomain) (d : ℕ) (v : Value) (declared : DeclaredDomain) → (d ≡ whole → ⊥) → Some declared ≡ slice_get domains d → is_element domains d v ≡ list_any (λ w. same w v) (elements declared.domain)
declared_element domains d v declared other is =
    ap (λ b. if b then is_whole v else list_any (λ w. same w v) (elements_at domains d)) (ne_eqb d whole other)
    ∙ ap (λ o. list_any (λ w. same w v) (elements_of o)) (sym is)

pub returns-in-Some : goal.returns-in-Some
returns-in-Some c =
    c.is_some.ensures ∙ ranked _ _ _ c.rank.ensures.rank
    ∙ sym (declared_element c.args.domains.now c.args.domain c.args.value c.in-Some.declared.now c.if-domain-eq-WHOLE.false c.in-Some.ensures.value)
