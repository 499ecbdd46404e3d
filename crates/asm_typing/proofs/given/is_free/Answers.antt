use Rattle.std.proofs.Common.{◌≡◌, slice_get, Option, Some, None, ap, ◌∙◌}
use Rattle.std.specs.Option.{option_map, unwrap_or}
use Rattle.asm_domain.specs.declared.value.Value.TheVariants.{Undef}
use Rattle.asm_sign.specs.declared.function.DeclaredDomain.{DeclaredDomain}
use Rattle.asm_node.specs.Machine.{element_named}
use Rattle.asm_node.specs.Values.{is_undef}
use Rattle.asm_typing.proofs.given.is_free.Goals as goal

pub returns-in-Some : goal.returns-in-Some
returns-in-Some c =
    let there : Some c.in-Some.declared.now ≡ slice_get c.args.domains.now c.args.codomain = c.in-Some.ensures.value in
    c.lacks.ensures ∙ ap (λ (o : Option DeclaredDomain). is_undef (unwrap_or (option_map (λ (d : DeclaredDomain). element_named c.args.name.now d.domain) o) Undef)) there

pub returns-in-None : goal.returns-in-None
returns-in-None c =
    let there : None ≡ slice_get c.args.domains.now c.args.codomain = c.in-None.ensures.value in
    ap (λ (o : Option DeclaredDomain). is_undef (unwrap_or (option_map (λ (d : DeclaredDomain). element_named c.args.name.now d.domain) o) Undef)) there
