use Rattle.std.proofs.Common.{◌≡◌, List, Option, Some, None, sym, ap, ◌∙◌}
use Rattle.std.specs.Prelude.{not}
use Rattle.asm_domain.specs.Universe.{names_of}
use Rattle.asm_faults.specs.At.{Name}
use Rattle.asm_typing.proofs.BodyParts.{lacks_is, has_named}
use Rattle.asm_typing.proofs.given.lacks.Goals as goal

pub returns-in-Some : goal.returns-in-Some
returns-in-Some c =
    let names : Some c.in-Some.names.now ≡ names_of c.args.domain.now = c.in-Some.ensures.value in
    ap not (c.is_among.ensures ∙ ap (λ (xs : List Name). has_named (Some xs) c.args.name.now) c.slice.ensures ∙ ap (λ (o : Option (List Name)). has_named o c.args.name.now) names)
    ∙ sym (lacks_is c.args.domain.now c.args.name.now)

pub returns-in-None : goal.returns-in-None
returns-in-None c =
    let names : None ≡ names_of c.args.domain.now = c.in-None.ensures.value in
    ap (λ (o : Option (List Name)). not (has_named o c.args.name.now)) names ∙ sym (lacks_is c.args.domain.now c.args.name.now)
