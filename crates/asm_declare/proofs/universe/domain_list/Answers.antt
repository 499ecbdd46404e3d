use Rattle.std.proofs.Common.{[], ◌∷◌, ◌++◌, None, ap, ◌∙◌}
use Rattle.asm_domain.specs.Universe.{Universe}
use Rattle.asm_sign.specs.declared.function.DeclaredDomain.{DeclaredDomain}
use Rattle.asm_declare.proofs.Building.{whole_list}
use Rattle.asm_declare.proofs.universe.domain_list.Goals as goal

pub returns : goal.returns
returns c =
    whole_list c.args.units.now c.slice.result.now c.new-list.result _ _ c.slice.ensures c.new-list.ensures ((c.in_ok-push).ensures.ok ∙ ap (λ (u : Universe). let d : DeclaredDomain = record { name = None; domain = u } in c.new-list.result ++ d ∷ []) c.boolean.ensures)
    c.in_ok-all_domains.ensures
