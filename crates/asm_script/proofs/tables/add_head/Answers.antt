use Rattle.std.proofs.Common.{List, [], ◌∷◌, ◌++◌, map, Option, ap, ◌∙◌}
use Rattle.asm_node.specs.declared.term.Binder.{Binder}
use Rattle.asm_node.specs.declared.term_type.TermType.{TermType}
use Rattle.asm_node.specs.Types.{domain_type}
use Rattle.asm_faults.specs.Bodies.{RuleHead}
use Rattle.asm_script.proofs.tables.add_head.Goals as goal

pub returns : goal.returns
returns c =
    let head : List (Option TermType) → RuleHead = λ types. record { name = c.args.rule.now.name; types = types } in
    let type : Binder → Option TermType = λ b. domain_type c.args.known.now.domains b.domain in
    c.in_ok-all.ensures ∙ ap (λ (types : List (Option TermType)). c.args.heads ++ head types ∷ []) (c.in_ok-types.ensures ∙ ap (map type) c.slice.ensures)
