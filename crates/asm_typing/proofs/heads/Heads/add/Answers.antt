use Rattle.std.proofs.Common.{◌≡◌, List, [], ◌∷◌, ◌++◌, Option, ap, ◌∙◌}
use Rattle.asm_node.specs.declared.term_type.TermType.{TermType}
use Rattle.asm_faults.specs.At.{Name}
use Rattle.asm_faults.specs.Bodies.{RuleHead}
use Rattle.asm_typing.specs.Heads.{heads_from}
use Rattle.asm_typing.proofs.Lookups.{heads_push}
use Rattle.asm_typing.proofs.heads.Heads.add.Goals as goal

pub returns : goal.returns
returns c =
    let view : heads_from c.self.inside.names c.self.inside.lists ≡ c.args.self = c.self.view_is in
    ap (λ (names : List Name). heads_from names c.push.new.self) c.in_ok-add.ensures.ok
    ∙ ap (λ (lists : List (List (Option TermType))). heads_from (c.self.inside.names ++ c.args.name.now ∷ []) lists) c.in_ok-push.ensures.ok
    ∙ heads_push c.self.inside.names c.self.inside.lists c.args.name.now c.args.types c.self.invariant
    ∙ ap (λ (heads : List RuleHead). heads ++ record { name = c.args.name.now; types = c.args.types } ∷ []) view
