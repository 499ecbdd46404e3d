use Rattle.std.proofs.Common.{◌≡◌, ℕ, List, Option, sym, ap, ◌∙◌}
use Rattle.std.specs.Option.{option_map}
use Rattle.asm_faults.specs.Bodies.{RuleHead, head_named}
use Rattle.asm_typing.specs.Heads.{heads_from}
use Rattle.asm_typing.proofs.Lookups.{at, head_at}
use Rattle.asm_typing.proofs.heads.Heads.find.Goals as goal

pub returns-in-Some : goal.returns-in-Some
returns-in-Some c =
    let view : heads_from c.self.inside.names c.self.inside.lists ≡ c.args.self.now = c.self.view_is in
    c.item.ensures.value
    ∙ ap (λ (k : Option ℕ). at k c.self.inside.lists) (sym c.in-Some.is ∙ c.find.ensures)
    ∙ sym (head_at c.self.inside.names c.self.inside.lists c.args.name.now c.self.invariant)
    ∙ ap (λ (heads : List RuleHead). option_map (λ (h : RuleHead). h.types) (head_named heads c.args.name.now)) view

pub returns-in-None : goal.returns-in-None
returns-in-None c =
    let view : heads_from c.self.inside.names c.self.inside.lists ≡ c.args.self.now = c.self.view_is in
    ap (λ (k : Option ℕ). at k c.self.inside.lists) (sym c.in-None.is ∙ c.find.ensures)
    ∙ sym (head_at c.self.inside.names c.self.inside.lists c.args.name.now c.self.invariant)
    ∙ ap (λ (heads : List RuleHead). option_map (λ (h : RuleHead). h.types) (head_named heads c.args.name.now)) view
