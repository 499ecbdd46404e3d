use Rattle.std.proofs.Common.{None, sym, ap, ◌∙◌, subst, arith}
use Rattle.std.proofs.lemmas.List.{get_or_default}
use Rattle.std.specs.Option.{IsSome}
use Rattle.std.specs.FinMap.{get}
use Rattle.asm_state.specs.State.{State}
use Rattle.asm_state.proofs.Held.{get-held, within, unwrapped}
use Rattle.asm_state.proofs.map_store.MapStoreStore.get.Goals as goal

pub index-requires : goal.index-requires
index-requires c =
    let lt = within c.self.inside.entries.items c.args.slot (subst (λ (s : State). IsSome (get s c.args.slot)) (sym c.self.view_is) c.requires) in
    let n = c.self.inside.entries.ok.0 in
    omega (arith, lt, n)

pub returns : goal.returns
returns c =
    let xs = c.self.inside.entries.items in
    let some = subst (λ (s : State). IsSome (get s c.args.slot)) (sym c.self.view_is) c.requires in
    let lt = within xs c.args.slot some in
    let is = ap (λ (s : State). get s c.args.slot) (sym c.self.view_is) ∙ get-held xs c.args.slot ∙ get_or_default xs c.args.slot None c.index.result.now lt ∙ sym c.index.ensures in
    is ∙ unwrapped c.index.result.now _ _ (subst IsSome is c.requires) c.unwrap_or_default.ensures
