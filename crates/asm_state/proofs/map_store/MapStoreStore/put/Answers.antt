use Rattle.std.proofs.Common.{sym, ap, ◌∙◌, subst, arith}
use Rattle.std.specs.Option.{IsSome}
use Rattle.std.specs.FinMap.{get, insert}
use Rattle.asm_state.specs.State.{State}
use Rattle.asm_state.proofs.Held.{within, held-set}
use Rattle.asm_state.proofs.map_store.MapStoreStore.put.Goals as goal

pub index_mut-requires : goal.index_mut-requires
index_mut-requires c =
    let lt = within c.self.inside.entries.items c.args.slot (subst (λ (s : State). IsSome (get s c.args.slot)) (sym c.self.view_is) c.requires) in
    let n = c.self.inside.entries.ok.0 in
    omega (arith, lt, n)

pub returns : goal.returns
returns c =
    let lt = within c.self.inside.entries.items c.args.slot (subst (λ (s : State). IsSome (get s c.args.slot)) (sym c.self.view_is) c.requires) in
    held-set c.self.inside.entries.items c.args.slot c.args.value lt ∙ ap (λ (s : State). insert s c.args.slot c.args.value) c.self.view_is
