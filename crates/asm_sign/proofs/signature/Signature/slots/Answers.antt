use Rattle.std.proofs.Common.{◌<◌, length, get_or, ap, ◌∙◌, arith}
use Rattle.std.proofs.lemmas.List.{get_or_default}
use Rattle.asm_sign.specs.Vocabulary.{locations}
use Rattle.asm_sign.proofs.Slots.{first_all}
use Rattle.asm_sign.proofs.signature.Signature.slots.Goals as goal

pub returns : goal.returns
returns c =
    let are = c.self.invariant.are_firsts in
    let all = are.first_is (length c.self.inside.functions) (omega arith) ∙ first_all c.self.inside.domains c.self.inside.functions in
    let few = c.self.invariant.few in
    let len = are.length_is in
    let same = c.len.ensures in
    let lt : c.len.result < length c.self.inside.firsts.items = omega (arith, len, same) in
    let read = c.index.ensures ∙ get_or_default c.self.inside.firsts.items c.len.result c.index.result.now 0 lt ∙ ap (λ n. get_or c.self.inside.firsts.items n 0) same in
    record { value = read ∙ all ∙ ap (λ v. length (locations v)) c.self.view_is; few = omega (arith, few, read, all) }
