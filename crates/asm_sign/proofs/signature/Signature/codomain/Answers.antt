use Rattle.std.proofs.Common.{◌<◌, List, ℕ, length, slice_get, refl, sym, ap, ◌∙◌, subst, arith}
use Rattle.std.proofs.lemmas.Option.{slice_get_read}
use Rattle.asm_sign.specs.Vocabulary.{Vocabulary, locations}
use Rattle.asm_sign.specs.Indexed.{AreFirsts}
use Rattle.asm_sign.proofs.Firsts.{searchable, owns, function_at_is, declared_at, codomain_is}
use Rattle.asm_sign.proofs.signature.Signature.codomain.Goals as goal

pub part_of-number-requires : goal.part_of-number-requires
part_of-number-requires c =
    let firsts = subst (λ (xs : List ℕ). AreFirsts c.self.inside.domains c.self.inside.functions (length c.self.inside.functions) xs) (sym c.deref.ensures.value) c.self.invariant.are_firsts in
    let lt = subst (λ (v : Vocabulary). c.args.slot < length (locations v)) (sym c.self.view_is) c.requires in
    let s = searchable c.self.inside.domains c.self.inside.functions c.deref.result.now c.args.slot firsts lt in
    record { some = s.some; from = s.from; to = s.to }

pub bounds-slice-codomain : goal.bounds-slice-codomain
bounds-slice-codomain c =
    let firsts = subst (λ (xs : List ℕ). AreFirsts c.self.inside.domains c.self.inside.functions (length c.self.inside.functions) xs) (sym c.deref.ensures.value) c.self.invariant.are_firsts in
    let len = firsts.length_is in
    let within = c.part_of-number.ensures.within in
    let same = ap length c.slice.ensures in
    let lt : c.part_of-number.result < length c.slice.result.now = omega (arith, len, within, same) in
    let at = ap (λ fs. slice_get fs c.part_of-number.result) (sym c.slice.ensures) ∙ slice_get_read c.slice.result.now _ c.part_of-number.result c.index-slice-number.result refl lt c.index-slice-number.is in
    let o = owns c.self.inside.domains c.self.inside.functions c.deref.result.now c.part_of-number.result c.args.slot c.index-slice-number.result firsts at c.part_of-number.ensures.low c.part_of-number.ensures.high in
    let d = (declared_at c.self.inside.domains c.self.inside.functions c.part_of-number.result c.index-slice-number.result c.self.invariant.declared at).codomain o.dynamic in
    let e = ap (λ g. g.codomain) c.index-slice-number.is in
    let sizes = ap length c.slice-2.ensures in omega (arith, d, e, sizes)

pub returns : goal.returns
returns c =
    let firsts = subst (λ (xs : List ℕ). AreFirsts c.self.inside.domains c.self.inside.functions (length c.self.inside.functions) xs) (sym c.deref.ensures.value) c.self.invariant.are_firsts in
    let len = firsts.length_is in
    let within = c.part_of-number.ensures.within in
    let same = ap length c.slice.ensures in
    let lt : c.part_of-number.result < length c.slice.result.now = omega (arith, len, within, same) in
    let at = ap (λ fs. slice_get fs c.part_of-number.result) (sym c.slice.ensures) ∙ slice_get_read c.slice.result.now _ c.part_of-number.result c.index-slice-number.result refl lt c.index-slice-number.is in
    let o = owns c.self.inside.domains c.self.inside.functions c.deref.result.now c.part_of-number.result c.args.slot c.index-slice-number.result firsts at c.part_of-number.ensures.low c.part_of-number.ensures.high in
    let is = function_at_is c.self.inside.domains c.self.inside.functions c.deref.result.now c.part_of-number.result c.args.slot c.index-slice-number.result o at in
    let d = (declared_at c.self.inside.domains c.self.inside.functions c.part_of-number.result c.index-slice-number.result c.self.invariant.declared at).codomain o.dynamic in
    let e = ap (λ g. g.codomain) c.index-slice-number.is in
    let sizes = ap length c.slice-2.ensures in
    let at_d = (λ i. slice_get (sym c.slice-2.ensures i) (e i)) ∙ slice_get_read c.slice-2.result.now _ _ c.index-slice-codomain.result refl (omega (arith, d, e, sizes)) c.index-slice-codomain.is in
    codomain_is c.args.self.now c.self.inside.domains c.self.inside.functions c.args.slot c.index-slice-number.result c.index-slice-codomain.result is at_d c.self.view_is
