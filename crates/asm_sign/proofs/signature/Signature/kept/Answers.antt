use Rattle.std.proofs.Common.{◌<◌, List, ℕ, length, slice_get, refl, sym, ap, ◌∙◌, subst, arith}
use Rattle.std.proofs.lemmas.Option.{slice_get_read}
use Rattle.asm_sign.specs.Kind.{is_kept}
use Rattle.asm_sign.specs.Vocabulary.{Vocabulary, locations, function_at, kept_of}
use Rattle.asm_sign.specs.Indexed.{AreFirsts}
use Rattle.asm_sign.proofs.Firsts.{searchable, owns, function_at_is}
use Rattle.asm_sign.proofs.signature.Signature.kept.Goals as goal

pub part_of-number-requires : goal.part_of-number-requires
part_of-number-requires c =
    let firsts = subst (λ (xs : List ℕ). AreFirsts c.self.inside.domains c.self.inside.functions (length c.self.inside.functions) xs) (sym c.deref.ensures.value) c.self.invariant.are_firsts in
    let lt = subst (λ (v : Vocabulary). c.args.slot < length (locations v)) (sym c.self.view_is) c.requires in
    let s = searchable c.self.inside.domains c.self.inside.functions c.deref.result.now c.args.slot firsts lt in
    record { some = s.some; from = s.from; to = s.to }

pub returns : goal.returns
returns c =
    let firsts = subst (λ (xs : List ℕ). AreFirsts c.self.inside.domains c.self.inside.functions (length c.self.inside.functions) xs) (sym c.deref.ensures.value) c.self.invariant.are_firsts in
    let k = c.part_of-number.result in
    let len = firsts.length_is in
    let within = c.part_of-number.ensures.within in
    let same = ap length c.slice.ensures in
    let lt : c.part_of-number.result < length c.slice.result.now = omega (arith, len, within, same) in
    let f = c.index-slice-number.result in
    let at = ap (λ fs. slice_get fs c.part_of-number.result) (sym c.slice.ensures) ∙ slice_get_read c.slice.result.now _ c.part_of-number.result c.index-slice-number.result refl lt c.index-slice-number.is in
    let o = owns c.self.inside.domains c.self.inside.functions c.deref.result.now k c.args.slot f firsts at c.part_of-number.ensures.low c.part_of-number.ensures.high in
    let is = function_at_is c.self.inside.domains c.self.inside.functions c.deref.result.now k c.args.slot f o at in
    c.is_kept.ensures ∙ ap (λ g. is_kept g.kind) (sym c.index-slice-number.is) ∙ ap kept_of (sym is) ∙ ap (λ v. kept_of (function_at v c.args.slot)) c.self.view_is
