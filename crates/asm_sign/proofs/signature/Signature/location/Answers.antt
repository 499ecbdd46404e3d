use Rattle.std.proofs.Common.{◌≡◌, ◌<◌, ◌+◌, ◌-◌, List, ℕ, length, get_or, slice_get, refl, sym, ap, ◌∙◌, subst, arith}
use Rattle.std.proofs.lemmas.List.{get_or_default}
use Rattle.std.proofs.lemmas.Option.{slice_get_read}
use Rattle.asm_sign.specs.Tuples.{tuples}
use Rattle.asm_sign.specs.Vocabulary.{Vocabulary, locations}
use Rattle.asm_sign.specs.Indexed.{AreFirsts}
use Rattle.asm_sign.proofs.Slots.{stands}
use Rattle.asm_sign.proofs.Firsts.{searchable, owns, declared_at, declared_same, lists_same}
use Rattle.asm_sign.proofs.signature.Signature.location.Goals as goal

pub part_of-number-requires : goal.part_of-number-requires
part_of-number-requires c =
    let firsts = subst (λ (xs : List ℕ). AreFirsts c.self.inside.domains c.self.inside.functions (length c.self.inside.functions) xs) (sym c.deref.ensures.value) c.self.invariant.are_firsts in
    let lt = subst (λ (v : Vocabulary). c.args.slot < length (locations v)) (sym c.self.view_is) c.requires in
    let s = searchable c.self.inside.domains c.self.inside.functions c.deref.result.now c.args.slot firsts lt in
    record { some = s.some; from = s.from; to = s.to }

pub tuple_at-args-requires : goal.tuple_at-args-requires
tuple_at-args-requires c =
    let firsts = subst (λ (xs : List ℕ). AreFirsts c.self.inside.domains c.self.inside.functions (length c.self.inside.functions) xs) (sym c.deref.ensures.value) c.self.invariant.are_firsts in
    let len = firsts.length_is in
    let within = c.part_of-number.ensures.within in
    let same = ap length c.slice.ensures in
    let lt : c.part_of-number.result < length c.slice.result.now = omega (arith, len, within, same) in
    let at = ap (λ fs. slice_get fs c.part_of-number.result) (sym c.slice.ensures) ∙ slice_get_read c.slice.result.now _ c.part_of-number.result c.index-slice-number.result refl lt c.index-slice-number.is in
    let o = owns c.self.inside.domains c.self.inside.functions c.deref.result.now c.part_of-number.result c.args.slot c.index-slice-number.result firsts at c.part_of-number.ensures.low c.part_of-number.ensures.high in
    let k = c.part_of-number.result in
    let d = declared_at c.self.inside.domains c.self.inside.functions k c.index-slice-number.result c.self.invariant.declared at in
    let len' = c.self.invariant.are_firsts.length_is in
    let first = c.index-first.ensures ∙ get_or_default c.self.inside.firsts.items k c.index-first.result.now 0 (omega (arith, len', lt, same)) ∙ ap (λ xs. get_or xs k 0) (sym c.deref.ensures.value) in
    let next = c.index.ensures ∙ get_or_default c.self.inside.firsts.items (k + 1) c.index.result.now 0 (omega (arith, len', lt, same)) ∙ ap (λ xs. get_or xs (k + 1) 0) (sym c.deref.ensures.value) in
    let count = o.count_is in
    let below = o.within in
    let lists = lists_same c.self.inside.domains c.slice-2.result.now c.index-slice-number.result.domains c.slice-3.result.now c.slice-2.ensures c.slice-3.ensures in
    record {
      declared = declared_same c.self.inside.domains c.slice-2.result.now c.index-slice-number.result.domains c.slice-3.result.now c.slice-2.ensures c.slice-3.ensures d.declared;
      few = let few = d.few in let sizes = ap length c.slice-3.ensures in omega (arith, few, sizes);
      all = let sizes = ap (λ ls. length (tuples ls)) lists in omega (arith, sizes, count, first, next, c.from-count.ensures);
      within = omega (arith, below, first, next, c.from-count.ensures, c.from-place.ensures);
    }

pub returns : goal.returns
returns c =
    let firsts = subst (λ (xs : List ℕ). AreFirsts c.self.inside.domains c.self.inside.functions (length c.self.inside.functions) xs) (sym c.deref.ensures.value) c.self.invariant.are_firsts in
    let len = firsts.length_is in
    let within = c.part_of-number.ensures.within in
    let same = ap length c.slice.ensures in
    let lt : c.part_of-number.result < length c.slice.result.now = omega (arith, len, within, same) in
    let at = ap (λ fs. slice_get fs c.part_of-number.result) (sym c.slice.ensures) ∙ slice_get_read c.slice.result.now _ c.part_of-number.result c.index-slice-number.result refl lt c.index-slice-number.is in
    let o = owns c.self.inside.domains c.self.inside.functions c.deref.result.now c.part_of-number.result c.args.slot c.index-slice-number.result firsts at c.part_of-number.ensures.low c.part_of-number.ensures.high in
    let k = c.part_of-number.result in
    let len' = c.self.invariant.are_firsts.length_is in
    let first = c.index-first.ensures ∙ get_or_default c.self.inside.firsts.items k c.index-first.result.now 0 (omega (arith, len', lt, same)) ∙ ap (λ xs. get_or xs k 0) (sym c.deref.ensures.value) in
    let place : c.from-place.result ≡ c.args.slot - get_or c.deref.result.now c.part_of-number.result 0 = omega (arith, first, c.from-place.ensures) in
    let lists = lists_same c.self.inside.domains c.slice-2.result.now c.index-slice-number.result.domains c.slice-3.result.now c.slice-2.ensures c.slice-3.ensures in
    let at_j = (λ i. slice_get (tuples (sym lists i)) (sym place i)) ∙ c.tuple_at-args.ensures in
    ap (λ v. slice_get (locations v) c.args.slot) (sym c.self.view_is) ∙ ap (slice_get (locations record { domains = c.self.inside.domains; functions = c.self.inside.functions })) o.slot_is
    ∙ stands c.self.inside.domains c.self.inside.functions k (c.args.slot - get_or c.deref.result.now k 0) c.index-slice-number.result c.tuple_at-args.result.items at o.dynamic at_j

pub overflow_cast-result : goal.overflow_cast-result
overflow_cast-result c =
    let len = c.self.invariant.are_firsts.length_is in
    let within = c.part_of-number.ensures.within in
    let sizes = ap length c.deref.ensures.value in
    let short = c.self.invariant.short in omega (arith, len, within, sizes, short)
