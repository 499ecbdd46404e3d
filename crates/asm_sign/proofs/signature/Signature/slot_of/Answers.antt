use Rattle.std.proofs.Common.{◌≡◌, ◌<◌, ◌≤◌, ◌+◌, true, false, length, slice_get, refl, sym, ap, ◌∙◌, arith}
use Rattle.std.proofs.lemmas.List.{get_or_default}
use Rattle.std.proofs.lemmas.Option.{slice_get_read, slice_get_within}
use Rattle.asm_sign.specs.Kind.{is_dynamic}
use Rattle.asm_sign.proofs.Slots.{first_more, first_le, length_dynamic, slot_some, slot_none, slot_static, slot_past, slot_other}
use Rattle.asm_sign.proofs.Firsts.{declared_at, declared_same, slot_ranked, rank_same, lists_same, distinct_same}
use Rattle.asm_sign.proofs.signature.Signature.slot_of.Goals as goal

pub returns-then-number-len : goal.returns-then-number-len
returns-then-number-len c =
    let past : length c.self.inside.functions ≤ c.args.function = omega arith in
    let p = slot_ranked _ _ c.args.function c.args.args.now _ c.self.view_is (slot_past c.self.inside.domains c.self.inside.functions c.args.function c.args.args.now past) in
    record { rank = p.0; none = p.1 }

pub returns-then-not-is_dynamic : goal.returns-then-not-is_dynamic
returns-then-not-is_dynamic c =
    let same = ap length c.slice.ensures in
    let in_slice : c.args.function < length c.slice.result.now = omega (arith, same) in
    let at = ap (λ fs. slice_get fs c.args.function) (sym c.slice.ensures) ∙ slice_get_read c.slice.result.now _ c.args.function c.index-slice-number.result refl in_slice c.index-slice-number.is in
    let static : is_dynamic c.index-slice-number.result.kind ≡ false = cc (c.if-not-is_dynamic.true, c.is_dynamic.ensures, ap (λ g. is_dynamic g.kind) c.index-slice-number.is) in
    let p = slot_ranked _ _ c.args.function c.args.args.now _ c.self.view_is (slot_static c.self.inside.domains c.self.inside.functions c.args.function c.index-slice-number.result c.args.args.now at static) in
    record { rank = p.0; none = p.1 }

pub returns-then-args-len : goal.returns-then-args-len
returns-then-args-len c =
    let same = ap length c.slice.ensures in
    let in_slice : c.args.function < length c.slice.result.now = omega (arith, same) in
    let at = ap (λ fs. slice_get fs c.args.function) (sym c.slice.ensures) ∙ slice_get_read c.slice.result.now _ c.args.function c.index-slice-number.result refl in_slice c.index-slice-number.is in
    let p = slot_ranked _ _ c.args.function c.args.args.now _ c.self.view_is (slot_other c.self.inside.domains c.self.inside.functions c.args.function c.index-slice-number.result c.args.args.now at (λ e. omega (arith, e))) in
    record { rank = p.0; none = p.1 }

pub place_of-requires : goal.place_of-requires
place_of-requires c =
    let same = ap length c.slice.ensures in
    let in_slice : c.args.function < length c.slice.result.now = omega (arith, same) in
    let at = ap (λ fs. slice_get fs c.args.function) (sym c.slice.ensures) ∙ slice_get_read c.slice.result.now _ c.args.function c.index-slice-number.result refl in_slice c.index-slice-number.is in
    let d = declared_at c.self.inside.domains c.self.inside.functions c.args.function c.index-slice-number.result c.self.invariant.declared at in
    let dynamic : is_dynamic c.index-slice-number.result.kind ≡ true = cc (c.if-not-is_dynamic.false, c.is_dynamic.ensures, ap (λ g. is_dynamic g.kind) c.index-slice-number.is) in
    let lt = slice_get_within c.self.inside.functions c.args.function c.index-slice-number.result at in
    record {
      declared = declared_same c.self.inside.domains c.slice-2.result.now c.index-slice-number.result.domains c.slice-3.result.now c.slice-2.ensures c.slice-3.ensures d.declared;
      few = let few = d.few in let sizes = ap length c.slice-3.ensures in omega (arith, few, sizes);
      same = let sizes = ap length c.slice-3.ensures in omega (arith, sizes);
      distinct = distinct_same c.self.inside.domains c.slice-2.result.now c.index-slice-number.result.domains c.slice-3.result.now c.slice-2.ensures c.slice-3.ensures (c.self.invariant.are_firsts.distinct c.args.function c.index-slice-number.result lt at dynamic);
    }

pub returns-in-Some : goal.returns-in-Some
returns-in-Some c =
    let same = ap length c.slice.ensures in
    let in_slice : c.args.function < length c.slice.result.now = omega (arith, same) in
    let at = ap (λ fs. slice_get fs c.args.function) (sym c.slice.ensures) ∙ slice_get_read c.slice.result.now _ c.args.function c.index-slice-number.result refl in_slice c.index-slice-number.is in
    let dynamic : is_dynamic c.index-slice-number.result.kind ≡ true = cc (c.if-not-is_dynamic.false, c.is_dynamic.ensures, ap (λ g. is_dynamic g.kind) c.index-slice-number.is) in
    let lists = lists_same c.self.inside.domains c.slice-2.result.now c.index-slice-number.result.domains c.slice-3.result.now c.slice-2.ensures c.slice-3.ensures in
    let len = c.self.invariant.are_firsts.length_is in
    let lt = slice_get_within c.self.inside.functions c.args.function c.index-slice-number.result at in
    let first = c.index.ensures ∙ get_or_default c.self.inside.firsts.items c.args.function c.index.result.now 0 (omega (arith, len, lt)) ∙ c.self.invariant.are_firsts.first_is c.args.function (omega (arith, lt)) in
    let rank = rank_same _ _ c.args.args.now _ lists c.in-Some.ensures in
    let p = slot_ranked _ _ c.args.function c.args.args.now _ c.self.view_is (slot_some c.self.inside.domains c.self.inside.functions c.args.function c.in-Some.place (c.index.result.now + c.in-Some.place) c.index-slice-number.result c.args.args.now at dynamic rank (ap (λ n. n + c.in-Some.place) first)) in
    record { rank = p.0; none = p.1 }

pub returns-in-None : goal.returns-in-None
returns-in-None c =
    let same = ap length c.slice.ensures in
    let in_slice : c.args.function < length c.slice.result.now = omega (arith, same) in
    let at = ap (λ fs. slice_get fs c.args.function) (sym c.slice.ensures) ∙ slice_get_read c.slice.result.now _ c.args.function c.index-slice-number.result refl in_slice c.index-slice-number.is in
    let lists = lists_same c.self.inside.domains c.slice-2.result.now c.index-slice-number.result.domains c.slice-3.result.now c.slice-2.ensures c.slice-3.ensures in
    let p = slot_ranked _ _ c.args.function c.args.args.now _ c.self.view_is (slot_none c.self.inside.domains c.self.inside.functions c.args.function c.index-slice-number.result c.args.args.now at (rank_same _ _ c.args.args.now _ lists c.in-None.ensures)) in
    record { rank = p.0; none = p.1 }

pub overflow_cast-result : goal.overflow_cast-result
overflow_cast-result c =
    let same = ap length c.slice.ensures in
    let in_slice : c.args.function < length c.slice.result.now = omega (arith, same) in
    let at = ap (λ fs. slice_get fs c.args.function) (sym c.slice.ensures) ∙ slice_get_read c.slice.result.now _ c.args.function c.index-slice-number.result refl in_slice c.index-slice-number.is in
    let dynamic : is_dynamic c.index-slice-number.result.kind ≡ true = cc (c.if-not-is_dynamic.false, c.is_dynamic.ensures, ap (λ g. is_dynamic g.kind) c.index-slice-number.is) in
    let lists = lists_same c.self.inside.domains c.slice-2.result.now c.index-slice-number.result.domains c.slice-3.result.now c.slice-2.ensures c.slice-3.ensures in
    let rank = rank_same _ _ c.args.args.now _ lists c.in-Some.ensures in
    let below = slice_get_within _ c.in-Some.place c.args.args.now (rank.found c.in-Some.place refl) in
    let count = length_dynamic c.self.inside.domains 0 c.index-slice-number.result dynamic in
    let more = first_more c.self.inside.domains c.self.inside.functions c.args.function c.index-slice-number.result at in
    let le = first_le c.self.inside.domains c.self.inside.functions (c.args.function + 1) in
    let few = c.self.invariant.few in
    omega (arith, below, count, more, le, few)

pub overflow_add-result : goal.overflow_add-result
overflow_add-result c =
    let same = ap length c.slice.ensures in
    let in_slice : c.args.function < length c.slice.result.now = omega (arith, same) in
    let at = ap (λ fs. slice_get fs c.args.function) (sym c.slice.ensures) ∙ slice_get_read c.slice.result.now _ c.args.function c.index-slice-number.result refl in_slice c.index-slice-number.is in
    let dynamic : is_dynamic c.index-slice-number.result.kind ≡ true = cc (c.if-not-is_dynamic.false, c.is_dynamic.ensures, ap (λ g. is_dynamic g.kind) c.index-slice-number.is) in
    let lists = lists_same c.self.inside.domains c.slice-2.result.now c.index-slice-number.result.domains c.slice-3.result.now c.slice-2.ensures c.slice-3.ensures in
    let len = c.self.invariant.are_firsts.length_is in
    let lt = slice_get_within c.self.inside.functions c.args.function c.index-slice-number.result at in
    let first = c.index.ensures ∙ get_or_default c.self.inside.firsts.items c.args.function c.index.result.now 0 (omega (arith, len, lt)) ∙ c.self.invariant.are_firsts.first_is c.args.function (omega (arith, lt)) in
    let rank = rank_same _ _ c.args.args.now _ lists c.in-Some.ensures in
    let below = slice_get_within _ c.in-Some.place c.args.args.now (rank.found c.in-Some.place refl) in
    let count = length_dynamic c.self.inside.domains 0 c.index-slice-number.result dynamic in
    let more = first_more c.self.inside.domains c.self.inside.functions c.args.function c.index-slice-number.result at in
    let le = first_le c.self.inside.domains c.self.inside.functions (c.args.function + 1) in
    let few = c.self.invariant.few in
    omega (arith, below, count, more, le, few, first)
