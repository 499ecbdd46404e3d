use Rattle.std.proofs.Common.{◌<◌, Some, length, refl, sym, ap, ◌∙◌, arith}
use Rattle.std.proofs.lemmas.Bool.Decides.{Decides-eqb}
use Rattle.std.proofs.lemmas.Option.{slice_get_read, slice_get_within, same_Some}
use Rattle.std.proofs.lemmas.Slice.Eq.{slice_eq-Decides}
use Rattle.asm_domain.proofs.Distinct.{absent_more}
use Rattle.asm_domain.proofs.refusal.place_of_name.Goals as goal

pub returns-then-eq-clause-found : goal.returns-then-eq-clause-found
returns-then-eq-clause-found c =
    let lt : c.loop-place.place < length c.args.names.now = omega arith in
    let same = (slice_eq-Decides Decides-eqb c.text.result.now c.text-in-loop-place.result.now c.eq.result c.eq.ensures).0 c.if-eq.true in
    slice_get_read c.args.names.now _ _ _ refl lt c.index-names-place.is ∙ ap Some (sym c.text.ensures ∙ same ∙ c.text-in-loop-place.ensures)

pub loop-place-preserved : goal.loop-place-preserved
loop-place-preserved c =
    let lt : c.loop-place.place < length c.args.names.now = omega arith in
    let at = slice_get_read c.args.names.now _ _ _ refl lt c.index-names-place.is in
    absent_more c.args.names.now c.loop-place.place c.args.name.now c.loop-place.invariant
    (λ is. let same = same_Some _ _ (sym at ∙ is) in
    let decides = (slice_eq-Decides Decides-eqb c.text.result.now c.text-in-loop-place.result.now c.eq.result c.eq.ensures).1 (c.text.ensures ∙ same ∙ sym c.text-in-loop-place.ensures) in
    cc (decides, c.if-eq.false))

pub returns-clause-none : goal.returns-clause-none
returns-clause-none c is k at =
    let lt = slice_get_within c.args.names.now k c.args.name.now at in
    c.loop-place.invariant k (omega arith) at
