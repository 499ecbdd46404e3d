use Rattle.std.proofs.Common.{length, ◌≡◌, ◌+◌, ◌*◌, ◌∙◌, sym, arith, ap, cond, false, List}
use Rattle.std.specs.List.{list_any}
use Rattle.cnf_base.specs.declared.lit.Lit.{Lit}
use Rattle.cnf_base.specs.Clauses.{clause_variables, lit_true}
use Rattle.enc_group.specs.declared.group.Entry.{Entry}
use Rattle.enc_group.specs.Group.{has, values_in, lits_with}
use Rattle.enc_group.specs.Merging.{fresh}
use Rattle.enc_group.proofs.Groups.{has_values, refused, over_more, variables_lits_with}
use Rattle.enc_group.proofs.Mergings.{merges_there, merges_new}
use Rattle.enc_group.proofs.group.merge_value.Goals as goal

pub or-requires : goal.or-requires
or-requires c =
    omega (arith, ap clause_variables (c.as_slice.ensures.value ∙ c.in_ok-lits.ensures), variables_lits_with c.args.bag.now c.args.value, c.requires.bag)

pub returns-then-has_value-clause-merges : goal.returns-then-has_value-clause-merges
returns-then-has_value-clause-merges c =
    merges_there c.args.builder.now c.args.group.now c.args.bag.now c.args.value
    (sym (c.has_value.ensures ∙ has_values c.slice.result.now c.args.value ∙ ap (λ (es : List Entry). has (values_in es) c.args.value) c.slice.ensures) ∙ c.if-has_value.true)
    c.requires.group

pub returns-clause-merges : goal.returns-clause-merges
returns-clause-merges c =
    merges_new c.or.new.self c.args.group.now c.add_entry.new.entries c.args.bag.now c.args.value c.in_ok-lit.lit
    (sym (c.has_value.ensures ∙ has_values c.slice.result.now c.args.value ∙ ap (λ (es : List Entry). has (values_in es) c.args.value) c.slice.ensures) ∙ c.if-has_value.false)
    (omega (arith, c.requires.group, c.or.ensures.grows.count)) c.in_ok-lit.ensures.within
    (λ v t. c.in_ok-lit.ensures.means v t ∙ ap (list_any (lit_true v)) (c.as_slice.ensures.value ∙ c.in_ok-lits.ensures))
    c.in_ok-add_entry.ensures

pub returns-clause-count : goal.returns-clause-count
returns-clause-count c =
    let none : has (values_in c.args.group.now) c.args.value ≡ false = sym (c.has_value.ensures ∙ has_values c.slice.result.now c.args.value ∙ ap (λ (es : List Entry). has (values_in es) c.args.value) c.slice.ensures) ∙ c.if-has_value.false in
    let one : fresh (values_in c.args.group.now) c.args.value ≡ 1 = ap (λ b. cond b 0 1) none in
    omega (arith, c.in_ok-lit.ensures.count, one)

pub returns-in_err-add_entry-clause-count : goal.returns-in_err-add_entry-clause-count
returns-in_err-add_entry-clause-count c =
    let none : has (values_in c.args.group.now) c.args.value ≡ false = sym (c.has_value.ensures ∙ has_values c.slice.result.now c.args.value ∙ ap (λ (es : List Entry). has (values_in es) c.args.value) c.slice.ensures) ∙ c.if-has_value.false in
    let one : fresh (values_in c.args.group.now) c.args.value ≡ 1 = ap (λ b. cond b 0 1) none in
    omega (arith, c.in_ok-lit.ensures.count, one)

pub returns-clause-size : goal.returns-clause-size
returns-clause-size c =
    let none : has (values_in c.args.group.now) c.args.value ≡ false = sym (c.has_value.ensures ∙ has_values c.slice.result.now c.args.value ∙ ap (λ (es : List Entry). has (values_in es) c.args.value) c.slice.ensures) ∙ c.if-has_value.false in
    let one : fresh (values_in c.args.group.now) c.args.value ≡ 1 = ap (λ b. cond b 0 1) none in
    let row : fresh (values_in c.args.group.now) c.args.value * (3 * length (lits_with c.args.bag.now c.args.value) + 1) ≡ 3 * length (lits_with c.args.bag.now c.args.value) + 1 = ap (λ k. k * (3 * length (lits_with c.args.bag.now c.args.value) + 1)) one ∙ omega arith in
    let long : length c.as_slice.result.now ≡ length (lits_with c.args.bag.now c.args.value) = ap (λ (ls : List Lit). length ls) (c.as_slice.ensures.value ∙ c.in_ok-lits.ensures) in
    omega (arith, c.in_ok-lit.ensures.size, row, long)

pub returns-in_err-add_entry-clause-size : goal.returns-in_err-add_entry-clause-size
returns-in_err-add_entry-clause-size c =
    let none : has (values_in c.args.group.now) c.args.value ≡ false = sym (c.has_value.ensures ∙ has_values c.slice.result.now c.args.value ∙ ap (λ (es : List Entry). has (values_in es) c.args.value) c.slice.ensures) ∙ c.if-has_value.false in
    let one : fresh (values_in c.args.group.now) c.args.value ≡ 1 = ap (λ b. cond b 0 1) none in
    let row : fresh (values_in c.args.group.now) c.args.value * (3 * length (lits_with c.args.bag.now c.args.value) + 1) ≡ 3 * length (lits_with c.args.bag.now c.args.value) + 1 = ap (λ k. k * (3 * length (lits_with c.args.bag.now c.args.value) + 1)) one ∙ omega arith in
    let long : length c.as_slice.result.now ≡ length (lits_with c.args.bag.now c.args.value) = ap (λ (ls : List Lit). length ls) (c.as_slice.ensures.value ∙ c.in_ok-lits.ensures) in
    omega (arith, c.in_ok-lit.ensures.size, row, long)

pub returns-in_err-lit-clause-too_large : goal.returns-in_err-lit-clause-too_large
returns-in_err-lit-clause-too_large c =
    let none : has (values_in c.args.group.now) c.args.value ≡ false = sym (c.has_value.ensures ∙ has_values c.slice.result.now c.args.value ∙ ap (λ (es : List Entry). has (values_in es) c.args.value) c.slice.ensures) ∙ c.if-has_value.false in
    let one : fresh (values_in c.args.group.now) c.args.value ≡ 1 = ap (λ b. cond b 0 1) none in
    let row : fresh (values_in c.args.group.now) c.args.value * (3 * length (lits_with c.args.bag.now c.args.value) + 1) ≡ 3 * length (lits_with c.args.bag.now c.args.value) + 1 = ap (λ k. k * (3 * length (lits_with c.args.bag.now c.args.value) + 1)) one ∙ omega arith in
    let long : length c.as_slice.result.now ≡ length (lits_with c.args.bag.now c.args.value) = ap (λ (ls : List Lit). length ls) (c.as_slice.ensures.value ∙ c.in_ok-lits.ensures) in
    refused c.or.result c.from_residual-in_err-lit.result _ c.in_err-lit.was c.from_residual-in_err-lit.ensures.1 c.or.ensures.too_large
    (over_more _ _ _ _ (omega (arith, one)) (omega (arith, row, long)))
