use Rattle.std.proofs.Common.{◌∙◌, ap, sym, arith, Bool, [], ◌∷◌, ◌++◌, ◌&&◌, ◌||◌, map, take}
use Rattle.std.specs.List.{list_any}
use Rattle.cnf_base.specs.Clauses.{lit_true}
use Rattle.asm_domain.specs.declared.value.Value.{Value}
use Rattle.asm_node.specs.Values.{same_all}
use Rattle.enc_group.specs.declared.group.Entry.{Entry}
use Rattle.enc_group.specs.declared.tuple.Tuple.{Tuple}
use Rattle.enc_group.specs.Group.{values_in, group_variables}
use Rattle.enc_group.specs.Tuple.{holds_all, tuples_in, tuple_variables}
use Rattle.enc_group.proofs.Groups.{any_more, map_push, map_more, variables_more, take_all}
use Rattle.enc_group.proofs.Tuples.{holds_all_push, tuple_variables_push, singles_end}
use Rattle.enc_group.proofs.tuple.singles.Goals as goal

pub loop-entry-preserved : goal.loop-entry-preserved
loop-entry-preserved c =
    let i = c.loop-entry.entry-index in
    let group = c.args.group.now in
    let e = c.entry-item.result in
    let pushed : Tuple = record { values = c.in_ok-values.values; lit = e.lit } in
    record {
      means = λ v ys.
          let q : Entry → Bool = λ d. same_all (d.value ∷ []) ys && lit_true v d.lit in
          ap (λ ts. holds_all v ts ys) c.in_ok-add_tuple.ensures ∙ holds_all_push v c.loop-entry.tuples pushed ys
          ∙ ap (λ b. b || (same_all c.in_ok-values.values ys && lit_true v e.lit)) (c.loop-entry.invariant.means v ys)
          ∙ ap (λ vs. list_any q (take i group) || (same_all vs ys && lit_true v e.lit)) c.in_ok-values.ensures
          ∙ sym (any_more q group i e c.loop-entry-test.true c.entry-item.is);
      values =
          ap tuples_in c.in_ok-add_tuple.ensures ∙ map_push (λ (t : Tuple). t.values) c.loop-entry.tuples pushed
          ∙ ap (λ vss. vss ++ c.in_ok-values.values ∷ []) c.loop-entry.invariant.values
          ∙ ap (λ vs. map (λ (x : Value). x ∷ []) (values_in (take i group)) ++ vs ∷ []) c.in_ok-values.ensures
          ∙ sym (map_push (λ (x : Value). x ∷ []) (values_in (take i group)) e.value)
          ∙ ap (map (λ (x : Value). x ∷ [])) (sym (map_more (λ (d : Entry). d.value) group i e c.loop-entry-test.true c.entry-item.is));
      within =
          ap tuple_variables c.in_ok-add_tuple.ensures ∙ omega (arith, tuple_variables_push c.loop-entry.tuples pushed, c.loop-entry.invariant.within, variables_more group i e c.loop-entry-test.true c.entry-item.is);
    }

pub returns-clause-means : goal.returns-clause-means
returns-clause-means c = λ v o m.
    singles_end v c.loop-entry.tuples c.args.group.now c.loop-entry.entry-index o c.loop-entry-test.false m (c.loop-entry.invariant.means v)

pub returns-clause-values : goal.returns-clause-values
returns-clause-values c = c.loop-entry.invariant.values ∙ ap (λ es. map (λ (x : Value). x ∷ []) (values_in es)) (take_all c.args.group.now c.loop-entry.entry-index c.loop-entry-test.false)

pub returns-clause-within : goal.returns-clause-within
returns-clause-within c = c.loop-entry.invariant.within ∙ ap group_variables (take_all c.args.group.now c.loop-entry.entry-index c.loop-entry-test.false)
