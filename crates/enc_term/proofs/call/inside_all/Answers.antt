use Rattle.std.proofs.Common.{◌∙◌, ap, sym, arith, ◌&&◌, ◌||◌, ◌++◌, ◌∷◌, [], List, length, map, take}
use Rattle.cnf_base.specs.Clauses.{lit_true}
use Rattle.asm_domain.specs.declared.value.Value.{Value}
use Rattle.asm_node.specs.Values.{same, within}
use Rattle.asm_node.specs.Term.{Gives}
use Rattle.enc_group.specs.declared.group.Entry.{Entry}
use Rattle.enc_group.specs.Group.{holds, values_in, group_variables}
use Rattle.enc_group.proofs.Groups.{follows_more, follows_end, holds_push, variables_push, variables_more, map_push, map_more, length_push, take_all}
use Rattle.enc_term.proofs.call.inside_all.Goals as goal

pub loop-entry-preserved : goal.loop-entry-preserved
loop-entry-preserved c =
    let e : Entry = record { value = c.within-value.result; lit = c.entry-item.result.lit } in
    let f : Value → Value = within c.args.domains.now c.args.domain in
    let i = c.loop-entry.entry-index in
    let group = c.args.group.now in
    record {
      means = λ v.
          follows_more v (λ x. Gives (f x)) c.loop-entry.bag c.push.new.entries group i c.entry-item.result c.loop-entry-test.true c.entry-item.is
          (c.loop-entry.invariant.means v)
          (λ y. ap (λ es. holds v es y) c.in_ok-push.ensures ∙ holds_push v c.loop-entry.bag e y
          ∙ ap (λ x. holds v c.loop-entry.bag y || (same x y && lit_true v c.entry-item.result.lit)) c.within-value.ensures);
      values =
          ap values_in c.in_ok-push.ensures ∙ map_push (λ (d : Entry). d.value) c.loop-entry.bag e
          ∙ ap (λ xs. xs ++ e.value ∷ []) c.loop-entry.invariant.values
          ∙ ap (λ x. map f (values_in (take i group)) ++ x ∷ []) c.within-value.ensures
          ∙ sym (map_push f (values_in (take i group)) c.entry-item.result.value)
          ∙ ap (map f) (sym (map_more (λ (d : Entry). d.value) group i c.entry-item.result c.loop-entry-test.true c.entry-item.is));
      within = ap group_variables c.in_ok-push.ensures ∙ omega (arith, variables_push c.loop-entry.bag e, c.loop-entry.invariant.within, variables_more group i c.entry-item.result c.loop-entry-test.true c.entry-item.is);
      long = ap (λ (es : List Entry). length es) c.in_ok-push.ensures ∙ omega (arith, length_push c.loop-entry.bag e, c.loop-entry.invariant.long);
    }

pub returns-clause-means : goal.returns-clause-means
returns-clause-means c = λ v o m.
    follows_end v (λ x. Gives (within c.args.domains.now c.args.domain x)) c.loop-entry.bag c.args.group.now c.loop-entry.entry-index o c.loop-entry-test.false (c.loop-entry.invariant.means v) m

pub returns-clause-values : goal.returns-clause-values
returns-clause-values c = c.loop-entry.invariant.values ∙ ap (λ es. map (within c.args.domains.now c.args.domain) (values_in es)) (take_all c.args.group.now c.loop-entry.entry-index c.loop-entry-test.false)

pub returns-clause-within : goal.returns-clause-within
returns-clause-within c = c.loop-entry.invariant.within ∙ ap group_variables (take_all c.args.group.now c.loop-entry.entry-index c.loop-entry-test.false)
