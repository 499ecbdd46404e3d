use Rattle.std.proofs.Common.{◌∙◌, arith, ap, sym, Bool, List, [], ◌∷◌, ◌++◌, map, take}
use Rattle.cnf_base.specs.Clauses.{clause_variables, lit_true}
use Rattle.cnf_gate.proofs.Growing.{grows_then}
use Rattle.enc_group.specs.Group.{group_variables}
use Rattle.enc_group.proofs.Groups.{map_push, map_more, take_all}
use Rattle.enc_term.specs.Guards.{any_passes}
use Rattle.enc_term.proofs.Guarding.{clause_push, group_item}
use Rattle.enc_term.proofs.guards.tested_all.Goals as goal

pub tested-requires : goal.tested-requires
tested-requires c =
    let same = group_item c.args.groups.now c.loop-group.group-index c.group-item.result c.loop-group-test.true c.group-item.is in
    omega (arith, ap group_variables c.slice.ensures, ap group_variables same, c.requires c.loop-group.group-index, c.loop-group.invariant.grows.count)

pub loop-group-preserved : goal.loop-group-preserved
loop-group-preserved c = record {
  grows = grows_then _ _ _ [] [] [] [] c.loop-group.invariant.grows c.tested.ensures.grows;
  means = λ v t.
      ap (map (lit_true v)) c.in_ok-push_lit.ensures ∙ map_push (lit_true v) c.loop-group.lits.items c.in_ok-lit.lit
      ∙ ap (λ (bs : List Bool). bs ++ lit_true v c.in_ok-lit.lit ∷ []) (c.loop-group.invariant.means v (c.tested.ensures.grows.holds v t))
      ∙ ap (λ b. map (any_passes v c.args.test) (take c.loop-group.group-index c.args.groups.now) ++ b ∷ []) (c.in_ok-lit.ensures.means v t ∙ ap (any_passes v c.args.test) c.slice.ensures)
      ∙ sym (map_more (any_passes v c.args.test) c.args.groups.now c.loop-group.group-index c.group-item.result c.loop-group-test.true c.group-item.is);
  within =
      omega (arith, ap clause_variables c.in_ok-push_lit.ensures, clause_push c.loop-group.lits.items c.in_ok-lit.lit, c.loop-group.invariant.within, c.tested.ensures.grows.count, c.in_ok-lit.ensures.within);
}

pub returns-clause-means : goal.returns-clause-means
returns-clause-means c = λ v t. c.loop-group.invariant.means v t ∙ ap (map (any_passes v c.args.test)) (take_all c.args.groups.now c.loop-group.group-index c.loop-group-test.false)
