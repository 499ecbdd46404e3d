use Rattle.std.proofs.Common.{◌≡◌, ◌<◌, ◌++◌, ◌∷◌, [], List, length, arith, ap, ◌∙◌, get_or, set}
use Rattle.cnf_base.specs.declared.lit.Lit.{Lit}
use Rattle.cnf_base.specs.Clauses.{clause_variables}
use Rattle.cnf_base.proofs.VariableBounds.{var_read}
use Rattle.cnf_search.specs.Queue.{place_of}
use Rattle.cnf_search.proofs.Named.{Names-next, place_below}
use Rattle.cnf_search.proofs.index.add_clause.Goals as goal

pub add-requires : goal.add-requires
add-requires c =
    omega (
      arith,
      place_below c.lit-item.result (clause_variables c.slice-lit-items.result.now) (var_read c.slice-lit-items.result.now c.loop-lit.lit-index c.lit-item.result (omega arith) c.lit-item.is),
      ap clause_variables c.slice-lit-items.ensures,
      c.place_of.ensures,
      c.loop-lit.invariant.1,
      c.requires,
    )

pub loop-lit-preserved : goal.loop-lit-preserved
loop-lit-preserved c =
    let items : List Lit = c.slice-lit-items.result.now in
    let room : place_of c.lit-item.result < length c.loop-lit.lists.items =
    omega (
      arith,
      place_below c.lit-item.result (clause_variables items) (var_read items c.loop-lit.lit-index c.lit-item.result (omega arith) c.lit-item.is),
      ap clause_variables c.slice-lit-items.ensures,
      c.loop-lit.invariant.1,
      c.requires,
    ) in
    let at : c.place_of.result ≡ place_of c.lit-item.result = c.place_of.ensures in
    let added : c.add.new.lists.items ≡ set c.loop-lit.lists.items (place_of c.lit-item.result) (get_or c.loop-lit.lists.items (place_of c.lit-item.result) [] ++ c.args.number ∷ []) =
    c.in_ok-add.ensures.added ∙ (λ i. set c.loop-lit.lists.items (at i) (get_or c.loop-lit.lists.items (at i) [] ++ c.args.number ∷ [])) in (
      Names-next c.args.lists.now.items c.loop-lit.lists.items c.add.new.lists.items items c.loop-lit.lit-index c.args.number c.lit-item.result c.loop-lit.invariant.0 added room (omega arith) c.lit-item.is,
      c.in_ok-add.ensures.len ∙ c.loop-lit.invariant.1,
    )
