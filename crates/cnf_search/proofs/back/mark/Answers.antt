use Rattle.std.proofs.Common.{◌<◌, ◌∙◌, List, length, arith, ap, set, true, refl}
use Rattle.cnf_base.specs.declared.lit.Lit.{Lit}
use Rattle.cnf_base.specs.Clauses.{clause_variables}
use Rattle.cnf_base.proofs.VariableBounds.{var_read}
use Rattle.cnf_search.proofs.Marks.{mark_step, length_set}
use Rattle.cnf_search.proofs.back.mark.Goals as goal

pub loop-lit-preserved : goal.loop-lit-preserved
loop-lit-preserved c =
    let items : List Lit = c.slice-lit-items.result.now in
    let room : c.lit-item.result.var < length c.loop-lit.seen.items =
    omega (
      arith,
      var_read items c.loop-lit.lit-index c.lit-item.result (omega arith) c.lit-item.is,
      ap clause_variables c.slice-lit-items.ensures,
      c.loop-lit.invariant.0,
      c.requires,
    ) in (
      length_set c.loop-lit.seen.items c.lit-item.result.var ∙ c.loop-lit.invariant.0,
      λ n. mark_step items c.loop-lit.lit-index c.lit-item.result c.loop-lit.seen.items (set c.loop-lit.seen.items c.lit-item.result.var true) n (omega arith) c.lit-item.is room refl ∙ c.loop-lit.invariant.1 n,
    )
