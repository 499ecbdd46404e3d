use Rattle.std.proofs.Common.{◌∙◌, ap, sym, List, ◌++◌, ◌∷◌, [], take}
use Rattle.std.specs.List.{list_any}
use Rattle.cnf_base.specs.declared.lit.Lit.{Lit}
use Rattle.cnf_base.specs.Clauses.{lit_true}
use Rattle.enc_group.proofs.Groups.{take_all}
use Rattle.enc_update.specs.declared.pair.Pair.{Pair}
use Rattle.enc_update.specs.Updates.{pairs_of, faults_of}
use Rattle.enc_update.proofs.Unions.{united, pairs_more, faults_more}
use Rattle.enc_update.proofs.union.all_updates.Goals as goal

pub loop-part-preserved : goal.loop-part-preserved
loop-part-preserved c = record {
  builder = c.loop-part.invariant.builder;
  pairs = c.in_ok-extend.ensures.ok ∙ ap (λ (ps : List Pair). ps ++ c.slice.result.now) c.loop-part.invariant.pairs ∙ ap (λ (ps : List Pair). pairs_of (take c.loop-part.part-index c.args.parts.now) ++ ps) c.slice.ensures
      ∙ sym (pairs_more c.args.parts.now c.loop-part.part-index c.part-item.result c.loop-part-test.true c.part-item.is);
  faults = c.in_ok-push_lit.ensures ∙ ap (λ (ls : List Lit). ls ++ c.part-item.result.fault ∷ []) c.loop-part.invariant.faults
      ∙ sym (faults_more c.args.parts.now c.loop-part.part-index c.part-item.result c.loop-part-test.true c.part-item.is);
}

pub returns-clause-means : goal.returns-clause-means
returns-clause-means c = λ v t given h.
    united v given c.args.parts.now c.loop-part.pairs c.in_ok-fault.fault h
    (c.loop-part.invariant.pairs ∙ ap pairs_of (take_all c.args.parts.now c.loop-part.part-index c.loop-part-test.false))
    (c.in_ok-fault.ensures.means v t ∙ ap (list_any (lit_true v)) (c.as_slice.ensures.value ∙ c.loop-part.invariant.faults ∙ ap faults_of (take_all c.args.parts.now c.loop-part.part-index c.loop-part-test.false)))
