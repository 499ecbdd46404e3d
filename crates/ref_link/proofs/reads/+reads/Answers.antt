use Rattle.std.proofs.Common.{◌≡◌, ◌+◌, ◌||◌, sym, ap, ◌∙◌, arith}
use Rattle.asm_node.specs.Tree.{plain, plain_kind, plain_all}
use Rattle.asm_node.specs.Weight.{nodes, nodes_all}
use Rattle.asm_node.proofs.Trees.{plain_kind-Get, plain_kind-Oper, nodes-item}
use Rattle.ref_link.specs.Linkable.{reads_any, read_any}
use Rattle.ref_link.specs.Rows.{is_in}
use Rattle.ref_link.proofs.Reading.{some_first, some_later}
use Rattle.ref_link.proofs.reads.+reads.Goals as goal

pub reads-some_reads-requires : goal.reads-some_reads-requires
reads-some_reads-requires t c =
    let few : nodes (plain c.args.term.now.value) ≡ 1 + nodes_all (plain_all c.slice.result.now) = ap nodes (ap plain (sym c.deref.ensures) ∙ ap plain_kind c.in-Get.is ∙ plain_kind-Get c.in-Get.function c.in-Get.terms) ∙ ap (λ xs. 1 + nodes_all (plain_all xs)) (sym c.slice.ensures) in
    omega arith

pub reads-some_reads-requires-in-Oper : goal.reads-some_reads-requires-in-Oper
reads-some_reads-requires-in-Oper t c =
    let few : nodes (plain c.args.term.now.value) ≡ 1 + nodes_all (plain_all c.slice-in-Oper.result.now) = ap nodes (ap plain (sym c.deref.ensures) ∙ ap plain_kind c.in-Oper.is ∙ plain_kind-Oper c.in-Oper.field-0 c.in-Oper.terms) ∙ ap (λ xs. 1 + nodes_all (plain_all xs)) (sym c.slice-in-Oper.ensures) in
    omega arith

pub reads-returns-else-is_in : goal.reads-returns-else-is_in
reads-returns-else-is_in t c =
    let test = is_in c.args.row.now in
    c.some_reads.ensures ∙ ap (λ xs. read_any test (plain_all xs)) c.slice.ensures
    ∙ ap (λ b. b || read_any test (plain_all c.in-Get.terms)) (sym c.if-is_in.false ∙ c.is_in.ensures)
    ∙ sym (ap (reads_any test) (ap plain (sym c.deref.ensures) ∙ ap plain_kind c.in-Get.is ∙ plain_kind-Get c.in-Get.function c.in-Get.terms))

pub reads-returns-in-Oper : goal.reads-returns-in-Oper
reads-returns-in-Oper t c =
    let test = is_in c.args.row.now in
    c.some_reads-in-Oper.ensures ∙ ap (λ xs. read_any test (plain_all xs)) c.slice-in-Oper.ensures
    ∙ sym (ap (reads_any test) (ap plain (sym c.deref.ensures) ∙ ap plain_kind c.in-Oper.is ∙ plain_kind-Oper c.in-Oper.field-0 c.in-Oper.terms))

pub some_reads-reads-requires : goal.some_reads-reads-requires
some_reads-reads-requires t c =
    let few = nodes-item c.args.terms.now c.loop-term.term-index c.term-item.result c.loop-term-test.true c.term-item.is in
    omega arith

pub some_reads-returns-then-reads : goal.some_reads-returns-then-reads
some_reads-returns-then-reads t c = some_first (is_in c.args.row.now) c.args.terms.now c.loop-term.term-index c.term-item.result c.loop-term-test.true c.term-item.is c.loop-term.invariant c.reads.result c.reads.ensures c.if-reads.true

pub some_reads-loop-term-preserved : goal.some_reads-loop-term-preserved
some_reads-loop-term-preserved t c = some_later (is_in c.args.row.now) c.args.terms.now c.loop-term.term-index c.term-item.result c.loop-term-test.true c.term-item.is c.loop-term.invariant c.reads.result c.reads.ensures c.if-reads.false
