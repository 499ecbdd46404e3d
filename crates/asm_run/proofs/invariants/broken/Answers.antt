use Rattle.std.proofs.Common.{◌≡◌, suc, ◌+◌, Some, drop, sym, ap, ◌∙◌, arith}
use Rattle.asm_node.specs.Machine.{no_input}
use Rattle.asm_node.specs.Model.{machine_of}
use Rattle.asm_node.specs.Step.{first_false}
use Rattle.asm_node.specs.Tree.{plain}
use Rattle.asm_fire.proofs.Sounding.{invariant_of_model}
use Rattle.asm_run.proofs.Truths.{no_input-is, tree-at, first_false-passed, first_false-found}
use Rattle.asm_run.proofs.invariants.broken.Goals as goal

pub holds-requires-clause-exact : goal.holds-requires-clause-exact
holds-requires-clause-exact c =
    let k = c.loop-place.place in
    let node = c.index-invariants-place.result in
    let at = tree-at c.slice-invariants.result.now c.invariants.result.now _ k node c.slice-invariants.ensures c.invariants.ensures c.loop-place-test.true c.index-invariants-place.is in
    invariant_of_model c.args.model.now no_input (no_input-is (machine_of c.args.model.now)) k (plain node.value) at

pub loop-place-preserved : goal.loop-place-preserved
loop-place-preserved c =
    let m = machine_of c.args.model.now in
    let s = c.args.state.now in
    let k = c.loop-place.place in
    let node = c.index-invariants-place.result in
    let at = tree-at c.slice-invariants.result.now c.invariants.result.now _ k node c.slice-invariants.ensures c.invariants.ensures c.loop-place-test.true c.index-invariants-place.is in
    let next : suc k ≡ k + 1 = omega arith in
    c.loop-place.invariant ∙ first_false-passed m s m.invariants k (suc k) (plain node.value) at (sym c.in_ok-holds.ensures ∙ c.if-not-branch.false)
    ∙ ap (λ n. first_false m s (suc n) (drop n m.invariants)) next

pub returns-then-not-branch : goal.returns-then-not-branch
returns-then-not-branch c =
    let m = machine_of c.args.model.now in
    let s = c.args.state.now in
    let k = c.loop-place.place in
    let node = c.index-invariants-place.result in
    let at = tree-at c.slice-invariants.result.now c.invariants.result.now _ k node c.slice-invariants.ensures c.invariants.ensures c.loop-place-test.true c.index-invariants-place.is in
    let number : c.in_ok-number.number ≡ suc k = omega (arith, c.in_ok-number.ensures) in
    ap Some number ∙ sym (c.loop-place.invariant ∙ first_false-found m s m.invariants k (suc k) (plain node.value) at (sym c.in_ok-holds.ensures ∙ c.if-not-branch.true))
