use Rattle.std.proofs.Common.{◌-◌, ◌∙◌, ℕ, length, sym, ap}
use Rattle.std.proofs.lemmas.List.{length-map}
use Rattle.std.specs.declared.rc.Rc.{Rc}
use Rattle.std.specs.declared.alloc.Global.{Global}
use Rattle.asm_sign.specs.Vocabulary.{Vocabulary, locations}
use Rattle.asm_node.specs.declared.term.Term.{Term}
use Rattle.asm_node.specs.Tree.{plain}
use Rattle.asm_node.specs.Parts.{macro_by}
use Rattle.asm_node.specs.Model.{machine_of}
use Rattle.asm_cli.proofs.Checking.{counts_are}
use Rattle.asm_cli.proofs.counts.counts_in.Goals as goal

pub returns : goal.returns
returns c =
    let domains = c.len.ensures ∙ ap length c.domains.ensures.value ∙ ap (λ (v : Vocabulary). length v.domains) c.signature-signature.ensures in
    let functions = c.len-2.ensures ∙ ap length c.functions.ensures.value ∙ ap (λ (v : Vocabulary). length v.functions) c.signature-signature.ensures in
    let rules = c.len-3.ensures ∙ sym (length-map c.rules.result.now macro_by) ∙ ap length c.rules.ensures in
    let invariants = c.len-4.ensures ∙ sym (length-map c.invariants.result.now (λ (t : Rc Term Global). plain t.value)) ∙ ap length c.invariants.ensures in
    let locations = c.from.ensures ∙ c.slots.ensures.value ∙ ap (λ (v : Vocabulary). length (locations v)) c.signature-signature.ensures in
    counts_are c.args.units.now (machine_of c.args.model.now) c.requires c.saturating_sub.result c.len-2.result c.len-3.result c.len-4.result c.from.result
    (c.saturating_sub.ensures ∙ ap (λ (n : ℕ). n - 1) domains) functions rules invariants locations
