use Rattle.std.proofs.Common.{◌≡◌, ap, ◌∙◌}
use Rattle.std.specs.Prelude.{map}
use Rattle.asm_node.specs.Model.{machine_of}
use Rattle.asm_node.specs.Parts.{macro_by}
use Rattle.asm_script.proofs.Tabling.{heads_are, names_are}
use Rattle.asm_script.proofs.script.Script.new.Goals as goal

pub invariant_of-result : goal.invariant_of-result
invariant_of-result c =
    let m = machine_of c.args.model.now in
    let are : map macro_by c.slice.result.now ≡ m.rules = ap (map macro_by) c.slice.ensures ∙ c.rules.ensures in
    let same = c.in_ok-words.ensures.known ∙ c.signature.ensures in
    record {
      known_are = same;
      intervals_are = c.in_ok-words.ensures.intervals ∙ c.signature.ensures;
      heads_are = heads_are m c.slice.result.now are c.in_ok-words.words.known c.in_ok-callees.callees.heads same c.in_ok-callees.ensures.heads;
      names_are = names_are m c.slice.result.now are c.in_ok-callees.callees.names c.in_ok-callees.ensures.names;
    }
