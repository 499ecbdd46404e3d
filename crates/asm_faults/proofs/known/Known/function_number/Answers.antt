use Rattle.std.proofs.Common.{ap, ◌∙◌}
use Rattle.std.specs.Str.{bytes_eq}
use Rattle.asm_sign.specs.declared.function.Function.{Function}
use Rattle.asm_sign.specs.Vocabulary.{Vocabulary}
use Rattle.name_table.specs.Numbered.{number_of}
use Rattle.asm_faults.specs.At.{Name}
use Rattle.asm_faults.specs.Terms.{function_place}
use Rattle.asm_faults.proofs.Finding.{position-map}
use Rattle.asm_faults.proofs.known.Known.function_number.Goals as goal

pub returns : goal.returns
returns c =
    c.find.ensures ∙ ap (λ names. number_of names c.args.name.now) c.self.invariant.functions_are
    ∙ position-map (λ (name : Name). bytes_eq name c.args.name.now) (λ (f : Function). f.name) c.self.inside.signature.now.functions
    ∙ ap (λ (v : Vocabulary). function_place v c.args.name.now) c.self.view_is
