use Rattle.std.proofs.Common.{ap, ◌∙◌}
use Rattle.std.specs.Option.{unwrap_or}
use Rattle.std.specs.Str.{bytes_eq}
use Rattle.name_table.specs.Numbered.{number_of}
use Rattle.asm_faults.specs.At.{Name}
use Rattle.asm_faults.specs.Files.{DeclaredRule, rules}
use Rattle.asm_faults.proofs.Finding.{position-map}
use Rattle.asm_build.proofs.rule_nodes.rule_number.Goals as goal

pub returns : goal.returns
returns c number units file known v =
    c.unwrap_or.ensures ∙ ap (λ o. unwrap_or o 0) (c.find.ensures ∙ ap (λ names. number_of names c.args.name.now) known
    ∙ position-map (λ (name : Name). bytes_eq name c.args.name.now) (λ (r : DeclaredRule). r.name.text) (rules units))
