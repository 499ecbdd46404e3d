use Rattle.std.proofs.Common.{◌≡◌, false, List, ap, sym, ◌∙◌}
use Rattle.std.specs.Str.{bytes_eq}
use Rattle.asm_sign.specs.declared.function.DeclaredDomain.{DeclaredDomain}
use Rattle.name_table.specs.Numbered.{number_of}
use Rattle.asm_faults.specs.DomainFaults.{boolean, integer}
use Rattle.asm_faults.specs.FunctionFaults.{domain_number}
use Rattle.asm_faults.proofs.Finding.{domain_is}
use Rattle.asm_declare.proofs.numbers.DomainNumbers.number.Goals as goal

pub returns : goal.returns
returns c =
    let first : bytes_eq c.args.name.now boolean ≡ false = ap (λ t. bytes_eq t boolean) (sym c.text.ensures) ∙ sym c.if-eq.ensures in
    let second : bytes_eq c.args.name.now integer ≡ false = ap (λ t. bytes_eq t integer) (sym c.text-2.ensures) ∙ sym c.if-eq-2.ensures in
    c.find.ensures ∙ ap (λ names. number_of names c.args.name.now) c.self.invariant.names_are
    ∙ domain_is c.self.inside.domains.now c.args.name.now first second
    ∙ ap (λ (ds : List DeclaredDomain). domain_number ds c.args.name.now) c.self.view_is
