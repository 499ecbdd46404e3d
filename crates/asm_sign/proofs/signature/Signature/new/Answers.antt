use Rattle.std.proofs.Common.{refl}
use Rattle.asm_sign.proofs.Firsts.{firsts_same}
use Rattle.asm_sign.proofs.signature.Signature.new.Goals as goal

pub invariant_of-result : goal.invariant_of-result
invariant_of-result c = record {
  declared = c.requires.declared;
  numbered = c.requires.numbered;
  few = c.requires.few;
  short = c.requires.short;
  are_firsts = firsts_same _ _ _ _ _ c.slice.ensures c.slice-2.ensures c.in_ok-firsts.ensures;
}

pub returns : goal.returns
returns c = refl
