use Rattle.std.proofs.Common.{◌≡◌, drop}
use Rattle.asm_bind.specs.Given.{elements}
use Rattle.asm_bind.proofs.Listing.{behind}
use Rattle.asm_bind.proofs.constant.elements.Given as goal

-- the values so far, with those that are left, are the whole
abbrev pub invariant-constants : goal.invariant-constants
invariant-constants l = behind l.values (elements l.domains (drop l.place l.numbers) (drop l.place l.constants)) ≡ elements l.domains l.numbers l.constants
