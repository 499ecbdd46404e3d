use Rattle.std.proofs.Common.{◌≡◌, ◌<◌, length, arith}
use Rattle.asm_domain.proofs.Elements.{named_rank_at, named_no_rank, names_no_rank}
use Rattle.asm_domain.proofs.domain.rank_by_name.Goals.{else-domain-number-via-then-domain-number+else-rank-len, else-domain-number-via-else-domain-number}
use Rattle.asm_domain.proofs.domain.rank_by_name.Goals as goal

pub returns-then-rank-len : goal.returns-then-rank-len
returns-then-rank-len c =
    let same : c.in-Elem.domain ≡ c.args.number = omega arith in
    let lt : c.in-Elem.rank < length c.args.names.now = omega arith in
    rw c.in-Elem.is (named_rank_at c.args.number c.args.names.now c.in-Elem.domain c.in-Elem.rank same lt)

pub returns-else-domain-number : goal.returns-else-domain-number
returns-else-domain-number c =
    rw c.in-Elem.is
    (named_no_rank c.args.number c.args.names.now c.in-Elem.domain c.in-Elem.rank (λ same.
    elim c.else-domain-number.branch [
      | else-domain-number-via-then-domain-number+else-rank-len w ↦ omega arith
      | else-domain-number-via-else-domain-number w ↦ omega arith
    ]))

pub returns-in_default : goal.returns-in_default
returns-in_default c =
    names_no_rank c.args.number c.args.names.now c.args.value.now c.in_default.not-Elem
