use Rattle.std.proofs.Common.{◌+◌, ◌-◌, ◌<◌, ◌≤◌, length, get_or}
use Rattle.asm_sign.proofs.search.part_of.Given as goal

-- the number stands between the bounds at both ends
abbrev pub invariant-loop-high : goal.invariant-loop-high
invariant-loop-high l = record {
  ordered : l.low < l.high;
  within : l.high + 1 ≤ length l.firsts;
  from : get_or l.firsts l.low 0 ≤ l.number;
  to : l.number < get_or l.firsts l.high 0;
}

abbrev pub decreases-loop-high : goal.decreases-loop-high
decreases-loop-high l = l.high - l.low
