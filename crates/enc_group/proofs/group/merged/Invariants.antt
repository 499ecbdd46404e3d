use Rattle.std.proofs.Common.{◌≤◌, ◌+◌, ◌*◌, [], length, take}
use Rattle.cnf_gate.specs.Built.{Grows, size_of}
use Rattle.enc_group.specs.Group.{once, values_in}
use Rattle.enc_group.specs.Merging.{covered}
use Rattle.enc_group.proofs.Mergings.{Merged}
use Rattle.enc_group.proofs.group.merged.Given as goal

abbrev pub invariant-loop-entry : goal.invariant-loop-entry
invariant-loop-entry l = record {
  grows : Grows l.fn.builder l.builder [] [];
  merged : Merged l.builder l.group l.bag (take l.entry-index l.bag);
  count : l.builder.count ≤ l.fn.builder.count + length (once (values_in (take l.entry-index l.bag)));
  size : size_of l.builder ≤ size_of l.fn.builder + 3 * covered l.bag (values_in l.group) + length (values_in l.group);
}
