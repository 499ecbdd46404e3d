use Rattle.std.proofs.Common.{◌≡◌, take}
use Rattle.enc_update.specs.Updates.{pairs_of, faults_of}
use Rattle.enc_update.proofs.union.all_updates.Given as goal

-- the pairs and the faults of the parts so far
abbrev pub invariant-loop-part : goal.invariant-loop-part
invariant-loop-part l = record {
  builder : l.builder ≡ l.fn.builder;
  pairs : l.pairs ≡ pairs_of (take l.part-index l.parts);
  faults : l.faults.items ≡ faults_of (take l.part-index l.parts);
}
