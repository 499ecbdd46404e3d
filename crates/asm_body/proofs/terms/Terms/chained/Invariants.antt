use Rattle.std.proofs.Common.{◌≡◌, ◌≤◌}
use Rattle.asm_body.specs.Levels.{joined_to, tail}
use Rattle.asm_body.specs.Phrases.{seen_phrase}
use Rattle.asm_body.specs.Reading.{read_in}
use Rattle.asm_body.specs.Seen.{all_seen}
use Rattle.asm_body.proofs.terms.Terms.chained.Given as goal

abbrev pub invariant-turns : goal.invariant-turns
invariant-turns g l = record {
  value : joined_to (seen_phrase l.left) (read_in l.free l.self.script (tail l.self.script l.fn.chain) (all_seen l.rest)) ≡ joined_to (seen_phrase l.fn.first) (read_in l.levels l.self.script (tail l.self.script l.fn.chain) (all_seen l.tokens));
  fewer : l.free ≤ l.levels;
}

abbrev pub decreases-turns : goal.decreases-turns
decreases-turns g l = l.free
