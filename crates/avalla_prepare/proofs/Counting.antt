-- How many commands are met, and the first missing block.
use Rattle.std.proofs.Common.{◌≡◌, ◌∙◌, ℕ, ◌+◌, ◌<◌, ◌≤◌, List, [], length, get_or, drop, Option, sym, ap, length-append, arith}
use Rattle.asm_faults.specs.At.{Name}
use Rattle.asm_tree.specs.declared.script.RawScenarioCommand.{RawScenarioCommand}
use Rattle.asm_tree.specs.declared.term.RawName.{RawName}
use Rattle.avalla_prepare.specs.Parts.{AreSizes, ended_by, latest_by, met_by, missing_by, or_first}
use Rattle.avalla_prepare.specs.Scenario.{Block, first_of, met_after, missing_after, most_commands}
use Rattle.avalla_prepare.proofs.Naming.{met_next, missing_next, sizes_by}
use Rattle.avalla_prepare.proofs.Walking.{rest_is, or_first_append}

-- the blocks that have ended before the commands that are left, how many commands were met, and the first missing block
pub record Surveys (commands : List RawScenarioCommand) (i : ℕ) (places : Name → Option (ℕ × ℕ)) (met : ℕ) (missing : Option RawName) : Type 0 where
  pub blocks : List Block
  pub sizes : AreSizes blocks places
  pub count : met + length (met_after blocks (drop i commands)) ≡ length (met_after [] commands)
  pub few : met ≤ most_commands
  pub first : or_first missing (missing_after blocks (drop i commands)) ≡ first_of (missing_after [] commands)

module _ (commands : List RawScenarioCommand) (i : ℕ) (c : RawScenarioCommand) (within : i < length commands) (at : c ≡ get_or commands i c) (places : Name → Option (ℕ × ℕ)) (met : ℕ) (missing : Option RawName) (s : Surveys commands i places met missing) where
  pub count_next : (met + length (met_by s.blocks c)) + length (met_after (ended_by s.blocks c) (drop (i + 1) commands)) ≡ length (met_after [] commands)
  count_next =
      let split : length (met_after s.blocks (drop i commands)) ≡ length (met_by s.blocks c) + length (met_after (ended_by s.blocks c) (drop (i + 1) commands)) =
      ap (λ cs. length (met_after s.blocks cs)) (rest_is commands i c within at)
      ∙ ap length (met_next s.blocks c (drop (i + 1) commands))
      ∙ length-append (met_by s.blocks c) (met_after (ended_by s.blocks c) (drop (i + 1) commands)) in
      omega (arith, s.count, split)

  pub survey_goes : (to : ℕ) (later : Name → Option (ℕ × ℕ)) (now : Option RawName) → to ≡ met + length (met_by s.blocks c) → to ≤ most_commands → ((name : Name) → later name ≡ latest_by c (met, to) name (places name)) → now ≡ or_first missing (missing_by s.blocks c) → Surveys commands (i + 1) later to now
  survey_goes to later now is few same is_now = record {
    blocks = ended_by s.blocks c;
    sizes = sizes_by s.blocks places later c met to s.sizes (sym is) same;
    count = ap (λ n. n + length (met_after (ended_by s.blocks c) (drop (i + 1) commands))) is ∙ count_next;
    few = few;
    first =
        ap (λ (o : Option RawName). or_first o (missing_after (ended_by s.blocks c) (drop (i + 1) commands))) is_now
        ∙ sym (or_first_append missing (missing_by s.blocks c) (missing_after (ended_by s.blocks c) (drop (i + 1) commands)))
        ∙ sym (ap (or_first missing) (ap (missing_after s.blocks) (rest_is commands i c within at) ∙ missing_next s.blocks c (drop (i + 1) commands)))
        ∙ s.first;
  }
