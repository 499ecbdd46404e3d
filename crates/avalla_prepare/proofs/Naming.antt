-- What the table of blocks that have ended says of names.
use Rattle.std.proofs.Common.{◌≡◌, ℕ, ◌+◌, Bool as Truth, true, false, List, ◌∷◌, ◌++◌, length, Option, Some, refl, sym, subst}
use Rattle.std.specs.Prelude.{bytes_eq, if◌then◌else◌}
use Rattle.asm_faults.specs.At.{Name}
use Rattle.asm_tree.specs.declared.script.RawCommand.{RawCommand}
use Rattle.asm_tree.specs.declared.script.RawScenarioCommand.{RawScenarioCommand}
use Rattle.asm_tree.specs.declared.script.RawScenarioCommand.TheVariants as scenario
use Rattle.avalla_prepare.specs.Parts.{AreSizes, IsSize, ended_by, latest_by, met_by, missing_by}
use Rattle.avalla_prepare.specs.Scenario.{Block, all_unfolded, block_named, met_after, missing_after}

-- ---- one command of a scenario, and the others

pub met_next : (blocks : List Block) (c : RawScenarioCommand) (others : List RawScenarioCommand) → met_after blocks (c ∷ others) ≡ met_by blocks c ++ met_after (ended_by blocks c) others
met_next blocks (scenario.Plain c) others = refl
met_next blocks (scenario.Block name cs) others = refl

pub missing_next : (blocks : List Block) (c : RawScenarioCommand) (others : List RawScenarioCommand) → missing_after blocks (c ∷ others) ≡ missing_by blocks c ++ missing_after (ended_by blocks c) others
missing_next blocks (scenario.Plain c) others = refl
missing_next blocks (scenario.Block name cs) others = refl

-- ---- sizes

either_size : (b : Truth) (p : ℕ × ℕ) (cs : List RawCommand) (found : Option (ℕ × ℕ)) (named : Option (List RawCommand)) → IsSize (Some p) (Some cs) → IsSize found named → IsSize (if b then Some p else found) (if b then Some cs else named)
either_size true p cs found named this others = this
either_size false p cs found named this others = others

-- after a command of a scenario
pub sizes_by : (blocks : List Block) (places later : Name → Option (ℕ × ℕ)) (c : RawScenarioCommand) (from to : ℕ) → AreSizes blocks places → from + length (met_by blocks c) ≡ to → ((name : Name) → later name ≡ latest_by c (from, to) name (places name)) → AreSizes (ended_by blocks c) later
sizes_by blocks places later (scenario.Plain c) from to sizes is same = record { size = λ name. subst (λ o. IsSize o (block_named blocks name)) (sym (same name)) (sizes.size name) }
sizes_by blocks places later (scenario.Block n cs) from to sizes is same = record {
  size = λ name. subst (λ o. IsSize o (if bytes_eq n.text name then Some (all_unfolded blocks cs) else block_named blocks name)) (sym (same name))
      (either_size (bytes_eq n.text name) (from, to) (all_unfolded blocks cs) (places name) (block_named blocks name) is (sizes.size name));
}
