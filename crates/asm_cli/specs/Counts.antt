-- What is printed of a model in which nothing is wrong.
use Rattle.std.specs.Prelude.{ℕ, List, ◌++◌, length, codes}
use Rattle.std.specs.Fmt.{decimal}
use Rattle.asm_sign.specs.Vocabulary.{locations}
use Rattle.asm_tree.specs.declared.unit.LoadedUnit.{LoadedUnit}
use Rattle.asm_faults.specs.Files.{domains, functions, rules, invariants}
use Rattle.asm_faults.specs.FunctionFaults.{signature_of}
use Rattle.asm_cli.specs.declared.counts.Counts.{Counts}

-- what the files of a model declare, the main rule among the rules, and the locations of its dynamic functions
abbrev pub counts_of : List LoadedUnit → Counts
counts_of units = record {
  domains = length (domains units);
  functions = length (functions units);
  rules = length (rules units);
  invariants = length (invariants units);
  locations = length (locations (signature_of units));
}

-- a number and the word behind it
abbrev pub counted : ℕ → List ℕ → List ℕ
counted n word = decimal n ++ word

-- the line of these counts, without its end
abbrev pub counts_text : Counts → List ℕ
counts_text c =
    codes "ok: "
    ++ (counted c.domains (codes " domains, ")
    ++ (counted c.functions (codes " functions, ")
    ++ (counted c.rules (codes " rules, ")
    ++ (counted c.invariants (codes " invariants, ")
    ++ counted c.locations (codes " locations")))))
