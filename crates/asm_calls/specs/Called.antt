-- What terms read and rules call, by numbers.
use Rattle.std.specs.Prelude.{ℕ, List, ◌++◌, Option, Some, None}
use Rattle.std.specs.List.{flat_map}
use Rattle.asm_sign.specs.declared.function.Function.{Function}
use Rattle.asm_sign.specs.Vocabulary.{Vocabulary}
use Rattle.asm_tree.specs.declared.term.RawTerm.{RawTerm, RawTerm-F}
use Rattle.asm_tree.specs.declared.term.RawTermKind.{RawTermKind, fold-RawTermKind}
use Rattle.asm_tree.specs.declared.term.RawTermKind.TheOpen.{RawBind-F, RawCase-F}
use Rattle.asm_tree.specs.declared.term.RawCase.{RawCase, fold-RawCase}
use Rattle.asm_tree.specs.declared.term.RawBind.{RawBind, fold-RawBind}
use Rattle.asm_tree.specs.declared.rule.RawRule.{RawRule, RawRule-F}
use Rattle.asm_tree.specs.declared.rule.RawRuleKind.{RawRuleKind, fold-RawRuleKind}
use Rattle.asm_tree.specs.declared.rule.RawRuleKind.TheOpen.{RawRuleCase-F}
use Rattle.asm_tree.specs.declared.rule.RawRuleCase.{RawRuleCase, fold-RawRuleCase}
use Rattle.name_table.specs.Numbered.{number_of}
use Rattle.asm_faults.specs.At.{Name}
use Rattle.asm_faults.specs.Calls.{Names, numbers_of, called, called_kind, called_rules, called_rules_kind}
use Rattle.asm_faults.specs.Files.{to_list}
use Rattle.asm_faults.specs.Terms.{function_place, function_named}
use Rattle.asm_calls.specs.declared.read.Read.{Read}

-- ---- what is found of names

-- what is found of those names of which something is
abbrev pub found_of : {A : Type 0} → (Name → Option A) → Names → List A
found_of find names = flat_map (λ name. to_list (find name)) names

abbrev pub read_at : Option ℕ → Option Function → Option Read
read_at (Some number) (Some f) = Some (record { number = number; kind = f.kind })
read_at _ _ = None

-- a function of the vocabulary, by its name
abbrev pub read_of : Vocabulary → Name → Option Read
read_of v name = read_at (function_place v name) (function_named v name)

-- ---- functions that are read

abbrev pub bind_step : RawBind-F Names Names Names Names → Names
bind_step b = b.term

abbrev pub case_step : RawCase-F Names Names Names Names → Names
case_step c = c.label ++ c.value

abbrev pub term_step : RawTerm-F Names Names Names Names → Names
term_step t = t.kind

abbrev pub kind_called : RawTermKind → Names
kind_called = fold-RawTermKind Names Names Names Names called_kind bind_step case_step term_step

abbrev pub bind_called : RawBind → Names
bind_called = fold-RawBind Names Names Names Names called_kind bind_step case_step term_step

abbrev pub case_called : RawCase → Names
case_called = fold-RawCase Names Names Names Names called_kind bind_step case_step term_step

-- the functions that a term reads itself
unfoldable pub functions_in : Vocabulary → RawTerm → List Read
functions_in v t = found_of (read_of v) (called t)

unfoldable pub functions_of_kind : Vocabulary → RawTermKind → List Read
functions_of_kind v k = found_of (read_of v) (kind_called k)

unfoldable pub functions_in_bind : Vocabulary → RawBind → List Read
functions_in_bind v b = found_of (read_of v) (bind_called b)

unfoldable pub functions_in_case : Vocabulary → RawCase → List Read
functions_in_case v c = found_of (read_of v) (case_called c)

-- ---- rules that are called

abbrev pub rule_step : RawRule-F Names Names Names → Names
rule_step r = r.kind

abbrev pub rule_case_step : RawRuleCase-F Names Names Names → Names
rule_case_step c = c.rule

abbrev pub rule_kind_called : RawRuleKind → Names
rule_kind_called = fold-RawRuleKind Names Names Names called_rules_kind rule_step rule_case_step

abbrev pub rule_case_called : RawRuleCase → Names
rule_case_called = fold-RawRuleCase Names Names Names called_rules_kind rule_step rule_case_step

-- the numbers among these names of the rules that a rule calls itself
unfoldable pub rules_in : List Name → RawRule → List ℕ
rules_in names r = numbers_of (number_of names) (called_rules r)

unfoldable pub rules_of_kind : List Name → RawRuleKind → List ℕ
rules_of_kind names k = numbers_of (number_of names) (rule_kind_called k)

unfoldable pub rules_in_case : List Name → RawRuleCase → List ℕ
rules_in_case names c = numbers_of (number_of names) (rule_case_called c)
