-- What is printed of links, inputs, choice words and steps.
use Rattle.std.specs.Prelude.{ℕ, List, [], ◌∷◌, ◌++◌, Option, Some, None, map, length, codes}
use Rattle.std.specs.Fmt.{decimal}
use Rattle.std.specs.List.{flat_map, range_with_len}
use Rattle.std.specs.FinMap.{get}
use Rattle.asm_domain.specs.declared.value.Value.{Value}
use Rattle.asm_sign.specs.Vocabulary.{Vocabulary, locations}
use Rattle.asm_node.specs.Machine.{Input}
use Rattle.asm_node.specs.Model.{machine_of}
use Rattle.asm_text.specs.Texts.{line, function_name, location_line, state_text, with_commas}
use Rattle.ref_link.specs.declared.link.Link.{Link}
use Rattle.ref_link.specs.Linking.{Linking}
use Rattle.ref_report.specs.declared.linked.LinkedModels.{LinkedModels}
use Rattle.ref_report.specs.declared.report.Step.{Step}

-- the models and the links
abbrev pub linking : LinkedModels → Linking
linking l = record { abstract_model = machine_of l.abstract_model.now; concrete_model = machine_of l.concrete_model.now; links = l.links.now }

-- `link F = G`
abbrev pub link_line : Vocabulary → Vocabulary → Link → List ℕ
link_line a c link = line (codes "link " ++ function_name a link.abstract_function ++ codes " = " ++ function_name c link.concrete_function)

-- a line for each link in order, or that there is none
abbrev pub lines_of : Vocabulary → Vocabulary → List Link → List ℕ
lines_of a c [] = line (codes "no links")
lines_of a c (link ∷ others) = flat_map (link_line a c) (link ∷ others)

abbrev pub links_text : Linking → List ℕ
links_text p = lines_of p.abstract_model.signature p.concrete_model.signature p.links

-- the line of a location to which the input gives a value
abbrev pub given_line : Vocabulary → ℕ → Option Value → List ℕ
given_line v slot (Some x) = location_line v slot x
given_line v slot None = []

-- the line of a location, if the input gives it a value
abbrev pub input_line : Vocabulary → Input → ℕ → List ℕ
input_line v i slot = given_line v slot (get i slot)

-- the lines of the locations that the input gives, in their order
abbrev pub input_text : Vocabulary → Input → List ℕ
input_text v i = flat_map (input_line v i) (range_with_len 0 (length (locations v)))

-- the words with commas between them, or `none`
abbrev pub words_text : List ℕ → List ℕ
words_text [] = codes "none"
words_text (word ∷ others) = with_commas (map decimal (word ∷ others))

-- the choice words of a step
abbrev pub choices_line : List ℕ → List ℕ
choices_line words = line (codes "choices " ++ words_text words)

-- the states before a step
abbrev pub before_text : Vocabulary → Vocabulary → Step → List ℕ
before_text a c step = (line (codes "abstract state") ++ state_text a step.abstract_state) ++ (line (codes "concrete state") ++ state_text c step.concrete_state)

-- what a step is given, and the concrete state after it
abbrev pub after_text : Vocabulary → Step → List ℕ
after_text c step = line (codes "input") ++ input_text c step.input ++ choices_line step.words.0 ++ (line (codes "next concrete state") ++ state_text c step.next)

-- a step beside an abstract state: both states, the input, the choice words, and the next concrete state
abbrev pub step_text : Vocabulary → Vocabulary → Step → List ℕ
step_text a c step = before_text a c step ++ after_text c step
