-- What is printed of a fault of a file, of a model or of a scenario.
use Rattle.std.specs.Prelude.{ℕ, List, [], ◌++◌, drop, take_while, slice_get, codes}
use Rattle.std.specs.Option.{option_map, unwrap_or}
use Rattle.asm_source.specs.declared.sources.Source.{Source}
use Rattle.asm_source.specs.declared.sources.Place.{Place}
use Rattle.asm_source.specs.Spots.{text_of}
use Rattle.asm_lex.specs.Cut.{in_word}
use Rattle.asm_lex.specs.declared.error.LexError.{LexError}
use Rattle.asm_lex.specs.declared.error.LexError.TheVariants as lex
use Rattle.asm_tree.specs.declared.error.ParseError.{ParseError}
use Rattle.asm_tree.specs.declared.error.ParseError.TheVariants as parse
use Rattle.asm_faults.specs.declared.fault.ModelFault.{ModelFault}
use Rattle.asm_faults.specs.declared.fault.ModelFault.TheVariants.{Duplicate, Unknown, WrongKind, WrongArity, WrongType, Unbound, EmptyDomain, DomainTooLarge, TooManyLocations, NoDefinition, NoMain, NoInit, Cycle, CallsTooDeep, ForbiddenRead, RangeTooWide}
use Rattle.asm_faults.specs.declared.error.ModelError.{ModelError}
use Rattle.asm_faults.specs.declared.error.ModelError.TheVariants as resolve
use Rattle.asm_text.specs.Texts.{place_text}
use Rattle.avalla_prepare.specs.declared.error.ScenarioError.{ScenarioError}
use Rattle.avalla_prepare.specs.declared.error.ScenarioError.TheVariants as scenario
use Rattle.asm_unit.specs.declared.error.LoadError.{LoadError}
use Rattle.asm_unit.specs.declared.error.LoadError.TheVariants.{Absent, TooLong, Read, Lex, Parse, ImportCycle, TooManyFiles, Memory}

abbrev pub lex_message : LexError → List ℕ
lex_message (lex.BadByte at) = codes ": unexpected byte"
lex_message (lex.OpenComment at) = codes ": comment not closed"
lex_message (lex.NumberTooBig at) = codes ": number too big"
lex_message lex.Memory = []

-- the letters, digits and `_` from a place on
abbrev pub word_at : List ℕ → ℕ → List ℕ
word_at text at = take_while in_word (drop at text)

abbrev pub parse_message : List ℕ → ParseError → List ℕ
parse_message word (parse.Syntax k) = codes ": syntax error"
parse_message word (parse.Unsupported k) = codes ": not supported: " ++ word
parse_message word (parse.TooDeep k) = codes ": nested too deep"
parse_message word parse.Memory = []

-- the line of a fault, without its end; an outside fault and want of memory have none
abbrev pub fault_text : List Source → LoadError → List ℕ
fault_text sources (Absent name) = name ++ codes ": no such file"
fault_text sources (TooLong name) = name ++ codes ": too long"
fault_text sources (Read name) = []
fault_text sources (Lex place e) = place_text sources place ++ lex_message e
fault_text sources (Parse place e) = place_text sources place ++ parse_message (word_at (text_of sources place.file) place.at) e
fault_text sources (ImportCycle name) = name ++ codes ": import cycle"
fault_text sources (TooManyFiles name) = name ++ codes ": too many files"
fault_text sources Memory = []

-- what is said of a fault of a model, before the text of its token
abbrev pub model_message : ModelFault → List ℕ
model_message Duplicate = codes ": declared twice: "
model_message Unknown = codes ": unknown name: "
model_message WrongKind = codes ": wrong kind: "
model_message WrongArity = codes ": wrong number of arguments: "
model_message WrongType = codes ": wrong type: "
model_message Unbound = codes ": unbound variable: "
model_message EmptyDomain = codes ": empty domain: "
model_message DomainTooLarge = codes ": domain too large: "
model_message TooManyLocations = codes ": too many locations: "
model_message NoDefinition = codes ": no definition: "
model_message NoMain = codes ": no main rule: "
model_message NoInit = codes ": no default init: "
model_message Cycle = codes ": defined by itself: "
model_message CallsTooDeep = codes ": calls too deep: "
model_message ForbiddenRead = codes ": forbidden read: "
model_message RangeTooWide = codes ": range too wide: "

-- the line of a fault of a model at a place, without its end
abbrev pub model_fault_text : List Source → ModelFault → List ℕ → Place → List ℕ
model_fault_text sources kind name place = place_text sources place ++ (model_message kind ++ name)

-- the line of a bad setting of this name, without its end
abbrev pub bad_set_text : List Source → Place → List ℕ → List ℕ
bad_set_text sources place name = place_text sources place ++ (codes ": bad set: " ++ name)

-- what is said of a missing block of this name, without the line's end
abbrev pub no_block_text : List Source → Place → List ℕ → List ℕ
no_block_text sources place name = place_text sources place ++ (codes ": no such block: " ++ name)

-- the name of the file of a number
abbrev pub name_in : List Source → ℕ → List ℕ
name_in sources file = unwrap_or (option_map (λ (source : Source). source.name) (slice_get sources file)) []

-- the line of what is wrong with a model, without its end; want of memory has none
abbrev pub model_error_text : List Source → ModelError → List ℕ
model_error_text sources (resolve.Fault kind name place) = model_fault_text sources kind name place
model_error_text sources resolve.Memory = []

-- the line of what is wrong with a scenario, without its end; want of memory has none
abbrev pub scenario_fault_text : List Source → ScenarioError → List ℕ
scenario_fault_text sources (scenario.NoBlock name place) = no_block_text sources place name
scenario_fault_text sources (scenario.BadSet name place) = bad_set_text sources place name
scenario_fault_text sources (scenario.Model e) = model_error_text sources e
scenario_fault_text sources (scenario.TooLong file) = name_in sources file ++ codes ": scenario too long"
scenario_fault_text sources scenario.Memory = []
