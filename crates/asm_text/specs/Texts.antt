-- What is printed of values, locations, states, places and stops.
use Rattle.std.specs.Prelude.{◌<◌, ◌^◌, All, ℕ, zero, suc, true, false, List, [], ◌∷◌, ◌++◌, map, length, Option, Some, None, slice_get, if◌then◌else◌, codes}
use Rattle.std.specs.Fmt.{decimal, signed_decimal}
use Rattle.std.specs.List.{flat_map, range_with_len}
use Rattle.std.specs.Option.{option_map, unwrap_or}
use Rattle.std.specs.FinMap.{get}
use Rattle.asm_domain.specs.Universe.{Universe, Truths, Numbers, Named}
use Rattle.asm_domain.specs.declared.value.Value.{Value}
use Rattle.asm_domain.specs.declared.value.Value.TheVariants.{Undef, Bool, Int, Elem}
use Rattle.asm_source.specs.declared.sources.Place.{Place}
use Rattle.asm_source.specs.declared.sources.Source.{Source}
use Rattle.asm_source.specs.declared.sources.Spot.{Spot}
use Rattle.asm_source.specs.Spots.{spot_at, text_of}
use Rattle.asm_node.specs.declared.stop.Stop.{Stop}
use Rattle.asm_node.specs.declared.stop.Stop.TheVariants as stop
use Rattle.asm_node.specs.Machine.{State, has_kind}
use Rattle.asm_sign.specs.Kind.{is_kept}
use Rattle.asm_sign.specs.Vocabulary.{Vocabulary, locations, function_at}
use Rattle.asm_sign.specs.declared.function.DeclaredDomain.{DeclaredDomain}
use Rattle.asm_sign.specs.declared.function.Function.{Function}

-- a text that ends with a line feed
abbrev pub line : List ℕ → List ℕ
line text = text ++ 10 ∷ []

-- each file has fewer bytes than its places may count
abbrev pub AreShort : List Source → Type 0
AreShort sources = All (λ (source : Source). length source.text < 2 ^ 31) sources

-- ---- values

-- the name of the element of a rank, where the domain's elements have names
abbrev pub name_in : Option Universe → ℕ → List ℕ
name_in (Some (Named number names)) rank = unwrap_or (slice_get names rank) []
name_in (Some Truths) rank = []
name_in (Some (Numbers numbers)) rank = []
name_in None rank = []

-- the name of an element of the domain of this number
abbrev pub element_name : List DeclaredDomain → ℕ → ℕ → List ℕ
element_name domains number rank = name_in (option_map (λ (d : DeclaredDomain). d.domain) (slice_get domains number)) rank

-- `undef`, a truth value, a decimal number with `-` where it is below 0, or the element's name
abbrev pub value_text : Vocabulary → Value → List ℕ
value_text v Undef = codes "undef"
value_text v (Bool true) = codes "true"
value_text v (Bool false) = codes "false"
value_text v (Int z) = signed_decimal z
value_text v (Elem number rank) = element_name v.domains number rank

-- ---- locations

-- what stands before the text of this number among several
abbrev pub joint : ℕ → List ℕ
joint zero = []
joint (suc index) = codes ","

-- texts with commas between them
abbrev pub with_commas : List (List ℕ) → List ℕ
with_commas [] = []
with_commas (t ∷ []) = t
with_commas (t ∷ u ∷ ts) = t ++ codes "," ++ with_commas (u ∷ ts)

-- the arguments in parentheses, where there are any
abbrev pub arguments_text : Vocabulary → List Value → List ℕ
arguments_text v [] = []
arguments_text v (x ∷ xs) = codes "(" ++ with_commas (map (value_text v) (x ∷ xs)) ++ codes ")"

-- the name of the function of a number
abbrev pub function_name : Vocabulary → ℕ → List ℕ
function_name v f = unwrap_or (option_map (λ (g : Function). g.name) (slice_get v.functions f)) []

abbrev pub located : Vocabulary → Option (ℕ × List Value) → List ℕ
located v (Some location) = function_name v location.0 ++ arguments_text v location.1
located v None = []

-- `f`, or `f(v,w)` without blanks
abbrev pub location_text : Vocabulary → ℕ → List ℕ
location_text v slot = located v (slice_get (locations v) slot)

-- ---- states

-- two spaces, the location, ` = ` and its value
abbrev pub location_line : Vocabulary → ℕ → Value → List ℕ
location_line v slot x = line (codes "  " ++ location_text v slot ++ codes " = " ++ value_text v x)

-- the line of a location that a state keeps; no other has one
abbrev pub kept_line : Vocabulary → State → ℕ → List ℕ
kept_line v s slot = if has_kind is_kept (function_at v slot) then location_line v slot (unwrap_or (get s slot) Undef) else []

-- the lines of the kept locations in their order
abbrev pub state_text : Vocabulary → State → List ℕ
state_text v s = flat_map (kept_line v s) (range_with_len 0 (length (locations v)))

-- ---- places and stops

abbrev pub file_name : Option Source → List ℕ
file_name (Some source) = source.name
file_name None = []

abbrev pub spot_text : Spot → List ℕ
spot_text spot = decimal spot.line ++ codes ":" ++ decimal spot.column

-- `FILE:LINE:COLUMN`
abbrev pub place_text : List Source → Place → List ℕ
place_text sources place = file_name (slice_get sources place.file) ++ codes ":" ++ spot_text (spot_at (text_of sources place.file) place.at)

abbrev pub stop_text : Vocabulary → List Source → Stop → List ℕ
stop_text v sources (stop.Clash slot x y) = codes "clash at " ++ location_text v slot ++ codes ": " ++ value_text v x ++ codes " and " ++ value_text v y
stop_text v sources (stop.Invariant number) = codes "invariant " ++ decimal number
stop_text v sources (stop.Input slot) = codes "no input for " ++ location_text v slot
stop_text v sources (stop.Choice place) = codes "no choice word at " ++ place_text sources place
stop_text v sources (stop.UndefGuard place) = codes "undefined guard at " ++ place_text sources place
stop_text v sources (stop.BadArgument place) = codes "bad argument at " ++ place_text sources place
stop_text v sources (stop.BadValue place slot x) = codes "bad value " ++ value_text v x ++ codes " for " ++ location_text v slot ++ codes " at " ++ place_text sources place
stop_text v sources (stop.BadInitial slot x) = codes "bad initial value " ++ value_text v x ++ codes " for " ++ location_text v slot

-- the line of a stop
abbrev pub stop_line : Vocabulary → List Source → Stop → List ℕ
stop_line v sources e = line (codes "stop: " ++ stop_text v sources e)
