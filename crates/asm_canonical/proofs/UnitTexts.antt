-- The text of a whole file, by its parts, as what stands behind a text.
use Rattle.std.proofs.Common.{suc, zero, length, drop, ◌<◌, get_or, drop-cons, add-one, ◌≡◌, ◌==◌, ℕ, ◌+◌, true, false, List, [], ◌∷◌, ◌++◌, refl, ap, sym, ◌∙◌, append_assoc, append-nil, Some, None, Option, arith}
use Rattle.std.proofs.lemmas.Bool.Decides.{nat_tests}
use Rattle.std.specs.Prelude.{map, codes, ℤ, pos, negsuc}
use Rattle.std.specs.Fmt.{decimal, signed_decimal}
use Rattle.asm_tree.specs.declared.term.RawName.{RawName}
use Rattle.asm_tree.specs.declared.term.RawBinder.{RawBinder}
use Rattle.asm_tree.specs.declared.rule.RawRule.{RawRule}
use Rattle.asm_tree.specs.declared.unit.RawPart.{RawPart}
use Rattle.asm_tree.specs.declared.unit.RawPath.{RawPath}
use Rattle.asm_tree.specs.declared.unit.RawFunctionKind.{RawFunctionKind}
use Rattle.asm_tree.specs.declared.unit.RawDeclaration.{RawDeclaration}
use Rattle.asm_tree.specs.declared.unit.RawDeclaration.TheVariants as declaration_of
use Rattle.asm_tree.specs.declared.unit.RawInt.{RawInt}
use Rattle.asm_tree.specs.declared.unit.RawFunction.{RawFunction}
use Rattle.asm_tree.specs.declared.unit.RawInvariant.{RawInvariant}
use Rattle.asm_tree.specs.declared.unit.RawDefinition.{RawDefinition}
use Rattle.asm_tree.specs.declared.unit.RawDefinition.TheVariants as definition_of
use Rattle.asm_tree.specs.declared.unit.RawMain.{RawMain}
use Rattle.asm_tree.specs.declared.unit.RawInit.{RawInit}
use Rattle.asm_tree.specs.declared.unit.RawUnit.{RawUnit}
use Rattle.asm_canonical.specs.Document.{Item, Gap, Line, One, word, spaced, text_in, commas, further, lines}
use Rattle.asm_canonical.specs.Pieces.{line_text, separator_text, listed, joint, behind_each, strung, left_of, name_text, names_text, part_text, parts_text, invariant_name_text}
use Rattle.asm_canonical.specs.Terms.{whole_term, binder_doc, binders_doc}
use Rattle.asm_canonical.specs.Rules.{rule_doc}
use Rattle.asm_canonical.specs.Units.{part_doc, more_parts, parts_doc, import_doc, name_doc, more_elements, elements_doc, type_doc, declaration_doc, kind_word, whole_number, int_doc, parameters_doc, function_doc, macro_doc, invariant_name, invariant_doc, definition_doc, main_doc, init_doc, unit_word, content_doc, canonical}
use Rattle.asm_canonical.proofs.Texts.{text_in-append, listed_step, listed_end, arguments_text, no_arguments}

not_zero : (n : ℕ) → (suc n == 0) ≡ false
not_zero n = grind (arith, nat_tests)

-- ---- lists of texts

module _ {X : Type 0} (f : X → List ℕ) where
  left_next : (w : List ℕ) (n : ℕ) (x : X) (xs : List X) (s : List ℕ) → s ++ left_of w n (map f (x ∷ xs)) ≡ ((s ++ joint n w) ++ f x) ++ left_of w (suc n) (map f xs)
  left_next w zero x xs s = rw (append-nil s) (sym (append_assoc s (f x) (behind_each w (map f xs))))
  left_next w (suc n) x xs s = rw (not_zero n, not_zero (suc n)) (simp append_assoc)

  left_step : (w : List ℕ) (xs : List X) (n : ℕ) (d : X) (s : List ℕ) → n < length xs → s ++ left_of w n (map f (drop n xs)) ≡ ((s ++ joint n w) ++ f (get_or xs n d)) ++ left_of w (n + 1) (map f (drop (n + 1) xs))
  left_step w xs n d s h = rw (add-one, drop-cons xs n d) (left_next w n (get_or xs n d) (drop (suc n) xs) s)

  left_end : (w : List ℕ) (xs : List X) (s : List ℕ) → s ++ left_of w (length xs) [] ≡ s
  left_end w [] s = append-nil s
  left_end w (x ∷ xs) s = rw (not_zero (length xs)) (append-nil s)

pub names_step : (w : List ℕ) (xs : List RawName) (n : ℕ) (d : RawName) (s : List ℕ) → n < length xs → s ++ left_of w n (map name_text (drop n xs)) ≡ ((s ++ joint n w) ++ (get_or xs n d).text) ++ left_of w (n + 1) (map name_text (drop (n + 1) xs))
names_step = left_step name_text

pub names_end : (w : List ℕ) (xs : List RawName) (s : List ℕ) → s ++ left_of w (length xs) [] ≡ s
names_end = left_end name_text

pub parts_step : (xs : List RawPart) (n : ℕ) (d : RawPart) (s : List ℕ) → n < length xs → s ++ left_of (codes "/") n (map part_text (drop n xs)) ≡ ((s ++ joint n (codes "/")) ++ part_text (get_or xs n d)) ++ left_of (codes "/") (n + 1) (map part_text (drop (n + 1) xs))
parts_step = left_step part_text (codes "/")

pub parts_end : (xs : List RawPart) (s : List ℕ) → s ++ left_of (codes "/") (length xs) [] ≡ s
parts_end = left_end part_text (codes "/")

more_parts_text : (ps : List RawPart) → text_in (more_parts ps) ≡ behind_each (codes "/") (map part_text ps)
more_parts_text [] = refl
more_parts_text (p ∷ ps) = ap (λ z. 47 ∷ z) (text_in-append (part_doc p) (more_parts ps) ∙ ap (λ z. part_text p ++ z) (more_parts_text ps))

path_text : (ps : List RawPart) → text_in (parts_doc ps) ≡ strung (codes "/") (map part_text ps)
path_text [] = refl
path_text (p ∷ ps) = text_in-append (part_doc p) (more_parts ps) ∙ ap (λ z. part_text p ++ z) (more_parts_text ps)

pub import_text : (p : RawPath) (s : List ℕ) → s ++ text_in (import_doc p) ≡ (s ++ codes "import ") ++ parts_text p.parts
unfolding import_doc
import_text p s = rw path_text (sym (append_assoc s (codes "import ") (strung (codes "/") (map part_text p.parts))))

pub ruleset strung_lists = (names_step, names_end, parts_step, parts_end)

-- ---- declarations

more_elements_text : (es : List RawName) → text_in (more_elements es) ≡ behind_each (codes " | ") (map name_text es)
more_elements_text [] = refl
more_elements_text (e ∷ es) = ap (λ z. codes " | " ++ (e.text ++ z)) (more_elements_text es)

elements_text : (es : List RawName) → text_in (elements_doc es) ≡ names_text (codes " | ") es
elements_text [] = refl
elements_text (e ∷ es) = ap (λ z. e.text ++ z) (more_elements_text es)

further_names : (ns : List RawName) → text_in (further (codes ",") (map name_doc ns)) ≡ behind_each (codes ", ") (map name_text ns)
further_names [] = refl
further_names (n ∷ ns) = ap (λ z. codes ", " ++ (n.text ++ z)) (further_names ns)

names_in_commas : (ns : List RawName) → text_in (commas (map name_doc ns)) ≡ names_text (codes ", ") ns
names_in_commas [] = refl
names_in_commas (n ∷ ns) = ap (λ z. n.text ++ z) (further_names ns)

pub type_none : (c : RawName) (s : List ℕ) → s ++ text_in (type_doc [] c) ≡ s ++ c.text
type_none c s = ap (λ z. s ++ z) (append-nil c.text)

pub type_one : (d c : RawName) (s : List ℕ) → s ++ text_in (type_doc (d ∷ []) c) ≡ ((s ++ d.text) ++ codes " -> ") ++ c.text
type_one d c s = simp (append_assoc, append-nil)

-- a product of domains, and the codomain
product_text : (a : List Item) (t : List ℕ) (c : RawName) (s : List ℕ) → text_in a ≡ t
    → s ++ text_in ((One (codes "Prod") ∷ One (codes "(") ∷ (a ++ (One (codes ")") ∷ []))) ++ (Gap ∷ One (codes "->") ∷ Gap ∷ One c.text ∷ [])) ≡ (((s ++ codes "Prod(") ++ t) ++ codes ") -> ") ++ c.text
product_text a t c s e = rw (← e) (simp (text_in-append, append_assoc, append-nil))

pub type_more : (d e : RawName) (es : List RawName) (c : RawName) (s : List ℕ) → s ++ text_in (type_doc (d ∷ e ∷ es) c) ≡ (((s ++ codes "Prod(") ++ names_text (codes ", ") (d ∷ e ∷ es)) ++ codes ") -> ") ++ c.text
type_more d e es c s = product_text (commas (map name_doc (d ∷ e ∷ es))) (names_text (codes ", ") (d ∷ e ∷ es)) c s (names_in_commas (d ∷ e ∷ es))

pub ruleset type_texts = (type_none, type_one, type_more)

enumeration_shape : (d : RawName) (a : List Item) (t : List ℕ) (s : List ℕ) → text_in a ≡ t
    → s ++ text_in (One (codes "enum") ∷ Gap ∷ One (codes "domain") ∷ Gap ∷ One d.text ∷ Gap ∷ One (codes "=") ∷ Gap ∷ One (codes "{") ∷ (a ++ (One (codes "}") ∷ []))) ≡ ((((s ++ codes "enum domain ") ++ d.text) ++ codes " = {") ++ t) ++ codes "}"
enumeration_shape d a t s e = rw (← e) (simp (text_in-append, append_assoc))

pub enumeration_text : (d : RawName) (es : List RawName) (s : List ℕ) → s ++ text_in (declaration_doc (declaration_of.Enumeration d es)) ≡ ((((s ++ codes "enum domain ") ++ d.text) ++ codes " = {") ++ names_text (codes " | ") es) ++ codes "}"
unfolding declaration_doc
enumeration_text d es s = enumeration_shape d (elements_doc es) (names_text (codes " | ") es) s (elements_text es)

pub subset_text : (d e : RawName) (s : List ℕ) → s ++ text_in (declaration_doc (declaration_of.Subset d e)) ≡ (((s ++ codes "domain ") ++ d.text) ++ codes " subsetof ") ++ e.text
unfolding declaration_doc
subset_text d e s = simp (append_assoc, append-nil)

pub abstract_text : (d : RawName) (s : List ℕ) → s ++ text_in (declaration_doc (declaration_of.Abstract d)) ≡ (s ++ codes "abstract domain ") ++ d.text
unfolding declaration_doc
abstract_text d s = simp (append_assoc, append-nil)

pub function_declared : (k : RawFunctionKind) (f : RawName) (ds : List RawName) (c : RawName) (s : List ℕ) → s ++ text_in (declaration_doc (declaration_of.Function k f ds c)) ≡ ((((s ++ kind_word k) ++ codes " ") ++ f.text) ++ codes " : ") ++ text_in (type_doc ds c)
unfolding declaration_doc
function_declared k f ds c s = simp append_assoc

pub ruleset declaration_texts = (enumeration_text, subset_text, abstract_text, function_declared)

-- ---- definitions

number_text : (z : ℤ) → text_in (whole_number z) ≡ signed_decimal z
number_text (pos n) = append-nil (decimal n)
number_text (negsuc n) = ap (λ z. 45 ∷ z) (append-nil (decimal (suc n)))

pub int_text : (i : RawInt) (s : List ℕ) → s ++ text_in (int_doc i) ≡ s ++ signed_decimal i.value
int_text i s = ap (λ z. s ++ z) (number_text i.value)

pub ints_step : (xs : List RawInt) (n : ℕ) (d : RawInt) (s : List ℕ) → n < length xs → s ++ listed n (map int_doc (drop n xs)) ≡ ((s ++ separator_text n) ++ text_in (int_doc (get_or xs n d))) ++ listed (n + 1) (map int_doc (drop (n + 1) xs))
ints_step = listed_step int_doc

pub ints_end : (xs : List RawInt) (s : List ℕ) → s ++ listed (length xs) [] ≡ s
ints_end = listed_end int_doc

pub ruleset int_lists = (ints_step, ints_end)

pub parameters_text : (xs : List RawBinder) (s : List ℕ) → (length xs == 0) ≡ false → s ++ text_in (parameters_doc xs) ≡ ((s ++ codes "(") ++ text_in (binders_doc xs)) ++ codes ")"
parameters_text = arguments_text binder_doc

pub parameters_none : (xs : List RawBinder) (s : List ℕ) → (length xs == 0) ≡ true → s ++ text_in (parameters_doc xs) ≡ s
parameters_none = no_arguments binder_doc

pub ruleset parameter_texts = (parameters_text, parameters_none)

pub function_text : (f : RawFunction) (s : List ℕ) → s ++ text_in (function_doc f) ≡ ((((s ++ codes "function ") ++ f.name.text) ++ text_in (parameters_doc f.parameters)) ++ codes " = ") ++ text_in (whole_term f.term)
function_text f s = simp (text_in-append, append_assoc)

pub macro_text : (r : RawName) (ps : List RawBinder) (y : RawRule) (s : List ℕ) → s ++ text_in (macro_doc r ps y) ≡ (((((s ++ codes "rule ") ++ r.text) ++ text_in (parameters_doc ps)) ++ codes " =") ++ line_text 2) ++ text_in (rule_doc y 2)
macro_text r ps y s = simp (text_in-append, append_assoc)

invariant_shape : (a x : List Item) (t : List ℕ) (n : Option RawName) (s : List ℕ) → text_in a ≡ t
    → s ++ text_in (spaced (word (codes "invariant") ∷ (invariant_name n ++ (word (codes "over") ∷ a ∷ word (codes ":") ∷ x ∷ [])))) ≡ (((((s ++ codes "invariant ") ++ invariant_name_text n) ++ codes "over ") ++ t) ++ codes " : ") ++ text_in x
invariant_shape a x t None s e = rw (← e) (simp (text_in-append, append_assoc, append-nil))
invariant_shape a x t (Some n) s e = rw (← e) (simp (text_in-append, append_assoc))

pub invariant_text : (i : RawInvariant) (s : List ℕ) → s ++ text_in (invariant_doc i) ≡ (((((s ++ codes "invariant ") ++ invariant_name_text i.name) ++ codes "over ") ++ names_text (codes ", ") i.over) ++ codes " : ") ++ text_in (whole_term i.term)
unfolding invariant_doc
invariant_text i s = invariant_shape (commas (map name_doc i.over)) (whole_term i.term) (names_text (codes ", ") i.over) i.name s (names_in_commas i.over)

pub function_defined : (f : RawFunction) (s : List ℕ) → s ++ text_in (definition_doc (definition_of.Function f)) ≡ s ++ text_in (function_doc f)
unfolding definition_doc
function_defined f s = refl

pub macro_defined : (r : RawName) (ps : List RawBinder) (y : RawRule) (s : List ℕ) → s ++ text_in (definition_doc (definition_of.Rule r ps y)) ≡ s ++ text_in (macro_doc r ps y)
unfolding definition_doc
macro_defined r ps y s = refl

pub invariant_defined : (i : RawInvariant) (s : List ℕ) → s ++ text_in (definition_doc (definition_of.Invariant i)) ≡ s ++ text_in (invariant_doc i)
unfolding definition_doc
invariant_defined i s = refl

pub range_text : (d : RawName) (low high : RawInt) (s : List ℕ) → s ++ text_in (definition_doc (definition_of.Range d low high)) ≡ ((((((s ++ codes "domain ") ++ d.text) ++ codes " = {") ++ text_in (int_doc low)) ++ codes "..") ++ text_in (int_doc high)) ++ codes "}"
unfolding definition_doc
range_text d low high s = simp (text_in-append, append_assoc)

pub list_text : (d : RawName) (xs : List RawInt) (s : List ℕ) → s ++ text_in (definition_doc (definition_of.List d xs)) ≡ ((((s ++ codes "domain ") ++ d.text) ++ codes " = {") ++ text_in (commas (map int_doc xs))) ++ codes "}"
unfolding definition_doc
list_text d xs s = simp (text_in-append, append_assoc)

pub ruleset definition_texts = (function_text, macro_text, invariant_text, range_text, list_text, function_defined, macro_defined, invariant_defined)

-- ---- lines

module _ {X : Type 0} (f : X → List Item) where
  line_next : (n : ℕ) (x : X) (d : List Item) (s : List ℕ) → s ++ text_in (Line n ∷ (f x ++ d)) ≡ ((s ++ line_text n) ++ text_in (f x)) ++ text_in d
  line_next n x d s = simp (text_in-append, append_assoc)

  lines_step : (xs : List X) (n i : ℕ) (d : X) (s : List ℕ) → i < length xs → s ++ text_in (lines n (map f (drop i xs))) ≡ ((s ++ line_text n) ++ text_in (f (get_or xs i d))) ++ text_in (lines n (map f (drop (i + 1) xs)))
  lines_step xs n i d s h = rw (add-one i, drop-cons xs i d) (line_next n (get_or xs i d) (lines n (map f (drop (suc i) xs))) s)

pub imports_step : (xs : List RawPath) (n i : ℕ) (d : RawPath) (s : List ℕ) → i < length xs → s ++ text_in (lines n (map import_doc (drop i xs))) ≡ ((s ++ line_text n) ++ text_in (import_doc (get_or xs i d))) ++ text_in (lines n (map import_doc (drop (i + 1) xs)))
imports_step = lines_step import_doc

pub declarations_step : (xs : List RawDeclaration) (n i : ℕ) (d : RawDeclaration) (s : List ℕ) → i < length xs → s ++ text_in (lines n (map declaration_doc (drop i xs))) ≡ ((s ++ line_text n) ++ text_in (declaration_doc (get_or xs i d))) ++ text_in (lines n (map declaration_doc (drop (i + 1) xs)))
declarations_step = lines_step declaration_doc

pub definitions_step : (xs : List RawDefinition) (n i : ℕ) (d : RawDefinition) (s : List ℕ) → i < length xs → s ++ text_in (lines n (map definition_doc (drop i xs))) ≡ ((s ++ line_text n) ++ text_in (definition_doc (get_or xs i d))) ++ text_in (lines n (map definition_doc (drop (i + 1) xs)))
definitions_step = lines_step definition_doc

pub functions_step : (xs : List RawFunction) (n i : ℕ) (d : RawFunction) (s : List ℕ) → i < length xs → s ++ text_in (lines n (map function_doc (drop i xs))) ≡ ((s ++ line_text n) ++ text_in (function_doc (get_or xs i d))) ++ text_in (lines n (map function_doc (drop (i + 1) xs)))
functions_step = lines_step function_doc

pub lines_end : (s : List ℕ) → s ++ text_in [] ≡ s
lines_end s = append-nil s

pub ruleset line_lists = (imports_step, declarations_step, definitions_step, functions_step, lines_end)

-- ---- units

pub main_text : (m : RawMain) (s : List ℕ) → s ++ text_in (main_doc (Some m)) ≡ ((((s ++ codes "\nmain rule ") ++ m.name.text) ++ codes " =") ++ line_text 1) ++ text_in (rule_doc m.rule 1)
unfolding main_doc
main_text m s = simp append_assoc

pub main_none : (s : List ℕ) → s ++ text_in (main_doc None) ≡ s
unfolding main_doc
main_none s = append-nil s

pub init_text : (i : RawInit) (s : List ℕ) → s ++ text_in (init_doc (Some i)) ≡ (((s ++ codes "\ndefault init ") ++ i.name.text) ++ codes ":") ++ text_in (lines 1 (map function_doc i.functions))
unfolding init_doc
init_text i s = simp append_assoc

pub init_none : (s : List ℕ) → s ++ text_in (init_doc None) ≡ s
unfolding init_doc
init_none s = append-nil s

content_shape : (a b c : List Item) (s : List ℕ) → s ++ text_in (a ++ (Line 0 ∷ One (codes "signature") ∷ One (codes ":") ∷ (b ++ (Line 0 ∷ One (codes "definitions") ∷ One (codes ":") ∷ c))))
    ≡ ((((s ++ text_in a) ++ codes "\nsignature:") ++ text_in b) ++ codes "\ndefinitions:") ++ text_in c
content_shape a b c s = simp (text_in-append, append_assoc)

pub content_text : (u : RawUnit) (s : List ℕ) → s ++ text_in (content_doc u)
    ≡ ((((s ++ text_in (lines 0 (map import_doc u.imports))) ++ codes "\nsignature:") ++ text_in (lines 1 (map declaration_doc u.declarations))) ++ codes "\ndefinitions:") ++ text_in (lines 1 (map definition_doc u.definitions))
unfolding content_doc
content_text u s = content_shape (lines 0 (map import_doc u.imports)) (lines 1 (map declaration_doc u.declarations)) (lines 1 (map definition_doc u.definitions)) s

unit_shape : (k w : List ℕ) (a m i : List Item) (s : List ℕ) → s ++ (text_in (One k ∷ Gap ∷ One w ∷ (a ++ (m ++ i))) ++ codes "\n") ≡ ((((((s ++ k) ++ codes " ") ++ w) ++ text_in a) ++ text_in m) ++ text_in i) ++ codes "\n"
unit_shape k w a m i s = simp (text_in-append, append_assoc)

pub unit_text : (u : RawUnit) (s : List ℕ) → s ++ canonical u ≡ ((((((s ++ unit_word u.kind) ++ codes " ") ++ u.name.text) ++ text_in (content_doc u)) ++ text_in (main_doc u.main)) ++ text_in (init_doc u.init)) ++ codes "\n"
unfolding canonical
unit_text u s = unit_shape (unit_word u.kind) u.name.text (content_doc u) (main_doc u.main) (init_doc u.init) s

pub ruleset unit_texts = (main_text, main_none, init_text, init_none, content_text, unit_text)
