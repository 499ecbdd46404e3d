-- The faults of a file's text.
use Rattle.std.proofs.Common.{◌≡◌, ◌≢◌, ◌<◌, ◌∙◌, ℕ, List, length, Result, Ok, Err, Some, refl, ap, sym, subst}
use Rattle.std.specs.FinMap.{get}
use Rattle.asm_io.specs.Outside.{Files}
use Rattle.asm_io.specs.Reads.{IsTooLong}
use Rattle.asm_lex.specs.declared.token.Token.{Token}
use Rattle.asm_tree.specs.declared.error.ParseError.{ParseError}
use Rattle.asm_tree.specs.declared.error.ParseError.TheVariants as parse
use Rattle.asm_tree.specs.declared.unit.RawUnit.{RawUnit}
use Rattle.asm_unit.specs.declared.error.LoadError.{LoadError}
use Rattle.asm_unit.specs.declared.error.LoadError.TheVariants.{Absent, TooLong, Read, Lex, Parse, ImportCycle, TooManyFiles, Memory}
use Rattle.asm_lex.specs.declared.error.LexError.{LexError}
use Rattle.asm_lex.specs.declared.error.LexError.TheVariants as lex
use Rattle.asm_lex.specs.Cut.{cut}
use Rattle.std.specs.Prelude.{IfErr}
use Rattle.asm_unit.specs.Loading.{Judges, OnRead}
use Rattle.asm_unit.specs.Spelled.{lex_fault, cut_in, parse_fault, Parses, parsed, parsed_in, tokens_of, tree_from, tree_of}

-- an error that stands for a fault isn't want of memory
pub parse_told : (file : ℕ) (text : List ℕ) (tokens : List Token) (e : ParseError) (o : Result RawUnit ParseError) → Parses (Err e) o → parse_fault file text tokens e ≢ Memory → o ≡ Err e
parse_told file text tokens (parse.Syntax k) o p ne = p (λ z. cc)
parse_told file text tokens (parse.Unsupported k) o p ne = p (λ z. cc)
parse_told file text tokens (parse.TooDeep k) o p ne = p (λ z. cc)
parse_told file text tokens parse.Memory o p ne = absurd (ne refl)

-- so the file's tree is refused with that fault
pub tree_refused : (file : ℕ) (text : List ℕ) (tokens listed : List Token) (e : ParseError) (fault : LoadError) → tokens_of file text ≡ Ok tokens → listed ≡ tokens → Parses (Err e) (parsed text listed) → fault ≡ parse_fault file text listed e → fault ≢ Memory → tree_of file text ≡ Err fault
unfolding tree_of
tree_refused file text tokens listed e fault is same p told ne =
    rw is (rw (← same) (rw (parse_told file text listed e (parsed text listed) p (λ z. ne (told ∙ z))) (ap Err (sym told))))

pub long_text : (files : Files) (read name : List ℕ) (limit : ℕ) → read ≡ name → IsTooLong files read limit → (text : List ℕ) × (get files name ≡ Some text) × (limit < length text)
long_text files read name limit same long = (long.text, sym (ap (get files) same) ∙ long.held, long.longer)

-- ---- a text has no fault of the shelf

lex_not_read : (file : ℕ) (e : LexError) (name : List ℕ) → lex_fault file e ≡ Read name → ⊥
lex_not_read file (lex.BadByte at) name h = cc
lex_not_read file (lex.OpenComment at) name h = cc
lex_not_read file (lex.NumberTooBig at) name h = cc
lex_not_read file lex.Memory name h = cc

parse_not_read : (file : ℕ) (text : List ℕ) (tokens : List Token) (e : ParseError) (name : List ℕ) → parse_fault file text tokens e ≡ Read name → ⊥
parse_not_read file text tokens (parse.Syntax k) name h = cc
parse_not_read file text tokens (parse.Unsupported k) name h = cc
parse_not_read file text tokens (parse.TooDeep k) name h = cc
parse_not_read file text tokens parse.Memory name h = cc

parsed_not_read : (file : ℕ) (text : List ℕ) (tokens : List Token) (r : Result RawUnit ParseError) (name : List ℕ) → parsed_in file text tokens r ≡ Err (Read name) → ⊥
parsed_not_read file text tokens (Ok unit) name h = cc
parsed_not_read file text tokens (Err e) name h = parse_not_read file text tokens e name (cc)

from_not_read : (file : ℕ) (text : List ℕ) (c : Result (List Token) LexError) (name : List ℕ) → tree_from file text (cut_in file c) ≡ Err (Read name) → ⊥
from_not_read file text (Ok tokens) name h = parsed_not_read file text tokens (parsed text tokens) name h
from_not_read file text (Err e) name h = lex_not_read file e name (cc)

tree_not_read : (file : ℕ) (text name : List ℕ) → tree_of file text ≡ Err (Read name) → ⊥
unfolding tree_of
tree_not_read file text name h = from_not_read file text (cut text) name h

pub judged_read : (file : ℕ) (text : List ℕ) (r : Result RawUnit LoadError) (P : Type 0) → Judges r (tree_of file text) → IfErr r (λ e. OnRead e P)
judged_read file text (Ok unit) P j = tt
judged_read file text (Err (Absent name)) P j = tt
judged_read file text (Err (TooLong name)) P j = tt
judged_read file text (Err (Read name)) P j = absurd (tree_not_read file text name (j (λ z. (cc (z)))))
judged_read file text (Err (Lex place e)) P j = tt
judged_read file text (Err (Parse place e)) P j = tt
judged_read file text (Err (ImportCycle name)) P j = tt
judged_read file text (Err (TooManyFiles name)) P j = tt
judged_read file text (Err Memory) P j = tt

-- ---- a text's fault is in its file

abbrev pub InFile : ℕ → LoadError → Type 0
InFile file (Absent name) = ⊥
InFile file (TooLong name) = ⊥
InFile file (Read name) = ⊥
InFile file (Lex place e) = place.file ≡ file
InFile file (Parse place e) = place.file ≡ file
InFile file (ImportCycle name) = ⊥
InFile file (TooManyFiles name) = ⊥
InFile file Memory = Unit {0}

lex_in_file : (file : ℕ) (e : LexError) → InFile file (lex_fault file e)
lex_in_file file (lex.BadByte at) = refl
lex_in_file file (lex.OpenComment at) = refl
lex_in_file file (lex.NumberTooBig at) = refl
lex_in_file file lex.Memory = tt

parse_in_file : (file : ℕ) (text : List ℕ) (tokens : List Token) (e : ParseError) → InFile file (parse_fault file text tokens e)
parse_in_file file text tokens (parse.Syntax k) = refl
parse_in_file file text tokens (parse.Unsupported k) = refl
parse_in_file file text tokens (parse.TooDeep k) = refl
parse_in_file file text tokens parse.Memory = tt

cut_in_file : (file : ℕ) (c : Result (List Token) LexError) (e : LoadError) → cut_in file c ≡ Err e → InFile file e
cut_in_file file (Ok tokens) e h = absurd (cc (h))
cut_in_file file (Err f) e h = let same : lex_fault file f ≡ e = cc in subst (λ (x : LoadError). InFile file x) same (lex_in_file file f)

parsed_in_file : (file : ℕ) (text : List ℕ) (tokens : List Token) (r : Result RawUnit ParseError) (e : LoadError) → parsed_in file text tokens r ≡ Err e → InFile file e
parsed_in_file file text tokens (Ok unit) e h = absurd (cc (h))
parsed_in_file file text tokens (Err f) e h = let same : parse_fault file text tokens f ≡ e = cc in subst (λ (x : LoadError). InFile file x) same (parse_in_file file text tokens f)

from_in_file : (file : ℕ) (text : List ℕ) (c : Result (List Token) LexError) (e : LoadError) → tree_from file text (cut_in file c) ≡ Err e → InFile file e
from_in_file file text (Ok tokens) e h = parsed_in_file file text tokens (parsed text tokens) e h
from_in_file file text (Err f) e h = let same : lex_fault file f ≡ e = cc in subst (λ (x : LoadError). InFile file x) same (lex_in_file file f)

pub tree_in_file : (file : ℕ) (text : List ℕ) (e : LoadError) → tree_of file text ≡ Err e → InFile file e
unfolding tree_of
tree_in_file file text e h = from_in_file file text (cut text) e h

pub tokens_in_file : (file : ℕ) (text : List ℕ) (e : LoadError) → tokens_of file text ≡ Err e → InFile file e
tokens_in_file file text e h = cut_in_file file (cut text) e h
