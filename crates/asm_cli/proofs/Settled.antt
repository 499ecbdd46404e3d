-- What the tokens of a file that was read last spell.
use Rattle.std.proofs.Common.{◌≡◌, ◌≢◌, ◌∙◌, ℕ, List, [], ◌∷◌, length, slice_get, None, Result, Ok, Err, refl, sym, ap, subst}
use Rattle.asm_source.specs.Spots.{text_of}
use Rattle.asm_source.specs.declared.sources.Source.{Source}
use Rattle.asm_lex.specs.declared.token.Token.{Token}
use Rattle.asm_unit.specs.declared.error.LoadError.{LoadError}
use Rattle.asm_unit.specs.declared.error.LoadError.TheVariants.{Absent, TooLong, Read, Lex, Parse, ImportCycle, TooManyFiles, Memory}
use Rattle.asm_unit.specs.Loading.{Outcome, ended, Follows, Fails, Judges, asked_by, of_end}
use Rattle.asm_unit.proofs.Outcomes.{front_same}
use Rattle.asm_cli.specs.Saying.{Reading, spelled, read_as}

-- no file stands after the last
past : (xs : List Source) → slice_get xs (length xs) ≡ None
past [] = refl
past (x ∷ xs) = past xs

module _ {A : Type 0} (now : List Source) where
  abbrev so : Result A LoadError → Outcome A
  so end = record { sources = now; end = end }

  fails_so : (end : Result A LoadError) (e : LoadError) → (e ≢ Memory → end ≡ Err e) → Fails (so end) now e
  fails_so end (Absent name) is = ap so (is (λ x. cc))
  fails_so end (TooLong name) is = ap so (is (λ x. cc))
  fails_so end (Read name) is = record { front = front_same now; asked = ap (asked_by end) (past now) ∙ ap of_end (is (λ x. cc)) }
  fails_so end (Lex place e) is = ap so (is (λ x. cc))
  fails_so end (Parse place e) is = ap so (is (λ x. cc))
  fails_so end (ImportCycle name) is = ap so (is (λ x. cc))
  fails_so end (TooManyFiles name) is = ap so (is (λ x. cc))
  fails_so end Memory is = front_same now

  follows_so : (end : Result A LoadError) (r : Result A LoadError) → Judges r end → Follows (so end) now r
  follows_so end (Ok raw) is = ap so is
  follows_so end (Err e) is = fails_so end e is

  -- the file was read, and its tokens are spelled so
  pub read_follows : (reading : Reading A) (o : Outcome (List Token)) (file : ℕ) (text : List ℕ) (tokens : List Token) (r : Result A LoadError) → o ≡ ended now tokens → text ≡ text_of now file
      → Judges r (spelled file text tokens (reading text tokens)) → Follows (read_as reading file o) now r
  read_follows reading o file text tokens r read text_is judged =
      subst (λ (p : Outcome (List Token)). Follows (read_as reading file p) now r) (sym read)
      (follows_so (spelled file (text_of now file) tokens (reading (text_of now file) tokens)) r
      (subst (λ (x : List ℕ). Judges r (spelled file x tokens (reading x tokens))) text_is judged))
