-- How the parts of settings and of scenarios are read.
use Rattle.std.proofs.Common.{◌≡◌, ℕ, true, false, if◌then◌else◌, List, [], ◌∷◌, Ok, refl, ap}
use Rattle.asm_grammar.specs.Grammar.{Grammar, and_then, word_at, has, ahead, shown, both}
use Rattle.asm_tree.specs.Words.{kind_of}
use Rattle.asm_tree.specs.declared.class.Class.TheVariants as class
use Rattle.asm_tree.specs.declared.script.RawConstant.{RawConstant}
use Rattle.asm_tree.specs.declared.script.RawConstant.TheVariants as constant_of
use Rattle.asm_tree.specs.declared.script.RawCommand.TheVariants as command_of
use Rattle.asm_tree.specs.declared.script.RawScenarioCommand.TheVariants as scenario_command
use Rattle.asm_tree.specs.Language.{TokenText, models, token, after, before, name, functions, elements, plain_words, Constants}
use Rattle.asm_tree.specs.Terms.{term}
use Rattle.asm_tree.specs.Rules.{int, constant, more_constants, rule}
use Rattle.asm_tree.specs.Scripts.{constants, set_of, setting, semicolon, step_tail, command, commands, scenario_command_at}
use Rattle.asm_tree.specs.Units.{ending, part, more_parts, path}
use Rattle.asm_body.specs.Reading.{opened_in, read_in, read_flat, name_at}
use Rattle.asm_body.proofs.Opening.{opens}
use Rattle.avalla_parse.proofs.Steps.{after_is, shown_both}

module _ (w : List TokenText) where
  pub constant_is : read_flat (constant true) w ≡ (if has (ahead models w 0) (kind_of class.Minus ∷ kind_of class.Number ∷ []) then read_flat (shown constant_of.Int int) w
      else (if has (ahead models w 0) (kind_of class.True ∷ []) then read_flat (shown (λ t. constant_of.Truth true) (token class.True)) w
      else (if has (ahead models w 0) (kind_of class.False ∷ []) then read_flat (shown (λ t. constant_of.Truth false) (token class.False)) w
      else (if has (ahead models w 0) (kind_of class.ElementName ∷ []) then read_flat (shown constant_of.Element (name elements)) w
      else read_flat (shown constant_of.Constant (name (functions true))) w))))
  unfolding constant int
  constant_is = refl

module _ (n : ℕ) (w : List TokenText) where
  pub constant_flat : read_in n true (constant true) w ≡ read_flat (constant true) w
  unfolding constant int
  constant_flat = refl

  pub more_constants_flat : read_in n true (more_constants true) w ≡ read_flat (more_constants true) w
  unfolding more_constants constant int
  more_constants_flat = refl

  pub ruleset constant_parts = (constant_flat, more_constants_flat)

  pub constants_is : read_in n true constants w ≡ (if has (ahead models w 0) (kind_of class.Open ∷ []) then opened_in n true (kind_of class.Open ∷ []) Constants (λ p. p.1) w else Ok ([], w))
  unfolding constants
  constants_is = ap (λ o. if has (ahead models w 0) (kind_of class.Open ∷ []) then o else Ok ([], w)) (opens true Constants (kind_of class.Open ∷ []) (λ p. p.1) n w)

  pub semicolon_flat : read_in n true semicolon w ≡ read_flat semicolon w
  unfolding semicolon
  semicolon_flat = refl

-- what a location is set to
abbrev pub valued : Grammar models RawConstant
valued = after class.Assign (before (constant true) class.Semicolon)

module _ (n : ℕ) (w : List TokenText) where
  value_flat : read_in n true valued w ≡ read_flat valued w
  unfolding constant int
  value_flat = refl

module _ (n : ℕ) (w : List TokenText) where
  pub setting_is : read_in n true setting w ≡ and_then models (word_at models (kind_of class.Set ∷ []) w) (λ t r.
      and_then models (name_at (functions true) r) (λ f r.
      and_then models (read_in n true constants r) (λ cs r.
      and_then models (read_flat valued r) (λ v s. Ok (set_of (f, (cs, v)), s)))))
  unfolding setting
  setting_is =
      after_is n class.Set (shown set_of (both (name (functions true)) (both constants valued))) _ (λ r.
      shown_both n set_of (name (functions true)) (both constants valued) _ (λ f r.
      shown_both n (λ y. set_of (f, y)) constants valued _ (λ cs r.
      ap (λ o. and_then models o (λ v s. Ok (set_of (f, (cs, v)), s))) (value_flat n r)) r) r) w

module _ (n : ℕ) (w : List TokenText) where
  pub command_is : read_in n true command w ≡ (if has (ahead models w 0) (kind_of class.Set ∷ []) then read_in n true (shown command_of.Set setting) w
      else (if has (ahead models w 0) (kind_of class.Step ∷ []) then read_in n true (after class.Step step_tail) w
      else (if has (ahead models w 0) (kind_of class.Check ∷ []) then read_in n true (after class.Check (before (shown command_of.Check (term true)) class.Semicolon)) w
      else (if has (ahead models w 0) (kind_of class.Exec ∷ []) then read_in n true (after class.Exec (before (shown command_of.Exec (rule true)) class.Semicolon)) w
      else read_flat (after class.ExecBlock (before (shown command_of.ExecBlock (name plain_words)) class.Semicolon)) w))))
  unfolding command setting
  command_is = refl

  pub block_or_command_is : read_in n true scenario_command_at w ≡ (if has (ahead models w 0) (kind_of class.Begin ∷ []) then read_in n true (after class.Begin (shown (λ p. scenario_command.Block p.0 p.1) (both (name plain_words) (before commands class.End)))) w
      else read_in n true (shown scenario_command.Plain command) w)
  unfolding scenario_command_at
  block_or_command_is = refl

  pub path_flat : read_in n true path w ≡ read_flat path w
  unfolding path part ending more_parts
  path_flat = refl
