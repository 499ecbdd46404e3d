-- That the canonical text is read again.
use Rattle.std.specs.Prelude.{◌≡◌, ℕ, List, Ok, false}
use Rattle.asm_lex.specs.declared.token.Token.{Token}
use Rattle.asm_lex.specs.Cut.{cut}
use Rattle.asm_grammar.specs.Grammar.{Placed, tokens, Low}
use Rattle.asm_grammar.specs.Text.{Spells, IsText}
use Rattle.asm_tree.specs.declared.unit.RawUnit.{RawUnit}
use Rattle.asm_tree.specs.Language.{models}
use Rattle.asm_tree.specs.Rules.{body}
use Rattle.asm_tree.specs.Units.{unit}
use Rattle.asm_tree.specs.Spelling.{limit, token_texts}
use Rattle.asm_canonical.specs.Placeless.{placeless}
use Rattle.asm_canonical.specs.Units.{canonical}

-- The text is cut into tokens that spell the unit.
pub record IsSpelled (text : List ℕ) (u : RawUnit) : Type 0 where
  pub pieces : List Token
  pub is_cut : cut text ≡ Ok pieces
  pub placed : List (Placed models)
  pub same : tokens models placed ≡ token_texts text pieces
  pub spelling : Spells models (body false) unit placed u

-- The canonical text of a unit that a text spells spells the unit, but for its places.
abbrev pub CanonicalText : Type 0
CanonicalText = (text : List ℕ) (u : RawUnit) → IsSpelled text u → (v : RawUnit) × IsSpelled (canonical u) v × (placeless v ≡ placeless u)

-- It is read again as the unit, but for its places, wherever its own nesting is within the limit.
abbrev pub ReadAgain : Type 0
ReadAgain = (text : List ℕ) (u : RawUnit) (ts : List Token) → IsSpelled text u → cut (canonical u) ≡ Ok ts
    → ((placed : List (Placed models)) (v : RawUnit) → tokens models placed ≡ token_texts (canonical u) ts → Spells models (body false) unit placed v → Low models limit placed)
    → (v : RawUnit) × IsText models (body false) unit limit (token_texts (canonical u) ts) v × (placeless v ≡ placeless u)
