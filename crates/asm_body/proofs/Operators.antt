-- The table of operators says which operator each kind of token is.
use Rattle.std.proofs.Common.{◌≡◌, ℕ, ◌+◌, ◌<◌, Bool, true, false, ◌||◌, List, [], ◌∷◌, refl, length, drop, get_or, drop-cons, add-one, sym, ◌∙◌}
use Rattle.std.specs.Prelude.{◌==◌}
use Rattle.asm_grammar.specs.Grammar.{has}
use Rattle.asm_tree.specs.Words.{kind_of}
use Rattle.asm_tree.specs.declared.class.Class.{Class}
use Rattle.asm_tree.specs.declared.operator.Op.{Op}
use Rattle.asm_tree.specs.Terms.{op_at}
use Rattle.asm_body.specs.Rows.{op_in}
use Rattle.asm_body.specs.declared.operator.TheConstants.{OPERATORS}

abbrev Row : Type 0
Row = Class × Op

or_end : (a : Bool) → (a || false) ≡ a
or_end true = refl
or_end false = refl

pub row_fits : (table : List Row) (k i : ℕ) (d : Row) → i < length table → has k (kind_of (get_or table i d).0 ∷ []) ≡ true → op_in (drop i table) k ≡ (get_or table i d).1
row_fits table k i d h t = rw (drop-cons table i d, sym (or_end (k == kind_of (get_or table i d).0)) ∙ t) refl

pub row_differs : (table : List Row) (k i : ℕ) (d : Row) → i < length table → has k (kind_of (get_or table i d).0 ∷ []) ≡ false → op_in (drop i table) k ≡ op_in (drop (i + 1) table) k
row_differs table k i d h t = rw (add-one, drop-cons table i d, sym (or_end (k == kind_of (get_or table i d).0)) ∙ t) refl

pub ruleset rows = (row_fits, row_differs)

pub whole : (k : ℕ) → op_in OPERATORS k ≡ op_at k
whole k = refl

pub ruleset whole_table = (whole)
