-- Parts of what is wrong with terms.
use Rattle.std.specs.Prelude.{ℕ, Bool as Truth, false, not, List, map, [], ◌∷◌, ◌++◌, Option, Some}
use Rattle.asm_sign.specs.Vocabulary.{Vocabulary}
use Rattle.asm_node.specs.declared.term_type.TermType.{TermType}
use Rattle.asm_tree.specs.declared.term.RawName.{RawName}
use Rattle.asm_tree.specs.declared.term.RawBind.{RawBind}
use Rattle.asm_tree.specs.declared.term.RawCase.{RawCase}
use Rattle.asm_tree.specs.declared.term.RawTerm.{RawTerm}
use Rattle.asm_faults.specs.declared.fault.Fault.{Fault}
use Rattle.asm_faults.specs.Files.{Of}
use Rattle.asm_faults.specs.Terms.{Scope, Judged, judged, same_type, or_else, asked}

-- both types are known, and they aren't the same
abbrev pub differ : Option TermType → Option TermType → Truth
differ (Some want) (Some own) = not (same_type want own)
differ _ _ = false

abbrev pub terms_judged : Vocabulary → ℕ → List RawTerm → List Judged
terms_judged v n ts = map (judged v n) ts

abbrev pub binds_judged : Vocabulary → ℕ → List RawBind → List (RawName × Judged)
binds_judged v n bs = map (λ (b : RawBind). (b.variable, judged v n b.term)) bs

abbrev pub cases_judged : Vocabulary → ℕ → List RawCase → List (Judged × Judged)
cases_judged v n cs = map (λ (c : RawCase). (judged v n c.label, judged v n c.value)) cs

-- the variables of a `let`, in a unit
abbrev pub variables_bound : ℕ → List RawBind → List (Of RawName)
variables_bound n bs = map (λ (b : RawBind). (n, b.variable)) bs

-- the cases of a `switch` before its last value: the labels are of one type, and so are the values
abbrev pub cases_before : Vocabulary → ℕ → Option TermType → Option TermType → Scope → List (Judged × Judged) → List Fault
cases_before v n label value s [] = []
cases_before v n label value s ((l, j) ∷ cases) =
    asked v n label s l ++ (asked v n value s j ++ cases_before v n (or_else label (l.type s)) (or_else value (j.type s)) s cases)
