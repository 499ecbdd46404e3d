-- The documents of rules. A rule's first line stands where it is put, and its other lines at its level.
use Rattle.std.specs.Prelude.{ℕ, ◌+◌, List, [], ◌∷◌, ◌++◌, map, codes}
use Rattle.asm_tree.specs.declared.term.RawBinder.{RawBinder}
use Rattle.asm_tree.specs.declared.term.RawTerm.{RawTerm}
use Rattle.asm_tree.specs.declared.rule.RawRule.{RawRule, RawRule-F, fold-RawRule}
use Rattle.asm_tree.specs.declared.rule.RawRuleKind.{RawRuleKind, fold-RawRuleKind}
use Rattle.asm_tree.specs.declared.rule.RawRuleKind.TheOpen.{RawRuleKind-F}
use Rattle.asm_tree.specs.declared.rule.RawRuleCase.{RawRuleCase, RawRuleCase-F, fold-RawRuleCase}
use Rattle.asm_canonical.specs.Document.{Item, Line, One, Doc, word, spaced, commas, parenthesized, arguments, between, lines}
use Rattle.asm_canonical.specs.Terms.{whole_term, bind_doc, binders_doc}

-- a rule one level deeper
abbrev pub inner : ℕ → Doc → List Item
inner n d = Line (n + 1) ∷ d (n + 1)

-- a rule one level deeper, and then this on a line
abbrev pub inner_then : ℕ → Doc → List Item → List Item
inner_then n d e = Line (n + 1) ∷ (d (n + 1) ++ (Line n ∷ e))

-- rules one level deeper, and then this on a line
abbrev pub block : ℕ → List ℕ → List Doc → List ℕ → List Item
block n first ds last = One first ∷ (lines (n + 1) (map (λ (d : Doc). d (n + 1)) ds) ++ (Line n ∷ word last))

-- `$x in D with T do` and the rule
abbrev pub quantified : List ℕ → List RawBinder → RawTerm → List Item → List Item
quantified w bs g d = spaced (word w ∷ binders_doc bs ∷ word (codes "with") ∷ whole_term g ∷ (One (codes "do") ∷ d) ∷ [])

abbrev pub kind_step : RawRuleKind-F Doc Doc Doc → Doc
kind_step RawRuleKind-F.Skip n = word (codes "skip")
kind_step (RawRuleKind-F.Update f xs y) n = spaced ((word f ++ arguments (map whole_term xs)) ∷ word (codes ":=") ∷ whole_term y ∷ [])
kind_step (RawRuleKind-F.Par ds) n = block n (codes "par") ds (codes "endpar")
kind_step (RawRuleKind-F.Seq ds) n = block n (codes "seq") ds (codes "endseq")
kind_step (RawRuleKind-F.If g d e) n = spaced (word (codes "if") ∷ whole_term g ∷ (One (codes "then") ∷ inner_then n d (One (codes "else") ∷ inner_then n e (word (codes "endif")))) ∷ [])
kind_step (RawRuleKind-F.Switch x cs e) n = spaced (word (codes "switch") ∷ (whole_term x ++ (lines n (map (λ (c : Doc). c n) cs) ++ (Line n ∷ One (codes "otherwise") ∷ inner_then n e (word (codes "endswitch"))))) ∷ [])
kind_step (RawRuleKind-F.Let bs d) n = spaced (word (codes "let") ∷ parenthesized (commas (map bind_doc bs)) ∷ (One (codes "in") ∷ inner_then n d (word (codes "endlet"))) ∷ [])
kind_step (RawRuleKind-F.Forall bs g d) n = quantified (codes "forall") bs g (inner n d)
kind_step (RawRuleKind-F.Choose bs g d e) n = quantified (codes "choose") bs g (inner_then n d (One (codes "ifnone") ∷ inner n e))
kind_step (RawRuleKind-F.Call r xs) n = word r ++ between (codes "[") (commas (map whole_term xs)) (codes "]")

abbrev pub rule_step : RawRule-F Doc Doc Doc → Doc
rule_step r = r.kind

-- `case T :`, and the rule one level deeper
abbrev pub case_step : RawRuleCase-F Doc Doc Doc → Doc
case_step c n = spaced (word (codes "case") ∷ whole_term c.label ∷ (One (codes ":") ∷ inner n c.rule) ∷ [])

abbrev pub rule_doc : RawRule → Doc
rule_doc = fold-RawRule Doc Doc Doc kind_step rule_step case_step

abbrev pub kind_doc : RawRuleKind → Doc
kind_doc = fold-RawRuleKind Doc Doc Doc kind_step rule_step case_step

abbrev pub case_doc : RawRuleCase → Doc
case_doc = fold-RawRuleCase Doc Doc Doc kind_step rule_step case_step
