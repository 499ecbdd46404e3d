-- What is measured of a term, by its variants.
use Rattle.std.proofs.Common.{◌≡◌, ℕ, Bool as Truth, List, [], ◌∷◌, refl, ap, sym, ◌∙◌}
use Rattle.std.specs.Prelude.{map}
use Rattle.asm_sign.specs.Vocabulary.{Vocabulary}
use Rattle.asm_tree.specs.declared.operator.Op.{Op}
use Rattle.asm_tree.specs.declared.operator.UnaryOp.{UnaryOp}
use Rattle.asm_tree.specs.declared.operator.Quantifier.{Quantifier}
use Rattle.asm_tree.specs.declared.term.RawBinder.{RawBinder}
use Rattle.asm_tree.specs.declared.term.RawTerm.{RawTerm, RawTerm-F, fold_out-RawTerm}
use Rattle.asm_tree.specs.declared.term.RawTermKind.{RawTermKind, fold-RawTermKind, fold-roll-RawTermKind}
use Rattle.asm_tree.specs.declared.term.RawTermKind.TheVariants as term_kind
use Rattle.asm_tree.specs.declared.term.RawTermKind.TheOpen.{RawTermKind-F, RawBind-F, RawCase-F}
use Rattle.asm_tree.specs.declared.term.RawCase.{RawCase, fold-RawCase, fold_out-RawCase}
use Rattle.asm_tree.specs.declared.term.RawBind.{RawBind, fold-RawBind, fold_out-RawBind}
use Rattle.asm_faults.specs.At.{Name}
use Rattle.asm_faults.specs.Ranges.{Measured, Bound, Kind, measured, measure_kind, bound as let_bound}
use Rattle.asm_ranges.specs.Pieces.{terms_measured, cases_measured}

module _ (v : Vocabulary) (n : ℕ) where
  abbrev pub K : Type 0
  K = Kind v n

  abbrev pub B : Type 0
  B = Bound

  abbrev pub C : Type 0
  C = Measured × Measured

  abbrev pub Layer : Type 0
  Layer = RawTermKind-F K B C Measured

  abbrev measure_bind : RawBind-F K B C Measured → B
  measure_bind b = (b.variable.text, b.term)

  abbrev measure_case : RawCase-F K B C Measured → C
  measure_case c = (c.label, c.value)

  abbrev measure_term : RawTerm-F K B C Measured → Measured
  measure_term t = t.kind t.at t.first

  abbrev pub kind_measured : RawTermKind → K
  kind_measured = fold-RawTermKind K B C Measured (measure_kind v n) measure_bind measure_case measure_term

  abbrev pub bind_measured : RawBind → B
  bind_measured = fold-RawBind K B C Measured (measure_kind v n) measure_bind measure_case measure_term

  abbrev pub case_measured : RawCase → C
  case_measured = fold-RawCase K B C Measured (measure_kind v n) measure_bind measure_case measure_term

  pub of_term : (t : RawTerm) → measured v n t ≡ kind_measured t.kind t.at t.first
  of_term t = fold_out-RawTerm K B C Measured (measure_kind v n) measure_bind measure_case measure_term t

  pub of_bind : (b : RawBind) → bind_measured b ≡ (b.variable.text, measured v n b.term)
  of_bind b = fold_out-RawBind K B C Measured (measure_kind v n) measure_bind measure_case measure_term b

  pub of_case : (c : RawCase) → case_measured c ≡ (measured v n c.label, measured v n c.value)
  of_case c = fold_out-RawCase K B C Measured (measure_kind v n) measure_bind measure_case measure_term c

  of_binds : (bs : List RawBind) → map bind_measured bs ≡ let_bound v n bs
  of_binds [] = refl
  of_binds (b ∷ bs) = ap (λ (x : B). x ∷ map bind_measured bs) (of_bind b) ∙ ap (λ (xs : List B). (b.variable.text, measured v n b.term) ∷ xs) (of_binds bs)

  of_cases : (cs : List RawCase) → map case_measured cs ≡ cases_measured v n cs
  of_cases [] = refl
  of_cases (c ∷ cs) = ap (λ (x : C). x ∷ map case_measured cs) (of_case c) ∙ ap (λ (xs : List C). (measured v n c.label, measured v n c.value) ∷ xs) (of_cases cs)

  -- a term of this form
  formed : (t : RawTerm) (k : RawTermKind) (f : Layer) → t.kind ≡ k → kind_measured k ≡ measure_kind v n f → measured v n t ≡ measure_kind v n f t.at t.first
  formed t k f e h = of_term t ∙ ap (λ (x : RawTermKind). kind_measured x t.at t.first) e ∙ ap (λ (g : K). g t.at t.first) h

  pub number : (t : RawTerm) (x : ℕ) → t.kind ≡ term_kind.Number x → measured v n t ≡ measure_kind v n (RawTermKind-F.Number x) t.at t.first
  number t x e = formed t (term_kind.Number x) (RawTermKind-F.Number x) e (ap kind_measured (sym (term_kind.rolls-Number x)) ∙ fold-roll-RawTermKind K B C Measured (measure_kind v n) measure_bind measure_case measure_term (RawTermKind-F.Number x))

  pub truth : (t : RawTerm) (x : Truth) → t.kind ≡ term_kind.Truth x → measured v n t ≡ measure_kind v n (RawTermKind-F.Truth x) t.at t.first
  truth t x e = formed t (term_kind.Truth x) (RawTermKind-F.Truth x) e (ap kind_measured (sym (term_kind.rolls-Truth x)) ∙ fold-roll-RawTermKind K B C Measured (measure_kind v n) measure_bind measure_case measure_term (RawTermKind-F.Truth x))

  pub undef : (t : RawTerm) → t.kind ≡ term_kind.Undef → measured v n t ≡ measure_kind v n RawTermKind-F.Undef t.at t.first
  undef t e = formed t term_kind.Undef RawTermKind-F.Undef e (ap kind_measured (sym term_kind.rolls-Undef) ∙ fold-roll-RawTermKind K B C Measured (measure_kind v n) measure_bind measure_case measure_term RawTermKind-F.Undef)

  pub variable : (t : RawTerm) (x : Name) → t.kind ≡ term_kind.Variable x → measured v n t ≡ measure_kind v n (RawTermKind-F.Variable x) t.at t.first
  variable t x e = formed t (term_kind.Variable x) (RawTermKind-F.Variable x) e (ap kind_measured (sym (term_kind.rolls-Variable x)) ∙ fold-roll-RawTermKind K B C Measured (measure_kind v n) measure_bind measure_case measure_term (RawTermKind-F.Variable x))

  pub element : (t : RawTerm) (x : Name) → t.kind ≡ term_kind.Element x → measured v n t ≡ measure_kind v n (RawTermKind-F.Element x) t.at t.first
  element t x e = formed t (term_kind.Element x) (RawTermKind-F.Element x) e (ap kind_measured (sym (term_kind.rolls-Element x)) ∙ fold-roll-RawTermKind K B C Measured (measure_kind v n) measure_bind measure_case measure_term (RawTermKind-F.Element x))

  pub call : (t : RawTerm) (f : Name) (ts : List RawTerm) → t.kind ≡ term_kind.Call f ts → measured v n t ≡ measure_kind v n (RawTermKind-F.Call f (terms_measured v n ts)) t.at t.first
  call t f ts e = formed t (term_kind.Call f ts) (RawTermKind-F.Call f (terms_measured v n ts)) e (ap kind_measured (sym (term_kind.rolls-Call f ts)) ∙ fold-roll-RawTermKind K B C Measured (measure_kind v n) measure_bind measure_case measure_term (RawTermKind-F.Call f ts))

  pub unary : (t : RawTerm) (o : UnaryOp) (x : RawTerm) → t.kind ≡ term_kind.Unary o x → measured v n t ≡ measure_kind v n (RawTermKind-F.Unary o (measured v n x)) t.at t.first
  unary t o x e = formed t (term_kind.Unary o x) (RawTermKind-F.Unary o (measured v n x)) e (ap kind_measured (sym (term_kind.rolls-Unary o x)) ∙ fold-roll-RawTermKind K B C Measured (measure_kind v n) measure_bind measure_case measure_term (RawTermKind-F.Unary o x))

  pub binary : (t : RawTerm) (o : Op) (x y : RawTerm) → t.kind ≡ term_kind.Binary o x y → measured v n t ≡ measure_kind v n (RawTermKind-F.Binary o (measured v n x) (measured v n y)) t.at t.first
  binary t o x y e = formed t (term_kind.Binary o x y) (RawTermKind-F.Binary o (measured v n x) (measured v n y)) e (ap kind_measured (sym (term_kind.rolls-Binary o x y)) ∙ fold-roll-RawTermKind K B C Measured (measure_kind v n) measure_bind measure_case measure_term (RawTermKind-F.Binary o x y))

  pub cond : (t g x y : RawTerm) → t.kind ≡ term_kind.Cond g x y → measured v n t ≡ measure_kind v n (RawTermKind-F.Cond (measured v n g) (measured v n x) (measured v n y)) t.at t.first
  cond t g x y e = formed t (term_kind.Cond g x y) (RawTermKind-F.Cond (measured v n g) (measured v n x) (measured v n y)) e (ap kind_measured (sym (term_kind.rolls-Cond g x y)) ∙ fold-roll-RawTermKind K B C Measured (measure_kind v n) measure_bind measure_case measure_term (RawTermKind-F.Cond g x y))

  pub switch : (t x : RawTerm) (cs : List RawCase) (y : RawTerm) → t.kind ≡ term_kind.Switch x cs y → measured v n t ≡ measure_kind v n (RawTermKind-F.Switch (measured v n x) (cases_measured v n cs) (measured v n y)) t.at t.first
  switch t x cs y e =
      formed t (term_kind.Switch x cs y) (RawTermKind-F.Switch (measured v n x) (map case_measured cs) (measured v n y)) e (ap kind_measured (sym (term_kind.rolls-Switch x cs y)) ∙ fold-roll-RawTermKind K B C Measured (measure_kind v n) measure_bind measure_case measure_term (RawTermKind-F.Switch x cs y))
      ∙ ap (λ (zs : List C). measure_kind v n (RawTermKind-F.Switch (measured v n x) zs (measured v n y)) t.at t.first) (of_cases cs)

  pub bound : (t : RawTerm) (bs : List RawBind) (x : RawTerm) → t.kind ≡ term_kind.Let bs x → measured v n t ≡ measure_kind v n (RawTermKind-F.Let (let_bound v n bs) (measured v n x)) t.at t.first
  bound t bs x e =
      formed t (term_kind.Let bs x) (RawTermKind-F.Let (map bind_measured bs) (measured v n x)) e (ap kind_measured (sym (term_kind.rolls-Let bs x)) ∙ fold-roll-RawTermKind K B C Measured (measure_kind v n) measure_bind measure_case measure_term (RawTermKind-F.Let bs x))
      ∙ ap (λ (zs : List B). measure_kind v n (RawTermKind-F.Let zs (measured v n x)) t.at t.first) (of_binds bs)

  pub quantified : (t : RawTerm) (q : Quantifier) (bs : List RawBinder) (x : RawTerm) → t.kind ≡ term_kind.Quant q bs x → measured v n t ≡ measure_kind v n (RawTermKind-F.Quant q bs (measured v n x)) t.at t.first
  quantified t q bs x e = formed t (term_kind.Quant q bs x) (RawTermKind-F.Quant q bs (measured v n x)) e (ap kind_measured (sym (term_kind.rolls-Quant q bs x)) ∙ fold-roll-RawTermKind K B C Measured (measure_kind v n) measure_bind measure_case measure_term (RawTermKind-F.Quant q bs x))
