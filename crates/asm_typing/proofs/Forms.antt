-- What is judged of a term, by its variants.
use Rattle.std.proofs.Common.{◌≡◌, ℕ, Bool as Truth, List, [], ◌∷◌, refl, ap, sym, ◌∙◌}
use Rattle.std.specs.Prelude.{map}
use Rattle.asm_sign.specs.Vocabulary.{Vocabulary}
use Rattle.asm_tree.specs.declared.operator.Op.{Op}
use Rattle.asm_tree.specs.declared.operator.UnaryOp.{UnaryOp}
use Rattle.asm_tree.specs.declared.operator.Quantifier.{Quantifier}
use Rattle.asm_tree.specs.declared.term.RawBinder.{RawBinder}
use Rattle.asm_tree.specs.declared.term.RawTerm.{RawTerm, fold_out-RawTerm}
use Rattle.asm_tree.specs.declared.term.RawTermKind.{RawTermKind, fold-RawTermKind, fold-roll-RawTermKind, fold_out-RawTermKind}
use Rattle.asm_tree.specs.declared.term.RawTermKind.TheVariants as term_kind
use Rattle.asm_tree.specs.declared.term.RawTermKind.TheOpen.{RawTermKind-F}
use Rattle.asm_tree.specs.declared.term.RawCase.{RawCase, fold-RawCase, fold_out-RawCase}
use Rattle.asm_tree.specs.declared.term.RawBind.{RawBind, fold-RawBind, fold_out-RawBind}
use Rattle.asm_faults.specs.At.{Name}
use Rattle.asm_faults.specs.Terms.{Judged, judged, Kind, LetBound, judge_kind, judge_bind, judge_case, judge_term}
use Rattle.asm_typing.specs.Pieces.{terms_judged, binds_judged, cases_judged}

module _ (v : Vocabulary) (n : ℕ) where
  abbrev pub K : Type 0
  K = Kind v n

  abbrev pub B : Type 0
  B = LetBound v n

  abbrev pub C : Type 0
  C = Judged × Judged

  abbrev pub Layer : Type 0
  Layer = RawTermKind-F K B C Judged

  abbrev pub kind_judged : RawTermKind → K
  kind_judged = fold-RawTermKind K B C Judged (judge_kind v n) (judge_bind v n) (judge_case v n) (judge_term v n)

  abbrev pub bind_judged : RawBind → B
  bind_judged = fold-RawBind K B C Judged (judge_kind v n) (judge_bind v n) (judge_case v n) (judge_term v n)

  abbrev pub case_judged : RawCase → C
  case_judged = fold-RawCase K B C Judged (judge_kind v n) (judge_bind v n) (judge_case v n) (judge_term v n)

  pub of_term : (t : RawTerm) → judged v n t ≡ kind_judged t.kind t.at t.first
  of_term t = fold_out-RawTerm K B C Judged (judge_kind v n) (judge_bind v n) (judge_case v n) (judge_term v n) t

  pub of_bind : (b : RawBind) → bind_judged b ≡ (b.variable, judged v n b.term)
  of_bind b = fold_out-RawBind K B C Judged (judge_kind v n) (judge_bind v n) (judge_case v n) (judge_term v n) b

  pub of_case : (c : RawCase) → case_judged c ≡ (judged v n c.label, judged v n c.value)
  of_case c = fold_out-RawCase K B C Judged (judge_kind v n) (judge_bind v n) (judge_case v n) (judge_term v n) c

  of_binds : (bs : List RawBind) → map bind_judged bs ≡ binds_judged v n bs
  of_binds [] = refl
  of_binds (b ∷ bs) = ap (λ (x : B). x ∷ map bind_judged bs) (of_bind b) ∙ ap (λ (xs : List B). (b.variable, judged v n b.term) ∷ xs) (of_binds bs)

  of_cases : (cs : List RawCase) → map case_judged cs ≡ cases_judged v n cs
  of_cases [] = refl
  of_cases (c ∷ cs) = ap (λ (x : C). x ∷ map case_judged cs) (of_case c) ∙ ap (λ (xs : List C). (judged v n c.label, judged v n c.value) ∷ xs) (of_cases cs)

  -- a term of this form
  formed : (t : RawTerm) (k : RawTermKind) (f : Layer) → t.kind ≡ k → kind_judged k ≡ judge_kind v n f → judged v n t ≡ judge_kind v n f t.at t.first
  formed t k f e h = of_term t ∙ ap (λ (x : RawTermKind). kind_judged x t.at t.first) e ∙ ap (λ (g : K). g t.at t.first) h

  pub number : (t : RawTerm) (x : ℕ) → t.kind ≡ term_kind.Number x → judged v n t ≡ judge_kind v n (RawTermKind-F.Number x) t.at t.first
  number t x e = formed t (term_kind.Number x) (RawTermKind-F.Number x) e (ap kind_judged (sym (term_kind.rolls-Number x)) ∙ fold-roll-RawTermKind K B C Judged (judge_kind v n) (judge_bind v n) (judge_case v n) (judge_term v n) (RawTermKind-F.Number x))

  pub truth : (t : RawTerm) (x : Truth) → t.kind ≡ term_kind.Truth x → judged v n t ≡ judge_kind v n (RawTermKind-F.Truth x) t.at t.first
  truth t x e = formed t (term_kind.Truth x) (RawTermKind-F.Truth x) e (ap kind_judged (sym (term_kind.rolls-Truth x)) ∙ fold-roll-RawTermKind K B C Judged (judge_kind v n) (judge_bind v n) (judge_case v n) (judge_term v n) (RawTermKind-F.Truth x))

  pub undef : (t : RawTerm) → t.kind ≡ term_kind.Undef → judged v n t ≡ judge_kind v n RawTermKind-F.Undef t.at t.first
  undef t e = formed t term_kind.Undef RawTermKind-F.Undef e (ap kind_judged (sym term_kind.rolls-Undef) ∙ fold-roll-RawTermKind K B C Judged (judge_kind v n) (judge_bind v n) (judge_case v n) (judge_term v n) RawTermKind-F.Undef)

  pub variable : (t : RawTerm) (x : Name) → t.kind ≡ term_kind.Variable x → judged v n t ≡ judge_kind v n (RawTermKind-F.Variable x) t.at t.first
  variable t x e = formed t (term_kind.Variable x) (RawTermKind-F.Variable x) e (ap kind_judged (sym (term_kind.rolls-Variable x)) ∙ fold-roll-RawTermKind K B C Judged (judge_kind v n) (judge_bind v n) (judge_case v n) (judge_term v n) (RawTermKind-F.Variable x))

  pub element : (t : RawTerm) (x : Name) → t.kind ≡ term_kind.Element x → judged v n t ≡ judge_kind v n (RawTermKind-F.Element x) t.at t.first
  element t x e = formed t (term_kind.Element x) (RawTermKind-F.Element x) e (ap kind_judged (sym (term_kind.rolls-Element x)) ∙ fold-roll-RawTermKind K B C Judged (judge_kind v n) (judge_bind v n) (judge_case v n) (judge_term v n) (RawTermKind-F.Element x))

  pub call : (t : RawTerm) (f : Name) (ts : List RawTerm) → t.kind ≡ term_kind.Call f ts → judged v n t ≡ judge_kind v n (RawTermKind-F.Call f (terms_judged v n ts)) t.at t.first
  call t f ts e = formed t (term_kind.Call f ts) (RawTermKind-F.Call f (terms_judged v n ts)) e (ap kind_judged (sym (term_kind.rolls-Call f ts)) ∙ fold-roll-RawTermKind K B C Judged (judge_kind v n) (judge_bind v n) (judge_case v n) (judge_term v n) (RawTermKind-F.Call f ts))

  pub unary : (t : RawTerm) (o : UnaryOp) (x : RawTerm) → t.kind ≡ term_kind.Unary o x → judged v n t ≡ judge_kind v n (RawTermKind-F.Unary o (judged v n x)) t.at t.first
  unary t o x e = formed t (term_kind.Unary o x) (RawTermKind-F.Unary o (judged v n x)) e (ap kind_judged (sym (term_kind.rolls-Unary o x)) ∙ fold-roll-RawTermKind K B C Judged (judge_kind v n) (judge_bind v n) (judge_case v n) (judge_term v n) (RawTermKind-F.Unary o x))

  pub binary : (t : RawTerm) (o : Op) (x y : RawTerm) → t.kind ≡ term_kind.Binary o x y → judged v n t ≡ judge_kind v n (RawTermKind-F.Binary o (judged v n x) (judged v n y)) t.at t.first
  binary t o x y e = formed t (term_kind.Binary o x y) (RawTermKind-F.Binary o (judged v n x) (judged v n y)) e (ap kind_judged (sym (term_kind.rolls-Binary o x y)) ∙ fold-roll-RawTermKind K B C Judged (judge_kind v n) (judge_bind v n) (judge_case v n) (judge_term v n) (RawTermKind-F.Binary o x y))

  pub cond : (t g x y : RawTerm) → t.kind ≡ term_kind.Cond g x y → judged v n t ≡ judge_kind v n (RawTermKind-F.Cond (judged v n g) (judged v n x) (judged v n y)) t.at t.first
  cond t g x y e = formed t (term_kind.Cond g x y) (RawTermKind-F.Cond (judged v n g) (judged v n x) (judged v n y)) e (ap kind_judged (sym (term_kind.rolls-Cond g x y)) ∙ fold-roll-RawTermKind K B C Judged (judge_kind v n) (judge_bind v n) (judge_case v n) (judge_term v n) (RawTermKind-F.Cond g x y))

  pub switch : (t x : RawTerm) (cs : List RawCase) (y : RawTerm) → t.kind ≡ term_kind.Switch x cs y → judged v n t ≡ judge_kind v n (RawTermKind-F.Switch (judged v n x) (cases_judged v n cs) (judged v n y)) t.at t.first
  switch t x cs y e =
      formed t (term_kind.Switch x cs y) (RawTermKind-F.Switch (judged v n x) (map case_judged cs) (judged v n y)) e (ap kind_judged (sym (term_kind.rolls-Switch x cs y)) ∙ fold-roll-RawTermKind K B C Judged (judge_kind v n) (judge_bind v n) (judge_case v n) (judge_term v n) (RawTermKind-F.Switch x cs y))
      ∙ ap (λ (zs : List C). judge_kind v n (RawTermKind-F.Switch (judged v n x) zs (judged v n y)) t.at t.first) (of_cases cs)

  pub bound : (t : RawTerm) (bs : List RawBind) (x : RawTerm) → t.kind ≡ term_kind.Let bs x → judged v n t ≡ judge_kind v n (RawTermKind-F.Let (binds_judged v n bs) (judged v n x)) t.at t.first
  bound t bs x e =
      formed t (term_kind.Let bs x) (RawTermKind-F.Let (map bind_judged bs) (judged v n x)) e (ap kind_judged (sym (term_kind.rolls-Let bs x)) ∙ fold-roll-RawTermKind K B C Judged (judge_kind v n) (judge_bind v n) (judge_case v n) (judge_term v n) (RawTermKind-F.Let bs x))
      ∙ ap (λ (zs : List B). judge_kind v n (RawTermKind-F.Let zs (judged v n x)) t.at t.first) (of_binds bs)

  pub quantified : (t : RawTerm) (q : Quantifier) (bs : List RawBinder) (x : RawTerm) → t.kind ≡ term_kind.Quant q bs x → judged v n t ≡ judge_kind v n (RawTermKind-F.Quant q bs (judged v n x)) t.at t.first
  quantified t q bs x e = formed t (term_kind.Quant q bs x) (RawTermKind-F.Quant q bs (judged v n x)) e (ap kind_judged (sym (term_kind.rolls-Quant q bs x)) ∙ fold-roll-RawTermKind K B C Judged (judge_kind v n) (judge_bind v n) (judge_case v n) (judge_term v n) (RawTermKind-F.Quant q bs x))

  -- ---- the first token

  layer_at : (f : Layer) (at : ℕ) (first : Name) → (judge_kind v n f at first).at ≡ at
  layer_at (RawTermKind-F.Number x) at first = refl
  layer_at (RawTermKind-F.Truth x) at first = refl
  layer_at RawTermKind-F.Undef at first = refl
  layer_at (RawTermKind-F.Variable x) at first = refl
  layer_at (RawTermKind-F.Element e) at first = refl
  layer_at (RawTermKind-F.Call f ts) at first = refl
  layer_at (RawTermKind-F.Unary o x) at first = refl
  layer_at (RawTermKind-F.Binary o x y) at first = refl
  layer_at (RawTermKind-F.Cond g x y) at first = refl
  layer_at (RawTermKind-F.Switch x cs y) at first = refl
  layer_at (RawTermKind-F.Let bs x) at first = refl
  layer_at (RawTermKind-F.Quant q bs x) at first = refl

  layer_first : (f : Layer) (at : ℕ) (first : Name) → (judge_kind v n f at first).first ≡ first
  layer_first (RawTermKind-F.Number x) at first = refl
  layer_first (RawTermKind-F.Truth x) at first = refl
  layer_first RawTermKind-F.Undef at first = refl
  layer_first (RawTermKind-F.Variable x) at first = refl
  layer_first (RawTermKind-F.Element e) at first = refl
  layer_first (RawTermKind-F.Call f ts) at first = refl
  layer_first (RawTermKind-F.Unary o x) at first = refl
  layer_first (RawTermKind-F.Binary o x y) at first = refl
  layer_first (RawTermKind-F.Cond g x y) at first = refl
  layer_first (RawTermKind-F.Switch x cs y) at first = refl
  layer_first (RawTermKind-F.Let bs x) at first = refl
  layer_first (RawTermKind-F.Quant q bs x) at first = refl

  pub term_at : (t : RawTerm) → (judged v n t).at ≡ t.at
  term_at t =
      ap (λ (j : Judged). j.at) (of_term t)
      ∙ ap (λ (k : K). (k t.at t.first).at) (fold_out-RawTermKind K B C Judged (judge_kind v n) (judge_bind v n) (judge_case v n) (judge_term v n) t.kind)
      ∙ layer_at _ t.at t.first

  pub term_first : (t : RawTerm) → (judged v n t).first ≡ t.first
  term_first t =
      ap (λ (j : Judged). j.first) (of_term t)
      ∙ ap (λ (k : K). (k t.at t.first).first) (fold_out-RawTermKind K B C Judged (judge_kind v n) (judge_bind v n) (judge_case v n) (judge_term v n) t.kind)
      ∙ layer_first _ t.at t.first
