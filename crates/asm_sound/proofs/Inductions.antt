-- Inductions over terms by their forms, and folds at a form.
use Rattle.std.proofs.Common.{◌≡◌, ℕ, List, [], ◌∷◌, ap, subst, ◌∙◌}
use Rattle.std.proofs.Math.Path.{fun_ext}
use Rattle.std.specs.Prelude.{map}
use Rattle.asm_tree.specs.declared.term.RawBind.{RawBind, RawBind-F, fold-RawBind, fold_out-RawBind}
use Rattle.asm_tree.specs.declared.term.RawCase.{RawCase, RawCase-F, fold-RawCase, fold_out-RawCase}
use Rattle.asm_tree.specs.declared.term.RawTerm.{RawTerm, RawTerm-F, fold-RawTerm, fold_out-RawTerm, ind-RawTerm}
use Rattle.asm_tree.specs.declared.term.RawTermKind.{RawTermKind, RawTermKind-F, roll-RawTermKind, map-RawTermKind, fold-RawTermKind, fold-roll-RawTermKind}

-- a fact of each item
abbrev pub Every : {A : Type 0} → (A → Type 0) → List A → Type 0
Every P [] = Unit {0}
Every P (x ∷ xs) = P x × Every P xs

-- a term without its place, whose parts are terms
abbrev pub Form : Type 0
Form = RawTermKind-F RawTermKind RawBind RawCase RawTerm

abbrev pub at_form : ℕ → List ℕ → Form → RawTerm
at_form at first k = record { at = at; first = first; kind = roll-RawTermKind k }

-- a fact of each part of a term
abbrev pub Parts : (RawTerm → Type 0) → Form → Type 0
Parts P (RawTermKind-F.Number x) = Unit {0}
Parts P (RawTermKind-F.Truth b) = Unit {0}
Parts P RawTermKind-F.Undef = Unit {0}
Parts P (RawTermKind-F.Variable x) = Unit {0}
Parts P (RawTermKind-F.Element e) = Unit {0}
Parts P (RawTermKind-F.Call f ts) = Every P ts
Parts P (RawTermKind-F.Unary o t) = P t
Parts P (RawTermKind-F.Binary o t u) = P t × P u
Parts P (RawTermKind-F.Cond g t u) = P g × P t × P u
Parts P (RawTermKind-F.Switch t cs u) = P t × Every (λ (c : RawCase). P c.label × P c.value) cs × P u
Parts P (RawTermKind-F.Let bs t) = Every (λ (b : RawBind). P b.term) bs × P t
Parts P (RawTermKind-F.Quant q bs g) = P g

pub every : {A : Type 0} (P : A → Type 0) (xs : List ((x : A) × P x)) → Every P (map (λ (e : (x : A) × P x). e.0) xs)
every P [] = tt
every P (x ∷ xs) = (x.1, every P xs)

module _ (P : RawTerm → Type 0) where
  abbrev OfKind : RawTermKind → Type 0
  OfKind k = (at : ℕ) (first : List ℕ) → P (record { at = at; first = first; kind = k })

  abbrev OfBind : RawBind → Type 0
  OfBind b = P b.term

  abbrev OfCase : RawCase → Type 0
  OfCase c = P c.label × P c.value

  abbrev Known : Type 0
  Known = RawTermKind-F ((k : RawTermKind) × OfKind k) ((b : RawBind) × OfBind b) ((c : RawCase) × OfCase c) ((t : RawTerm) × P t)

  abbrev form_of : Known → Form
  form_of = map-RawTermKind ((k : RawTermKind) × OfKind k) ((b : RawBind) × OfBind b) ((c : RawCase) × OfCase c) ((t : RawTerm) × P t) RawTermKind RawBind RawCase RawTerm (λ e. e.0) (λ e. e.0) (λ e. e.0) (λ e. e.0)

  parts : (y : Known) → Parts P (form_of y)
  parts (RawTermKind-F.Number x) = tt
  parts (RawTermKind-F.Truth b) = tt
  parts RawTermKind-F.Undef = tt
  parts (RawTermKind-F.Variable x) = tt
  parts (RawTermKind-F.Element e) = tt
  parts (RawTermKind-F.Call f ts) = every P ts
  parts (RawTermKind-F.Unary o t) = t.1
  parts (RawTermKind-F.Binary o t u) = (t.1, u.1)
  parts (RawTermKind-F.Cond g t u) = (g.1, t.1, u.1)
  parts (RawTermKind-F.Switch t cs u) = (t.1, every OfCase cs, u.1)
  parts (RawTermKind-F.Let bs t) = (every OfBind bs, t.1)
  parts (RawTermKind-F.Quant q bs g) = g.1

  -- a fact of each term
  pub induct : ((at : ℕ) (first : List ℕ) (k : Form) → Parts P k → P (at_form at first k)) → (t : RawTerm) → P t
  induct f =
      ind-RawTerm OfKind OfBind OfCase P
      (λ x y e at first. subst (λ (z : Form). P (at_form at first z)) e (f at first (form_of y) (parts y)))
      (λ x y e. subst (λ (z : RawBind-F RawTermKind RawBind RawCase RawTerm). P z.term) e y.term.1)
      (λ x y e. subst (λ (z : RawCase-F RawTermKind RawBind RawCase RawTerm). P z.label × P z.value) e (y.label.1, y.value.1))
      (λ x y e. subst (λ (z : RawTerm-F RawTermKind RawBind RawCase RawTerm). P (record { at = z.at; first = z.first; kind = z.kind })) e (y.kind.1 y.at y.first))

-- a fold at a form is its step over the folds of the parts
module _ (A B C D : Type 0) (kind : RawTermKind-F A B C D → A) (bind : RawBind-F A B C D → B) (case : RawCase-F A B C D → C) (term : RawTerm-F A B C D → D) where
  abbrev pub fold : RawTerm → D
  fold = fold-RawTerm A B C D kind bind case term

  abbrev pub each_kind : RawTermKind → A
  each_kind = fold-RawTermKind A B C D kind bind case term

  abbrev pub each_bind : RawBind → B
  each_bind b = bind (record { variable = b.variable; term = fold b.term })

  abbrev pub each_case : RawCase → C
  each_case c = case (record { label = fold c.label; value = fold c.value })

  abbrev pub folded_form : Form → RawTermKind-F A B C D
  folded_form = map-RawTermKind RawTermKind RawBind RawCase RawTerm A B C D each_kind each_bind each_case fold

  binds : fold-RawBind A B C D kind bind case term ≡ each_bind
  binds = fun_ext (λ b. fold_out-RawBind A B C D kind bind case term b)

  cases : fold-RawCase A B C D kind bind case term ≡ each_case
  cases = fun_ext (λ c. fold_out-RawCase A B C D kind bind case term c)

  pub fold_at : (at : ℕ) (first : List ℕ) (k : Form) → fold (at_form at first k) ≡ term (record { at = at; first = first; kind = kind (folded_form k) })
  fold_at at first k =
      fold_out-RawTerm A B C D kind bind case term (at_form at first k)
      ∙ ap (λ (z : A). term (record { at = at; first = first; kind = z }))
      (fold-roll-RawTermKind A B C D kind bind case term k
      ∙ ap (λ (g : RawBind → B). kind (map-RawTermKind RawTermKind RawBind RawCase RawTerm A B C D each_kind g (fold-RawCase A B C D kind bind case term) fold k)) binds
      ∙ ap (λ (g : RawCase → C). kind (map-RawTermKind RawTermKind RawBind RawCase RawTerm A B C D each_kind each_bind g fold k)) cases)
