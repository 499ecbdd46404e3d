-- What variables of an environment stand for has no variable of its own.
use Rattle.std.proofs.Common.{◌≡◌, ℕ, true, false, if◌then◌else◌, List, [], ◌∷◌, nat_eq, T, eqb→eq, refl, sym, ap, ◌∙◌, subst, ◌⊎◌, inl, inr}
use Rattle.asm_node.specs.declared.env.Entries.{Entries}
use Rattle.asm_node.specs.declared.env.Entries as entries
use Rattle.asm_node.specs.declared.term.Binder.{Binder}
use Rattle.asm_node.specs.Tree.{Tree, Const, Var, Within, Get, Oper, Cond, Let, Quant, Trees, none, more, plain}
use Rattle.asm_node.specs.Term.{Places, nowhere, put, keep, close, close_all}
use Rattle.asm_node.specs.Env.{places_in}

-- nothing that stands in the places of variables changes the term
abbrev pub IsClosed : Tree → Type 0
IsClosed t = (any : Places) → close any t ≡ t

-- each variable stays in both maps, or stands for a closed term in the inner one
abbrev Stay : Places → Places → Type 0
Stay outer inner = (y : ℕ) → ((inner y ≡ Var y) × (outer y ≡ Var y)) ⊎ IsClosed (inner y)

stay_bound : (outer inner : Places) (x : ℕ) → Stay outer inner → Stay (put x (Var x) outer) (put x (Var x) inner)
stay_bound outer inner x stay y =
    elim (nat_eq x y) as (λ b. nat_eq x y ≡ b → ((◌≡◌ {A = Tree} (if b then Var x else inner y) (Var y)) × (◌≡◌ {A = Tree} (if b then Var x else outer y) (Var y))) ⊎ ((any : Places) → close any (if b then Var x else inner y) ≡ (if b then Var x else inner y))) [
      | true ↦ λ is. let e : x ≡ y = eqb→eq x y (subst T (sym is) tt) in inl (ap Var e, ap Var e)
      | false ↦ λ is. stay y
    ] refl

stay_kept : (outer inner : Places) (bs : List Binder) → Stay outer inner → Stay (keep bs outer) (keep bs inner)
stay_kept outer inner [] stay = stay
stay_kept outer inner (b ∷ bs) stay = stay_bound (keep bs outer) (keep bs inner) b.variable (stay_kept outer inner bs stay)

mutual
  close-close : (outer inner : Places) (t : Tree) → Stay outer inner → close outer (close inner t) ≡ close inner t
  close-close outer inner (Const v) stay = refl
  close-close outer inner (Var x) stay =
      elim (stay x) as (λ _. close outer (inner x) ≡ inner x) [ inl both ↦ ap (close outer) both.0 ∙ both.1 ∙ sym both.0 | inr closed ↦ closed outer ]
  close-close outer inner (Within d t) stay = ap (Within d) (close-close outer inner t stay)
  close-close outer inner (Get f ts) stay = ap (Get f) (close_all-close outer inner ts stay)
  close-close outer inner (Oper o ts) stay = ap (Oper o) (close_all-close outer inner ts stay)
  close-close outer inner (Cond g t u) stay = λ i. Cond (close-close outer inner g stay i) (close-close outer inner t stay i) (close-close outer inner u stay i)
  close-close outer inner (Let x t u) stay = λ i. Let x (close-close outer inner t stay i) (close-close (put x (Var x) outer) (put x (Var x) inner) u (stay_bound outer inner x stay) i)
  close-close outer inner (Quant q bs g) stay = ap (Quant q bs) (close-close (keep bs outer) (keep bs inner) g (stay_kept outer inner bs stay))

  close_all-close : (outer inner : Places) (ts : Trees) → Stay outer inner → close_all outer (close_all inner ts) ≡ close_all inner ts
  close_all-close outer inner none stay = refl
  close_all-close outer inner (more t ts) stay = λ i. more (close-close outer inner t stay i) (close_all-close outer inner ts stay i)

-- a term in which each variable's place has a closed term is closed
pub closed : (e : Places) (t : Tree) → ((y : ℕ) → IsClosed (e y)) → IsClosed (close e t)
closed e t each any = close-close any e t (λ y. inr (each y))

put-closed : (x : ℕ) (t : Tree) (e : Places) → IsClosed t → ((y : ℕ) → IsClosed (e y)) → (y : ℕ) → IsClosed (put x t e y)
put-closed x t e is each y any =
    elim (nat_eq x y) as (λ b. close any (if b then t else e y) ≡ (if b then t else e y)) [ true ↦ is any | false ↦ each y any ]

-- what a variable stands for is closed
pub places-closed : (es : Entries) (y : ℕ) → IsClosed (places_in es y)
places-closed entries.Empty y = λ any. refl
places-closed (entries.Value' x v _ rest) y = put-closed x (Const v) (places_in rest) (λ any. refl) (places-closed rest) y
places-closed (entries.Node' x t _ rest) y = put-closed x (close nowhere (plain t.value)) (places_in rest) (closed nowhere (plain t.value) (λ _ any. refl)) (places-closed rest) y
places-closed (entries.Actual' x d t _ caller _ rest) y =
    put-closed x (Within d (close (places_in caller) (plain t.value))) (places_in rest)
    (λ any. ap (Within d) (closed (places_in caller) (plain t.value) (places-closed caller) any)) (places-closed rest) y
