use Rattle.std.proofs.Common.{◌≡◌, ℕ, zero, suc, ◌<◌, ◌≤◌, List, [], ◌∷◌, length, get_or, slice_get, Option, Some, None, refl, sym, ap, ◌∙◌, subst, arith, lit≤, lit<}
use Rattle.std.specs.List.{All}
use Rattle.asm_domain.specs.Universe.{Universe, Truths, Named}
use Rattle.asm_sign.specs.declared.function.DeclaredDomain.{DeclaredDomain}
use Rattle.asm_sign.specs.declared.function.Function.{Function}
use Rattle.asm_sign.specs.declared.function.FunKind.{FunKind}
use Rattle.asm_sign.specs.declared.function.FunKind.TheVariants.{Controlled, Static, Monitored}
use Rattle.asm_sign.specs.Vocabulary.{locations, IsDeclared, AreNumbered}
use Rattle.model_tests.proofs.signatures.truths.Goals as goal

-- the truth values, with no name
abbrev alone : List DeclaredDomain
alone = record { name = None; domain = Truths } ∷ []

abbrev over : List ℕ → FunKind → List ℕ → Function
over name kind domains = record { name = name; kind = kind; domains = domains; codomain = 0 }

abbrev three : List ℕ → List ℕ → List ℕ → List Function
three m n p = over m Controlled (0 ∷ 0 ∷ []) ∷ over n Static (0 ∷ []) ∷ over p Monitored (0 ∷ []) ∷ []

declared : (m n p : List ℕ) → All (IsDeclared alone) (three m n p)
declared m n p zero d lt = record { few = lit≤ tt; declared = two; codomain = λ is. lit< tt }
  where
    two : All (λ n. n < 1) (0 ∷ 0 ∷ [])
    two zero e l = lit< tt
    two (suc zero) e l = lit< tt
    two (suc (suc k)) e l = absurd (omega arith)
declared m n p (suc zero) d lt = record { few = lit≤ tt; declared = one; codomain = λ is. lit< tt }
  where
    one : All (λ n. n < 1) (0 ∷ [])
    one zero e l = lit< tt
    one (suc k) e l = absurd (omega arith)
declared m n p (suc (suc zero)) d lt = record { few = lit≤ tt; declared = one; codomain = λ is. lit< tt }
  where
    one : All (λ n. n < 1) (0 ∷ [])
    one zero e l = lit< tt
    one (suc k) e l = absurd (omega arith)
declared m n p (suc (suc (suc k))) d lt = absurd (omega arith)

numbered : AreNumbered alone
numbered = record { number_is = is }
  where
    is : (k number : ℕ) (names : List (List ℕ)) (d : DeclaredDomain) → slice_get alone k ≡ Some d → d.domain ≡ Named number names → number ≡ k
    is zero number names d at named = let e : record { name = None; domain = Truths } ≡ d = cc at in cc (ap (λ x. x.domain) e, named)
    is (suc k) number names d at named = absurd (cc at)

few : (m n p : List ℕ) → length (locations record { domains = alone; functions = three m n p }) ≤ 4096
few m n p = lit≤ tt

pub new-requires : goal.new-requires
new-requires c =
    let d = c.from_vec-domains.ensures ∙ c.in_ok-vec.ensures.items ∙ (λ i. record { name = None; domain = c.boolean-domain.ensures i } ∷ []) in
    let two = c.in_ok-two.ensures in
    let none = c.in_ok-none.ensures in
    let one = c.in_ok-one.ensures in
    let f = c.from_vec-functions.ensures ∙ c.in_ok-vec-2.ensures.items ∙ (λ i. record { name = c.in_ok-two.two.name; kind = two.0 i; domains = two.1 i; codomain = two.2 i } ∷ record { name = c.in_ok-none.none.name; kind = none.0 i; domains = none.1 i; codomain = none.2 i } ∷ record { name = c.in_ok-one.one.name; kind = one.0 i; domains = one.1 i; codomain = one.2 i } ∷ []) in
    let m = c.in_ok-two.two.name in
    let n = c.in_ok-none.none.name in
    let p = c.in_ok-one.one.name in
    record {
      declared = subst (λ (q : List DeclaredDomain × List Function). All (IsDeclared q.0) q.1) (λ i. (sym d i, sym f i)) (declared m n p);
      numbered = subst (λ (q : List DeclaredDomain). AreNumbered q) (sym d) numbered;
      few = subst (λ (q : List DeclaredDomain × List Function). length (locations record { domains = q.0; functions = q.1 }) ≤ 4096) (λ i. (sym d i, sym f i)) (few m n p);
      short = let size = ap length f in omega (arith, size);
    }
