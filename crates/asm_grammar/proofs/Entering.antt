-- What is read behind an opening token.
use Rattle.std.proofs.Common.{◌≡◌, ℕ, zero, suc, List, Ok, Err, refl}
use Rattle.asm_grammar.specs.Grammar.{Language, Bodies, Outcome, and_then, entered, read, reader}

pub entering : (l : Language) (body : Bodies l) (n : ℕ) (x : l.Inside) (w : List l.Token) → reader l body n x w ≡ and_then l (entered l n w) (λ m r. read l (reader l body m) (body x) r)
unfolding reader
entering l body zero x w = refl
entering l body (suc n) x w = refl

-- the value without the opening token
pub without : (l : Language) {A : Type 0} (t : l.Token) (o : Outcome l A) → and_then l {A = l.Token × A} (and_then l o (λ y s. Ok ((t, y), s))) (λ p s. Ok (p.1, s)) ≡ o
without l t (Ok p) = refl
without l t (Err e) = refl
