-- How calls that print follow one another.
use Rattle.std.proofs.Common.{◌≡◌, ℕ, List, [], ◌++◌, Option, refl, sym, ◌∙◌, subst, append-nil, arith}
use Rattle.std.specs.Prelude.{Result, Ok, Err, IfOk}
use Rattle.asm_io.specs.Writes.{Writes}
use Rattle.asm_io.proofs.Printing.{front_none, part_of_none}
use Rattle.asm_run.specs.declared.error.OutError.{OutError}
use Rattle.asm_run.specs.declared.error.OutError.TheVariants.{Write, Memory}
use Rattle.asm_run.proofs.Runs.{last, stopped, went_on, written_all}

-- what holds of each value holds of the one at Ok
pub if_ok : {T E : Type 0} (r : Result T E) (P : T → Type 0) → ((x : T) → P x) → IfOk r P
if_ok (Ok x) P all = all x
if_ok (Err e) P all = tt

-- what follows from a fact of the value at Ok
pub from_ok : {T E : Type 0} (r : Result T E) (P Q : T → Type 0) → ((x : T) → P x → Q x) → IfOk r P → IfOk r Q
from_ok (Ok x) P Q all h = all x h
from_ok (Err e) P Q all h = tt

module _ {K : Type 0} (written : K → Option (List ℕ)) (faults : K → ℕ) where
  -- the text that is meant
  pub same-text : {T : Type 0} (old new : K) (xs ys : List ℕ) (r : Result T OutError) → xs ≡ ys → Writes written faults old new xs Write r → Writes written faults old new ys Write r
  same-text old new xs ys r same w = subst (λ zs. Writes written faults old new zs Write r) same w

  -- a call that stops in its only piece
  pub one-stopped : {T U : Type 0} (old new : K) (xs ys : List ℕ) (e : OutError) → xs ≡ ys → Writes {T = T} written faults old new xs Write (Err e) → Writes {T = U} written faults old new ys Write (Err e)
  one-stopped {T = T} {U = U} old new xs ys e same w = stopped written faults {T = T} {U = U} old old new ys ys xs [] e (sym same ∙ sym (append-nil xs)) (front_none written faults old ys) w

  -- one that stops in the first of two pieces
  pub first-stopped : {T U : Type 0} (old new : K) (xs ys zs : List ℕ) (e : OutError) → zs ≡ xs ++ ys → Writes {T = T} written faults old new xs Write (Err e) → Writes {T = U} written faults old new zs Write (Err e)
  first-stopped {T = T} {U = U} old new xs ys zs e same w = stopped written faults {T = T} {U = U} old old new zs zs xs ys e same (front_none written faults old zs) w

  -- one that writes nothing for want of memory
  pub not-written : {T : Type 0} (sink : K) (text : List ℕ) → Writes {T = T} written faults sink sink text Write (Err Memory)
  not-written sink text = record {
    ok = tt;
    err = part_of_none (written sink) text;
    later = omega arith;
    failed = λ is. absurd (cc is);
  }

  -- one that has nothing to write
  pub none-written : {T : Type 0} (sink : K) (text : List ℕ) (x : T) → text ≡ [] → Writes written faults sink sink text Write (Ok x)
  none-written sink text x none = written_all written faults sink sink text text x none (front_none written faults sink text)

  -- the call that writes the second piece ends the whole
  pub then-last : {T U : Type 0} (old mid new : K) (xs ys zs : List ℕ) (x : T) (r : Result U OutError) → zs ≡ xs ++ ys → Writes written faults old mid xs Write (Ok x) → Writes written faults mid new ys Write r → Writes written faults old new zs Write r
  then-last old mid new xs ys zs x r same first second =
      last written faults old mid new zs ys ys r refl (went_on written faults old old mid zs zs xs ys x same (front_none written faults old zs) first) second
