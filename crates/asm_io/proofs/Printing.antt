-- How calls that print into a sink follow one another.
use Rattle.std.proofs.Common.{◌≡◌, ◌≤◌, ℕ, List, [], ◌++◌, take, Option, Some, None, Result, Ok, Err, refl, ap, sym, ◌∙◌, append_assoc, append-nil, arith}
use Rattle.std.specs.Io.KnownBytes.{append_known}
use Rattle.asm_io.specs.Outside.{Adds, AddsPart, Rose}
use Rattle.asm_io.specs.Writes.{Writes, WritesFront}
use Rattle.asm_source.proofs.Appending.{prefix_none, prefix_all, prefix_taken, prefix_front, prefix_back}

-- a count that rose in a later part of a call
pub rose_after : (a b c : ℕ) → a ≤ b → Rose b c → Rose a c
rose_after a b c le rose = omega arith

-- a count that rose in an earlier part of a call
pub rose_before : (a b c : ℕ) → Rose a b → b ≤ c → Rose a c
rose_before a b c rose le = omega arith

append_known-append : (before : Option (List ℕ)) (xs ys : List ℕ) → append_known (append_known before xs) ys ≡ append_known before (xs ++ ys)
append_known-append None xs ys = refl
append_known-append (Some bytes) xs ys = ap Some (append_assoc bytes xs ys)

append_known-nil : (before : Option (List ℕ)) → append_known before [] ≡ before
append_known-nil None = refl
append_known-nil (Some bytes) = ap Some (append-nil bytes)

pub adds_nothing : (before : Option (List ℕ)) → Adds before before []
adds_nothing before = sym (append_known-nil before)

-- two pieces are one
pub adds_then : (a b c : Option (List ℕ)) (xs ys : List ℕ) → Adds a b xs → Adds b c ys → Adds a c (xs ++ ys)
adds_then a b c xs ys first second = second ∙ ap (λ o. append_known o ys) first ∙ append_known-append a xs ys

-- nothing is a part
pub part_of_none : (a : Option (List ℕ)) (xs : List ℕ) → AddsPart a a xs
part_of_none a xs = record { part = []; is_prefix = prefix_none xs; adds = adds_nothing a }

-- the first n bytes are a part
pub part_taken : (a b : Option (List ℕ)) (xs : List ℕ) (n : ℕ) → Adds a b (take n xs) → AddsPart a b xs
part_taken a b xs n taken = record { part = take n xs; is_prefix = prefix_taken xs n; adds = taken }

-- all is a part
pub part_of_all : (a b : Option (List ℕ)) (xs ys : List ℕ) → Adds a b xs → AddsPart a b (xs ++ ys)
part_of_all a b xs ys all = record { part = xs; is_prefix = prefix_all xs ys; adds = all }

-- a part of the first piece is one of the whole
pub part_front : (a b : Option (List ℕ)) (xs ys : List ℕ) → AddsPart a b xs → AddsPart a b (xs ++ ys)
part_front a b xs ys p = record { part = p.part; is_prefix = prefix_front _ xs ys p.is_prefix; adds = p.adds }

-- the whole of the first piece, and then a part of the second
pub part_back : (a b c : Option (List ℕ)) (xs ys : List ℕ) → Adds a b xs → AddsPart b c ys → AddsPart a c (xs ++ ys)
part_back a b c xs ys all p = record {
  part = xs ++ p.part;
  is_prefix = prefix_back _ xs ys p.is_prefix;
  adds = adds_then a b c xs p.part all p.adds;
}

-- a loop begins
pub front_none : {K : Type 0} (written : K → Option (List ℕ)) (faults : K → ℕ) (sink : K) (text : List ℕ) → WritesFront written faults sink sink text text
front_none written faults sink text = record { front = []; text_is = refl; adds = adds_nothing (written sink); later = omega arith }

-- a loop writes a piece of what is left
pub front_more : {K : Type 0} (written : K → Option (List ℕ)) (faults : K → ℕ) (old mid now : K) (text rest piece after : List ℕ)
    → rest ≡ piece ++ after → WritesFront written faults old mid text rest
    → Adds (written mid) (written now) piece → faults mid ≤ faults now
    → WritesFront written faults old now text after
front_more written faults old mid now text rest piece after cut so_far adds later =
    let before : faults old ≤ faults mid = so_far.later in
    record {
      front = so_far.front ++ piece;
      text_is = so_far.text_is ∙ ap (λ zs. so_far.front ++ zs) cut ∙ sym (append_assoc so_far.front piece after);
      adds = adds_then _ _ _ so_far.front piece so_far.adds adds;
      later = omega arith;
    }

-- a loop stops within a piece
pub front_part : {K : Type 0} (written : K → Option (List ℕ)) (faults : K → ℕ) (old mid now : K) (text rest piece after : List ℕ)
    → rest ≡ piece ++ after → WritesFront written faults old mid text rest
    → AddsPart (written mid) (written now) piece → AddsPart (written old) (written now) text
front_part written faults old mid now text rest piece after cut so_far part =
    rw (so_far.text_is, cut) (part_back _ _ _ so_far.front (piece ++ after) so_far.adds (part_front _ _ piece after part))

-- a call that stops in its first piece
pub writes_stopped : {K T T' E : Type 0} (written : K → Option (List ℕ)) (faults : K → ℕ) (old new : K) (xs ys : List ℕ) (fault e : E)
    → Writes {T = T} written faults old new xs fault (Err e) → Writes {T = T'} written faults old new (xs ++ ys) fault (Err e)
writes_stopped written faults old new xs ys fault e w = record {
  ok = tt;
  err = part_front _ _ xs ys w.err;
  later = w.later;
  failed = λ is. w.failed (cc is);
}

-- a call that goes on after its first piece
pub writes_after : {K T E : Type 0} (written : K → Option (List ℕ)) (faults : K → ℕ) (old mid new : K) (xs ys : List ℕ) (fault : E) (r : Result T E)
    → Adds (written old) (written mid) xs → faults old ≤ faults mid → Writes written faults mid new ys fault r
    → Writes written faults old new (xs ++ ys) fault r
writes_after written faults old mid new xs ys fault (Ok x) all le w = record {
  ok = adds_then _ _ _ xs ys all w.ok;
  err = tt;
  later = let after = w.later in omega arith;
  failed = λ is. rose_after _ _ _ le (w.failed is);
}
writes_after written faults old mid new xs ys fault (Err e) all le w = record {
  ok = tt;
  err = part_back _ _ _ xs ys all w.err;
  later = let after = w.later in omega arith;
  failed = λ is. rose_after _ _ _ le (w.failed is);
}
