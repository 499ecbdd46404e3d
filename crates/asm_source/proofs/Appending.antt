-- How calls that print into a text in memory follow one another.
use Rattle.std.proofs.Common.{◌≡◌, ℕ, List, [], ◌++◌, take, drop, Result, Ok, Err, OnOk, OnErr, refl, ap, sym, ◌∙◌, append_assoc, append-nil}
use Rattle.std.proofs.lemmas.List.{take-append-drop}
use Rattle.asm_source.specs.Appends.{Appends, AppendsPart, AppendsFront, IsPrefix}

-- nothing is a prefix
pub prefix_none : (xs : List ℕ) → IsPrefix [] xs
prefix_none xs = record { rest = xs; whole_is = refl }

-- a list is a prefix of what begins with it
pub prefix_all : (xs ys : List ℕ) → IsPrefix xs (xs ++ ys)
prefix_all xs ys = record { rest = ys; whole_is = refl }

-- the first n items are a prefix
pub prefix_taken : (xs : List ℕ) (n : ℕ) → IsPrefix (take n xs) xs
prefix_taken xs n = record { rest = drop n xs; whole_is = sym (take-append-drop n xs) }

-- a prefix of the first part is one of the whole
pub prefix_front : (part xs ys : List ℕ) → IsPrefix part xs → IsPrefix part (xs ++ ys)
prefix_front part xs ys p = record {
  rest = p.rest ++ ys;
  whole_is = ap (λ zs. zs ++ ys) p.whole_is ∙ append_assoc part p.rest ys;
}

-- the first part with a prefix of the second
pub prefix_back : (part xs ys : List ℕ) → IsPrefix part ys → IsPrefix (xs ++ part) (xs ++ ys)
prefix_back part xs ys p = record {
  rest = p.rest;
  whole_is = ap (λ zs. xs ++ zs) p.whole_is ∙ sym (append_assoc xs part p.rest);
}

-- two pieces of a text are one
pub appends_then : (a b c xs ys : List ℕ) → b ≡ a ++ xs → c ≡ b ++ ys → c ≡ a ++ (xs ++ ys)
appends_then a b c xs ys first second = second ∙ ap (λ zs. zs ++ ys) first ∙ append_assoc a xs ys

-- nothing is a part
pub appends_none : (a b xs : List ℕ) → b ≡ a → AppendsPart a b xs
appends_none a b xs same = record { part = []; is_prefix = prefix_none xs; new_is = same ∙ sym (append-nil a) }

-- a part of the first piece is one of the whole
pub appends_front : (a b xs ys : List ℕ) → AppendsPart a b xs → AppendsPart a b (xs ++ ys)
appends_front a b xs ys p = record { part = p.part; is_prefix = prefix_front _ xs ys p.is_prefix; new_is = p.new_is }

-- the whole of the first piece, and then a part of the second
pub appends_back : (a b c xs ys : List ℕ) → b ≡ a ++ xs → AppendsPart b c ys → AppendsPart a c (xs ++ ys)
appends_back a b c xs ys all p = record {
  part = xs ++ p.part;
  is_prefix = prefix_back _ xs ys p.is_prefix;
  new_is = appends_then a b c xs p.part all p.new_is;
}

-- a call that appends all or nothing
pub appends_whole : {T E : Type 0} (old new xs : List ℕ) (r : Result T E) → OnOk r (new ≡ old ++ xs) → OnErr r (new ≡ old) → Appends old new xs r
appends_whole old new xs (Ok x) ok err = record { ok = ok; err = tt }
appends_whole old new xs (Err e) ok err = record { ok = tt; err = appends_none old new xs err }

-- a call that stops in its first piece
pub appends_stopped : {T E T' : Type 0} (old new xs ys : List ℕ) (e : E) → Appends {T = T} old new xs (Err e) → Appends {T = T'} old new (xs ++ ys) (Err e)
appends_stopped old new xs ys e a = record { ok = tt; err = appends_front old new xs ys a.err }

-- a call that goes on after its first piece
pub appends_after : {T E : Type 0} (old mid new xs ys : List ℕ) (r : Result T E) → mid ≡ old ++ xs → Appends mid new ys r → Appends old new (xs ++ ys) r
appends_after old mid new xs ys (Ok x) all a = record { ok = appends_then old mid new xs ys all a.ok; err = tt }
appends_after old mid new xs ys (Err e) all a = record { ok = tt; err = appends_back old mid new xs ys all a.err }

-- a loop begins
pub text_front_none : (old bytes : List ℕ) → AppendsFront old old bytes bytes
text_front_none old bytes = record { front = []; bytes_are = refl; now_is = sym (append-nil old) }

-- a loop appends a piece of what is left
pub text_front_more : (old mid now bytes rest piece after : List ℕ)
    → rest ≡ piece ++ after → AppendsFront old mid bytes rest → now ≡ mid ++ piece → AppendsFront old now bytes after
text_front_more old mid now bytes rest piece after cut so_far more = record {
  front = so_far.front ++ piece;
  bytes_are = so_far.bytes_are ∙ ap (λ zs. so_far.front ++ zs) cut ∙ sym (append_assoc so_far.front piece after);
  now_is = appends_then old mid now so_far.front piece so_far.now_is more;
}

-- a loop stops within a piece
pub text_front_part : (old mid now bytes rest piece after : List ℕ)
    → rest ≡ piece ++ after → AppendsFront old mid bytes rest → AppendsPart mid now piece → AppendsPart old now bytes
text_front_part old mid now bytes rest piece after cut so_far part =
    rw (so_far.bytes_are, cut) (appends_back _ _ _ so_far.front (piece ++ after) so_far.now_is (appends_front _ _ piece after part))
