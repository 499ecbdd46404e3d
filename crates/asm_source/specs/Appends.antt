-- What a call that prints into a text in memory does to it.
use Rattle.std.specs.Prelude.{◌≡◌, List, ℕ, ◌++◌, Result, OnOk, OnErr}

-- the second list begins with the first
pub record IsPrefix (part whole : List ℕ) : Type 0 where
  pub rest : List ℕ
  pub whole_is : whole ≡ part ++ rest

-- the text has grown by a prefix of these bytes
pub record AppendsPart (old new bytes : List ℕ) : Type 0 where
  pub part : List ℕ
  pub is_prefix : IsPrefix part bytes
  pub new_is : new ≡ old ++ part

-- all of these bytes at Ok, a prefix of them at Err
pub record Appends {T E : Type 0} (old new bytes : List ℕ) (result : Result T E) : Type 0 where
  pub ok : OnOk result (new ≡ old ++ bytes)
  pub err : OnErr result (AppendsPart old new bytes)

-- what a loop has appended of the bytes so far
pub record AppendsFront (old now bytes rest : List ℕ) : Type 0 where
  pub front : List ℕ
  pub bytes_are : bytes ≡ front ++ rest
  pub now_is : now ≡ old ++ front
