-- A literal without a value, and the value of a variable.
use Rattle.std.proofs.Common.{◌≡◌, ap, ◌∙◌, refl, Option, Some, None, Bool, true, false, not, ◌&&◌}
use Rattle.std.specs.Prelude.{is_none, unwrap_or}
use Rattle.cnf_search.specs.Ended.{completed}
use Rattle.cnf_base.specs.declared.lit.Lit.{Lit}
use Rattle.cnf_base.specs.Known.{Partial, is_true, is_false, is_value}

pub open_by : (p : Partial) (l : Lit) → not (is_true p l) && not (is_false p l) ≡ is_none (p l.var)
open_by p l = go (p l.var) l.positive
  where
    go : (x : Option Bool) (b : Bool) → not (is_value x b) && not (is_value x (not b)) ≡ is_none x
    go None b = refl
    go (Some true) true = refl
    go (Some true) false = refl
    go (Some false) true = refl
    go (Some false) false = refl

pub value_by : (p : Partial) (l : Lit) → l.positive ≡ true → is_true p l ≡ completed p l.var
value_by p l e = ap (is_value (p l.var)) e ∙ go (p l.var)
  where
    go : (x : Option Bool) → is_value x true ≡ unwrap_or x false
    go None = refl
    go (Some true) = refl
    go (Some false) = refl
