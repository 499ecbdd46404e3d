-- Rules whose terms are exact in every state of a model, and which update kept functions alone.
use Rattle.std.specs.Prelude.{◌≡◌, ℕ, zero, suc, true, ⊤, List, Option, Some, None, slice_get, IsTrue, Contains}
use Rattle.std.specs.FinSet as set
use Rattle.asm_domain.specs.declared.value.Value.{Value}
use Rattle.asm_sign.specs.Kind.{is_kept}
use Rattle.asm_sign.specs.Vocabulary.{function_at}
use Rattle.asm_node.specs.Tree.{Tree, Trees, Const}
use Rattle.asm_node.specs.RuleTree.{Rule, Rules, Skip, Update, Par, Seq, If, Let, Forall, Choose, Call, none, more}
use Rattle.asm_node.specs.Machine.{Machine, Macro, State, Input, tuples_of, has_kind}
use Rattle.asm_node.specs.Term.{Places, nowhere, put, put_tuple, close, close_all, Gives, val}
use Rattle.asm_node.specs.Taking.{stand_for}
use Rattle.asm_node.specs.UpdateSet.{UpdateSet, ranked_values}
use Rattle.asm_node.specs.Values.{whole}
use Rattle.asm_sign.specs.declared.function.Function.{Function}
use Rattle.asm_node.specs.Step.{IsState, may_have}
use Rattle.asm_node.specs.Exact.{IsExact, AreExact}
use Rattle.asm_eval.specs.World.{world_in}

-- the term, with closed terms in the places of its variables, is exact in every state under the input
abbrev pub IsEverExact : Machine → Input → Places → Tree → Type 0
IsEverExact m i e t = (s : State) → IsState m s → IsExact (world_in m s i) (close e t)

abbrev pub AreEverExact : Machine → Input → Places → Trees → Type 0
AreEverExact m i e ts = (s : State) → IsState m s → AreExact (world_in m s i) (close_all e ts)

-- a state keeps the function's locations, and their values are those of a domain of the model
abbrev pub HasDomain : Option Function → Type 0
HasDomain (Some f) = f.codomain ≡ whole → ⊥
HasDomain None = ⊤

abbrev pub IsKept : Machine → ℕ → Type 0
IsKept m f = (has_kind is_kept (slice_get m.signature.functions f) ≡ true) × HasDomain (slice_get m.signature.functions f)

-- what is to hold of each macro rule at actual terms
abbrev pub OfBodies : Type 1
OfBodies = ℕ → Places → Trees → Type 0

module _ (m : Machine) (i : Input) (of_bodies : OfBodies) where
  abbrev mutual
    pub IsSoundIn : Places → Rule → Type 0
    IsSoundIn e (Skip place) = ⊤
    IsSoundIn e (Update place f ts t) = AreEverExact m i e ts × IsEverExact m i e t × IsKept m f
    IsSoundIn e (Par place rs) = AreSoundIn e rs
    IsSoundIn e (Seq place p q) = IsSoundIn e p × IsSoundIn e q
    IsSoundIn e (If place g p q) = IsEverExact m i e g × IsSoundIn e p × IsSoundIn e q
    IsSoundIn e (Let place x t p) =
        IsEverExact m i e t × ((s : State) (v : Value) → IsState m s → val (world_in m s i) e t ≡ Gives v → IsSoundIn (put x (Const v) e) p)
    IsSoundIn e (Forall place bs g p) =
        (vs : List Value) → Contains (tuples_of m.signature bs) vs → IsEverExact m i (put_tuple bs vs e) g × IsSoundIn (put_tuple bs vs e) p
    IsSoundIn e (Choose place bs g p q) =
        ((vs : List Value) → Contains (tuples_of m.signature bs) vs → IsEverExact m i (put_tuple bs vs e) g × IsSoundIn (put_tuple bs vs e) p) × IsSoundIn e q
    IsSoundIn e (Call place f ts) = of_bodies f e ts

    pub AreSoundIn : Places → Rules → Type 0
    AreSoundIn e none = ⊤
    AreSoundIn e (more r rs) = IsSoundIn e r × AreSoundIn e rs

-- the body of a macro rule, whose parameters stand for the actual terms
abbrev pub IsSoundBody : Machine → Input → OfBodies → Option Macro → Places → Trees → Type 0
IsSoundBody m i of_bodies (Some macro) e ts = IsSoundIn m i of_bodies (stand_for macro.parameters e ts) macro.body
IsSoundBody m i of_bodies None e ts = ⊤

-- macro rules of which at most n stand inside one another
abbrev pub sound_within : Machine → Input → ℕ → OfBodies
sound_within m i zero f e ts = ⊤
sound_within m i (suc n) f e ts = IsSoundBody m i (sound_within m i n) (slice_get m.rules f) e ts

-- a rule without free variables
abbrev pub IsSound : Machine → Input → Rule → Type 0
IsSound m i rule = IsSoundIn m i (sound_within m i 32) nowhere rule

-- each pair is of a kept slot, and its value is one that the slot may have
abbrev pub AreKept : Machine → UpdateSet → Type 0
AreKept m u = (l : ℕ) (v : Value) → set.contains u (l, v) ≡ true →
    (has_kind is_kept (function_at m.signature l) ≡ true) × IsTrue (may_have m (function_at m.signature l) v) × Contains (ranked_values m.signature (function_at m.signature l)) v
