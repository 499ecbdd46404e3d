-- The commands that are left.
use Rattle.std.proofs.Common.{◌≡◌, ℕ, zero, suc, ◌+◌, ◌<◌, ◌≤◌, List, [], ◌∷◌, length, drop, get_or, slice_get, option_map, All, Some, refl, sym, ap, ◌∙◌, arith}
use Rattle.std.proofs.lemmas.Option.{slice_get-map, slice_get_read}
use Rattle.std.specs.declared.alloc.Global.{Global}
use Rattle.std.specs.declared.rc.Rc.{Rc}
use Rattle.asm_node.specs.Machine.{Machine}
use Rattle.asm_node.proofs.Formed.{all_at}
use Rattle.avalla_command.specs.declared.command.Command.{Command}
use Rattle.avalla_command.specs.Acts.{IsAct, act_of, acts_of}

-- the first of the commands that are left
pub acts-cut : (commands : List (Rc Command Global)) (k : ℕ) (x : Rc Command Global) → k < length commands → x ≡ get_or commands k x → drop k (acts_of commands) ≡ act_of x.value ∷ drop (k + 1) (acts_of commands)
acts-cut [] k x lt is = absurd (omega arith)
acts-cut (c ∷ cs) zero x lt is = ap (λ (z : Rc Command Global). act_of z.value ∷ acts_of cs) (sym is)
acts-cut (c ∷ cs) (suc k) x lt is =
    let next : suc (k + 1) ≡ suc k + 1 = omega arith in
    acts-cut cs k x (omega arith) is ∙ ap (λ n. act_of x.value ∷ drop n (acts_of (c ∷ cs))) next

-- is an act of the machine
pub act-at : (m : Machine) (commands : List (Rc Command Global)) (k : ℕ) (x : Rc Command Global) → k < length commands → x ≡ get_or commands k x → All (IsAct m) (acts_of commands) → IsAct m (act_of x.value)
act-at m commands k x lt is all =
    let at : slice_get (acts_of commands) k ≡ Some (act_of x.value) =
    slice_get-map (λ (c : Rc Command Global). act_of c.value) commands k ∙ ap (option_map (λ (c : Rc Command Global). act_of c.value)) (slice_get_read commands (length commands) k x refl lt is) in
    all_at (IsAct m) (acts_of commands) k (act_of x.value) all at

-- past the last command none is left
pub acts-none : (commands : List (Rc Command Global)) (k : ℕ) → length commands ≤ k → drop k (acts_of commands) ≡ []
acts-none [] zero past = refl
acts-none [] (suc k) past = refl
acts-none (c ∷ cs) zero past = absurd (omega arith)
acts-none (c ∷ cs) (suc k) past = acts-none cs k (omega arith)
