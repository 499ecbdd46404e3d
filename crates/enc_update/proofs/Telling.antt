-- What the literals of a set say of its slots.
use Rattle.std.proofs.Common.{◌≡◌, ℕ, List, map, Bool, true, false, refl, sym, ◌∙◌}
use Rattle.std.specs.Prelude.{◌↔◌}
use Rattle.std.specs.FinSet as set
use Rattle.cnf_base.specs.declared.lit.Lit.{Lit}
use Rattle.asm_domain.specs.declared.value.Value.{Value}
use Rattle.asm_node.specs.Taking.{Yields}
use Rattle.asm_node.specs.UpdateSet.{UpdateSet, consistent, value_at}
use Rattle.enc_group.specs.declared.group.Entry.{Entry}
use Rattle.enc_group.specs.Group.{are_distinct, holds, values_in}
use Rattle.enc_update.specs.declared.pair.Pair.{Pair}
use Rattle.enc_update.specs.Slots.{Writes, entries_at}
use Rattle.enc_update.specs.Updates.{Takes, two_true}
use Rattle.enc_update.proofs.Clashes.{one_value, two_values}
use Rattle.enc_update.proofs.Consistency.{consistent_by, one_at, written_at}
use Rattle.enc_update.proofs.Entries.{pairs_at}

pub set_written : (v : ℕ → Bool) (ps : List Pair) (fault : Lit) (u : UpdateSet) → Takes v ps fault (Yields u tt) → consistent u ≡ true → (l : ℕ) → Writes v (entries_at ps l) (value_at u l)
set_written v ps fault u takes agrees l = record { at = λ y. sym (pairs_at v ps l y) ∙ takes.pairs refl l y ∙ written_at u agrees l y }

pub clash_told : (v : ℕ → Bool) (u : UpdateSet) (groups : ℕ → List Entry) → ((l : ℕ) → are_distinct (values_in (groups l)) ≡ true) → ((l : ℕ) (x : Value) → holds v (groups l) x ≡ set.contains u (l, x))
    → ((l : ℕ) → two_true v (map (λ e. e.lit) (groups l)) ≡ false) ↔ (consistent u ≡ true)
clash_told v u groups distinct means = (
  (λ none. consistent_by u (λ l x y is js. one_value v (groups l) (none l) x y (means l x ∙ is) (means l y ∙ js))),
  (λ agrees l. not_two l (two_true v (map (λ e. e.lit) (groups l))) refl agrees),
)
  where
    not_two : (l : ℕ) (b : Bool) → two_true v (map (λ e. e.lit) (groups l)) ≡ b → consistent u ≡ true → b ≡ false
    not_two l false is agrees = refl
    not_two l true is agrees =
        let two = two_values v (groups l) (distinct l) is in
        sym (one_at u agrees l two.0 two.1 (sym (means l two.0) ∙ two.2) (sym (means l two.1) ∙ two.3)) ∙ two.4
