use Rattle.std.proofs.Common.{slice_get, ◌+◌, ◌*◌, ◌≤◌, List, [], take, length}
use Rattle.cnf_gate.specs.Built.{Grows}
use Rattle.asm_domain.specs.declared.value.Value.{Value}
use Rattle.asm_node.specs.Env.{places_of}
use Rattle.asm_node.specs.Model.{machine_of}
use Rattle.asm_node.specs.Tree.{Const, plain, plain_all}
use Rattle.asm_node.specs.Term.{World, read, calls_within, put, put_tuple}
use Rattle.asm_eval.specs.World.{value_by, values_by}
use Rattle.enc_group.specs.declared.group.Entry.{Entry}
use Rattle.enc_group.specs.declared.tuple.Tuple.{Tuple}
use Rattle.enc_group.specs.Tuple.{tuples_in}
use Rattle.enc_term.specs.Can.{Has, can_in, all_can_in, calls_can, read_can}
use Rattle.enc_term.specs.Cycle.{TellsAll, TellsEach, AreTuplesOf}
use Rattle.enc_term.proofs.term.+encode.Given as goal

abbrev pub decreases-encode_term : goal.decreases-encode_term
decreases-encode_term l = 8 * l.level.now.depth + 0

abbrev pub decreases-encode_variable : goal.decreases-encode_variable
decreases-encode_variable l = 8 * l.level.now.depth + 7

abbrev pub decreases-encode_within : goal.decreases-encode_within
decreases-encode_within l = 8 * l.level.now.depth + 6

abbrev pub decreases-encode_terms : goal.decreases-encode_terms
decreases-encode_terms l = 8 * l.level.now.depth + 5

abbrev pub decreases-encode_get : goal.decreases-encode_get
decreases-encode_get l = 8 * l.level.now.depth + 7

abbrev pub decreases-encode_reads : goal.decreases-encode_reads
decreases-encode_reads l = 8 * l.level.now.depth + 5

abbrev pub decreases-encode_read : goal.decreases-encode_read
decreases-encode_read l = 8 * l.level.now.depth + 4

abbrev pub decreases-encode_call : goal.decreases-encode_call
decreases-encode_call l = 8 * l.level.now.depth + 3

abbrev pub decreases-encode_oper : goal.decreases-encode_oper
decreases-encode_oper l = 8 * l.level.now.depth + 7

abbrev pub decreases-encode_cond : goal.decreases-encode_cond
decreases-encode_cond l = 8 * l.level.now.depth + 7

abbrev pub decreases-encode_let : goal.decreases-encode_let
decreases-encode_let l = 8 * l.level.now.depth + 7

abbrev pub decreases-encode_bodies : goal.decreases-encode_bodies
decreases-encode_bodies l = 8 * l.level.now.depth + 5

abbrev pub decreases-encode_quant : goal.decreases-encode_quant
decreases-encode_quant l = 8 * l.level.now.depth + 7

abbrev pub decreases-encode_guards : goal.decreases-encode_guards
decreases-encode_guards l = 8 * l.level.now.depth + 5

abbrev pub invariant-encode_terms-loop-term : goal.invariant-encode_terms-loop-term
invariant-encode_terms-loop-term l = record {
  grows : Grows l.fn.builder l.builder [] [];
  means : TellsAll l.builder (machine_of l.level.context.now.model.now) l.level.context.now.bits.now l.level.context.now.version l.tuples (λ (w : World). values_by w l.level.left (places_of l.env) (plain_all (take l.term-index l.terms)));
  tuples : AreTuplesOf l.builder (all_can_in (machine_of l.level.context.now.model.now) l.level.left (places_of l.env) (plain_all (take l.term-index l.terms))) l.tuples;
}

abbrev pub invariant-encode_reads-loop-tuple : goal.invariant-encode_reads-loop-tuple
invariant-encode_reads-loop-tuple l = record {
  grows : Grows l.fn.builder l.builder [] [];
  each : (vss : List (List Value)) → ((vs : List Value) → Has (tuples_in l.tuples) vs → Has vss vs)
      → TellsEach l.builder (machine_of l.level.context.now.model.now) l.level.context.now.bits.now l.level.context.now.version l.tuples l.tuple-index l.groups (λ (t : Tuple) (w : World). read w (calls_within w l.level.left) l.number (slice_get w.machine.signature.functions l.number) t.values)
      (λ (t : Tuple). read_can (machine_of l.level.context.now.model.now) (calls_can (machine_of l.level.context.now.model.now) l.level.left) l.number (slice_get (machine_of l.level.context.now.model.now).signature.functions l.number) vss);
  few : l.tuple-index ≤ length l.tuples;
}

abbrev pub invariant-encode_bodies-loop-key : goal.invariant-encode_bodies-loop-key
invariant-encode_bodies-loop-key l = record {
  grows : Grows l.fn.builder l.builder [] [];
  each : TellsEach l.builder (machine_of l.level.context.now.model.now) l.level.context.now.bits.now l.level.context.now.version l.keys l.key-index l.groups (λ (k : Entry) (w : World). value_by w l.level.left (put l.variable (Const k.value) (places_of l.env)) (plain l.body.value))
      (λ (k : Entry). can_in (machine_of l.level.context.now.model.now) l.level.left (put l.variable (Const k.value) (places_of l.env)) (plain l.body.value));
  few : l.key-index ≤ length l.keys;
}

abbrev pub invariant-encode_guards-loop-tuple : goal.invariant-encode_guards-loop-tuple
invariant-encode_guards-loop-tuple l = record {
  grows : Grows l.fn.builder l.builder [] [];
  each : TellsEach l.builder (machine_of l.level.context.now.model.now) l.level.context.now.bits.now l.level.context.now.version l.tuples l.tuple-index l.groups (λ (vs : List Value) (w : World). value_by w l.level.left (put_tuple l.binders vs (places_of l.env)) (plain l.guard.value))
      (λ (vs : List Value). can_in (machine_of l.level.context.now.model.now) l.level.left (put_tuple l.binders vs (places_of l.env)) (plain l.guard.value));
  few : l.tuple-index ≤ length l.tuples;
}
