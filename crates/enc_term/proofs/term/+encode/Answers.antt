use Rattle.std.proofs.Common.{◌≡◌, ◌≤◌, ◌<◌, ◌-◌, ◌∙◌, ap, sym, subst, arith, refl, inl, List, [], ◌∷◌, length, map, take, slice_get, Some, None}
use Rattle.std.specs.List.{flat_map}
use Rattle.cnf_gate.proofs.Growing.{grows_same, grows_then}
use Rattle.asm_domain.specs.declared.value.Value.{Value}
use Rattle.asm_domain.specs.declared.value.Value.TheVariants.{Undef}
use Rattle.asm_sign.specs.Tuples.{tuples}
use Rattle.asm_node.specs.Env.{places_of, Holds}
use Rattle.asm_node.specs.Exact.{nothing}
use Rattle.asm_node.specs.Machine.{Machine, constant_of, definition_of, tuples_of}
use Rattle.asm_node.specs.Model.{machine_of, defined_by}
use Rattle.asm_node.specs.Term.{World, Outcome, Gives, and_then, branch, read, put, put_tuple, guard_values, nowhere, unbound, value_of, calls_within}
use Rattle.asm_node.specs.Tree.{Const, Get, Oper, Let, Quant, plain, plain_kind, plain_all}
use Rattle.asm_node.specs.Values.{result_of, quantified, within, are_arguments}
use Rattle.asm_node.proofs.Closed.{places-closed}
use Rattle.asm_node.proofs.Trees.{plain_kind-Get, plain_kind-Oper}
use Rattle.asm_eval.specs.World.{value_by, values_by, reads_by, parameters_at}
use Rattle.asm_eval.proofs.Worth.{reads-tuple, closed-by}
use Rattle.enc_group.specs.declared.group.Entry.{Entry}
use Rattle.enc_group.specs.declared.tuple.Tuple.{Tuple}
use Rattle.enc_group.specs.Group.{Means, once, values_in, are_distinct, group_variables}
use Rattle.enc_group.specs.Tuple.{MeansAll, tuples_in, tuple_variables, products}
use Rattle.enc_group.specs.Binding.{group_at, values_before}
use Rattle.enc_group.proofs.Groups.{take_all}
use Rattle.enc_term.specs.Can.{Has, AreAmong, only_undef, can_by, can_in, all_can_in, cans_in, calls_can, with_cans, read_can, quantified_can}
use Rattle.enc_term.specs.Small.{StaysSmall, StaysSmallIn, IsOfCall, small_within, each_in}
use Rattle.enc_term.specs.Forms.{LetParts, CallParts}
use Rattle.enc_term.specs.Cycle.{Tells, IsGroupOf, AreTuplesOf}
use Rattle.enc_term.specs.Guards.{are_odd, answer_values}
use Rattle.enc_term.proofs.Members.{has_map, has_at, picked_tuple}
use Rattle.enc_term.proofs.CanClosing.{tuples_length, length_of}
use Rattle.enc_term.proofs.Shapes.{cans_parameters, small_put, small_tuple, small_parameters, can_closed, small_closed, can_entered, small_entered}
use Rattle.enc_term.proofs.Cycles.{bits_later, group_once, group_single, map_among, results_among, branches_among, each_none, each_more, each_whole, each_among, let_among, tuples_none, tuples_more, cans_more, values_more, quant_among, answer_distinct, take_none, small_item, constant_call, constant_can, last_call, last_defined_can, static_value, bad_value, dynamic_read, static_read, bad_call, good_call, among_more}
use Rattle.enc_term.proofs.term.+encode.Goals as goal

pub encode_bodies-encode_term-requires : goal.encode_bodies-encode_term-requires
encode_bodies-encode_term-requires t c =
    let m : Machine = machine_of c.args.level.now.context.now.model.now in
    let bits = c.args.level.now.context.now.bits.now in
    let at_version = c.args.level.now.context.now.version in
    let n = c.args.level.now.left in
    let e = places_of c.args.env.now in (
      omega arith,
      (
        bits_later c.args.builder.now c.loop-key.builder m bits at_version c.loop-key.invariant.grows c.requires.bits,
        subst (λ e. StaysSmallIn m n e (plain c.args.body.now.value)) (sym c.in_ok-inner.ensures.places) (c.requires.small c.key-item.result.value (has_map (λ (d : Entry). d.value) c.args.keys.now c.key-item.result (has_at c.args.keys.now c.loop-key.key-index c.key-item.result c.loop-key-test.true c.key-item.is))),
      ),
    )

pub encode_bodies-loop-key-init : goal.encode_bodies-loop-key-init
encode_bodies-loop-key-init t c =
    let m : Machine = machine_of c.args.level.now.context.now.model.now in
    let bits = c.args.level.now.context.now.bits.now in
    let at_version = c.args.level.now.context.now.version in
    let n = c.args.level.now.left in
    let e = places_of c.args.env.now in
    record {
      grows = grows_same c.args.builder.now;
      each = each_none c.args.builder.now m bits at_version c.args.keys.now c.new-groups.result (λ (k : Entry) (w : World). value_by w n (put c.args.variable (Const k.value) e) (plain c.args.body.now.value)) (λ (k : Entry). can_in m n (put c.args.variable (Const k.value) e) (plain c.args.body.now.value)) c.new-groups.ensures;
      few = omega arith;
    }

pub encode_bodies-loop-key-preserved : goal.encode_bodies-loop-key-preserved
encode_bodies-loop-key-preserved t c =
    let m : Machine = machine_of c.args.level.now.context.now.model.now in
    let bits = c.args.level.now.context.now.bits.now in
    let at_version = c.args.level.now.context.now.version in
    let n = c.args.level.now.left in
    let e = places_of c.args.env.now in
    let before : c.loop-key.key-index < length c.args.keys.now = c.loop-key-test.true in
    record {
      grows = grows_then _ _ _ [] [] [] [] (c.loop-key.invariant.grows) (c.encode_term.ensures.grows);
      each =
          each_more c.loop-key.builder c.encode_term.new.builder m bits at_version c.args.keys.now c.loop-key.key-index c.key-item.result c.loop-key.groups c.add.new.groups c.in_ok-group.group (λ (k : Entry) (w : World). value_by w n (put c.args.variable (Const k.value) e) (plain c.args.body.now.value)) (λ (k : Entry). can_in m n (put c.args.variable (Const k.value) e) (plain c.args.body.now.value))
          c.loop-key-test.true c.encode_term.ensures.grows c.key-item.is c.in_ok-add.ensures
          (subst (λ e. Tells c.encode_term.new.builder m bits at_version c.in_ok-group.group (λ w. value_by w n e (plain c.args.body.now.value))) c.in_ok-inner.ensures.places c.in_ok-group.ensures.means)
          (subst (λ e. IsGroupOf c.encode_term.new.builder (can_in m n e (plain c.args.body.now.value)) c.in_ok-group.group) c.in_ok-inner.ensures.places c.in_ok-group.ensures.group)
          c.loop-key.invariant.each;
      few = omega (arith, before);
    }

pub encode_bodies-returns-clause-each : goal.encode_bodies-returns-clause-each
encode_bodies-returns-clause-each t c =
    let m : Machine = machine_of c.args.level.now.context.now.model.now in
    let bits = c.args.level.now.context.now.bits.now in
    let at_version = c.args.level.now.context.now.version in
    let n = c.args.level.now.left in
    let e = places_of c.args.env.now in
    let last : length c.args.keys.now ≤ c.loop-key.key-index = c.loop-key-test.false in
    each_whole c.loop-key.builder m bits at_version c.args.keys.now c.loop-key.key-index c.loop-key.groups (λ (k : Entry) (w : World). value_by w n (put c.args.variable (Const k.value) e) (plain c.args.body.now.value)) (λ (k : Entry). can_in m n (put c.args.variable (Const k.value) e) (plain c.args.body.now.value)) (omega (arith, last, c.loop-key.invariant.few)) c.loop-key.invariant.each

pub encode_guards-encode_term-requires : goal.encode_guards-encode_term-requires
encode_guards-encode_term-requires t c =
    let m : Machine = machine_of c.args.level.now.context.now.model.now in
    let bits = c.args.level.now.context.now.bits.now in
    let at_version = c.args.level.now.context.now.version in
    let n = c.args.level.now.left in
    let e = places_of c.args.env.now in (
      omega arith,
      (
        bits_later c.args.builder.now c.loop-tuple.builder m bits at_version c.loop-tuple.invariant.grows c.requires.bits,
        subst (λ e. StaysSmallIn m n e (plain c.args.guard.now.value)) (sym (c.in_ok-inner.ensures.places ∙ ap (λ vs. put_tuple c.args.binders.now vs e) c.slice.ensures)) (c.requires.small c.tuple-item.result (has_at c.args.tuples.now c.loop-tuple.tuple-index c.tuple-item.result c.loop-tuple-test.true c.tuple-item.is)),
      ),
    )

pub encode_guards-loop-tuple-init : goal.encode_guards-loop-tuple-init
encode_guards-loop-tuple-init t c =
    let m : Machine = machine_of c.args.level.now.context.now.model.now in
    let bits = c.args.level.now.context.now.bits.now in
    let at_version = c.args.level.now.context.now.version in
    let n = c.args.level.now.left in
    let e = places_of c.args.env.now in
    record {
      grows = grows_same c.args.builder.now;
      each = each_none c.args.builder.now m bits at_version c.args.tuples.now c.new-groups.result (λ (vs : List Value) (w : World). value_by w n (put_tuple c.args.binders.now vs e) (plain c.args.guard.now.value)) (λ (vs : List Value). can_in m n (put_tuple c.args.binders.now vs e) (plain c.args.guard.now.value)) c.new-groups.ensures;
      few = omega arith;
    }

pub encode_guards-loop-tuple-preserved : goal.encode_guards-loop-tuple-preserved
encode_guards-loop-tuple-preserved t c =
    let m : Machine = machine_of c.args.level.now.context.now.model.now in
    let bits = c.args.level.now.context.now.bits.now in
    let at_version = c.args.level.now.context.now.version in
    let n = c.args.level.now.left in
    let e = places_of c.args.env.now in
    let before : c.loop-tuple.tuple-index < length c.args.tuples.now = c.loop-tuple-test.true in
    record {
      grows = grows_then _ _ _ [] [] [] [] (c.loop-tuple.invariant.grows) (c.encode_term.ensures.grows);
      each =
          each_more c.loop-tuple.builder c.encode_term.new.builder m bits at_version c.args.tuples.now c.loop-tuple.tuple-index c.tuple-item.result c.loop-tuple.groups c.add.new.groups c.in_ok-group.group (λ (vs : List Value) (w : World). value_by w n (put_tuple c.args.binders.now vs e) (plain c.args.guard.now.value)) (λ (vs : List Value). can_in m n (put_tuple c.args.binders.now vs e) (plain c.args.guard.now.value))
          c.loop-tuple-test.true c.encode_term.ensures.grows c.tuple-item.is c.in_ok-add.ensures
          (subst (λ e. Tells c.encode_term.new.builder m bits at_version c.in_ok-group.group (λ w. value_by w n e (plain c.args.guard.now.value))) (c.in_ok-inner.ensures.places ∙ ap (λ vs. put_tuple c.args.binders.now vs e) c.slice.ensures) c.in_ok-group.ensures.means)
          (subst (λ e. IsGroupOf c.encode_term.new.builder (can_in m n e (plain c.args.guard.now.value)) c.in_ok-group.group) (c.in_ok-inner.ensures.places ∙ ap (λ vs. put_tuple c.args.binders.now vs e) c.slice.ensures) c.in_ok-group.ensures.group)
          c.loop-tuple.invariant.each;
      few = omega (arith, before);
    }

pub encode_guards-returns-clause-each : goal.encode_guards-returns-clause-each
encode_guards-returns-clause-each t c =
    let m : Machine = machine_of c.args.level.now.context.now.model.now in
    let bits = c.args.level.now.context.now.bits.now in
    let at_version = c.args.level.now.context.now.version in
    let n = c.args.level.now.left in
    let e = places_of c.args.env.now in
    let last : length c.args.tuples.now ≤ c.loop-tuple.tuple-index = c.loop-tuple-test.false in
    each_whole c.loop-tuple.builder m bits at_version c.args.tuples.now c.loop-tuple.tuple-index c.loop-tuple.groups (λ (vs : List Value) (w : World). value_by w n (put_tuple c.args.binders.now vs e) (plain c.args.guard.now.value)) (λ (vs : List Value). can_in m n (put_tuple c.args.binders.now vs e) (plain c.args.guard.now.value)) (omega (arith, last, c.loop-tuple.invariant.few)) c.loop-tuple.invariant.each

pub encode_reads-encode_read-requires : goal.encode_reads-encode_read-requires
encode_reads-encode_read-requires t c =
    let m : Machine = machine_of c.args.level.now.context.now.model.now in
    let bits = c.args.level.now.context.now.bits.now in
    let at_version = c.args.level.now.context.now.version in
    let n = c.args.level.now.left in (
      omega arith,
      (
        bits_later c.args.builder.now c.loop-tuple.builder m bits at_version c.loop-tuple.invariant.grows c.requires.bits,
        subst (λ vs. IsOfCall m (small_within m n) c.args.number (slice_get m.signature.functions c.args.number) vs) (sym c.slice.ensures) (c.requires.small c.tuple-item.result.values (has_map (λ (t : Tuple). t.values) c.args.tuples.now c.tuple-item.result (has_at c.args.tuples.now c.loop-tuple.tuple-index c.tuple-item.result c.loop-tuple-test.true c.tuple-item.is))),
      ),
    )

pub encode_reads-loop-tuple-init : goal.encode_reads-loop-tuple-init
encode_reads-loop-tuple-init t c =
    let m : Machine = machine_of c.args.level.now.context.now.model.now in
    let bits = c.args.level.now.context.now.bits.now in
    let at_version = c.args.level.now.context.now.version in
    let n = c.args.level.now.left in
    record {
      grows = grows_same c.args.builder.now;
      each = λ vss inside. each_none c.args.builder.now m bits at_version c.args.tuples.now c.new-groups.result (λ (t : Tuple) (w : World). read w (calls_within w n) c.args.number (slice_get w.machine.signature.functions c.args.number) t.values) (λ (t : Tuple). read_can m (calls_can m n) c.args.number (slice_get m.signature.functions c.args.number) vss) c.new-groups.ensures;
      few = omega arith;
    }

pub encode_reads-loop-tuple-preserved : goal.encode_reads-loop-tuple-preserved
encode_reads-loop-tuple-preserved t c =
    let m : Machine = machine_of c.args.level.now.context.now.model.now in
    let bits = c.args.level.now.context.now.bits.now in
    let at_version = c.args.level.now.context.now.version in
    let n = c.args.level.now.left in
    let before : c.loop-tuple.tuple-index < length c.args.tuples.now = c.loop-tuple-test.true in
    record {
      grows = grows_then _ _ _ [] [] [] [] (c.loop-tuple.invariant.grows) (c.encode_read.ensures.grows);
      each = λ vss inside.
          each_more c.loop-tuple.builder c.encode_read.new.builder m bits at_version c.args.tuples.now c.loop-tuple.tuple-index c.tuple-item.result c.loop-tuple.groups c.add.new.groups c.in_ok-group.group (λ (t : Tuple) (w : World). read w (calls_within w n) c.args.number (slice_get w.machine.signature.functions c.args.number) t.values) (λ (t : Tuple). read_can m (calls_can m n) c.args.number (slice_get m.signature.functions c.args.number) vss)
          c.loop-tuple-test.true c.encode_read.ensures.grows c.tuple-item.is c.in_ok-add.ensures
          (subst (λ vs. Tells c.encode_read.new.builder m bits at_version c.in_ok-group.group (λ w. read w (calls_within w n) c.args.number (slice_get w.machine.signature.functions c.args.number) vs)) c.slice.ensures c.in_ok-group.ensures.means)
          (c.in_ok-group.ensures.group vss (subst (λ vs. Has vss vs) (sym c.slice.ensures) (inside c.tuple-item.result.values (has_map (λ (t : Tuple). t.values) c.args.tuples.now c.tuple-item.result (has_at c.args.tuples.now c.loop-tuple.tuple-index c.tuple-item.result c.loop-tuple-test.true c.tuple-item.is)))))
          (c.loop-tuple.invariant.each vss inside);
      few = omega (arith, before);
    }

pub encode_reads-returns-clause-each : goal.encode_reads-returns-clause-each
encode_reads-returns-clause-each t c =
    let m : Machine = machine_of c.args.level.now.context.now.model.now in
    let bits = c.args.level.now.context.now.bits.now in
    let at_version = c.args.level.now.context.now.version in
    let n = c.args.level.now.left in
    let last : length c.args.tuples.now ≤ c.loop-tuple.tuple-index = c.loop-tuple-test.false in
    λ vss inside. each_whole c.loop-tuple.builder m bits at_version c.args.tuples.now c.loop-tuple.tuple-index c.loop-tuple.groups (λ (t : Tuple) (w : World). read w (calls_within w n) c.args.number (slice_get w.machine.signature.functions c.args.number) t.values) (λ (t : Tuple). read_can m (calls_can m n) c.args.number (slice_get m.signature.functions c.args.number) vss) (omega (arith, last, c.loop-tuple.invariant.few)) (c.loop-tuple.invariant.each vss inside)

pub encode_terms-encode_term-requires : goal.encode_terms-encode_term-requires
encode_terms-encode_term-requires t c =
    let m : Machine = machine_of c.args.level.now.context.now.model.now in
    let bits = c.args.level.now.context.now.bits.now in
    let at_version = c.args.level.now.context.now.version in
    let n = c.args.level.now.left in
    let e = places_of c.args.env.now in (
      omega arith,
      (
        bits_later c.args.builder.now c.loop-term.builder m bits at_version c.loop-term.invariant.grows c.requires.bits,
        small_item m (calls_can m n) (small_within m n) (cans_in m n e) (each_in m n e) c.args.terms.now c.loop-term.term-index c.term-item.result c.loop-term-test.true c.term-item.is c.requires.small,
      ),
    )

pub encode_terms-times-requires-clause-tuples : goal.encode_terms-times-requires-clause-tuples
encode_terms-times-requires-clause-tuples t c =
    let m : Machine = machine_of c.args.level.now.context.now.model.now in
    let bits = c.args.level.now.context.now.bits.now in
    let at_version = c.args.level.now.context.now.version in
    let n = c.args.level.now.left in
    omega (arith, ap tuple_variables c.slice.ensures, c.loop-term.invariant.tuples.within, c.encode_term.ensures.grows.count)

pub encode_terms-times-requires-clause-group : goal.encode_terms-times-requires-clause-group
encode_terms-times-requires-clause-group t c =
    let m : Machine = machine_of c.args.level.now.context.now.model.now in
    let bits = c.args.level.now.context.now.bits.now in
    let at_version = c.args.level.now.context.now.version in
    let n = c.args.level.now.left in
    omega (arith, ap group_variables c.slice-in-loop-term.ensures, c.in_ok-group.ensures.group.within)

pub encode_terms-loop-term-init : goal.encode_terms-loop-term-init
encode_terms-loop-term-init t c =
    let m : Machine = machine_of c.args.level.now.context.now.model.now in
    let bits = c.args.level.now.context.now.bits.now in
    let at_version = c.args.level.now.context.now.version in
    let n = c.args.level.now.left in
    let e = places_of c.args.env.now in
    let none = take_none c.args.terms.now in
    record {
      grows = grows_same c.args.builder.now;
      means = λ v h w s. subst (λ ts. MeansAll v c.in_ok-tuples.tuples (values_by w n e (plain_all ts))) (sym none) (c.in_ok-tuples.ensures.means v (c.requires.bits.always_true v h));
      tuples =
          subst (λ ts. AreTuplesOf c.args.builder.now (all_can_in m n e (plain_all ts)) c.in_ok-tuples.tuples) (sym none)
          (tuples_none c.args.builder.now c.in_ok-tuples.tuples (let low = c.requires.bits.always_within in omega (arith, low, c.in_ok-tuples.ensures.within)) c.in_ok-tuples.ensures.values);
    }

pub encode_terms-loop-term-preserved : goal.encode_terms-loop-term-preserved
encode_terms-loop-term-preserved t c =
    let m : Machine = machine_of c.args.level.now.context.now.model.now in
    let bits = c.args.level.now.context.now.bits.now in
    let at_version = c.args.level.now.context.now.version in
    let n = c.args.level.now.left in
    let e = places_of c.args.env.now in
    let i = c.loop-term.term-index in
    let now = plain c.term-item.result.value in
    let seen = plain_all (take i c.args.terms.now) in
    record {
      grows = grows_then _ _ _ [] [] [] [] (grows_then _ _ _ [] [] [] [] (c.loop-term.invariant.grows) (c.encode_term.ensures.grows)) (c.times.ensures.grows);
      means = λ v h w s.
          let kept = c.times.ensures.grows.holds v h in
          let os : Outcome (List Value) = values_by w n e seen in
          let o : Outcome Value = value_by w n e now in
          subst (λ o. MeansAll v c.in_ok-tuples-2.tuples o) (sym (values_more w (calls_within w n) (reads_by w n e) c.args.terms.now c.loop-term.term-index c.term-item.result c.loop-term-test.true c.term-item.is))
          (c.in_ok-tuples-2.ensures.means v h os o
          (subst (λ ts. MeansAll v ts os) (sym c.slice.ensures) (c.loop-term.invariant.means v (c.encode_term.ensures.grows.holds v kept) w s))
          (subst (λ es. Means v es o) (sym c.slice-in-loop-term.ensures) (c.in_ok-group.ensures.means v kept w s)));
      tuples =
          subst (λ cans. AreTuplesOf c.times.new.builder cans c.in_ok-tuples-2.tuples) (sym (cans_more m (calls_can m n) (cans_in m n e) c.args.terms.now c.loop-term.term-index c.term-item.result c.loop-term-test.true c.term-item.is))
          (tuples_more c.loop-term.builder c.times.new.builder (all_can_in m n e seen) (can_in m n e now) c.loop-term.tuples c.in_ok-tuples-2.tuples c.in_ok-group.group c.loop-term.invariant.tuples c.in_ok-group.ensures.group.among c.in_ok-tuples-2.ensures.within
          (c.in_ok-tuples-2.ensures.values ∙ (λ j. products (tuples_in (c.slice.ensures j)) (values_in (c.slice-in-loop-term.ensures j)))));
    }

pub encode_terms-returns-clause-means : goal.encode_terms-returns-clause-means
encode_terms-returns-clause-means t c =
    let m : Machine = machine_of c.args.level.now.context.now.model.now in
    let bits = c.args.level.now.context.now.bits.now in
    let at_version = c.args.level.now.context.now.version in
    let n = c.args.level.now.left in
    let e = places_of c.args.env.now in
    λ v h w s. subst (λ ts. MeansAll v c.loop-term.tuples (values_by w n e (plain_all ts))) (take_all c.args.terms.now c.loop-term.term-index c.loop-term-test.false) (c.loop-term.invariant.means v h w s)

pub encode_terms-returns-clause-tuples : goal.encode_terms-returns-clause-tuples
encode_terms-returns-clause-tuples t c =
    let m : Machine = machine_of c.args.level.now.context.now.model.now in
    let bits = c.args.level.now.context.now.bits.now in
    let at_version = c.args.level.now.context.now.version in
    let n = c.args.level.now.left in
    let e = places_of c.args.env.now in
    subst (λ ts. AreTuplesOf c.loop-term.builder (all_can_in m n e (plain_all ts)) c.loop-term.tuples) (take_all c.args.terms.now c.loop-term.term-index c.loop-term-test.false) c.loop-term.invariant.tuples

pub encode_within-encode_term-requires : goal.encode_within-encode_term-requires
encode_within-encode_term-requires t c =
    let m : Machine = machine_of c.args.level.now.context.now.model.now in
    let bits = c.args.level.now.context.now.bits.now in
    let at_version = c.args.level.now.context.now.version in
    let n = c.args.level.now.left in
    (omega arith, (c.requires.bits, c.requires.small))

pub encode_within-inside-requires : goal.encode_within-inside-requires
encode_within-inside-requires t c =
    let m : Machine = machine_of c.args.level.now.context.now.model.now in
    let bits = c.args.level.now.context.now.bits.now in
    let at_version = c.args.level.now.context.now.version in
    let n = c.args.level.now.left in
    omega (arith, ap group_variables c.slice.ensures, c.in_ok-group.ensures.group.within)

pub encode_within-returns-clause-means : goal.encode_within-returns-clause-means
encode_within-returns-clause-means t c =
    let m : Machine = machine_of c.args.level.now.context.now.model.now in
    let bits = c.args.level.now.context.now.bits.now in
    let at_version = c.args.level.now.context.now.version in
    let n = c.args.level.now.left in
    let e = places_of c.args.env.now in
    λ v h w s.
    let kept = c.inside.ensures.grows.holds v h in
    let o : Outcome Value = value_by w n e (plain c.args.term.now.value) in
    subst (λ ds. Means v c.in_ok-inside.field-0 (and_then o (λ x. Gives (within ds c.args.domain x)))) (c.domains-domains.ensures.value ∙ ap (λ s. s.domains) c.signature.ensures ∙ ap (λ (x : Machine). x.signature.domains) (sym s.machine))
    (c.in_ok-inside.ensures.means v h o (subst (λ es. Means v es o) (sym c.slice.ensures) (c.in_ok-group.ensures.means v kept w s)))

pub encode_within-returns-clause-group : goal.encode_within-returns-clause-group
encode_within-returns-clause-group t c =
    let m : Machine = machine_of c.args.level.now.context.now.model.now in
    let bits = c.args.level.now.context.now.bits.now in
    let at_version = c.args.level.now.context.now.version in
    let n = c.args.level.now.left in
    let e = places_of c.args.env.now in
    let ds = c.domains-domains.ensures.value ∙ ap (λ s. s.domains) c.signature.ensures in
    group_once c.inside.new.builder (map (within m.signature.domains c.args.domain) (can_in m n e (plain c.args.term.now.value))) (map (within m.signature.domains c.args.domain) (values_in c.in_ok-group.group)) c.in_ok-inside.field-0
    c.in_ok-inside.ensures.within
    (c.in_ok-inside.ensures.values ∙ (λ i. once (map (within (ds i) c.args.domain) (values_in (c.slice.ensures i)))))
    (map_among (within m.signature.domains c.args.domain) (values_in c.in_ok-group.group) (can_in m n e (plain c.args.term.now.value)) c.in_ok-group.ensures.group.among)

pub encode_get-encode_terms-requires : goal.encode_get-encode_terms-requires
encode_get-encode_terms-requires t c =
    let m : Machine = machine_of c.args.level.now.context.now.model.now in
    let bits = c.args.level.now.context.now.bits.now in
    let at_version = c.args.level.now.context.now.version in
    let n = c.args.level.now.left in
    (omega arith, (c.requires.bits, c.requires.small.0))

pub encode_get-encode_reads-requires : goal.encode_get-encode_reads-requires
encode_get-encode_reads-requires t c =
    let m : Machine = machine_of c.args.level.now.context.now.model.now in
    let bits = c.args.level.now.context.now.bits.now in
    let at_version = c.args.level.now.context.now.version in
    let n = c.args.level.now.left in
    let e = places_of c.args.env.now in (
      omega arith,
      (
        bits_later c.args.builder.now c.encode_terms.new.builder m bits at_version c.encode_terms.ensures.grows c.requires.bits,
        λ vs h. c.requires.small.1 vs (c.in_ok-tuples.ensures.tuples.picked vs (subst (λ ts. Has (tuples_in ts) vs) c.slice.ensures h)),
      ),
    )

pub encode_get-get_group-requires-clause-arguments : goal.encode_get-get_group-requires-clause-arguments
encode_get-get_group-requires-clause-arguments t c =
    let m : Machine = machine_of c.args.level.now.context.now.model.now in
    let bits = c.args.level.now.context.now.bits.now in
    let at_version = c.args.level.now.context.now.version in
    let n = c.args.level.now.left in
    omega (arith, ap tuple_variables c.slice-2.ensures, c.in_ok-tuples.ensures.tuples.within, c.encode_reads.ensures.grows.count)

pub encode_get-get_group-requires-clause-long : goal.encode_get-get_group-requires-clause-long
encode_get-get_group-requires-clause-long t c =
    let m : Machine = machine_of c.args.level.now.context.now.model.now in
    let bits = c.args.level.now.context.now.bits.now in
    let at_version = c.args.level.now.context.now.version in
    let n = c.args.level.now.left in
    let each = c.in_ok-results.ensures.each (tuples_in c.slice.result.now) (λ vs h. h) in
    omega (arith, each.long, ap (λ (ts : List Tuple). length ts) c.slice.ensures, ap (λ (ts : List Tuple). length ts) c.slice-2.ensures, ap (λ (gs : List (List Entry)). length gs) c.slice-3.ensures)

pub encode_get-get_group-requires-clause-results : goal.encode_get-get_group-requires-clause-results
encode_get-get_group-requires-clause-results t c =
    let m : Machine = machine_of c.args.level.now.context.now.model.now in
    let bits = c.args.level.now.context.now.bits.now in
    let at_version = c.args.level.now.context.now.version in
    let n = c.args.level.now.left in
    let each = c.in_ok-results.ensures.each (tuples_in c.slice.result.now) (λ vs h. h) in
    λ j. subst (λ gs. group_variables (group_at gs j) ≤ c.encode_reads.new.builder.count) (sym c.slice-3.ensures) (each.within j)

pub encode_get-returns-clause-means : goal.encode_get-returns-clause-means
encode_get-returns-clause-means t c =
    let m : Machine = machine_of c.args.level.now.context.now.model.now in
    let bits = c.args.level.now.context.now.bits.now in
    let at_version = c.args.level.now.context.now.version in
    let n = c.args.level.now.left in
    let e = places_of c.args.env.now in
    λ v h w s.
    let kept = c.get_group.ensures.grows.holds v h in
    let kept_terms = c.encode_reads.ensures.grows.holds v kept in
    let each = c.in_ok-results.ensures.each (tuples_in c.slice.result.now) (λ vs h. h) in
    let os : Outcome (List Value) = values_by w n e (plain_all c.args.arguments.now) in
    c.in_ok-get_group.ensures.means v h w n c.args.number e (plain_all c.args.arguments.now)
    (subst (λ ts. MeansAll v ts os) (sym c.slice-2.ensures) (c.in_ok-tuples.ensures.means v kept_terms w s))
    (subst (λ ts. CallParts v w n c.args.number ts c.slice-3.result.now) (c.slice.ensures ∙ sym c.slice-2.ensures)
    (subst (λ gs. CallParts v w n c.args.number c.slice.result.now gs) (sym c.slice-3.ensures) (λ j t lt is. each.means j t lt is v kept w s)))

pub encode_get-returns-clause-group : goal.encode_get-returns-clause-group
encode_get-returns-clause-group t c =
    let m : Machine = machine_of c.args.level.now.context.now.model.now in
    let bits = c.args.level.now.context.now.bits.now in
    let at_version = c.args.level.now.context.now.version in
    let n = c.args.level.now.left in
    let e = places_of c.args.env.now in
    let all : List (List Value) = all_can_in m n e (plain_all c.args.arguments.now) in
    let each = c.in_ok-results.ensures.each (tuples all) (λ vs h. picked_tuple all vs (c.in_ok-tuples.ensures.tuples.picked vs (subst (λ ts. Has (tuples_in ts) vs) c.slice.ensures h))) in
    let can : List Value = read_can m (calls_can m n) c.args.number (slice_get m.signature.functions c.args.number) (tuples all) in
    group_once c.get_group.new.builder can (values_before c.in_ok-results.results (length c.slice.result.now)) c.in_ok-get_group.field-0 c.in_ok-get_group.ensures.within
    (c.in_ok-get_group.ensures.values ∙ (λ i. once (values_before (c.slice-3.ensures i) (length ((c.slice-2.ensures ∙ sym c.slice.ensures) i)))))
    (each_among c.encode_reads.new.builder m bits at_version c.slice.result.now c.in_ok-results.results _ _ can each (λ k at x h. h))

pub encode_oper-encode_terms-requires : goal.encode_oper-encode_terms-requires
encode_oper-encode_terms-requires t c =
    let m : Machine = machine_of c.args.level.now.context.now.model.now in
    let bits = c.args.level.now.context.now.bits.now in
    let at_version = c.args.level.now.context.now.version in
    let n = c.args.level.now.left in
    (omega arith, (c.requires.bits, c.requires.small.0))

pub encode_oper-operate-requires-clause-tuples : goal.encode_oper-operate-requires-clause-tuples
encode_oper-operate-requires-clause-tuples t c =
    let m : Machine = machine_of c.args.level.now.context.now.model.now in
    let bits = c.args.level.now.context.now.bits.now in
    let at_version = c.args.level.now.context.now.version in
    let n = c.args.level.now.left in
    omega (arith, ap tuple_variables c.slice.ensures, c.in_ok-tuples.ensures.tuples.within)

pub encode_oper-operate-requires-clause-small : goal.encode_oper-operate-requires-clause-small
encode_oper-operate-requires-clause-small t c =
    let m : Machine = machine_of c.args.level.now.context.now.model.now in
    let bits = c.args.level.now.context.now.bits.now in
    let at_version = c.args.level.now.context.now.version in
    let n = c.args.level.now.left in
    λ j t lt is. c.requires.small.1 t.values (c.in_ok-tuples.ensures.tuples.picked t.values (subst (λ ts. Has (tuples_in ts) t.values) c.slice.ensures (has_map (λ (t : Tuple). t.values) c.slice.result.now t (has_at c.slice.result.now j t lt is))))

pub encode_oper-returns-clause-means : goal.encode_oper-returns-clause-means
encode_oper-returns-clause-means t c =
    let m : Machine = machine_of c.args.level.now.context.now.model.now in
    let bits = c.args.level.now.context.now.bits.now in
    let at_version = c.args.level.now.context.now.version in
    let n = c.args.level.now.left in
    let e = places_of c.args.env.now in
    λ v h w s.
    let kept = c.operate.ensures.grows.holds v h in
    let os : Outcome (List Value) = values_by w n e (plain_all c.args.arguments.now) in
    c.in_ok-operate.ensures.means v h os (subst (λ ts. MeansAll v ts os) (sym c.slice.ensures) (c.in_ok-tuples.ensures.means v kept w s))

pub encode_oper-returns-clause-group : goal.encode_oper-returns-clause-group
encode_oper-returns-clause-group t c =
    let m : Machine = machine_of c.args.level.now.context.now.model.now in
    let bits = c.args.level.now.context.now.bits.now in
    let at_version = c.args.level.now.context.now.version in
    let n = c.args.level.now.left in
    let e = places_of c.args.env.now in
    let all : List (List Value) = all_can_in m n e (plain_all c.args.arguments.now) in
    group_once c.operate.new.builder (map (result_of c.args.op) (tuples all)) (map (result_of c.args.op) (tuples_in c.in_ok-tuples.tuples)) c.in_ok-operate.field-0 c.in_ok-operate.ensures.within
    (c.in_ok-operate.ensures.values ∙ ap (λ ts. once (map (result_of c.args.op) (tuples_in ts))) c.slice.ensures)
    (results_among (result_of c.args.op) (tuples_in c.in_ok-tuples.tuples) all c.in_ok-tuples.ensures.tuples.picked)

pub encode_cond-encode_term-requires : goal.encode_cond-encode_term-requires
encode_cond-encode_term-requires t c =
    let m : Machine = machine_of c.args.level.now.context.now.model.now in
    let bits = c.args.level.now.context.now.bits.now in
    let at_version = c.args.level.now.context.now.version in
    let n = c.args.level.now.left in
    (omega arith, (c.requires.bits, c.requires.small.0))

pub encode_cond-encode_term-requires-2 : goal.encode_cond-encode_term-requires-2
encode_cond-encode_term-requires-2 t c =
    let m : Machine = machine_of c.args.level.now.context.now.model.now in
    let bits = c.args.level.now.context.now.bits.now in
    let at_version = c.args.level.now.context.now.version in
    let n = c.args.level.now.left in
    (omega arith, (bits_later c.args.builder.now c.encode_term.new.builder m bits at_version c.encode_term.ensures.grows c.requires.bits, c.requires.small.1))

pub encode_cond-encode_term-requires-3 : goal.encode_cond-encode_term-requires-3
encode_cond-encode_term-requires-3 t c =
    let m : Machine = machine_of c.args.level.now.context.now.model.now in
    let bits = c.args.level.now.context.now.bits.now in
    let at_version = c.args.level.now.context.now.version in
    let n = c.args.level.now.left in
    (omega arith, (bits_later c.args.builder.now c.encode_term-2.new.builder m bits at_version (grows_then _ _ _ [] [] [] [] (c.encode_term.ensures.grows) (c.encode_term-2.ensures.grows)) c.requires.bits, c.requires.small.2))

pub encode_cond-returns-clause-means : goal.encode_cond-returns-clause-means
encode_cond-returns-clause-means t c =
    let m : Machine = machine_of c.args.level.now.context.now.model.now in
    let bits = c.args.level.now.context.now.bits.now in
    let at_version = c.args.level.now.context.now.version in
    let n = c.args.level.now.left in
    let e = places_of c.args.env.now in
    λ v h w s.
    let h3 = c.choice.ensures.grows.holds v h in
    let h2 = c.encode_term-3.ensures.grows.holds v h3 in
    let h1 = c.encode_term-2.ensures.grows.holds v h2 in
    let h0 = c.encode_term.ensures.grows.holds v h1 in
    let o : Outcome Value = value_by w n e (plain c.args.guard.now.value) in
    let p : Outcome Value = value_by w n e (plain c.args.then_part.now.value) in
    let q : Outcome Value = value_by w n e (plain c.args.else_part.now.value) in
    let r : Outcome Value = Gives Undef in
    c.in_ok-choice.ensures.means v h o p q r
    (subst (λ es. Means v es o) (sym c.slice.ensures) (c.in_ok-keys.ensures.means v h1 w s))
    (subst (λ es. Means v es p) (sym c.slice-2.ensures) (c.in_ok-first.ensures.means v h2 w s))
    (subst (λ es. Means v es q) (sym c.slice-3.ensures) (c.in_ok-second.ensures.means v h3 w s))
    (subst (λ es. Means v es r) (sym c.slice-4.ensures) (c.in_ok-other.ensures.means v (c.requires.bits.always_true v h0)))

pub encode_cond-returns-clause-group : goal.encode_cond-returns-clause-group
encode_cond-returns-clause-group t c =
    let m : Machine = machine_of c.args.level.now.context.now.model.now in
    let bits = c.args.level.now.context.now.bits.now in
    let at_version = c.args.level.now.context.now.version in
    let n = c.args.level.now.left in
    let e = places_of c.args.env.now in
    let cg : List Value = can_in m n e (plain c.args.guard.now.value) in
    let ct : List Value = can_in m n e (plain c.args.then_part.now.value) in
    let cu : List Value = can_in m n e (plain c.args.else_part.now.value) in
    let none : List Value = Undef ∷ [] in
    let keys = values_in c.in_ok-keys.keys in
    let first = values_in c.in_ok-first.first in
    let second = values_in c.in_ok-second.second in
    let other = ap values_in c.slice-4.ensures ∙ c.in_ok-other.ensures.values in
    group_once c.choice.new.builder (flat_map (λ x. branch x ct cu none) cg) (flat_map (λ x. branch x first second none) keys) c.in_ok-choice.field-0 c.in_ok-choice.ensures.within
    (c.in_ok-choice.ensures.values ∙ (λ i. once (flat_map (λ x. branch x (values_in (c.slice-2.ensures i)) (values_in (c.slice-3.ensures i)) (other i)) (values_in (c.slice.ensures i)))))
    (branches_among keys first second none cg ct cu none c.in_ok-keys.ensures.group.among c.in_ok-first.ensures.group.among c.in_ok-second.ensures.group.among (λ x h. h))

pub encode_let-encode_term-requires : goal.encode_let-encode_term-requires
encode_let-encode_term-requires t c =
    let m : Machine = machine_of c.args.level.now.context.now.model.now in
    let bits = c.args.level.now.context.now.bits.now in
    let at_version = c.args.level.now.context.now.version in
    let n = c.args.level.now.left in
    (omega arith, (c.requires.bits, c.requires.small.0))

pub encode_let-encode_bodies-requires : goal.encode_let-encode_bodies-requires
encode_let-encode_bodies-requires t c =
    let m : Machine = machine_of c.args.level.now.context.now.model.now in
    let bits = c.args.level.now.context.now.bits.now in
    let at_version = c.args.level.now.context.now.version in
    let n = c.args.level.now.left in
    let e = places_of c.args.env.now in (
      omega arith,
      (
        bits_later c.args.builder.now c.encode_term.new.builder m bits at_version c.encode_term.ensures.grows c.requires.bits,
        λ v h. small_put m n c.args.variable v e (plain c.args.body.now.value) (c.requires.small.1 v (c.in_ok-keys.ensures.group.among v (subst (λ es. Has (values_in es) v) c.slice.ensures h))),
      ),
    )

pub encode_let-let_group-requires-clause-bound : goal.encode_let-let_group-requires-clause-bound
encode_let-let_group-requires-clause-bound t c =
    let m : Machine = machine_of c.args.level.now.context.now.model.now in
    let bits = c.args.level.now.context.now.bits.now in
    let at_version = c.args.level.now.context.now.version in
    let n = c.args.level.now.left in
    omega (arith, ap group_variables c.slice-2.ensures, c.in_ok-keys.ensures.group.within, c.encode_bodies.ensures.grows.count)

pub encode_let-let_group-requires-clause-long : goal.encode_let-let_group-requires-clause-long
encode_let-let_group-requires-clause-long t c =
    let m : Machine = machine_of c.args.level.now.context.now.model.now in
    let bits = c.args.level.now.context.now.bits.now in
    let at_version = c.args.level.now.context.now.version in
    let n = c.args.level.now.left in
    omega (arith, c.in_ok-bodies.ensures.each.long, ap (λ (es : List Entry). length es) c.slice.ensures, ap (λ (es : List Entry). length es) c.slice-2.ensures, ap (λ (gs : List (List Entry)). length gs) c.slice-3.ensures)

pub encode_let-let_group-requires-clause-bodies : goal.encode_let-let_group-requires-clause-bodies
encode_let-let_group-requires-clause-bodies t c =
    let m : Machine = machine_of c.args.level.now.context.now.model.now in
    let bits = c.args.level.now.context.now.bits.now in
    let at_version = c.args.level.now.context.now.version in
    let n = c.args.level.now.left in
    λ j. subst (λ gs. group_variables (group_at gs j) ≤ c.encode_bodies.new.builder.count) (sym c.slice-3.ensures) (c.in_ok-bodies.ensures.each.within j)

pub encode_let-returns-clause-means : goal.encode_let-returns-clause-means
encode_let-returns-clause-means t c =
    let m : Machine = machine_of c.args.level.now.context.now.model.now in
    let bits = c.args.level.now.context.now.bits.now in
    let at_version = c.args.level.now.context.now.version in
    let n = c.args.level.now.left in
    let e = places_of c.args.env.now in
    λ v h w s.
    let kept = c.let_group.ensures.grows.holds v h in
    let kept_bound = c.encode_bodies.ensures.grows.holds v kept in
    let u = plain c.args.body.now.value in
    let o : Outcome Value = value_by w n e (plain c.args.term.now.value) in
    c.in_ok-let_group.ensures.means v h w n c.args.variable e (plain c.args.term.now.value) u
    (subst (λ es. Means v es o) (sym c.slice-2.ensures) (c.in_ok-keys.ensures.means v kept_bound w s))
    (subst (λ es. LetParts v w n c.args.variable e u es c.slice-3.result.now) (c.slice.ensures ∙ sym c.slice-2.ensures)
    (subst (λ gs. LetParts v w n c.args.variable e u c.slice.result.now gs) (sym c.slice-3.ensures) (λ j k lt is. c.in_ok-bodies.ensures.each.means j k lt is v kept w s)))

pub encode_let-returns-clause-group : goal.encode_let-returns-clause-group
encode_let-returns-clause-group t c =
    let m : Machine = machine_of c.args.level.now.context.now.model.now in
    let bits = c.args.level.now.context.now.bits.now in
    let at_version = c.args.level.now.context.now.version in
    let n = c.args.level.now.left in
    let e = places_of c.args.env.now in
    let u = plain c.args.body.now.value in
    group_once c.let_group.new.builder (can_in m n e (Let c.args.variable (plain c.args.term.now.value) u)) (values_before c.in_ok-bodies.bodies (length c.slice.result.now)) c.in_ok-let_group.field-0 c.in_ok-let_group.ensures.within
    (c.in_ok-let_group.ensures.values ∙ (λ i. once (values_before (c.slice-3.ensures i) (length ((c.slice-2.ensures ∙ sym c.slice.ensures) i)))))
    (let_among c.encode_bodies.new.builder m bits at_version n c.args.variable e (plain c.args.term.now.value) u c.slice.result.now c.in_ok-bodies.bodies _
    (subst (λ es. AreAmong (values_in es) (can_in m n e (plain c.args.term.now.value))) (sym c.slice.ensures) c.in_ok-keys.ensures.group.among) c.in_ok-bodies.ensures.each)

pub encode_quant-encode_guards-requires : goal.encode_quant-encode_guards-requires
encode_quant-encode_guards-requires t c =
    let m : Machine = machine_of c.args.level.now.context.now.model.now in
    let bits = c.args.level.now.context.now.bits.now in
    let at_version = c.args.level.now.context.now.version in
    let n = c.args.level.now.left in
    let e = places_of c.args.env.now in (
      omega arith,
      (
        c.requires.bits,
        λ vs h.
            let at : Has (tuples_of m.signature c.args.binders.now) vs = subst (λ ts. Has ts vs) (c.slice.ensures ∙ c.in_ok-tuples.ensures ∙ ap (λ s. tuples_of s c.args.binders.now) c.signature.ensures) h in
            small_tuple m n c.args.binders.now vs e (plain c.args.guard.now.value) (length_of (length c.args.binders.now) (tuples_of m.signature c.args.binders.now) vs (tuples_length m c.args.binders.now) at) (c.requires.small vs at),
      ),
    )

pub encode_quant-quantify-requires : goal.encode_quant-quantify-requires
encode_quant-quantify-requires t c =
    let m : Machine = machine_of c.args.level.now.context.now.model.now in
    let bits = c.args.level.now.context.now.bits.now in
    let at_version = c.args.level.now.context.now.version in
    let n = c.args.level.now.left in
    λ j. subst (λ gs. group_variables (group_at gs j) ≤ c.encode_guards.new.builder.count) (sym c.slice-2.ensures) (c.in_ok-groups.ensures.each.within j)

pub encode_quant-returns-clause-means : goal.encode_quant-returns-clause-means
encode_quant-returns-clause-means t c =
    let m : Machine = machine_of c.args.level.now.context.now.model.now in
    let bits = c.args.level.now.context.now.bits.now in
    let at_version = c.args.level.now.context.now.version in
    let n = c.args.level.now.left in
    let e = places_of c.args.env.now in
    λ v h w s.
    let kept = c.quantify.ensures.grows.holds v h in
    let bs = c.args.binders.now in
    let g = plain c.args.guard.now.value in
    let guard : List Value → Outcome Value = λ vs. value_by w n (put_tuple bs vs e) g in
    let same = (c.slice.ensures ∙ c.in_ok-tuples.ensures ∙ ap (λ s. tuples_of s c.args.binders.now) c.signature.ensures) ∙ ap (λ (x : Machine). tuples_of x.signature bs) (sym s.machine) in
    subst (λ o. Means v c.in_ok-quantify.field-0 o) (λ i. and_then (guard_values (λ vs. value_of w (calls_within w n) (reads-tuple w n bs vs e i) g) (same i)) (λ vs. Gives (quantified c.args.quantifier vs)))
    (c.in_ok-quantify.ensures.means v h guard c.slice.result.now (ap (λ (gs : List (List Entry)). length gs) c.slice-2.ensures ∙ c.in_ok-groups.ensures.each.long)
    (λ j t lt is. subst (λ gs. Means v (group_at gs j) (guard t)) (sym c.slice-2.ensures) (c.in_ok-groups.ensures.each.means j t lt is v kept w s)))

pub encode_quant-returns-clause-group : goal.encode_quant-returns-clause-group
encode_quant-returns-clause-group t c =
    let m : Machine = machine_of c.args.level.now.context.now.model.now in
    let bits = c.args.level.now.context.now.bits.now in
    let at_version = c.args.level.now.context.now.version in
    let n = c.args.level.now.left in
    let e = places_of c.args.env.now in
    let bs = c.args.binders.now in
    let g = plain c.args.guard.now.value in
    let row : List Value → List Value = λ vs. can_by m (calls_can m n) (with_cans bs vs (cans_in m n e)) g in
    let odd = are_odd c.in_ok-groups.groups in
    let values = c.in_ok-quantify.ensures.values ∙ ap (λ gs. answer_values (are_odd gs)) c.slice-2.ensures in
    record {
      within = c.in_ok-quantify.ensures.within;
      distinct = ap are_distinct values ∙ answer_distinct odd;
      among = λ x h.
          subst (λ ts. Has (quantified_can (map row ts)) x) (c.slice.ensures ∙ c.in_ok-tuples.ensures ∙ ap (λ s. tuples_of s c.args.binders.now) c.signature.ensures)
          (quant_among c.encode_guards.new.builder m bits at_version n e bs g c.slice.result.now c.in_ok-groups.groups (λ (vs : List Value) (w : World). value_by w n (put_tuple bs vs e) g) c.in_ok-groups.ensures.each x (subst (λ xs. Has xs x) values h));
    }

pub encode_call-encode_term-requires : goal.encode_call-encode_term-requires
encode_call-encode_term-requires t c =
    let m : Machine = machine_of c.args.level.now.context.now.model.now in
    let bits = c.args.level.now.context.now.bits.now in
    let at_version = c.args.level.now.context.now.version in
    let n = c.args.level.now.left in
    let some : 0 < c.args.level.now.left = omega arith in
    let d = c.in-Some.definition.now in (
      omega arith,
      (
        c.requires.bits,
        subst (λ e. StaysSmallIn m (n - 1) e (plain d.term.value)) (sym (c.in_ok-env-in-Some.ensures.places ∙ ap (λ xs. parameters_at xs c.args.values.now) c.slice.ensures))
            (small_parameters m (n - 1) d.variables c.args.values.now (plain d.term.value) (small_entered m n c.args.number c.args.values.now (defined_by d) some c.in-Some.ensures c.requires.small)),
      ),
    )

pub encode_call-call_group-requires : goal.encode_call-call_group-requires
encode_call-call_group-requires t c =
    let m : Machine = machine_of c.args.level.now.context.now.model.now in
    let bits = c.args.level.now.context.now.bits.now in
    let at_version = c.args.level.now.context.now.version in
    let n = c.args.level.now.left in
    omega (arith, ap group_variables c.slice-in-Some.ensures, c.in_ok-body-in-Some.ensures.group.within)

pub encode_call-returns-in_ok-call_group-in-Some-clause-means : goal.encode_call-returns-in_ok-call_group-in-Some-clause-means
encode_call-returns-in_ok-call_group-in-Some-clause-means t c =
    let m : Machine = machine_of c.args.level.now.context.now.model.now in
    let bits = c.args.level.now.context.now.bits.now in
    let at_version = c.args.level.now.context.now.version in
    let n = c.args.level.now.left in
    λ v h w s.
    let some : 0 < c.args.level.now.left = omega arith in
    let d = c.in-Some.definition.now in
    let kept = c.call_group.ensures.grows.holds v h in
    let ds = c.domains-domains.ensures.value ∙ ap (λ s. s.domains) c.signature.ensures in
    let places = c.in_ok-env-in-Some.ensures.places ∙ ap (λ xs. parameters_at xs c.args.values.now) c.slice.ensures in
    let o : Outcome Value = value_by w (n - 1) (parameters_at d.variables c.args.values.now) (plain d.term.value) in
    c.in_ok-call_group-in-Some.ensures.means v h w n c.args.number c.args.values.now c.args.function.now (defined_by d)
    (ap (λ (x : Machine). x.signature.domains) s.machine ∙ sym ds) refl some
    (ap (λ (x : Machine). slice_get x.signature.functions c.args.number) s.machine ∙ c.requires.function)
    (c.in-Some.ensures ∙ ap (λ (x : Machine). definition_of x.definitions c.args.number) (sym s.machine))
    (subst (λ es. Means v es o) (sym c.slice-in-Some.ensures) (subst (λ e. Means v c.in_ok-body-in-Some.body (value_by w (n - 1) e (plain d.term.value))) places (c.in_ok-body-in-Some.ensures.means v kept w s)))

pub encode_call-returns-in_ok-call_group-in-Some-clause-group : goal.encode_call-returns-in_ok-call_group-in-Some-clause-group
encode_call-returns-in_ok-call_group-in-Some-clause-group t c =
    let m : Machine = machine_of c.args.level.now.context.now.model.now in
    let bits = c.args.level.now.context.now.bits.now in
    let at_version = c.args.level.now.context.now.version in
    let n = c.args.level.now.left in
    let some : 0 < c.args.level.now.left = omega arith in
    let d = c.in-Some.definition.now in
    let ds = c.domains-domains.ensures.value ∙ ap (λ s. s.domains) c.signature.ensures in
    let places = c.in_ok-env-in-Some.ensures.places ∙ ap (λ xs. parameters_at xs c.args.values.now) c.slice.ensures in
    let inside : Value → Value = within m.signature.domains c.args.function.now.codomain in
    let inner : List Value = can_in m (n - 1) (places_of c.in_ok-env-in-Some.env) (plain d.term.value) in
    let can = can_entered m n c.args.number c.args.values.now c.args.function.now (defined_by d) some c.requires.function c.in-Some.ensures
    ∙ ap (λ cans. map inside (can_by m (calls_can m (n - 1)) cans (plain d.term.value))) (sym (ap (cans_in m (n - 1)) places ∙ cans_parameters m (n - 1) d.variables c.args.values.now)) in
    group_once c.call_group.new.builder (calls_can m n c.args.number c.args.values.now) (map inside (values_in c.in_ok-body-in-Some.body)) c.in_ok-call_group-in-Some.field-0 c.in_ok-call_group-in-Some.ensures.within
    (c.in_ok-call_group-in-Some.ensures.values ∙ (λ i. once (map (within (ds i) c.args.function.now.codomain) (values_in (c.slice-in-Some.ensures i)))))
    (subst (λ xs. AreAmong (map inside (values_in c.in_ok-body-in-Some.body)) xs) (sym can) (map_among inside (values_in c.in_ok-body-in-Some.body) inner c.in_ok-body-in-Some.ensures.group.among))

pub encode_call-returns-in_ok-constant-in-None-clause-means : goal.encode_call-returns-in_ok-constant-in-None-clause-means
encode_call-returns-in_ok-constant-in-None-clause-means t c =
    let m : Machine = machine_of c.args.level.now.context.now.model.now in
    let bits = c.args.level.now.context.now.bits.now in
    let at_version = c.args.level.now.context.now.version in
    let n = c.args.level.now.left in
    λ v h w s.
    let ds = c.domains-domains.ensures.value ∙ ap (λ s. s.domains) c.signature.ensures in
    let value = c.constant_of-value.ensures ∙ ap (λ ds. constant_of ds c.args.function.now) (ds ∙ ap (λ (x : Machine). x.signature.domains) (sym s.machine)) in
    subst (λ o. Means v c.in_ok-constant-in-None.field-0 o)
    (ap Gives value
    ∙ sym (constant_call w n c.args.number c.args.values.now c.args.function.now (ap (λ (x : Machine). slice_get x.signature.functions c.args.number) s.machine ∙ c.requires.function) (c.in-None.ensures ∙ ap (λ (x : Machine). definition_of x.definitions c.args.number) (sym s.machine))))
    (c.in_ok-constant-in-None.ensures.means v (c.requires.bits.always_true v h))

pub encode_read-read_group-requires-clause-bits : goal.encode_read-read_group-requires-clause-bits
encode_read-read_group-requires-clause-bits t c =
    let m : Machine = machine_of c.args.level.now.context.now.model.now in
    let bits = c.args.level.now.context.now.bits.now in
    let at_version = c.args.level.now.context.now.version in
    let n = c.args.level.now.left in
    (c.args.builder.now, c.requires.bits)

pub encode_read-read_group-requires-clause-function : goal.encode_read-read_group-requires-clause-function
encode_read-read_group-requires-clause-function t c =
    let m : Machine = machine_of c.args.level.now.context.now.model.now in
    let bits = c.args.level.now.context.now.bits.now in
    let at_version = c.args.level.now.context.now.version in
    let n = c.args.level.now.left in
    let function_is : slice_get m.signature.functions c.args.number ≡ Some c.in-Some.function.now = sym (c.in-Some.ensures.value ∙ ap (λ fs. slice_get fs c.args.number) (c.functions.ensures.value ∙ ap (λ s. s.functions) c.signature-signature.ensures)) in
    function_is

pub encode_read-read_group-requires-clause-dynamic : goal.encode_read-read_group-requires-clause-dynamic
encode_read-read_group-requires-clause-dynamic t c =
    let m : Machine = machine_of c.args.level.now.context.now.model.now in
    let bits = c.args.level.now.context.now.bits.now in
    let at_version = c.args.level.now.context.now.version in
    let n = c.args.level.now.left in
    sym c.is_dynamic.ensures ∙ c.if-is_dynamic.true

pub encode_read-encode_call-requires : goal.encode_read-encode_call-requires
encode_read-encode_call-requires t c =
    let m : Machine = machine_of c.args.level.now.context.now.model.now in
    let bits = c.args.level.now.context.now.bits.now in
    let at_version = c.args.level.now.context.now.version in
    let n = c.args.level.now.left in
    let function_is : slice_get m.signature.functions c.args.number ≡ Some c.in-Some.function.now = sym (c.in-Some.ensures.value ∙ ap (λ fs. slice_get fs c.args.number) (c.functions.ensures.value ∙ ap (λ s. s.functions) c.signature-signature.ensures)) in
    let told : c.are_arguments.result ≡ are_arguments m.signature.domains c.in-Some.function.now.domains c.args.values.now =
    c.are_arguments.ensures ∙ ap (λ ds. are_arguments ds c.slice.result.now c.args.values.now) (c.domains.ensures.value ∙ ap (λ s. s.domains) c.signature-signature.ensures)
    ∙ ap (λ ns. are_arguments m.signature.domains ns c.args.values.now) c.slice.ensures in (
      omega arith,
      (
        c.requires.bits,
        (function_is, (subst (λ o. IsOfCall m (small_within m n) c.args.number o c.args.values.now) function_is c.requires.small) (sym told ∙ c.if-not-are_arguments.false)),
      ),
    )

pub encode_read-returns-then-is_dynamic-clause-group : goal.encode_read-returns-then-is_dynamic-clause-group
encode_read-returns-then-is_dynamic-clause-group t c =
    let m : Machine = machine_of c.args.level.now.context.now.model.now in
    let bits = c.args.level.now.context.now.bits.now in
    let at_version = c.args.level.now.context.now.version in
    let n = c.args.level.now.left in
    let function_is : slice_get m.signature.functions c.args.number ≡ Some c.in-Some.function.now = sym (c.in-Some.ensures.value ∙ ap (λ fs. slice_get fs c.args.number) (c.functions.ensures.value ∙ ap (λ s. s.functions) c.signature-signature.ensures)) in
    λ vss at.
    subst (λ can. IsGroupOf c.args.builder.now can c.in_ok-read_group-in-Some.field-0) (sym (dynamic_read m (calls_can m n) c.args.number c.in-Some.function.now vss function_is (sym c.is_dynamic.ensures ∙ c.if-is_dynamic.true)))
    (c.in_ok-read_group-in-Some.ensures.group c.args.builder.now c.requires.bits vss at)

pub encode_read-returns-then-not-are_arguments-clause-group : goal.encode_read-returns-then-not-are_arguments-clause-group
encode_read-returns-then-not-are_arguments-clause-group t c =
    let m : Machine = machine_of c.args.level.now.context.now.model.now in
    let bits = c.args.level.now.context.now.bits.now in
    let at_version = c.args.level.now.context.now.version in
    let n = c.args.level.now.left in
    let function_is : slice_get m.signature.functions c.args.number ≡ Some c.in-Some.function.now = sym (c.in-Some.ensures.value ∙ ap (λ fs. slice_get fs c.args.number) (c.functions.ensures.value ∙ ap (λ s. s.functions) c.signature-signature.ensures)) in
    let told : c.are_arguments.result ≡ are_arguments m.signature.domains c.in-Some.function.now.domains c.args.values.now =
    c.are_arguments.ensures ∙ ap (λ ds. are_arguments ds c.slice.result.now c.args.values.now) (c.domains.ensures.value ∙ ap (λ s. s.domains) c.signature-signature.ensures)
    ∙ ap (λ ns. are_arguments m.signature.domains ns c.args.values.now) c.slice.ensures in
    λ vss at.
    let low = c.requires.bits.always_within in
    subst (λ can. IsGroupOf c.args.builder.now can c.in_ok-constant-in-Some.field-0) (sym (static_read m (calls_can m n) c.args.number c.in-Some.function.now vss function_is (sym c.is_dynamic.ensures ∙ c.if-is_dynamic.false)))
    (group_single c.args.builder.now _ Undef c.in_ok-constant-in-Some.field-0 (omega (arith, low, c.in_ok-constant-in-Some.ensures.within)) c.in_ok-constant-in-Some.ensures.values
    (bad_call m (calls_can m n) c.args.number c.in-Some.function.now vss c.args.values.now at (sym told ∙ c.if-not-are_arguments.true)))

pub encode_read-returns-in_ok-encode_call-in-Some-clause-group : goal.encode_read-returns-in_ok-encode_call-in-Some-clause-group
encode_read-returns-in_ok-encode_call-in-Some-clause-group t c =
    let m : Machine = machine_of c.args.level.now.context.now.model.now in
    let bits = c.args.level.now.context.now.bits.now in
    let at_version = c.args.level.now.context.now.version in
    let n = c.args.level.now.left in
    let function_is : slice_get m.signature.functions c.args.number ≡ Some c.in-Some.function.now = sym (c.in-Some.ensures.value ∙ ap (λ fs. slice_get fs c.args.number) (c.functions.ensures.value ∙ ap (λ s. s.functions) c.signature-signature.ensures)) in
    let told : c.are_arguments.result ≡ are_arguments m.signature.domains c.in-Some.function.now.domains c.args.values.now =
    c.are_arguments.ensures ∙ ap (λ ds. are_arguments ds c.slice.result.now c.args.values.now) (c.domains.ensures.value ∙ ap (λ s. s.domains) c.signature-signature.ensures)
    ∙ ap (λ ns. are_arguments m.signature.domains ns c.args.values.now) c.slice.ensures in
    λ vss at.
    subst (λ can. IsGroupOf c.encode_call.new.builder can c.in_ok-encode_call-in-Some.field-0) (sym (static_read m (calls_can m n) c.args.number c.in-Some.function.now vss function_is (sym c.is_dynamic.ensures ∙ c.if-is_dynamic.false)))
    (among_more c.encode_call.new.builder (calls_can m n c.args.number c.args.values.now) _ c.in_ok-encode_call-in-Some.field-0 (good_call m (calls_can m n) c.args.number c.in-Some.function.now vss c.args.values.now at (sym told ∙ c.if-not-are_arguments.false)) c.in_ok-encode_call-in-Some.ensures.group)

pub encode_variable-encode_term-requires : goal.encode_variable-encode_term-requires
encode_variable-encode_term-requires t c =
    let m : Machine = machine_of c.args.level.now.context.now.model.now in
    let bits = c.args.level.now.context.now.bits.now in
    let at_version = c.args.level.now.context.now.version in
    let n = c.args.level.now.left in
    let e = places_of c.args.env.now in
    let stands = subst (λ b. Holds b (e c.args.variable)) c.in-Node.is c.in_ok-find.ensures.holds in (
      omega arith,
      (
        c.requires.bits,
        subst (λ e. StaysSmallIn m n e (plain c.in-Node.term.value)) (sym c.new-empty.ensures.places) (small_closed m n nowhere (λ y any. refl) (plain c.in-Node.term.value) (subst (StaysSmall m (calls_can m n) (small_within m n) only_undef nothing) stands c.requires.small)),
      ),
    )

pub encode_variable-encode_within-requires : goal.encode_variable-encode_within-requires
encode_variable-encode_within-requires t c =
    let m : Machine = machine_of c.args.level.now.context.now.model.now in
    let bits = c.args.level.now.context.now.bits.now in
    let at_version = c.args.level.now.context.now.version in
    let n = c.args.level.now.left in
    let e = places_of c.args.env.now in
    let stands = subst (λ b. Holds b (e c.args.variable)) c.in-Actual.is c.in_ok-find.ensures.holds in (
      omega arith,
      (
        c.requires.bits,
        small_closed m n (places_of c.in-Actual.caller) (places-closed c.in-Actual.caller.entries) (plain c.in-Actual.term.value) (subst (StaysSmall m (calls_can m n) (small_within m n) only_undef nothing) stands c.requires.small),
      ),
    )

pub encode_variable-returns-in_ok-constant-in-Free-clause-means : goal.encode_variable-returns-in_ok-constant-in-Free-clause-means
encode_variable-returns-in_ok-constant-in-Free-clause-means t c =
    let m : Machine = machine_of c.args.level.now.context.now.model.now in
    let bits = c.args.level.now.context.now.bits.now in
    let at_version = c.args.level.now.context.now.version in
    let n = c.args.level.now.left in
    let e = places_of c.args.env.now in
    let stands = subst (λ b. Holds b (e c.args.variable)) c.in-Free.is c.in_ok-find.ensures.holds in
    λ v h w s. subst (λ t. Means v c.in_ok-constant-in-Free.field-0 (value_of w (calls_within w n) unbound t)) (sym stands) (c.in_ok-constant-in-Free.ensures.means v (c.requires.bits.always_true v h))

pub encode_variable-returns-in_ok-constant-in-Free-clause-group : goal.encode_variable-returns-in_ok-constant-in-Free-clause-group
encode_variable-returns-in_ok-constant-in-Free-clause-group t c =
    let m : Machine = machine_of c.args.level.now.context.now.model.now in
    let bits = c.args.level.now.context.now.bits.now in
    let at_version = c.args.level.now.context.now.version in
    let n = c.args.level.now.left in
    let e = places_of c.args.env.now in
    let stands = subst (λ b. Holds b (e c.args.variable)) c.in-Free.is c.in_ok-find.ensures.holds in
    let low = c.requires.bits.always_within in
    subst (λ t. IsGroupOf c.args.builder.now (can_by m (calls_can m n) only_undef t) c.in_ok-constant-in-Free.field-0) (sym stands)
    (group_single c.args.builder.now _ Undef c.in_ok-constant-in-Free.field-0 (omega (arith, low, c.in_ok-constant-in-Free.ensures.within)) c.in_ok-constant-in-Free.ensures.values (inl refl))

pub encode_variable-returns-in_ok-constant-in-Value-clause-means : goal.encode_variable-returns-in_ok-constant-in-Value-clause-means
encode_variable-returns-in_ok-constant-in-Value-clause-means t c =
    let m : Machine = machine_of c.args.level.now.context.now.model.now in
    let bits = c.args.level.now.context.now.bits.now in
    let at_version = c.args.level.now.context.now.version in
    let n = c.args.level.now.left in
    let e = places_of c.args.env.now in
    let stands = subst (λ b. Holds b (e c.args.variable)) c.in-Value.is c.in_ok-find.ensures.holds in
    λ v h w s. subst (λ t. Means v c.in_ok-constant-in-Value.field-0 (value_of w (calls_within w n) unbound t)) (sym stands) (c.in_ok-constant-in-Value.ensures.means v (c.requires.bits.always_true v h))

pub encode_variable-returns-in_ok-constant-in-Value-clause-group : goal.encode_variable-returns-in_ok-constant-in-Value-clause-group
encode_variable-returns-in_ok-constant-in-Value-clause-group t c =
    let m : Machine = machine_of c.args.level.now.context.now.model.now in
    let bits = c.args.level.now.context.now.bits.now in
    let at_version = c.args.level.now.context.now.version in
    let n = c.args.level.now.left in
    let e = places_of c.args.env.now in
    let stands = subst (λ b. Holds b (e c.args.variable)) c.in-Value.is c.in_ok-find.ensures.holds in
    let low = c.requires.bits.always_within in
    subst (λ t. IsGroupOf c.args.builder.now (can_by m (calls_can m n) only_undef t) c.in_ok-constant-in-Value.field-0) (sym stands)
    (group_single c.args.builder.now _ c.in-Value.value c.in_ok-constant-in-Value.field-0 (omega (arith, low, c.in_ok-constant-in-Value.ensures.within)) c.in_ok-constant-in-Value.ensures.values (inl refl))

pub encode_variable-returns-in_ok-encode_term-in-Node-clause-means : goal.encode_variable-returns-in_ok-encode_term-in-Node-clause-means
encode_variable-returns-in_ok-encode_term-in-Node-clause-means t c =
    let m : Machine = machine_of c.args.level.now.context.now.model.now in
    let bits = c.args.level.now.context.now.bits.now in
    let at_version = c.args.level.now.context.now.version in
    let n = c.args.level.now.left in
    let e = places_of c.args.env.now in
    let stands = subst (λ b. Holds b (e c.args.variable)) c.in-Node.is c.in_ok-find.ensures.holds in
    let t = plain c.in-Node.term.value in
    λ v h w s.
    subst (λ o. Means v c.in_ok-encode_term-in-Node.field-0 o)
    (sym (ap (value_of w (calls_within w n) unbound) stands ∙ closed-by w n nowhere (λ y any. refl) t ∙ ap (λ e. value_by w n e t) (sym c.new-empty.ensures.places)))
    (c.in_ok-encode_term-in-Node.ensures.means v h w s)

pub encode_variable-returns-in_ok-encode_term-in-Node-clause-group : goal.encode_variable-returns-in_ok-encode_term-in-Node-clause-group
encode_variable-returns-in_ok-encode_term-in-Node-clause-group t c =
    let m : Machine = machine_of c.args.level.now.context.now.model.now in
    let bits = c.args.level.now.context.now.bits.now in
    let at_version = c.args.level.now.context.now.version in
    let n = c.args.level.now.left in
    let e = places_of c.args.env.now in
    let stands = subst (λ b. Holds b (e c.args.variable)) c.in-Node.is c.in_ok-find.ensures.holds in
    let t = plain c.in-Node.term.value in
    subst (λ can. IsGroupOf c.encode_term.new.builder can c.in_ok-encode_term-in-Node.field-0)
    (sym (ap (can_by m (calls_can m n) only_undef) stands ∙ can_closed m n nowhere (λ y any. refl) t ∙ ap (λ e. can_in m n e t) (sym c.new-empty.ensures.places)))
    c.in_ok-encode_term-in-Node.ensures.group

pub encode_variable-returns-in_ok-encode_within-in-Actual-clause-means : goal.encode_variable-returns-in_ok-encode_within-in-Actual-clause-means
encode_variable-returns-in_ok-encode_within-in-Actual-clause-means t c =
    let m : Machine = machine_of c.args.level.now.context.now.model.now in
    let bits = c.args.level.now.context.now.bits.now in
    let at_version = c.args.level.now.context.now.version in
    let n = c.args.level.now.left in
    let e = places_of c.args.env.now in
    let stands = subst (λ b. Holds b (e c.args.variable)) c.in-Actual.is c.in_ok-find.ensures.holds in
    let t = plain c.in-Actual.term.value in
    λ v h w s.
    subst (λ o. Means v c.in_ok-encode_within-in-Actual.field-0 o)
    (sym (ap (value_of w (calls_within w n) unbound) stands ∙ ap (λ o. and_then o (λ v. Gives (within w.machine.signature.domains c.in-Actual.domain v))) (closed-by w n (places_of c.in-Actual.caller) (places-closed c.in-Actual.caller.entries) t)))
    (c.in_ok-encode_within-in-Actual.ensures.means v h w s)

pub encode_variable-returns-in_ok-encode_within-in-Actual-clause-group : goal.encode_variable-returns-in_ok-encode_within-in-Actual-clause-group
encode_variable-returns-in_ok-encode_within-in-Actual-clause-group t c =
    let m : Machine = machine_of c.args.level.now.context.now.model.now in
    let bits = c.args.level.now.context.now.bits.now in
    let at_version = c.args.level.now.context.now.version in
    let n = c.args.level.now.left in
    let e = places_of c.args.env.now in
    let stands = subst (λ b. Holds b (e c.args.variable)) c.in-Actual.is c.in_ok-find.ensures.holds in
    let t = plain c.in-Actual.term.value in
    subst (λ can. IsGroupOf c.encode_within.new.builder can c.in_ok-encode_within-in-Actual.field-0)
    (sym (ap (can_by m (calls_can m n) only_undef) stands ∙ ap (map (within m.signature.domains c.in-Actual.domain)) (can_closed m n (places_of c.in-Actual.caller) (places-closed c.in-Actual.caller.entries) t)))
    c.in_ok-encode_within-in-Actual.ensures.group

pub encode_term-encode_variable-requires : goal.encode_term-encode_variable-requires
encode_term-encode_variable-requires t c =
    let m : Machine = machine_of c.args.level.now.context.now.model.now in
    let bits = c.args.level.now.context.now.bits.now in
    let at_version = c.args.level.now.context.now.version in
    let n = c.args.level.now.left in
    let e = places_of c.args.env.now in
    let is = ap plain (sym c.deref.ensures) ∙ ap plain_kind c.in-Var.is in
    (omega arith, (c.requires.bits, subst (StaysSmallIn m n e) is c.requires.small))

pub encode_term-returns-in_ok-encode_variable-in-Var-clause-means : goal.encode_term-returns-in_ok-encode_variable-in-Var-clause-means
encode_term-returns-in_ok-encode_variable-in-Var-clause-means t c =
    let m : Machine = machine_of c.args.level.now.context.now.model.now in
    let bits = c.args.level.now.context.now.bits.now in
    let at_version = c.args.level.now.context.now.version in
    let n = c.args.level.now.left in
    let e = places_of c.args.env.now in
    let is = ap plain (sym c.deref.ensures) ∙ ap plain_kind c.in-Var.is in
    subst (λ t. Tells c.encode_variable.new.builder m bits at_version c.in_ok-encode_variable-in-Var.field-0 (λ w. value_by w n e t)) (sym is) c.in_ok-encode_variable-in-Var.ensures.means

pub encode_term-returns-in_ok-encode_variable-in-Var-clause-group : goal.encode_term-returns-in_ok-encode_variable-in-Var-clause-group
encode_term-returns-in_ok-encode_variable-in-Var-clause-group t c =
    let m : Machine = machine_of c.args.level.now.context.now.model.now in
    let bits = c.args.level.now.context.now.bits.now in
    let at_version = c.args.level.now.context.now.version in
    let n = c.args.level.now.left in
    let e = places_of c.args.env.now in
    let is = ap plain (sym c.deref.ensures) ∙ ap plain_kind c.in-Var.is in
    subst (λ t. IsGroupOf c.encode_variable.new.builder (can_in m n e t) c.in_ok-encode_variable-in-Var.field-0) (sym is) c.in_ok-encode_variable-in-Var.ensures.group

pub encode_term-encode_within-requires : goal.encode_term-encode_within-requires
encode_term-encode_within-requires t c =
    let m : Machine = machine_of c.args.level.now.context.now.model.now in
    let bits = c.args.level.now.context.now.bits.now in
    let at_version = c.args.level.now.context.now.version in
    let n = c.args.level.now.left in
    let e = places_of c.args.env.now in
    let is = ap plain (sym c.deref.ensures) ∙ ap plain_kind c.in-Within.is in
    (omega arith, (c.requires.bits, subst (StaysSmallIn m n e) is c.requires.small))

pub encode_term-returns-in_ok-encode_within-in-Within-clause-means : goal.encode_term-returns-in_ok-encode_within-in-Within-clause-means
encode_term-returns-in_ok-encode_within-in-Within-clause-means t c =
    let m : Machine = machine_of c.args.level.now.context.now.model.now in
    let bits = c.args.level.now.context.now.bits.now in
    let at_version = c.args.level.now.context.now.version in
    let n = c.args.level.now.left in
    let e = places_of c.args.env.now in
    let is = ap plain (sym c.deref.ensures) ∙ ap plain_kind c.in-Within.is in
    subst (λ t. Tells c.encode_within.new.builder m bits at_version c.in_ok-encode_within-in-Within.field-0 (λ w. value_by w n e t)) (sym is) c.in_ok-encode_within-in-Within.ensures.means

pub encode_term-returns-in_ok-encode_within-in-Within-clause-group : goal.encode_term-returns-in_ok-encode_within-in-Within-clause-group
encode_term-returns-in_ok-encode_within-in-Within-clause-group t c =
    let m : Machine = machine_of c.args.level.now.context.now.model.now in
    let bits = c.args.level.now.context.now.bits.now in
    let at_version = c.args.level.now.context.now.version in
    let n = c.args.level.now.left in
    let e = places_of c.args.env.now in
    let is = ap plain (sym c.deref.ensures) ∙ ap plain_kind c.in-Within.is in
    subst (λ t. IsGroupOf c.encode_within.new.builder (can_in m n e t) c.in_ok-encode_within-in-Within.field-0) (sym is) c.in_ok-encode_within-in-Within.ensures.group

pub encode_term-encode_get-requires : goal.encode_term-encode_get-requires
encode_term-encode_get-requires t c =
    let m : Machine = machine_of c.args.level.now.context.now.model.now in
    let bits = c.args.level.now.context.now.bits.now in
    let at_version = c.args.level.now.context.now.version in
    let n = c.args.level.now.left in
    let e = places_of c.args.env.now in
    let is = ap plain (sym c.deref.ensures) ∙ ap plain_kind c.in-Get.is ∙ plain_kind-Get c.in-Get.function c.in-Get.arguments ∙ ap (λ xs. Get c.in-Get.function (plain_all xs)) (sym c.slice.ensures) in
    (omega arith, (c.requires.bits, subst (StaysSmallIn m n e) is c.requires.small))

pub encode_term-returns-in_ok-encode_get-in-Get-clause-means : goal.encode_term-returns-in_ok-encode_get-in-Get-clause-means
encode_term-returns-in_ok-encode_get-in-Get-clause-means t c =
    let m : Machine = machine_of c.args.level.now.context.now.model.now in
    let bits = c.args.level.now.context.now.bits.now in
    let at_version = c.args.level.now.context.now.version in
    let n = c.args.level.now.left in
    let e = places_of c.args.env.now in
    let is = ap plain (sym c.deref.ensures) ∙ ap plain_kind c.in-Get.is ∙ plain_kind-Get c.in-Get.function c.in-Get.arguments ∙ ap (λ xs. Get c.in-Get.function (plain_all xs)) (sym c.slice.ensures) in
    subst (λ t. Tells c.encode_get.new.builder m bits at_version c.in_ok-encode_get-in-Get.field-0 (λ w. value_by w n e t)) (sym is) c.in_ok-encode_get-in-Get.ensures.means

pub encode_term-returns-in_ok-encode_get-in-Get-clause-group : goal.encode_term-returns-in_ok-encode_get-in-Get-clause-group
encode_term-returns-in_ok-encode_get-in-Get-clause-group t c =
    let m : Machine = machine_of c.args.level.now.context.now.model.now in
    let bits = c.args.level.now.context.now.bits.now in
    let at_version = c.args.level.now.context.now.version in
    let n = c.args.level.now.left in
    let e = places_of c.args.env.now in
    let is = ap plain (sym c.deref.ensures) ∙ ap plain_kind c.in-Get.is ∙ plain_kind-Get c.in-Get.function c.in-Get.arguments ∙ ap (λ xs. Get c.in-Get.function (plain_all xs)) (sym c.slice.ensures) in
    subst (λ t. IsGroupOf c.encode_get.new.builder (can_in m n e t) c.in_ok-encode_get-in-Get.field-0) (sym is) c.in_ok-encode_get-in-Get.ensures.group

pub encode_term-encode_oper-requires : goal.encode_term-encode_oper-requires
encode_term-encode_oper-requires t c =
    let m : Machine = machine_of c.args.level.now.context.now.model.now in
    let bits = c.args.level.now.context.now.bits.now in
    let at_version = c.args.level.now.context.now.version in
    let n = c.args.level.now.left in
    let e = places_of c.args.env.now in
    let is = ap plain (sym c.deref.ensures) ∙ ap plain_kind c.in-Oper.is ∙ plain_kind-Oper c.in-Oper.op c.in-Oper.arguments ∙ ap (λ xs. Oper c.in-Oper.op (plain_all xs)) (sym c.slice-in-Oper.ensures) in
    (omega arith, (c.requires.bits, subst (StaysSmallIn m n e) is c.requires.small))

pub encode_term-returns-in_ok-encode_oper-in-Oper-clause-means : goal.encode_term-returns-in_ok-encode_oper-in-Oper-clause-means
encode_term-returns-in_ok-encode_oper-in-Oper-clause-means t c =
    let m : Machine = machine_of c.args.level.now.context.now.model.now in
    let bits = c.args.level.now.context.now.bits.now in
    let at_version = c.args.level.now.context.now.version in
    let n = c.args.level.now.left in
    let e = places_of c.args.env.now in
    let is = ap plain (sym c.deref.ensures) ∙ ap plain_kind c.in-Oper.is ∙ plain_kind-Oper c.in-Oper.op c.in-Oper.arguments ∙ ap (λ xs. Oper c.in-Oper.op (plain_all xs)) (sym c.slice-in-Oper.ensures) in
    subst (λ t. Tells c.encode_oper.new.builder m bits at_version c.in_ok-encode_oper-in-Oper.field-0 (λ w. value_by w n e t)) (sym is) c.in_ok-encode_oper-in-Oper.ensures.means

pub encode_term-returns-in_ok-encode_oper-in-Oper-clause-group : goal.encode_term-returns-in_ok-encode_oper-in-Oper-clause-group
encode_term-returns-in_ok-encode_oper-in-Oper-clause-group t c =
    let m : Machine = machine_of c.args.level.now.context.now.model.now in
    let bits = c.args.level.now.context.now.bits.now in
    let at_version = c.args.level.now.context.now.version in
    let n = c.args.level.now.left in
    let e = places_of c.args.env.now in
    let is = ap plain (sym c.deref.ensures) ∙ ap plain_kind c.in-Oper.is ∙ plain_kind-Oper c.in-Oper.op c.in-Oper.arguments ∙ ap (λ xs. Oper c.in-Oper.op (plain_all xs)) (sym c.slice-in-Oper.ensures) in
    subst (λ t. IsGroupOf c.encode_oper.new.builder (can_in m n e t) c.in_ok-encode_oper-in-Oper.field-0) (sym is) c.in_ok-encode_oper-in-Oper.ensures.group

pub encode_term-encode_cond-requires : goal.encode_term-encode_cond-requires
encode_term-encode_cond-requires t c =
    let m : Machine = machine_of c.args.level.now.context.now.model.now in
    let bits = c.args.level.now.context.now.bits.now in
    let at_version = c.args.level.now.context.now.version in
    let n = c.args.level.now.left in
    let e = places_of c.args.env.now in
    let is = ap plain (sym c.deref.ensures) ∙ ap plain_kind c.in-Cond.is in
    (omega arith, (c.requires.bits, subst (StaysSmallIn m n e) is c.requires.small))

pub encode_term-returns-in_ok-encode_cond-in-Cond-clause-means : goal.encode_term-returns-in_ok-encode_cond-in-Cond-clause-means
encode_term-returns-in_ok-encode_cond-in-Cond-clause-means t c =
    let m : Machine = machine_of c.args.level.now.context.now.model.now in
    let bits = c.args.level.now.context.now.bits.now in
    let at_version = c.args.level.now.context.now.version in
    let n = c.args.level.now.left in
    let e = places_of c.args.env.now in
    let is = ap plain (sym c.deref.ensures) ∙ ap plain_kind c.in-Cond.is in
    subst (λ t. Tells c.encode_cond.new.builder m bits at_version c.in_ok-encode_cond-in-Cond.field-0 (λ w. value_by w n e t)) (sym is) c.in_ok-encode_cond-in-Cond.ensures.means

pub encode_term-returns-in_ok-encode_cond-in-Cond-clause-group : goal.encode_term-returns-in_ok-encode_cond-in-Cond-clause-group
encode_term-returns-in_ok-encode_cond-in-Cond-clause-group t c =
    let m : Machine = machine_of c.args.level.now.context.now.model.now in
    let bits = c.args.level.now.context.now.bits.now in
    let at_version = c.args.level.now.context.now.version in
    let n = c.args.level.now.left in
    let e = places_of c.args.env.now in
    let is = ap plain (sym c.deref.ensures) ∙ ap plain_kind c.in-Cond.is in
    subst (λ t. IsGroupOf c.encode_cond.new.builder (can_in m n e t) c.in_ok-encode_cond-in-Cond.field-0) (sym is) c.in_ok-encode_cond-in-Cond.ensures.group

pub encode_term-encode_let-requires : goal.encode_term-encode_let-requires
encode_term-encode_let-requires t c =
    let m : Machine = machine_of c.args.level.now.context.now.model.now in
    let bits = c.args.level.now.context.now.bits.now in
    let at_version = c.args.level.now.context.now.version in
    let n = c.args.level.now.left in
    let e = places_of c.args.env.now in
    let is = ap plain (sym c.deref.ensures) ∙ ap plain_kind c.in-Let.is in
    (omega arith, (c.requires.bits, subst (StaysSmallIn m n e) is c.requires.small))

pub encode_term-returns-in_ok-encode_let-in-Let-clause-means : goal.encode_term-returns-in_ok-encode_let-in-Let-clause-means
encode_term-returns-in_ok-encode_let-in-Let-clause-means t c =
    let m : Machine = machine_of c.args.level.now.context.now.model.now in
    let bits = c.args.level.now.context.now.bits.now in
    let at_version = c.args.level.now.context.now.version in
    let n = c.args.level.now.left in
    let e = places_of c.args.env.now in
    let is = ap plain (sym c.deref.ensures) ∙ ap plain_kind c.in-Let.is in
    subst (λ t. Tells c.encode_let.new.builder m bits at_version c.in_ok-encode_let-in-Let.field-0 (λ w. value_by w n e t)) (sym is) c.in_ok-encode_let-in-Let.ensures.means

pub encode_term-returns-in_ok-encode_let-in-Let-clause-group : goal.encode_term-returns-in_ok-encode_let-in-Let-clause-group
encode_term-returns-in_ok-encode_let-in-Let-clause-group t c =
    let m : Machine = machine_of c.args.level.now.context.now.model.now in
    let bits = c.args.level.now.context.now.bits.now in
    let at_version = c.args.level.now.context.now.version in
    let n = c.args.level.now.left in
    let e = places_of c.args.env.now in
    let is = ap plain (sym c.deref.ensures) ∙ ap plain_kind c.in-Let.is in
    subst (λ t. IsGroupOf c.encode_let.new.builder (can_in m n e t) c.in_ok-encode_let-in-Let.field-0) (sym is) c.in_ok-encode_let-in-Let.ensures.group

pub encode_term-encode_quant-requires : goal.encode_term-encode_quant-requires
encode_term-encode_quant-requires t c =
    let m : Machine = machine_of c.args.level.now.context.now.model.now in
    let bits = c.args.level.now.context.now.bits.now in
    let at_version = c.args.level.now.context.now.version in
    let n = c.args.level.now.left in
    let e = places_of c.args.env.now in
    let is = ap plain (sym c.deref.ensures) ∙ ap plain_kind c.in-Quant.is ∙ ap (λ bs. Quant c.in-Quant.quantifier bs (plain c.in-Quant.guard.value)) (sym c.slice-in-Quant.ensures) in
    (omega arith, (c.requires.bits, subst (StaysSmallIn m n e) is c.requires.small))

pub encode_term-returns-in_ok-encode_quant-in-Quant-clause-means : goal.encode_term-returns-in_ok-encode_quant-in-Quant-clause-means
encode_term-returns-in_ok-encode_quant-in-Quant-clause-means t c =
    let m : Machine = machine_of c.args.level.now.context.now.model.now in
    let bits = c.args.level.now.context.now.bits.now in
    let at_version = c.args.level.now.context.now.version in
    let n = c.args.level.now.left in
    let e = places_of c.args.env.now in
    let is = ap plain (sym c.deref.ensures) ∙ ap plain_kind c.in-Quant.is ∙ ap (λ bs. Quant c.in-Quant.quantifier bs (plain c.in-Quant.guard.value)) (sym c.slice-in-Quant.ensures) in
    subst (λ t. Tells c.encode_quant.new.builder m bits at_version c.in_ok-encode_quant-in-Quant.field-0 (λ w. value_by w n e t)) (sym is) c.in_ok-encode_quant-in-Quant.ensures.means

pub encode_term-returns-in_ok-encode_quant-in-Quant-clause-group : goal.encode_term-returns-in_ok-encode_quant-in-Quant-clause-group
encode_term-returns-in_ok-encode_quant-in-Quant-clause-group t c =
    let m : Machine = machine_of c.args.level.now.context.now.model.now in
    let bits = c.args.level.now.context.now.bits.now in
    let at_version = c.args.level.now.context.now.version in
    let n = c.args.level.now.left in
    let e = places_of c.args.env.now in
    let is = ap plain (sym c.deref.ensures) ∙ ap plain_kind c.in-Quant.is ∙ ap (λ bs. Quant c.in-Quant.quantifier bs (plain c.in-Quant.guard.value)) (sym c.slice-in-Quant.ensures) in
    subst (λ t. IsGroupOf c.encode_quant.new.builder (can_in m n e t) c.in_ok-encode_quant-in-Quant.field-0) (sym is) c.in_ok-encode_quant-in-Quant.ensures.group

pub encode_term-returns-in_ok-constant-in-Const-clause-means : goal.encode_term-returns-in_ok-constant-in-Const-clause-means
encode_term-returns-in_ok-constant-in-Const-clause-means t c =
    let m : Machine = machine_of c.args.level.now.context.now.model.now in
    let bits = c.args.level.now.context.now.bits.now in
    let at_version = c.args.level.now.context.now.version in
    let n = c.args.level.now.left in
    let e = places_of c.args.env.now in
    let is = ap plain (sym c.deref.ensures) ∙ ap plain_kind c.in-Const.is in
    subst (λ t. Tells c.args.builder.now m bits at_version c.in_ok-constant-in-Const.field-0 (λ w. value_by w n e t)) (sym is) (λ v h w s. c.in_ok-constant-in-Const.ensures.means v (c.requires.bits.always_true v h))

pub encode_term-returns-in_ok-constant-in-Const-clause-group : goal.encode_term-returns-in_ok-constant-in-Const-clause-group
encode_term-returns-in_ok-constant-in-Const-clause-group t c =
    let m : Machine = machine_of c.args.level.now.context.now.model.now in
    let bits = c.args.level.now.context.now.bits.now in
    let at_version = c.args.level.now.context.now.version in
    let n = c.args.level.now.left in
    let e = places_of c.args.env.now in
    let is = ap plain (sym c.deref.ensures) ∙ ap plain_kind c.in-Const.is in
    let low = c.requires.bits.always_within in
    subst (λ t. IsGroupOf c.args.builder.now (can_in m n e t) c.in_ok-constant-in-Const.field-0) (sym is) (group_single c.args.builder.now _ c.in-Const.value c.in_ok-constant-in-Const.field-0 (omega (arith, low, c.in_ok-constant-in-Const.ensures.within)) c.in_ok-constant-in-Const.ensures.values (inl refl))

pub encode_call-returns-in_ok-constant-in-None-clause-group : goal.encode_call-returns-in_ok-constant-in-None-clause-group
encode_call-returns-in_ok-constant-in-None-clause-group t c =
    let m : Machine = machine_of c.args.level.now.context.now.model.now in
    let bits = c.args.level.now.context.now.bits.now in
    let at_version = c.args.level.now.context.now.version in
    let n = c.args.level.now.left in
    let ds = c.domains-domains.ensures.value ∙ ap (λ s. s.domains) c.signature.ensures in
    let low = c.requires.bits.always_within in
    let value = c.constant_of-value.ensures ∙ ap (λ ds. constant_of ds c.args.function.now) ds in
    subst (λ can. IsGroupOf c.args.builder.now can c.in_ok-constant-in-None.field-0) (sym (constant_can m n c.args.number c.args.values.now c.args.function.now c.requires.function c.in-None.ensures))
    (group_single c.args.builder.now _ (constant_of m.signature.domains c.args.function.now) c.in_ok-constant-in-None.field-0 (omega (arith, low, c.in_ok-constant-in-None.ensures.within)) (c.in_ok-constant-in-None.ensures.values ∙ ap (λ v. v ∷ []) value) (inl refl))

pub encode_call-returns-then-left-eq0-clause-group : goal.encode_call-returns-then-left-eq0-clause-group
encode_call-returns-then-left-eq0-clause-group t c =
    let m : Machine = machine_of c.args.level.now.context.now.model.now in
    let bits = c.args.level.now.context.now.bits.now in
    let at_version = c.args.level.now.context.now.version in
    let n = c.args.level.now.left in
    let low = c.requires.bits.always_within in
    let d = c.in-Some.definition.now in
    subst (λ can. IsGroupOf c.args.builder.now can c.in_ok-constant-in-Some.field-0) (sym (last_defined_can m n c.args.number c.args.values.now c.args.function.now (defined_by d) c.if-left-eq0.true c.requires.function c.in-Some.ensures))
    (group_single c.args.builder.now _ Undef c.in_ok-constant-in-Some.field-0 (omega (arith, low, c.in_ok-constant-in-Some.ensures.within)) c.in_ok-constant-in-Some.ensures.values (inl refl))

pub encode_call-returns-then-left-eq0-clause-means : goal.encode_call-returns-then-left-eq0-clause-means
encode_call-returns-then-left-eq0-clause-means t c =
    let m : Machine = machine_of c.args.level.now.context.now.model.now in
    let bits = c.args.level.now.context.now.bits.now in
    let at_version = c.args.level.now.context.now.version in
    let n = c.args.level.now.left in
    let d = c.in-Some.definition.now in
    λ v h w s.
    subst (λ o. Means v c.in_ok-constant-in-Some.field-0 o)
    (sym (last_call w n c.args.number c.args.values.now c.args.function.now (defined_by d) c.if-left-eq0.true (ap (λ (x : Machine). slice_get x.signature.functions c.args.number) s.machine ∙ c.requires.function) (c.in-Some.ensures ∙ ap (λ (x : Machine). definition_of x.definitions c.args.number) (sym s.machine))))
    (c.in_ok-constant-in-Some.ensures.means v (c.requires.bits.always_true v h))

pub encode_cond-choice-requires-clause-keys : goal.encode_cond-choice-requires-clause-keys
encode_cond-choice-requires-clause-keys t c =
    let m : Machine = machine_of c.args.level.now.context.now.model.now in
    let bits = c.args.level.now.context.now.bits.now in
    let at_version = c.args.level.now.context.now.version in
    let n = c.args.level.now.left in
    omega (arith, ap group_variables c.slice.ensures, c.in_ok-keys.ensures.group.within, c.encode_term-2.ensures.grows.count, c.encode_term-3.ensures.grows.count)

pub encode_cond-choice-requires-clause-first : goal.encode_cond-choice-requires-clause-first
encode_cond-choice-requires-clause-first t c =
    let m : Machine = machine_of c.args.level.now.context.now.model.now in
    let bits = c.args.level.now.context.now.bits.now in
    let at_version = c.args.level.now.context.now.version in
    let n = c.args.level.now.left in
    omega (arith, ap group_variables c.slice-2.ensures, c.in_ok-first.ensures.group.within, c.encode_term-3.ensures.grows.count)

pub encode_cond-choice-requires-clause-second : goal.encode_cond-choice-requires-clause-second
encode_cond-choice-requires-clause-second t c =
    let m : Machine = machine_of c.args.level.now.context.now.model.now in
    let bits = c.args.level.now.context.now.bits.now in
    let at_version = c.args.level.now.context.now.version in
    let n = c.args.level.now.left in
    omega (arith, ap group_variables c.slice-3.ensures, c.in_ok-second.ensures.group.within)

pub encode_cond-choice-requires-clause-other : goal.encode_cond-choice-requires-clause-other
encode_cond-choice-requires-clause-other t c =
    let m : Machine = machine_of c.args.level.now.context.now.model.now in
    let bits = c.args.level.now.context.now.bits.now in
    let at_version = c.args.level.now.context.now.version in
    let n = c.args.level.now.left in
    let low = c.requires.bits.always_within in
    omega (arith, ap group_variables c.slice-4.ensures, c.in_ok-other.ensures.within, low, c.encode_term.ensures.grows.count, c.encode_term-2.ensures.grows.count, c.encode_term-3.ensures.grows.count)

pub encode_read-returns-in_ok-constant-in-None-clause-group : goal.encode_read-returns-in_ok-constant-in-None-clause-group
encode_read-returns-in_ok-constant-in-None-clause-group t c =
    let m : Machine = machine_of c.args.level.now.context.now.model.now in
    let bits = c.args.level.now.context.now.bits.now in
    let at_version = c.args.level.now.context.now.version in
    let n = c.args.level.now.left in
    let function_is : slice_get m.signature.functions c.args.number ≡ None = sym (c.in-None.ensures.value ∙ ap (λ fs. slice_get fs c.args.number) (c.functions.ensures.value ∙ ap (λ s. s.functions) c.signature-signature.ensures)) in
    let low = c.requires.bits.always_within in
    λ vss at.
    subst (λ can. IsGroupOf c.args.builder.now can c.in_ok-constant-in-None.field-0) (sym (ap (λ o. read_can m (calls_can m n) c.args.number o vss) function_is))
    (group_single c.args.builder.now _ Undef c.in_ok-constant-in-None.field-0 (omega (arith, low, c.in_ok-constant-in-None.ensures.within)) c.in_ok-constant-in-None.ensures.values (inl refl))

pub encode_read-returns-in_ok-constant-in-None-clause-means : goal.encode_read-returns-in_ok-constant-in-None-clause-means
encode_read-returns-in_ok-constant-in-None-clause-means t c =
    let m : Machine = machine_of c.args.level.now.context.now.model.now in
    let bits = c.args.level.now.context.now.bits.now in
    let at_version = c.args.level.now.context.now.version in
    let n = c.args.level.now.left in
    let function_is : slice_get m.signature.functions c.args.number ≡ None = sym (c.in-None.ensures.value ∙ ap (λ fs. slice_get fs c.args.number) (c.functions.ensures.value ∙ ap (λ s. s.functions) c.signature-signature.ensures)) in
    λ v h w s.
    subst (λ o. Means v c.in_ok-constant-in-None.field-0 o)
    (sym (ap (λ o. read w (calls_within w n) c.args.number o c.args.values.now) (ap (λ (x : Machine). slice_get x.signature.functions c.args.number) s.machine ∙ function_is)))
    (c.in_ok-constant-in-None.ensures.means v (c.requires.bits.always_true v h))

pub encode_read-returns-in_ok-encode_call-in-Some-clause-means : goal.encode_read-returns-in_ok-encode_call-in-Some-clause-means
encode_read-returns-in_ok-encode_call-in-Some-clause-means t c =
    let m : Machine = machine_of c.args.level.now.context.now.model.now in
    let bits = c.args.level.now.context.now.bits.now in
    let at_version = c.args.level.now.context.now.version in
    let n = c.args.level.now.left in
    let function_is : slice_get m.signature.functions c.args.number ≡ Some c.in-Some.function.now = sym (c.in-Some.ensures.value ∙ ap (λ fs. slice_get fs c.args.number) (c.functions.ensures.value ∙ ap (λ s. s.functions) c.signature-signature.ensures)) in
    let function_at : (w : World) → w.machine ≡ m → slice_get w.machine.signature.functions c.args.number ≡ Some c.in-Some.function.now = λ w is. ap (λ (x : Machine). slice_get x.signature.functions c.args.number) is ∙ function_is in
    let told : c.are_arguments.result ≡ are_arguments m.signature.domains c.in-Some.function.now.domains c.args.values.now =
    c.are_arguments.ensures ∙ ap (λ ds. are_arguments ds c.slice.result.now c.args.values.now) (c.domains.ensures.value ∙ ap (λ s. s.domains) c.signature-signature.ensures)
    ∙ ap (λ ns. are_arguments m.signature.domains ns c.args.values.now) c.slice.ensures in
    let told_at : (w : World) → w.machine ≡ m → are_arguments w.machine.signature.domains c.in-Some.function.now.domains c.args.values.now ≡ c.are_arguments.result =
    λ w is. ap (λ (x : Machine). are_arguments x.signature.domains c.in-Some.function.now.domains c.args.values.now) is ∙ sym told in
    λ v h w s.
    subst (λ o. Means v c.in_ok-encode_call-in-Some.field-0 o)
    (sym (static_value w (calls_within w n) c.args.number c.in-Some.function.now c.args.values.now (function_at w s.machine) (sym c.is_dynamic.ensures ∙ c.if-is_dynamic.false) (told_at w s.machine ∙ c.if-not-are_arguments.false)))
    (c.in_ok-encode_call-in-Some.ensures.means v h w s)

pub encode_read-returns-then-is_dynamic-clause-means : goal.encode_read-returns-then-is_dynamic-clause-means
encode_read-returns-then-is_dynamic-clause-means t c =
    let m : Machine = machine_of c.args.level.now.context.now.model.now in
    let bits = c.args.level.now.context.now.bits.now in
    let at_version = c.args.level.now.context.now.version in
    let n = c.args.level.now.left in
    let function_is : slice_get m.signature.functions c.args.number ≡ Some c.in-Some.function.now = sym (c.in-Some.ensures.value ∙ ap (λ fs. slice_get fs c.args.number) (c.functions.ensures.value ∙ ap (λ s. s.functions) c.signature-signature.ensures)) in
    let function_at : (w : World) → w.machine ≡ m → slice_get w.machine.signature.functions c.args.number ≡ Some c.in-Some.function.now = λ w is. ap (λ (x : Machine). slice_get x.signature.functions c.args.number) is ∙ function_is in
    λ v h w s.
    subst (λ o. Means v c.in_ok-read_group-in-Some.field-0 (read w (calls_within w n) c.args.number o c.args.values.now)) (sym (function_at w s.machine))
    (c.in_ok-read_group-in-Some.ensures.means v (c.requires.bits.always_true v h) w (calls_within w n) s)

pub encode_read-returns-then-not-are_arguments-clause-means : goal.encode_read-returns-then-not-are_arguments-clause-means
encode_read-returns-then-not-are_arguments-clause-means t c =
    let m : Machine = machine_of c.args.level.now.context.now.model.now in
    let bits = c.args.level.now.context.now.bits.now in
    let at_version = c.args.level.now.context.now.version in
    let n = c.args.level.now.left in
    let function_is : slice_get m.signature.functions c.args.number ≡ Some c.in-Some.function.now = sym (c.in-Some.ensures.value ∙ ap (λ fs. slice_get fs c.args.number) (c.functions.ensures.value ∙ ap (λ s. s.functions) c.signature-signature.ensures)) in
    let function_at : (w : World) → w.machine ≡ m → slice_get w.machine.signature.functions c.args.number ≡ Some c.in-Some.function.now = λ w is. ap (λ (x : Machine). slice_get x.signature.functions c.args.number) is ∙ function_is in
    let told : c.are_arguments.result ≡ are_arguments m.signature.domains c.in-Some.function.now.domains c.args.values.now =
    c.are_arguments.ensures ∙ ap (λ ds. are_arguments ds c.slice.result.now c.args.values.now) (c.domains.ensures.value ∙ ap (λ s. s.domains) c.signature-signature.ensures)
    ∙ ap (λ ns. are_arguments m.signature.domains ns c.args.values.now) c.slice.ensures in
    let told_at : (w : World) → w.machine ≡ m → are_arguments w.machine.signature.domains c.in-Some.function.now.domains c.args.values.now ≡ c.are_arguments.result =
    λ w is. ap (λ (x : Machine). are_arguments x.signature.domains c.in-Some.function.now.domains c.args.values.now) is ∙ sym told in
    λ v h w s.
    subst (λ o. Means v c.in_ok-constant-in-Some.field-0 o)
    (sym (bad_value w (calls_within w n) c.args.number c.in-Some.function.now c.args.values.now (function_at w s.machine) (told_at w s.machine ∙ c.if-not-are_arguments.true)))
    (c.in_ok-constant-in-Some.ensures.means v (c.requires.bits.always_true v h))

pub encode_bodies-returns-clause-grows : goal.encode_bodies-returns-clause-grows
encode_bodies-returns-clause-grows t c = c.loop-key.invariant.grows

pub encode_guards-returns-clause-grows : goal.encode_guards-returns-clause-grows
encode_guards-returns-clause-grows t c = c.loop-tuple.invariant.grows

pub encode_reads-returns-clause-grows : goal.encode_reads-returns-clause-grows
encode_reads-returns-clause-grows t c = c.loop-tuple.invariant.grows

pub encode_terms-returns-clause-grows : goal.encode_terms-returns-clause-grows
encode_terms-returns-clause-grows t c = c.loop-term.invariant.grows

pub encode_call-returns-in_ok-call_group-in-Some-clause-grows : goal.encode_call-returns-in_ok-call_group-in-Some-clause-grows
encode_call-returns-in_ok-call_group-in-Some-clause-grows t c = grows_then _ _ _ [] [] [] [] (c.encode_term.ensures.grows) (c.call_group.ensures.grows)

pub encode_call-returns-in_ok-constant-in-None-clause-grows : goal.encode_call-returns-in_ok-constant-in-None-clause-grows
encode_call-returns-in_ok-constant-in-None-clause-grows t c = grows_same c.args.builder.now

pub encode_call-returns-then-left-eq0-clause-grows : goal.encode_call-returns-then-left-eq0-clause-grows
encode_call-returns-then-left-eq0-clause-grows t c = grows_same c.args.builder.now

pub encode_cond-returns-clause-grows : goal.encode_cond-returns-clause-grows
encode_cond-returns-clause-grows t c = grows_then _ _ _ [] [] [] [] (grows_then _ _ _ [] [] [] [] (grows_then _ _ _ [] [] [] [] (c.encode_term.ensures.grows) (c.encode_term-2.ensures.grows)) (c.encode_term-3.ensures.grows)) (c.choice.ensures.grows)

pub encode_get-returns-clause-grows : goal.encode_get-returns-clause-grows
encode_get-returns-clause-grows t c = grows_then _ _ _ [] [] [] [] (grows_then _ _ _ [] [] [] [] (c.encode_terms.ensures.grows) (c.encode_reads.ensures.grows)) (c.get_group.ensures.grows)

pub encode_let-returns-clause-grows : goal.encode_let-returns-clause-grows
encode_let-returns-clause-grows t c = grows_then _ _ _ [] [] [] [] (grows_then _ _ _ [] [] [] [] (c.encode_term.ensures.grows) (c.encode_bodies.ensures.grows)) (c.let_group.ensures.grows)

pub encode_oper-returns-clause-grows : goal.encode_oper-returns-clause-grows
encode_oper-returns-clause-grows t c = grows_then _ _ _ [] [] [] [] (c.encode_terms.ensures.grows) (c.operate.ensures.grows)

pub encode_quant-returns-clause-grows : goal.encode_quant-returns-clause-grows
encode_quant-returns-clause-grows t c = grows_then _ _ _ [] [] [] [] (c.encode_guards.ensures.grows) (c.quantify.ensures.grows)

pub encode_within-returns-clause-grows : goal.encode_within-returns-clause-grows
encode_within-returns-clause-grows t c = grows_then _ _ _ [] [] [] [] (c.encode_term.ensures.grows) (c.inside.ensures.grows)

pub encode_read-returns-in_ok-constant-in-None-clause-grows : goal.encode_read-returns-in_ok-constant-in-None-clause-grows
encode_read-returns-in_ok-constant-in-None-clause-grows t c = grows_same c.args.builder.now

pub encode_read-returns-then-is_dynamic-clause-grows : goal.encode_read-returns-then-is_dynamic-clause-grows
encode_read-returns-then-is_dynamic-clause-grows t c = grows_same c.args.builder.now

pub encode_read-returns-then-not-are_arguments-clause-grows : goal.encode_read-returns-then-not-are_arguments-clause-grows
encode_read-returns-then-not-are_arguments-clause-grows t c = grows_same c.args.builder.now

pub encode_read-returns-in_ok-encode_call-in-Some-clause-grows : goal.encode_read-returns-in_ok-encode_call-in-Some-clause-grows
encode_read-returns-in_ok-encode_call-in-Some-clause-grows t c = c.encode_call.ensures.grows

pub encode_term-returns-in_ok-constant-in-Const-clause-grows : goal.encode_term-returns-in_ok-constant-in-Const-clause-grows
encode_term-returns-in_ok-constant-in-Const-clause-grows t c = grows_same c.args.builder.now

pub encode_term-returns-then-depth-eq0-clause-grows : goal.encode_term-returns-then-depth-eq0-clause-grows
encode_term-returns-then-depth-eq0-clause-grows t c = grows_same c.args.builder.now

pub encode_term-returns-in_ok-encode_cond-in-Cond-clause-grows : goal.encode_term-returns-in_ok-encode_cond-in-Cond-clause-grows
encode_term-returns-in_ok-encode_cond-in-Cond-clause-grows t c = c.encode_cond.ensures.grows

pub encode_term-returns-in_ok-encode_get-in-Get-clause-grows : goal.encode_term-returns-in_ok-encode_get-in-Get-clause-grows
encode_term-returns-in_ok-encode_get-in-Get-clause-grows t c = c.encode_get.ensures.grows

pub encode_term-returns-in_ok-encode_let-in-Let-clause-grows : goal.encode_term-returns-in_ok-encode_let-in-Let-clause-grows
encode_term-returns-in_ok-encode_let-in-Let-clause-grows t c = c.encode_let.ensures.grows

pub encode_term-returns-in_ok-encode_oper-in-Oper-clause-grows : goal.encode_term-returns-in_ok-encode_oper-in-Oper-clause-grows
encode_term-returns-in_ok-encode_oper-in-Oper-clause-grows t c = c.encode_oper.ensures.grows

pub encode_term-returns-in_ok-encode_quant-in-Quant-clause-grows : goal.encode_term-returns-in_ok-encode_quant-in-Quant-clause-grows
encode_term-returns-in_ok-encode_quant-in-Quant-clause-grows t c = c.encode_quant.ensures.grows

pub encode_term-returns-in_ok-encode_variable-in-Var-clause-grows : goal.encode_term-returns-in_ok-encode_variable-in-Var-clause-grows
encode_term-returns-in_ok-encode_variable-in-Var-clause-grows t c = c.encode_variable.ensures.grows

pub encode_term-returns-in_ok-encode_within-in-Within-clause-grows : goal.encode_term-returns-in_ok-encode_within-in-Within-clause-grows
encode_term-returns-in_ok-encode_within-in-Within-clause-grows t c = c.encode_within.ensures.grows

pub encode_variable-returns-in_ok-constant-in-Free-clause-grows : goal.encode_variable-returns-in_ok-constant-in-Free-clause-grows
encode_variable-returns-in_ok-constant-in-Free-clause-grows t c = grows_same c.args.builder.now

pub encode_variable-returns-in_ok-constant-in-Value-clause-grows : goal.encode_variable-returns-in_ok-constant-in-Value-clause-grows
encode_variable-returns-in_ok-constant-in-Value-clause-grows t c = grows_same c.args.builder.now

pub encode_variable-returns-in_ok-encode_term-in-Node-clause-grows : goal.encode_variable-returns-in_ok-encode_term-in-Node-clause-grows
encode_variable-returns-in_ok-encode_term-in-Node-clause-grows t c = c.encode_term.ensures.grows

pub encode_variable-returns-in_ok-encode_within-in-Actual-clause-grows : goal.encode_variable-returns-in_ok-encode_within-in-Actual-clause-grows
encode_variable-returns-in_ok-encode_within-in-Actual-clause-grows t c = c.encode_within.ensures.grows
