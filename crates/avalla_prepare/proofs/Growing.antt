-- What was added to the commands that are met.
use Rattle.std.proofs.Common.{◌≡◌, ◌∙◌, ℕ, ◌+◌, ◌<◌, Bool as Truth, true, false, List, [], ◌∷◌, ◌++◌, length, get_or, drop, Option, Some, None, refl, sym, ap, subst, append_assoc, append-nil, length-append, arith}
use Rattle.std.specs.Prelude.{All, bytes_eq, if◌then◌else◌}
use Rattle.std.specs.List.{flat_map}
use Rattle.std.specs.Option.{unwrap_or}
use Rattle.std.proofs.Math.Seq.{drop-append_seam}
use Rattle.std.proofs.lemmas.List.{take_all, take-append-le}
use Rattle.std.proofs.lemmas.List.Concat.{flat_map-append}
use Rattle.std.proofs.lemmas.List.Elements.{All-nil, All-append, All-same}
use Rattle.asm_faults.specs.At.{Name}
use Rattle.asm_node.specs.Machine.{Machine}
use Rattle.asm_tree.specs.declared.script.RawCommand.{RawCommand}
use Rattle.asm_tree.specs.declared.script.RawScenarioCommand.{RawScenarioCommand}
use Rattle.asm_tree.specs.declared.script.RawScenarioCommand.TheVariants as scenario
use Rattle.avalla_command.specs.Acts.{Act, IsAct}
use Rattle.avalla_prepare.specs.Parts.{ArePlaced, Grows, IsPart, IsPlaced, ended_by, latest_by, met_by}
use Rattle.avalla_prepare.specs.Prepared.{AreActsOf, command_faults}
use Rattle.avalla_prepare.specs.Scenario.{Block, all_unfolded, block_named, met_after, unfolded, written_in}
use Rattle.avalla_prepare.proofs.Naming.{met_next}
use Rattle.avalla_prepare.proofs.Walking.{rest_is, flat_rest}

-- ---- acts of commands one after the other

are_append : (m : Machine) (file : ℕ) (cs : List RawCommand) (acts : List Act) (ds : List RawCommand) (more : List Act) → AreActsOf m file cs acts → AreActsOf m file ds more → AreActsOf m file (cs ++ ds) (acts ++ more)
are_append m file [] [] ds more are others = others
are_append m file [] (a ∷ acts) ds more are others = absurd are
are_append m file (c ∷ cs) [] ds more are others = absurd are
are_append m file (c ∷ cs) (a ∷ acts) ds more are others = (are.0, are_append m file cs acts ds more are.1 others)

pub as_many : (m : Machine) (file : ℕ) (cs : List RawCommand) (acts : List Act) → AreActsOf m file cs acts → length acts ≡ length cs
as_many m file [] [] are = refl
as_many m file [] (a ∷ acts) are = absurd are
as_many m file (c ∷ cs) [] are = absurd are
as_many m file (c ∷ cs) (a ∷ acts) are = omega (arith, as_many m file cs acts are.1)

-- ---- what was added

pub grows_none : (m : Machine) (file : ℕ) (acts : List Act) → Grows m file [] acts acts
grows_none m file acts = record {
  more = [];
  acts_are = sym (append-nil acts);
  are = tt;
  sound = λ all. All-nil (IsAct m);
}

pub grows_both : (m : Machine) (file : ℕ) (cs ds : List RawCommand) (a b c : List Act) → Grows m file cs a b → Grows m file ds b c → Grows m file (cs ++ ds) a c
grows_both m file cs ds a b c g h = record {
  more = g.more ++ h.more;
  acts_are = h.acts_are ∙ ap (λ acts. acts ++ h.more) g.acts_are ∙ append_assoc a g.more h.more;
  are = are_append m file cs g.more ds h.more g.are h.are;
  sound = λ all.
      let here : All (IsAct m) g.more = g.sound all in
      All-append (IsAct m) g.more h.more here (h.sound (All-same (IsAct m) b (a ++ g.more) g.acts_are (All-append (IsAct m) a g.more all here)));
}

pub grows_same : (m : Machine) (file : ℕ) (cs ds : List RawCommand) (a b : List Act) → cs ≡ ds → Grows m file cs a b → Grows m file ds a b
grows_same m file cs ds a b same g = subst (λ es. Grows m file es a b) same g

pub grows_missing : (m : Machine) (file : ℕ) (o : Option (List RawCommand)) (a : List Act) → IsPlaced m file a None o → Grows m file (unwrap_or o []) a a
grows_missing m file None a is = grows_none m file a
grows_missing m file (Some cs) a is = absurd is

-- ---- blocks stay where they are

part_stays : (m : Machine) (file : ℕ) (a more : List Act) (p : ℕ × ℕ) (cs : List RawCommand) → IsPart m file a p cs → IsPart m file (a ++ more) p cs
part_stays m file a more p cs is = record {
  ordered = is.ordered;
  within = (let lt = is.within in omega (arith, lt, length-append a more));
  are = subst (λ acts. AreActsOf m file cs (drop p.0 acts)) (sym (take-append-le p.1 a more is.within)) is.are;
}

stays : (m : Machine) (file : ℕ) (a more : List Act) (found : Option (ℕ × ℕ)) (named : Option (List RawCommand)) → IsPlaced m file a found named → IsPlaced m file (a ++ more) found named
stays m file a more None None is = tt
stays m file a more None (Some cs) is = absurd is
stays m file a more (Some p) None is = absurd is
stays m file a more (Some p) (Some cs) is = part_stays m file a more p cs is

pub placed_grown : (m : Machine) (file : ℕ) (a b : List Act) (cs : List RawCommand) (blocks : List Block) (places : Name → Option (ℕ × ℕ)) → Grows m file cs a b → ArePlaced m file a blocks places → ArePlaced m file b blocks places
placed_grown m file a b cs blocks places g placed = record {
  placed = λ name. subst (λ acts. IsPlaced m file acts (places name) (block_named blocks name)) (sym g.acts_are) (stays m file a g.more (places name) (block_named blocks name) (placed.placed name));
}

-- the part that was added
new_part : (m : Machine) (file : ℕ) (a b : List Act) (cs : List RawCommand) (g : Grows m file cs a b) → IsPart m file b (length a, length b) cs
new_part m file a b cs g = record {
  ordered = omega (arith, ap length g.acts_are, length-append a g.more);
  within = omega arith;
  are = subst (λ acts. AreActsOf m file cs acts) (sym (ap (drop (length a)) (take_all (length b) b (omega arith)) ∙ ap (drop (length a)) g.acts_are ∙ drop-append_seam a g.more)) g.are;
}

either_placed : (m : Machine) (file : ℕ) (acts : List Act) (b : Truth) (p : ℕ × ℕ) (cs : List RawCommand) (found : Option (ℕ × ℕ)) (named : Option (List RawCommand)) → IsPart m file acts p cs → IsPlaced m file acts found named → IsPlaced m file acts (if b then Some p else found) (if b then Some cs else named)
either_placed m file acts true p cs found named this others = this
either_placed m file acts false p cs found named this others = others

-- after a command of a scenario
pub placed_by : (m : Machine) (file : ℕ) (a b : List Act) (blocks : List Block) (places later : Name → Option (ℕ × ℕ)) (c : RawScenarioCommand) → Grows m file (met_by blocks c) a b → ArePlaced m file a blocks places → ((name : Name) → later name ≡ latest_by c (length a, length b) name (places name)) → ArePlaced m file b (ended_by blocks c) later
placed_by m file a b blocks places later (scenario.Plain c) g placed same =
    let grown = placed_grown m file a b (unfolded blocks c) blocks places g placed in
    record { placed = λ name. subst (λ o. IsPlaced m file b o (block_named blocks name)) (sym (same name)) (grown.placed name) }
placed_by m file a b blocks places later (scenario.Block n cs) g placed same =
    let grown = placed_grown m file a b (all_unfolded blocks cs) blocks places g placed in
    record {
      placed = λ name. subst (λ o. IsPlaced m file b o (if bytes_eq n.text name then Some (all_unfolded blocks cs) else block_named blocks name)) (sym (same name))
          (either_placed m file b (bytes_eq n.text name) (length a, length b) (all_unfolded blocks cs) (places name) (block_named blocks name) (new_part m file a b (all_unfolded blocks cs) g) (grown.placed name));
    }

-- ---- the walk

-- the blocks that have ended before the commands that are left, what was added so far, and what is wrong with the commands that are left
pub record Unfolds (m : Machine) (file : ℕ) (commands : List RawScenarioCommand) (i : ℕ) (places : Name → Option (ℕ × ℕ)) (before acts : List Act) : Type 0 where
  pub blocks : List Block
  pub placed : ArePlaced m file acts blocks places
  pub met : List RawCommand
  pub grows : Grows m file met before acts
  pub met_are : met ++ met_after blocks (drop i commands) ≡ met_after [] commands
  pub faults : flat_map (command_faults m file) (flat_map written_in (drop i commands)) ≡ flat_map (command_faults m file) (flat_map written_in commands)

pub unfolds_none : (m : Machine) (file : ℕ) (commands : List RawScenarioCommand) (places : Name → Option (ℕ × ℕ)) (acts : List Act) → ((name : Name) → places name ≡ None) → Unfolds m file commands 0 places acts acts
unfolds_none m file commands places acts none = record {
  blocks = [];
  placed = record { placed = λ name. subst (λ o. IsPlaced m file acts o None) (sym (none name)) tt };
  met = [];
  grows = grows_none m file acts;
  met_are = refl;
  faults = refl;
}

module _ (m : Machine) (file : ℕ) (commands : List RawScenarioCommand) (i : ℕ) (c : RawScenarioCommand) (within : i < length commands) (at : c ≡ get_or commands i c) (places : Name → Option (ℕ × ℕ)) (before acts : List Act) (u : Unfolds m file commands i places before acts) where
  faults_split : flat_map (command_faults m file) (flat_map written_in commands) ≡ flat_map (command_faults m file) (written_in c) ++ flat_map (command_faults m file) (flat_map written_in (drop (i + 1) commands))
  faults_split =
      sym u.faults
      ∙ ap (flat_map (command_faults m file)) (flat_rest commands i c within at written_in)
      ∙ flat_map-append (command_faults m file) (written_in c) (flat_map written_in (drop (i + 1) commands))

  pub unfold_goes : (later : Name → Option (ℕ × ℕ)) (now : List Act) → flat_map (command_faults m file) (written_in c) ≡ [] → Grows m file (met_by u.blocks c) acts now → ((name : Name) → later name ≡ latest_by c (length acts, length now) name (places name)) → Unfolds m file commands (i + 1) later before now
  unfold_goes later now faultless g same = record {
    blocks = ended_by u.blocks c;
    placed = placed_by m file acts now u.blocks places later c g u.placed same;
    met = u.met ++ met_by u.blocks c;
    grows = grows_both m file u.met (met_by u.blocks c) before acts now u.grows g;
    met_are =
        append_assoc u.met (met_by u.blocks c) (met_after (ended_by u.blocks c) (drop (i + 1) commands))
        ∙ sym (ap (λ cs. u.met ++ cs) (ap (met_after u.blocks) (rest_is commands i c within at) ∙ met_next u.blocks c (drop (i + 1) commands)))
        ∙ u.met_are;
    faults = sym (faults_split ∙ ap (λ xs. xs ++ flat_map (command_faults m file) (flat_map written_in (drop (i + 1) commands))) faultless);
  }
