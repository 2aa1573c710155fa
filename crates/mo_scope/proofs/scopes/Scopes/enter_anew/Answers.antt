-- A frame that is pushed behind the others.
use Rattle.std.proofs.Common.{◌≡◌, List, ap, sym, subst, refl, ◌∙◌, map}
use Rattle.mo_scope.specs.Bare.{entered_held}
use Rattle.std.specs.Prelude.{option_map}
use Rattle.mo_scope.specs.Entries.{entry_seen, names_of, number_of, table_seen}
use Rattle.mo_scope.specs.Frames.{Frame, In, gathered}
use Rattle.mo_scope.specs.KeptBases.{base_held}
use Rattle.mo_scope.specs.Worlds.{AreFrames, IsSound, frame_or_top, frames_of, sources_in}
use Rattle.mo_scope.proofs.Entering.{entered_pushed, entered_same, taken_back}
use Rattle.mo_scope.proofs.KeptBases.{bases_grown}
use Rattle.mo_scope.proofs.KeptClasses.{found_grown}
use Rattle.mo_scope.proofs.KeptComponents.{entered_grown}
use Rattle.mo_scope.proofs.Numbered.{world, grows_pushed, grows_same, sound_pushed, frame_pushed}
use Rattle.mo_scope.proofs.scopes.Scopes.enter_anew.Goals as goal

pub invariant_of-self : goal.invariant_of-self
invariant_of-self c = record {
  world = subst (λ xs. IsSound (world entry_seen table_seen c.self.inside.tree.now.files xs)) (sym c.in_err-push.ensures.items) c.self.invariant.world;
  classes = c.self.invariant.classes;
  entered = entered_same (map entry_seen c.self.inside.frames.items) (map entry_seen c.push.new.self.items) (entered_held c.self.inside.entered) (entered_held c.self.inside.entered)
      c.self.invariant.entered (ap (map entry_seen) c.in_err-push.ensures.items) (λ class outer. refl);
  found = found_grown (world entry_seen table_seen c.self.inside.tree.now.files c.self.inside.frames.items) _ c.self.inside.found.classes.items
      (grows_same entry_seen table_seen c.self.inside.tree.now.files c.self.inside.frames.items c.push.new.self.items
      (world entry_seen table_seen c.self.inside.tree.now.files c.self.inside.frames.items) refl c.in_err-push.ensures.items)
      c.self.invariant.found;
  components = entered_grown (world entry_seen table_seen c.self.inside.tree.now.files c.self.inside.frames.items) _ c.self.inside.components.components.items
      (grows_same entry_seen table_seen c.self.inside.tree.now.files c.self.inside.frames.items c.push.new.self.items
      (world entry_seen table_seen c.self.inside.tree.now.files c.self.inside.frames.items) refl c.in_err-push.ensures.items)
      c.self.invariant.components;
  bases = bases_grown (world entry_seen table_seen c.self.inside.tree.now.files c.self.inside.frames.items) _ (base_held c.self.inside.bases)
      (grows_same entry_seen table_seen c.self.inside.tree.now.files c.self.inside.frames.items c.push.new.self.items
      (world entry_seen table_seen c.self.inside.tree.now.files c.self.inside.frames.items) refl c.in_err-push.ensures.items)
      c.self.invariant.bases;
}

pub invariant_of-self-in-Ok : goal.invariant_of-self-in-Ok
invariant_of-self-in-Ok c = record {
  world = sound_pushed entry_seen table_seen c.self.inside.tree.now.files c.self.inside.frames.items c.push.new.self.items _ c.args.self.now
      c.self.view_is c.self.invariant.world c.in_ok-push.ensures.items refl c.requires.class (subst (AreFrames c.args.self.now) (sym c.in_ok-sources.ensures) c.requires.sources) c.requires.outer c.requires.owner;
  classes = c.self.invariant.classes;
  entered = entered_pushed entry_seen c.self.inside.frames.items c.push.new.self.items _ c.is_bare-bare.result (entered_held c.self.inside.entered) (entered_held c.put.new.self) c.len-number.result
      c.self.invariant.entered (c.len-number.ensures ∙ c.self.inside.frames.ok.0) c.in_ok-push.ensures.items c.is_bare-bare.ensures c.in-Ok.ensures.ok;
  found = found_grown (world entry_seen table_seen c.self.inside.tree.now.files c.self.inside.frames.items) _ c.self.inside.found.classes.items
      (grows_pushed entry_seen table_seen c.self.inside.tree.now.files c.self.inside.frames.items c.push.new.self.items _ (world entry_seen table_seen c.self.inside.tree.now.files c.self.inside.frames.items)
      refl c.in_ok-push.ensures.items)
      c.self.invariant.found;
  components = entered_grown (world entry_seen table_seen c.self.inside.tree.now.files c.self.inside.frames.items) _ c.self.inside.components.components.items
      (grows_pushed entry_seen table_seen c.self.inside.tree.now.files c.self.inside.frames.items c.push.new.self.items _ (world entry_seen table_seen c.self.inside.tree.now.files c.self.inside.frames.items)
      refl c.in_ok-push.ensures.items)
      c.self.invariant.components;
  bases = bases_grown (world entry_seen table_seen c.self.inside.tree.now.files c.self.inside.frames.items) _ (base_held c.self.inside.bases)
      (grows_pushed entry_seen table_seen c.self.inside.tree.now.files c.self.inside.frames.items c.push.new.self.items _ (world entry_seen table_seen c.self.inside.tree.now.files c.self.inside.frames.items)
      refl c.in_ok-push.ensures.items)
      c.self.invariant.bases;
}

pub invariant_of-self-in-Err : goal.invariant_of-self-in-Err
invariant_of-self-in-Err c =
    let back : c.truncate.new.self.items ≡ c.self.inside.frames.items =
    taken_back c.self.inside.frames.items c.push.new.self.items c.truncate.new.self.items _ c.len-number.result c.in_ok-push.ensures.items c.truncate.ensures.items (c.len-number.ensures ∙ c.self.inside.frames.ok.0) in
    record {
      world = subst (λ xs. IsSound (world entry_seen table_seen c.self.inside.tree.now.files xs)) (sym back) c.self.invariant.world;
      classes = c.self.invariant.classes;
      entered = entered_same (map entry_seen c.self.inside.frames.items) (map entry_seen c.truncate.new.self.items) (entered_held c.self.inside.entered) (entered_held c.put.new.self)
          c.self.invariant.entered (ap (map entry_seen) back) c.in-Err.ensures.err;
      found = found_grown (world entry_seen table_seen c.self.inside.tree.now.files c.self.inside.frames.items) _ c.self.inside.found.classes.items
          (grows_same entry_seen table_seen c.self.inside.tree.now.files c.self.inside.frames.items c.truncate.new.self.items
          (world entry_seen table_seen c.self.inside.tree.now.files c.self.inside.frames.items) refl back)
          c.self.invariant.found;
      components = entered_grown (world entry_seen table_seen c.self.inside.tree.now.files c.self.inside.frames.items) _ c.self.inside.components.components.items
          (grows_same entry_seen table_seen c.self.inside.tree.now.files c.self.inside.frames.items c.truncate.new.self.items
          (world entry_seen table_seen c.self.inside.tree.now.files c.self.inside.frames.items) refl back)
          c.self.invariant.components;
      bases = bases_grown (world entry_seen table_seen c.self.inside.tree.now.files c.self.inside.frames.items) _ (base_held c.self.inside.bases)
          (grows_same entry_seen table_seen c.self.inside.tree.now.files c.self.inside.frames.items c.truncate.new.self.items
          (world entry_seen table_seen c.self.inside.tree.now.files c.self.inside.frames.items) refl back)
          c.self.invariant.bases;
    }

pub returns-in-Err-clause-grows : goal.returns-in-Err-clause-grows
returns-in-Err-clause-grows c = grows_same entry_seen table_seen c.self.inside.tree.now.files c.self.inside.frames.items c.truncate.new.self.items c.args.self.now c.self.view_is
    (taken_back c.self.inside.frames.items c.push.new.self.items c.truncate.new.self.items _ c.len-number.result c.in_ok-push.ensures.items c.truncate.ensures.items
    (c.len-number.ensures ∙ c.self.inside.frames.ok.0))

pub returns-in-Ok-clause-grows : goal.returns-in-Ok-clause-grows
returns-in-Ok-clause-grows c = grows_pushed entry_seen table_seen c.self.inside.tree.now.files c.self.inside.frames.items c.push.new.self.items _ c.args.self.now
    c.self.view_is c.in_ok-push.ensures.items

pub returns-in-Ok-clause-is : goal.returns-in-Ok-clause-is
returns-in-Ok-clause-is c = frame_pushed entry_seen table_seen c.self.inside.tree.now.files c.self.inside.frames.items c.push.new.self.items _ c.args.self.now
    c.len-number.result c.self.view_is c.in_ok-push.ensures.items (c.len-number.ensures ∙ c.self.inside.frames.ok.0)
    ∙ ap (λ entries. In c.args.class.0 (gathered (sources_in F entries)) (frame_or_top F (option_map number_of c.args.outer)) (option_map names_of c.args.at) (frame_or_top F (option_map number_of c.args.owner)))
    c.in_ok-sources.ensures
  where
    F : List Frame
    F = frames_of c.args.self.now
