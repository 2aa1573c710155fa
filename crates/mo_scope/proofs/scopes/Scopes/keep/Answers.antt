-- A table that is put into its frame.
use Rattle.std.proofs.Common.{map, ap, sym, refl, ◌∙◌}
use Rattle.mo_scope.specs.Bare.{entered_held}
use Rattle.mo_scope.specs.Entries.{entry_seen, table_seen}
use Rattle.mo_scope.proofs.Entering.{entered_same}
use Rattle.mo_scope.specs.KeptBases.{base_held}
use Rattle.mo_scope.proofs.KeptBases.{bases_grown}
use Rattle.mo_scope.proofs.KeptClasses.{found_grown}
use Rattle.mo_scope.proofs.KeptComponents.{entered_grown}
use Rattle.mo_scope.proofs.Numbered.{grows_set, kept_set, sound_set, world}
use Rattle.mo_scope.proofs.scopes.Scopes.keep.Goals as goal

pub invariant_of-self : goal.invariant_of-self
invariant_of-self c = record {
  world = sound_set entry_seen table_seen c.self.inside.tree.now.files c.self.inside.frames.items c.args.frame.0 c.index_mut.result.now _ c.args.table c.args.self.now
      c.self.view_is c.self.invariant.world c.index_mut.ensures.value refl refl (record { elements = c.requires.elements; homes = c.requires.homes });
  classes = c.self.invariant.classes;
  entered = entered_same (map entry_seen c.self.inside.frames.items) _ (entered_held c.self.inside.entered) (entered_held c.self.inside.entered) c.self.invariant.entered
      (ap (λ w. w.entries)
      (kept_set entry_seen table_seen c.self.inside.tree.now.files c.self.inside.frames.items c.args.frame.0 c.index_mut.result.now _ c.args.table c.args.self.now
      c.self.view_is c.index_mut.ensures.value refl refl)
      ∙ sym (ap (λ w. w.entries) c.self.view_is))
      (λ class outer. refl);
  found = found_grown (world entry_seen table_seen c.self.inside.tree.now.files c.self.inside.frames.items) _ c.self.inside.found.classes.items
      (grows_set entry_seen table_seen c.self.inside.tree.now.files c.self.inside.frames.items c.args.frame.0 c.index_mut.result.now _ c.index_mut.ensures.value refl)
      c.self.invariant.found;
  components = entered_grown (world entry_seen table_seen c.self.inside.tree.now.files c.self.inside.frames.items) _ c.self.inside.components.components.items
      (grows_set entry_seen table_seen c.self.inside.tree.now.files c.self.inside.frames.items c.args.frame.0 c.index_mut.result.now _ c.index_mut.ensures.value refl)
      c.self.invariant.components;
  bases = bases_grown (world entry_seen table_seen c.self.inside.tree.now.files c.self.inside.frames.items) _ (base_held c.self.inside.bases)
      (grows_set entry_seen table_seen c.self.inside.tree.now.files c.self.inside.frames.items c.args.frame.0 c.index_mut.result.now _ c.index_mut.ensures.value refl)
      c.self.invariant.bases;
}

pub returns : goal.returns
returns c = kept_set entry_seen table_seen c.self.inside.tree.now.files c.self.inside.frames.items c.args.frame.0 c.index_mut.result.now _ c.args.table c.args.self.now
    c.self.view_is c.index_mut.ensures.value refl refl
