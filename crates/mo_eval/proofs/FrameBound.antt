-- What a frame picks for the binding of its instance is the same in later worlds, and it is what binds the element of the component.
use Rattle.std.proofs.Common.{◌≡◌, ℕ, List, [], Option, Some, Ok, Err, refl, ap, sym, ◌∙◌}
use Rattle.std.specs.Prelude.{option_map}
use Rattle.mo_syntax.specs.Outcome.{Outcome}
use Rattle.mo_scope.specs.declared.instance.Leaf.{Leaf as LeafAt}
use Rattle.mo_scope.specs.Frames.{Frame, Member, sources_of}
use Rattle.mo_scope.specs.Names.{Child, child_of_member, component_entered, component_frame}
use Rattle.mo_scope.specs.Parts.{Picked, picked, picked_here}
use Rattle.mo_scope.specs.Rows.{Table}
use Rattle.mo_scope.specs.Trees.{chosen_in}
use Rattle.mo_scope.specs.Worlds.{World, Grows, IsFrame, frame_at, frames_of, table_in}
use Rattle.mo_scope.proofs.Numbered.{listed_gathered}
use Rattle.mo_names.proofs.Later.{frame_later, table_later}
use Rattle.mo_eval.specs.Components.{binding_of}
use Rattle.mo_eval.specs.FrameBindings.{IsBoundAs}

pub bound_later : (u v : World) (frame : ℕ) (leaf : LeafAt) → Grows u v → IsFrame u frame → option_map (chosen_in (frames_of v)) leaf.binding ≡ option_map (chosen_in (frames_of u)) leaf.binding →
    IsBoundAs u frame leaf → IsBoundAs v frame leaf
bound_later u v frame leaf grows at same bound =
    same ∙ (bound ∙ sym (ap (λ (t : Table). picked t (sources_of (frame_at v frame)) []) (table_later u v grows) ∙ ap (λ (f : Frame). picked (table_in u) (sources_of f) []) (frame_later u v frame grows at)))

-- the frame of an element gives what binds the element
pub picked_by_frame : (table : Table) (member : Member) (index : List ℕ) (frame : Frame) (chosen : Picked) → component_entered table member index ≡ Ok frame → picked table (sources_of frame) [] ≡ Some chosen →
    binding_of table member index ≡ Ok (Some chosen)
picked_by_frame table member index frame chosen entered is = go (child_of_member table member index) refl
  where
    go : (o : Outcome Child) → child_of_member table member index ≡ o → binding_of table member index ≡ Ok (Some chosen)
    go (Ok child) h =
        let one : ◌≡◌ {A = Outcome Frame} (Ok (component_frame member index child)) (Ok frame) = rw h at entered in
        let same : ◌≡◌ {A = Frame} (component_frame member index child) frame = cc in
        rw h (ap (λ (o : Option Picked). Ok o) (ap picked_here (sym (listed_gathered child.sources) ∙ ap sources_of same) ∙ is))
    go (Err broken) h = absurd (let no : ◌≡◌ {A = Outcome Frame} (Err broken) (Ok frame) = rw h at entered in cc)
