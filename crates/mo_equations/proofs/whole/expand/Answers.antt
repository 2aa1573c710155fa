-- What is made is what instances give, and its connects are sound.
use Rattle.std.proofs.Common.{List, Ok, sym, subst}
use Rattle.mo_scope.specs.declared.instance.Instance.{Instance as InstanceAt}
use Rattle.mo_flat.specs.SoundConnects.{IsSoundConnects}
use Rattle.mo_equations.specs.declared.whole.Expansion.{Expansion}
use Rattle.mo_equations.specs.Counted.{GivesExpansion, tree_of}
use Rattle.mo_equations.proofs.Expanding.{tree_with}
use Rattle.mo_equations.proofs.Below.{paths_differ}
use Rattle.mo_equations.proofs.SoundLemmas.{connects_sound_in}
use Rattle.mo_equations.proofs.whole.expand.Goals as goal

pub returns-clause-exact : goal.returns-clause-exact
returns-clause-exact c =
    let told = subst (λ (is : List InstanceAt). GivesExpansion (Ok c.in_ok-made.made) (tree_with c.args.tree.now.scopes is)) c.as_slice.ensures c.in_ok-made.ensures.exact in
    subst (λ (made : Expansion). GivesExpansion (Ok made) (tree_of c.args.tree.now)) (sym c.in_ok-checked.ensures.same) told

pub returns-clause-sound : goal.returns-clause-sound
returns-clause-sound c = λ few.
    let told = subst (λ (is : List InstanceAt). GivesExpansion (Ok c.in_ok-made.made) (tree_with c.args.tree.now.scopes is)) c.as_slice.ensures c.in_ok-made.ensures.exact in
    let connects = connects_sound_in (tree_of c.args.tree.now) (paths_differ c.requires.instances.naming (tree_of c.args.tree.now).classes (tree_of c.args.tree.now).instances c.requires.instances.are) told.0 told.1 in
    let mine = subst IsSoundConnects (sym told.2.connects) connects in
    c.in_ok-checked.ensures.sound few (subst (λ (made : Expansion). IsSoundConnects made.parts.connects) (sym c.in_ok-checked.ensures.same) mine)

pub returns-clause-connects : goal.returns-clause-connects
returns-clause-connects c =
    let told = subst (λ (is : List InstanceAt). GivesExpansion (Ok c.in_ok-made.made) (tree_with c.args.tree.now.scopes is)) c.as_slice.ensures c.in_ok-made.ensures.exact in
    let connects = connects_sound_in (tree_of c.args.tree.now) (paths_differ c.requires.instances.naming (tree_of c.args.tree.now).classes (tree_of c.args.tree.now).instances c.requires.instances.are) told.0 told.1 in
    subst (λ (made : Expansion). IsSoundConnects made.parts.connects) (sym c.in_ok-checked.ensures.same) (subst IsSoundConnects (sym told.2.connects) connects)
