use Rattle.std.proofs.Common.{refl, arith}
use Rattle.mo_match.proofs.Extending.{tree_after}
use Rattle.mo_pantelides.proofs.Fixing.{released_bare, spare_there, root_has, root_released, root_fixed, tree_as}
use Rattle.mo_pantelides.proofs.transversal.fix.Goals as goal

pub release-requires-clause-known : goal.release-requires-clause-known
release-requires-clause-known g c =
    let match = c.requires.fixed.matching in
    let has = root_has _ _ _ _ _ _ _ _ _ c.equations-equations.ensures.sound c.requires.open c.requires.fixed c.requires.root.0 c.requires.root.1 refl in
    let held = match.owned c.args.root c.requires.root.0 has in
    omega (arith, held.0, match.unknowns_all)

pub seek-found-requires-clause-root : goal.seek-found-requires-clause-root
seek-found-requires-clause-root g c =
    let has = root_has _ _ _ _ _ _ _ _ _ c.equations-equations.ensures.sound c.requires.open c.requires.fixed c.requires.root.0 c.requires.root.1 refl in
    (c.requires.root.0, rw c.release.ensures.pairs (released_bare _ _ _ _ _ c.requires.fixed.matching c.args.root c.requires.root.0 _ refl has), c.requires.root.1)

pub seek-found-requires-clause-fixed : goal.seek-found-requires-clause-fixed
seek-found-requires-clause-fixed g c =
    let has = root_has _ _ _ _ _ _ _ _ _ c.equations-equations.ensures.sound c.requires.open c.requires.fixed c.requires.root.0 c.requires.root.1 refl in
    rw (c.release.ensures.pairs, c.release.ensures.owner) (root_released _ _ _ _ _ _ _ _ _ c.equations-equations.ensures.sound c.requires.open c.requires.fixed c.requires.root.0 c.requires.root.1 refl _ refl has)

pub seek-found-requires-clause-tree : goal.seek-found-requires-clause-tree
seek-found-requires-clause-tree g c = tree_as c.requires.tree

pub seek-found-requires-clause-spare : goal.seek-found-requires-clause-spare
seek-found-requires-clause-spare g c =
    let has = root_has _ _ _ _ _ _ _ _ _ c.equations-equations.ensures.sound c.requires.open c.requires.fixed c.requires.root.0 c.requires.root.1 refl in
    spare_there _ _ _ _ _ c.release.new.self.pairs.items _ _ c.equations-equations.ensures.sound c.requires.fixed.matching c.requires.root.0 has c.release.ensures.owner

pub take-requires-clause-equation : goal.take-requires-clause-equation
take-requires-clause-equation g c =
    let step = c.hand_to_root.ensures.fixed in
    (omega (arith, c.requires.root.0, step.matching.equations_all), omega (arith, c.requires.root.0, step.fixed_all))

pub take-requires-clause-known : goal.take-requires-clause-known
take-requires-clause-known g c =
    let step = c.hand_to_root.ensures.fixed in
    let gained = c.hand_to_root.ensures.gained in
    let held = step.matching.owned c.args.root c.requires.root.0 gained in
    (omega (arith, held.0, step.matching.unknowns_all), gained, omega (arith, held.0, step.left_all))

pub returns-clause-fixed : goal.returns-clause-fixed
returns-clause-fixed g c =
    let step = c.hand_to_root.ensures in
    rw (c.take.ensures.left, c.take.ensures.pairs, c.take.ensures.owner, c.take.ensures.fixed)
    (root_fixed _ _ _ _ _ _ _ _ _ c.equations-equations.ensures.sound c.requires.open step.fixed c.requires.root.0 c.seek-found.ensures.found.unfixed _ refl step.gained step.least)

pub returns-clause-tree : goal.returns-clause-tree
returns-clause-tree g c =
    let found = c.seek-found.ensures.found in
    rw (c.unmark.ensures.kept.0, c.unmark.ensures.kept.1)
    (tree_as (tree_after _ _ _ _ _ _ _ _ found.tree (omega arith) _ c.unmark.ensures.size c.unmark.ensures.unmarked c.hand_to_root.new.matching.pairs.items (λ s l. absurd (omega arith))))
