use Rattle.std.proofs.Common.{refl, inl}
use Rattle.mo_match.proofs.Moving.{moving_start, walk_matching, walk_next, walk_comes, walk_dead, walk_handed, walk_kept, walk_root, walk_bare, walk_bare_end}
use Rattle.mo_match.proofs.graph.Graph.hand_on.Goals as goal

pub back-init : goal.back-init
back-init g c =
    let free = c.requires.free in
    record {
      walk = record {
        moving = moving_start _ _ _ c.requires.matching free.positive free.known free.unowned free.used;
        within = c.requires.start;
        before = λ s l. refl;
        kept = λ x some. some;
      };
      comes = inl (refl, refl);
      bare = λ x ne zero. zero;
    }

pub returns-then-old-eq0-clause-matching : goal.returns-then-old-eq0-clause-matching
returns-then-old-eq0-clause-matching g c =
    let none = rw (c.unknown_of-old.ensures, c.at-equation.ensures) at c.if-old-eq0.true in
    rw (c.give.ensures.pairs, c.give.ensures.owner, c.at-equation.ensures) (walk_matching _ _ _ _ _ _ _ _ _ _ _ _ _ c.requires.tree c.requires.bare c.back.invariant.walk none)

pub returns-then-old-eq0-clause-kept : goal.returns-then-old-eq0-clause-kept
returns-then-old-eq0-clause-kept g c =
    let none = rw (c.unknown_of-old.ensures, c.at-equation.ensures) at c.if-old-eq0.true in
    rw (c.give.ensures.pairs, c.at-equation.ensures) (walk_kept _ _ _ _ _ _ _ _ _ _ _ _ _ c.requires.tree c.requires.bare c.back.invariant.walk)

pub returns-then-old-eq0-clause-root : goal.returns-then-old-eq0-clause-root
returns-then-old-eq0-clause-root g c =
    let none = rw (c.unknown_of-old.ensures, c.at-equation.ensures) at c.if-old-eq0.true in
    rw (c.give.ensures.pairs, c.at-equation.ensures) (walk_root _ _ _ _ _ _ _ _ _ _ _ _ _ c.requires.tree c.requires.bare c.back.invariant.walk none)

pub returns-then-old-eq0-clause-dead : goal.returns-then-old-eq0-clause-dead
returns-then-old-eq0-clause-dead g c = rw (c.give.ensures.pairs, c.at-equation.ensures) (walk_dead _ _ _ _ _ _ _ _ _ _ _ _ _ c.requires.tree c.requires.bare c.back.invariant.walk)

pub returns-then-old-eq0-clause-handed : goal.returns-then-old-eq0-clause-handed
returns-then-old-eq0-clause-handed g c =
    let none = rw (c.unknown_of-old.ensures, c.at-equation.ensures) at c.if-old-eq0.true in
    rw (c.give.ensures.pairs, c.at-equation.ensures) (walk_handed _ _ _ _ _ _ _ _ _ _ _ _ _ c.requires.tree c.requires.bare c.back.invariant.walk _ _ none c.back.invariant.comes)

pub returns-then-old-eq0-clause-bare : goal.returns-then-old-eq0-clause-bare
returns-then-old-eq0-clause-bare g c =
    let none = rw (c.unknown_of-old.ensures, c.at-equation.ensures) at c.if-old-eq0.true in
    rw (c.give.ensures.pairs, c.at-equation.ensures) (walk_bare_end _ _ _ _ _ _ _ _ _ _ _ _ _ c.requires.tree c.requires.bare c.back.invariant.walk none c.back.invariant.bare)

pub back-preserved : goal.back-preserved
back-preserved g c =
    let old_is = rw (c.unknown_of-old.ensures, c.at-equation.ensures) at c.if-old-eq0.false in
    rw (c.give.ensures.pairs, c.give.ensures.owner, c.parent_of-place.ensures, c.unknown_of-old.ensures, c.at-equation.ensures) (record {
      walk = walk_next _ _ _ _ _ _ _ _ _ _ _ _ _ c.requires.tree c.requires.bare c.back.invariant.walk _ refl old_is;
      bare = walk_bare _ _ _ _ _ _ _ _ _ _ _ _ _ c.requires.tree c.requires.bare c.back.invariant.walk _ refl old_is c.back.invariant.bare;
      comes = walk_comes _ _ _ _ _ _ _ _ _ _ _ _ _ c.requires.tree c.requires.bare c.back.invariant.walk _ refl old_is _ _;
    })
