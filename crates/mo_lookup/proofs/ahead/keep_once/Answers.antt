-- What was found is so in the later world.
use Rattle.std.proofs.Common.{ap, ◌∙◌}
use Rattle.mo_scope.specs.Lookup.{asking_of}
use Rattle.mo_scope.specs.Worlds.{frame_at, table_in}
use Rattle.mo_names.proofs.Later.{frame_later, grows_trans, table_later}
use Rattle.mo_lookup.proofs.ahead.keep_once.Goals as goal

pub keep_walk-requires-clause-is : goal.keep_walk-requires-clause-is
keep_walk-requires-clause-is c = λ place.
    let u = c.args.s.now in
    let v = c.walked_once.new.s in
    ap (λ t. (asking_of t).elements place (frame_at v c.args.frame.0)) (table_later u v c.in_ok-walk.ensures.grows)
    ∙ ap (λ f. (asking_of (table_in u)).elements place f) (frame_later u v c.args.frame.0 c.in_ok-walk.ensures.grows c.requires)
    ∙ (rw c.in-Some.is at c.in_ok-walk.ensures.is) place

pub returns-in-Some : goal.returns-in-Some
returns-in-Some c = grows_trans _ _ _ c.in_ok-walk.ensures.grows c.keep_walk.ensures
