-- The walk is that of the world before.
use Rattle.std.proofs.Common.{Ok, ap, sym, ◌∙◌}
use Rattle.mo_names.proofs.Later.{is_walk_later, walk_later}
use Rattle.mo_names.proofs.kept.kept_walk.Goals as goal

pub returns-clause-value : goal.returns-clause-value
returns-clause-value c = c.requires.is ∙ ap Ok (sym (walk_later c.args.s.now c.walk_kept.new.s c.args.walk c.in_ok-walk_kept.ensures.grows c.requires.stands))

pub returns-clause-stand : goal.returns-clause-stand
returns-clause-stand c = is_walk_later c.args.s.now c.walk_kept.new.s c.args.walk c.in_ok-walk_kept.ensures.grows c.requires.stands
