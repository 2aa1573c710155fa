-- What is found by name.
use Rattle.std.proofs.Common.{Option, ap, sym, subst, ◌∙◌}
use Rattle.std.specs.Prelude.{option_copied, option_map, IfSome}
use Rattle.mo_scope.specs.declared.row.Member.{Member as MemberAt}
use Rattle.mo_scope.specs.Worlds.{frames_of}
use Rattle.mo_names.specs.Sights.{IsMember, member_of}
use Rattle.mo_redeclare.proofs.Tables.{named_is, named_exists}
use Rattle.mo_redeclare.proofs.known.named.Goals as goal

pub returns-clause-is : goal.returns-clause-is
returns-clause-is c =
    ap (option_map (member_of (frames_of c.args.s.now))) c.copied.ensures
    ∙ named_is (frames_of c.args.s.now) (option_copied c.find.result) c.args.name.now c.args.members.now c.find.ensures

pub returns-clause-exists : goal.returns-clause-exists
returns-clause-exists c =
    subst (λ (o : Option MemberAt). IfSome o (IsMember c.args.s.now)) (sym c.copied.ensures)
    (named_exists c.args.s.now (option_copied c.find.result) c.args.name.now c.args.members.now c.requires c.find.ensures)
