-- With one more, or as before.
use Rattle.std.proofs.Common.{sym, subst}
use Rattle.mo_scope.specs.Places.{Every}
use Rattle.mo_equations.specs.steps.Sharing.{IsShared}
use Rattle.mo_equations.proofs.SharedExpressions.{held_more}
use Rattle.mo_equations.proofs.Staying.{with_shared}
use Rattle.mo_equations.proofs.shared.hold.Goals as goal

pub returns-in_err-push : goal.returns-in_err-push
returns-in_err-push c =
    let all = c.make_room.ensures c.args.s.now c.args.desk.now.leaves c.requires.desk.shared in
    with_shared c.args.s.now c.args.desk.now c.push.new.self c.requires.desk (subst (Every (IsShared c.args.s.now c.args.desk.now.leaves)) (sym c.in_err-push.ensures.items) all)

pub returns : goal.returns
returns c =
    let all = c.make_room.ensures c.args.s.now c.args.desk.now.leaves c.requires.desk.shared in
    with_shared c.args.s.now c.args.desk.now c.push.new.self c.requires.desk (held_more c.args.s.now c.args.desk.now.leaves _ c.push.new.self.items c.args.shared c.in_ok-push.ensures.items all c.requires.shared)
