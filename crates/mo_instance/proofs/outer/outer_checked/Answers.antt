-- What the outer component may not have, then the inner one.
use Rattle.std.proofs.Common.{subst}
use Rattle.mo_scope.specs.Names.{inner_of}
use Rattle.mo_scope.specs.Outcome.{Gives}
use Rattle.mo_scope.specs.Worlds.{frame_at, frames_of, table_in}
use Rattle.mo_names.specs.Children.{component_seen}
use Rattle.mo_names.specs.Sights.{member_of}
use Rattle.mo_instance.specs.steps.Outer.{inner_asked}
use Rattle.mo_instance.proofs.Lists.{broken_on}
use Rattle.mo_instance.proofs.Outers.{inner_is, rightly_is, wrongly_is}
use Rattle.mo_names.proofs.Later.{grows_refl, grows_trans}
use Rattle.mo_instance.proofs.outer.outer_checked.Goals as goal

pub returns-then-wrongly-clause-value : goal.returns-then-wrongly-clause-value
returns-then-wrongly-clause-value c =
    rw c.stop.ensures (wrongly_is (table_in c.args.s.now) (member_of (frames_of c.args.s.now) c.args.member.now) c.in_ok-wrongly.wrongly c.in_ok-wrongly.ensures c.if-wrongly.true)

pub returns-in-Err-clause-value : goal.returns-in-Err-clause-value
returns-in-Err-clause-value c =
    let T = table_in c.args.s.now in
    let m = member_of (frames_of c.args.s.now) c.args.member.now in
    broken_on {U = Unit {0}} (component_seen (frames_of c.inner_of.new.s)) (λ _. tt) c.in-Err.stop (inner_of T m.declares.place m) (λ inner. inner_asked T m inner.1) _
    c.in-Err.ensures.value (rightly_is T m c.in_ok-wrongly.wrongly c.in_ok-wrongly.ensures c.if-wrongly.false)

pub returns-in-Ok-clause-value : goal.returns-in-Ok-clause-value
returns-in-Ok-clause-value c =
    subst (Gives {T = Unit {0}} {A = Unit {0}} (λ _. tt) c.inner_checked.result)
    (inner_is c.args.s.now c.inner_of.new.s c.args.member.now c.in-Ok.found.1 (frame_at c.inner_of.new.s c.in-Ok.found.0.0) c.in_ok-wrongly.wrongly
    c.in-Ok.ensures.grows c.requires c.in_ok-wrongly.ensures c.if-wrongly.false c.in-Ok.ensures.value)
    c.inner_checked.ensures.value

pub returns-in_err-wrongly-clause-grows : goal.returns-in_err-wrongly-clause-grows
returns-in_err-wrongly-clause-grows c = grows_refl _

pub returns-then-wrongly-clause-grows : goal.returns-then-wrongly-clause-grows
returns-then-wrongly-clause-grows c = grows_refl _

pub returns-in-Ok-clause-grows : goal.returns-in-Ok-clause-grows
returns-in-Ok-clause-grows c = grows_trans _ _ _ c.in-Ok.ensures.grows c.inner_checked.ensures.grows
