-- The row of the asked class, its frame and what is made of it.
use Rattle.std.proofs.Common.{List, Ok, ap, subst, sym, ◌∙◌}
use Rattle.mo_scope.specs.declared.instance.Instance.{Instance as InstanceAt}
use Rattle.mo_scope.specs.Outcome.{Gives}
use Rattle.mo_scope.specs.Rows.{Table}
use Rattle.mo_scope.specs.Trees.{instances_in}
use Rattle.mo_scope.specs.Worlds.{frame_at, table_in}
use Rattle.mo_names.proofs.Later.{grows_refl, grows_trans, table_later}
use Rattle.mo_instance.specs.steps.Instances.{instances_made}
use Rattle.mo_instance.proofs.Rooting.{made_of_row, none_made, row_found}
use Rattle.mo_instance.proofs.asked_class.instances_of.Goals as goal

pub returns-in_ok-frame-in-Some-clause-value : goal.returns-in_ok-frame-in-Some-clause-value
returns-in_ok-frame-in-Some-clause-value c =
    let T = table_in c.args.s.now in
    let v = c.root_frame.new.s in
    let f = frame_at v c.in_ok-frame-in-Some.frame.0 in
    let found = row_found T c.args.class.0 c.in-Some.place c.in-Some.ensures in
    subst (Gives (instances_in c.instances_from.new.s) c.instances_from.result)
    (ap (λ (t : Table). instances_made t c.in-Some.place f) (table_later c.args.s.now v c.in_ok-frame-in-Some.ensures.grows)
    ∙ made_of_row T c.args.class.0 found.0 c.in-Some.place f found.1 found.2 (c.in_ok-frame-in-Some.ensures.is found.0 found.1))
    c.instances_from.ensures.value

pub returns-in-None-clause-value : goal.returns-in-None-clause-value
returns-in-None-clause-value c =
    none_made (table_in c.args.s.now) c.args.class.0 c.in-None.ensures ∙ ap (λ (xs : List InstanceAt). Ok (instances_in c.args.s.now xs)) (sym c.new.ensures)

pub returns-in_ok-frame-in-Some-clause-grows : goal.returns-in_ok-frame-in-Some-clause-grows
returns-in_ok-frame-in-Some-clause-grows c = grows_trans _ _ _ c.in_ok-frame-in-Some.ensures.grows c.instances_from.ensures.grows

pub returns-in-None-clause-grows : goal.returns-in-None-clause-grows
returns-in-None-clause-grows c = grows_refl _
