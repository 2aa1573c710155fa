-- A class, an outer component, and what the condition of another one says.
use Rattle.std.proofs.Common.{Bool, Ok, ap, false, subst, sym, ◌∙◌}
use Rattle.std.proofs.lemmas.Result.{err_from_is_err_and}
use Rattle.mo_scope.specs.Outcome.{Gives}
use Rattle.mo_scope.specs.Redeclarations.{Checked}
use Rattle.mo_scope.specs.Worlds.{frames_of, table_in}
use Rattle.mo_names.specs.Sights.{member_of}
use Rattle.mo_eval.specs.Values.{most_references, there_of}
use Rattle.mo_instance.specs.Outer.{outer_checked}
use Rattle.mo_instance.proofs.Asking.{entered_class, entered_outer, entered_there, gives_value}
use Rattle.mo_instance.proofs.Lists.{broken_on}
use Rattle.mo_syntax.specs.Outcome.{and_then}
use Rattle.mo_names.proofs.Later.{grows_refl}
use Rattle.mo_instance.proofs.component.is_entered.Goals as goal

pub returns-then-is_class-clause-value : goal.returns-then-is_class-clause-value
returns-then-is_class-clause-value c = entered_class (table_in c.args.s.now) (member_of (frames_of c.args.s.now) c.args.member.now) (sym c.is_class.ensures ∙ c.if-is_class.true)

pub returns-in_err-outer_checked-clause-value : goal.returns-in_err-outer_checked-clause-value
returns-in_err-outer_checked-clause-value c =
    let p = err_from_is_err_and c.from_residual.result c.from_residual.ensures.1 in
    let T = table_in c.args.s.now in
    let m = member_of (frames_of c.args.s.now) c.args.member.now in
    rw (p.1, p.2) (broken_on {T = Unit {0}} {U = Bool} (λ _. tt) (λ is. is) c.in_err-outer_checked.field-0.0 (outer_checked T m) (λ _. Ok false) _ c.in_err-outer_checked.ensures.value
    (entered_outer T m (sym c.is_class.ensures ∙ c.if-is_class.false) c.if-outer.true))

pub returns-then-outer-clause-value : goal.returns-then-outer-clause-value
returns-then-outer-clause-value c =
    let T = table_in c.args.s.now in
    let m = member_of (frames_of c.args.s.now) c.args.member.now in
    sym (entered_outer T m (sym c.is_class.ensures ∙ c.if-is_class.false) c.if-outer.true)
    ∙ ap (λ (o : Checked). and_then {B = Bool} o (λ _. Ok false)) c.in_ok-outer_checked.ensures.value

pub returns-clause-value : goal.returns-clause-value
returns-clause-value c =
    let T = table_in c.args.s.now in
    let m = member_of (frames_of c.args.s.now) c.args.member.now in
    subst (Gives {T = Bool} {A = Bool} (λ is. is) c.is_there.result)
    (entered_there T m (sym c.is_class.ensures ∙ c.if-is_class.false) c.if-outer.false)
    (gives_value c.is_there.result (there_of T most_references m) c.is_there.ensures.exact)

pub returns-then-is_class-clause-grows : goal.returns-then-is_class-clause-grows
returns-then-is_class-clause-grows c = grows_refl _
