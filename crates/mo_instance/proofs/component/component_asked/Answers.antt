-- Its class, its dimensions, and what holds below it.
use Rattle.std.proofs.Common.{ℕ, List, Ok, ap, ◌∙◌}
use Rattle.std.proofs.lemmas.Result.{err_from_is_err_and}
use Rattle.mo_syntax.specs.Outcome.{Outcome, and_then}
use Rattle.mo_syntax.specs.declared.meaning.FrameId.{FrameId}
use Rattle.mo_scope.specs.Worlds.{frame_at, frames_of, table_in}
use Rattle.mo_names.specs.Sights.{member_of}
use Rattle.mo_names.proofs.Later.{grows_trans}
use Rattle.mo_typing.specs.Dims.{Dims}
use Rattle.mo_eval.proofs.Grown.{kept_still}
use Rattle.mo_eval.specs.Values.{most_references, component_dims}
use Rattle.mo_instance.specs.declared.prefixes.Around.{Around as AroundAt}
use Rattle.mo_instance.specs.Elements.{Around, around_parts}
use Rattle.mo_instance.specs.steps.Sights.{around_seen}
use Rattle.mo_instance.specs.steps.Instances.{component_class}
use Rattle.mo_instance.proofs.Asking.{answered, asked_is, behind_class, breaks_value, class_asked, dims_before}
use Rattle.mo_instance.proofs.Lists.{broken_on}
use Rattle.mo_instance.proofs.component.component_asked.Goals as goal

pub returns-in_err-class-clause-value : goal.returns-in_err-class-clause-value
returns-in_err-class-clause-value c =
    let p = err_from_is_err_and c.from_residual.result c.from_residual.ensures.1 in
    let T = table_in c.args.s.now in
    let A = around_seen c.args.around.now in
    let m = member_of (frames_of c.args.s.now) c.args.member.now in
    rw (p.1, p.2) (broken_on (λ (class : FrameId). frame_at c.component_class.new.s class.0) (λ (asked : AroundAt × List ℕ). (around_seen asked.0, asked.1)) c.in_err-class.field-0.0 (component_class T m) (behind_class T A m) _
    c.in_err-class.ensures.value (asked_is T A m))

pub returns-in_err-dims-clause-value : goal.returns-in_err-dims-clause-value
returns-in_err-dims-clause-value c =
    let p = err_from_is_err_and c.from_residual-in_err-dims.result c.from_residual-in_err-dims.ensures.1 in
    let u = c.args.s.now in
    let v = c.component_class.new.s in
    let T = table_in u in
    let A = around_seen c.args.around.now in
    let m = member_of (frames_of u) c.args.member.now in
    let class = frame_at v c.in_ok-class.class.0 in
    rw (p.1, p.2) (breaks_value (λ (asked : AroundAt × List ℕ). (around_seen asked.0, asked.1)) c.in_err-dims.field-0.0 (component_dims (table_in v) most_references (member_of (frames_of v) c.args.member.now))
    (λ dims. Ok (around_parts T A m class, dims)) _ c.in_err-dims.ensures.exact
    (ap (λ (o : Outcome Dims). and_then {A = Dims} {B = Around × Dims} o (λ dims. Ok (around_parts T A m class, dims))) (dims_before u v c.args.member.now c.in_ok-class.ensures.grows c.requires.member)
    ∙ class_asked T A m class c.in_ok-class.ensures.value))

pub returns-clause-value : goal.returns-clause-value
returns-clause-value c =
    answered c.args.s.now c.component_class.new.s c.dims.new.s (around_seen c.args.around.now) (around_seen c.in_ok-below.below) c.args.member.now c.in_ok-class.class.0 c.in_ok-dims.dims
    c.in_ok-class.ensures.grows c.in_ok-dims.ensures.grows c.requires.member c.in_ok-class.ensures.stand c.in_ok-class.ensures.value c.in_ok-dims.ensures.exact c.in_ok-below.ensures.value

pub returns-clause-kept : goal.returns-clause-kept
returns-clause-kept c = kept_still c.dims.new.s c.around_parts.new.s c.in_ok-below.ensures.grows c.dims.new.self c.in_ok-dims.ensures.kept

pub returns-in_err-class-clause-grows : goal.returns-in_err-class-clause-grows
returns-in_err-class-clause-grows c = c.in_err-class.ensures.grows

pub returns-in_err-dims-clause-grows : goal.returns-in_err-dims-clause-grows
returns-in_err-dims-clause-grows c = grows_trans c.args.s.now c.component_class.new.s c.dims.new.s c.in_ok-class.ensures.grows c.in_err-dims.ensures.grows

pub returns-in_err-below-clause-grows : goal.returns-in_err-below-clause-grows
returns-in_err-below-clause-grows c = grows_trans c.args.s.now c.dims.new.s c.around_parts.new.s (grows_trans c.args.s.now c.component_class.new.s c.dims.new.s c.in_ok-class.ensures.grows c.in_ok-dims.ensures.grows) c.in_err-below.ensures.grows

pub returns-clause-grows : goal.returns-clause-grows
returns-clause-grows c = grows_trans c.args.s.now c.dims.new.s c.around_parts.new.s (grows_trans c.args.s.now c.component_class.new.s c.dims.new.s c.in_ok-class.ensures.grows c.in_ok-dims.ensures.grows) c.in_ok-below.ensures.grows
