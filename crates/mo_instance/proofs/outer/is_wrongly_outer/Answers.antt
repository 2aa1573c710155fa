-- One thing after another that it may not have.
use Rattle.std.proofs.Common.{◌≡◌, Bool, true, false, ap, sym, ◌∙◌}
use Rattle.std.specs.Prelude.{◌||◌}
use Rattle.std.proofs.lemmas.Result.{IfOk-weaker}
use Rattle.mo_scope.specs.Compatible.{prefix_of}
use Rattle.mo_scope.specs.Worlds.{frames_of, table_in}
use Rattle.mo_names.specs.Sights.{member_of}
use Rattle.mo_instance.specs.Outer.{is_left_out_prefix}
use Rattle.mo_instance.specs.steps.Outer.{declared_wrongly, is_spoken_of}
use Rattle.mo_instance.proofs.outer.is_wrongly_outer.Goals as goal

pub returns-then-is_declared_wrongly : goal.returns-then-is_declared_wrongly
returns-then-is_declared_wrongly c =
    let T = table_in c.args.s.now in
    let F = frames_of c.args.s.now in
    let m = member_of F c.args.member.now in
    let declared : true ≡ declared_wrongly m = sym c.if-is_declared_wrongly.true ∙ c.is_declared_wrongly.ensures F in
    ap (λ (b : Bool). b || is_left_out_prefix (prefix_of T m) || is_spoken_of T m) declared

pub returns-then-is_left_out : goal.returns-then-is_left_out
returns-then-is_left_out c =
    let T = table_in c.args.s.now in
    let F = frames_of c.args.s.now in
    let m = member_of F c.args.member.now in
    let declared : false ≡ declared_wrongly m = sym c.if-is_declared_wrongly.false ∙ c.is_declared_wrongly.ensures F in
    let left : true ≡ is_left_out_prefix (prefix_of T m) = sym c.if-is_left_out.true ∙ c.is_left_out.ensures ∙ ap is_left_out_prefix c.in_ok-prefix.ensures in
    ap (λ (b : Bool). b || is_spoken_of T m) left ∙ ap (λ (b : Bool). b || is_left_out_prefix (prefix_of T m) || is_spoken_of T m) declared

pub returns : goal.returns
returns c =
    let T = table_in c.args.s.now in
    let F = frames_of c.args.s.now in
    let m = member_of F c.args.member.now in
    let declared : false ≡ declared_wrongly m = sym c.if-is_declared_wrongly.false ∙ c.is_declared_wrongly.ensures F in
    let left : false ≡ is_left_out_prefix (prefix_of T m) = sym c.if-is_left_out.false ∙ c.is_left_out.ensures ∙ ap is_left_out_prefix c.in_ok-prefix.ensures in
    IfOk-weaker c.is_modified.result _ _
    (λ is same. same ∙ ap (λ (b : Bool). b || is_spoken_of T m) left ∙ ap (λ (b : Bool). b || is_left_out_prefix (prefix_of T m) || is_spoken_of T m) declared)
    c.is_modified.ensures
