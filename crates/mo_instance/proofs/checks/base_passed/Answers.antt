-- The checks of the base.
use Rattle.std.proofs.Common.{ap, drop, length, map, sym, ◌∙◌}
use Rattle.std.proofs.lemmas.Result.{err_from_is_err_and}
use Rattle.mo_scope.specs.Frames.{sources_of}
use Rattle.mo_scope.specs.Lookup.{Walked}
use Rattle.mo_scope.specs.Redeclarations.{fine}
use Rattle.mo_scope.specs.Sights.{source_seen}
use Rattle.mo_scope.specs.Worlds.{frame_at, frames_of, source_in, table_in}
use Rattle.mo_names.specs.Sights.{walk_seen}
use Rattle.mo_instance.specs.Checks.{frame_passed}
use Rattle.mo_instance.specs.Passes.{inherits}
use Rattle.mo_instance.proofs.Checking.{base_before}
use Rattle.mo_instance.proofs.Lists.{broken_on, length_mapped}
use Rattle.mo_syntax.specs.Outcome.{Outcome, and_then}
use Rattle.mo_names.proofs.Later.{grows_refl}
use Rattle.mo_instance.proofs.checks.base_passed.Goals as goal

pub returns-in_err-frame_passed-clause-value : goal.returns-in_err-frame_passed-clause-value
returns-in_err-frame_passed-clause-value c =
    let p = err_from_is_err_and c.from_residual.result c.from_residual.ensures.1 in
    let u = c.args.s.now in
    let walked = walk_seen (frames_of u) c.args.walk.now in
    let counted = c.len-passed.ensures ∙ sym (length_mapped (source_in (frames_of u)) (map source_seen c.sources.result.now) ∙ length_mapped source_seen c.sources.result.now) ∙ ap length c.sources.ensures.is in
    rw (p.1, p.2) (broken_on {U = Unit {0}} (walk_seen (frames_of c.frame_passed.new.s)) (λ _. tt) c.in_err-frame_passed.field-0.0
    (frame_passed (table_in u) (inherits walked) (drop c.len-passed.result (sources_of (frame_at u c.args.base.0))) (frame_at u c.args.base.0)) (λ _. fine) _
    c.in_err-frame_passed.ensures.value
    (base_before u u c.args.frame.0 c.args.base.0 walked c.len-passed.result (grows_refl u) c.requires.frame c.requires.base c.requires.elements counted))

pub returns-clause-value : goal.returns-clause-value
returns-clause-value c =
    let u = c.args.s.now in
    let walked = walk_seen (frames_of u) c.args.walk.now in
    let counted = c.len-passed.ensures ∙ sym (length_mapped (source_in (frames_of u)) (map source_seen c.sources.result.now) ∙ length_mapped source_seen c.sources.result.now) ∙ ap length c.sources.ensures.is in
    sym (base_before u u c.args.frame.0 c.args.base.0 walked c.len-passed.result (grows_refl u) c.requires.frame c.requires.base c.requires.elements counted)
    ∙ ap (λ (o : Outcome Walked). and_then o (λ _. fine)) c.in_ok-frame_passed.ensures.value
