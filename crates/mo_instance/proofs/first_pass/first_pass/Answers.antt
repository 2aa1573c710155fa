-- The first rule of the sources that are left.
use Rattle.std.proofs.Common.{◌≡◌, ◌≤◌, ◌-◌, take, Option, List, ap, drop, length, map, subst, sym, ◌∙◌}
use Rattle.std.specs.Prelude.{option_copied}
use Rattle.std.proofs.lemmas.List.{drop_all}
use Rattle.mo_syntax.specs.declared.place.Broken.{Broken}
use Rattle.mo_scope.specs.declared.source.Source.{Source as SourceAt}
use Rattle.mo_scope.specs.Frames.{sources_of}
use Rattle.mo_scope.specs.Outcome.{unless_broken}
use Rattle.mo_scope.specs.Sights.{source_seen}
use Rattle.mo_scope.specs.Worlds.{frame_at, frames_of, source_in, sources_in, table_in}
use Rattle.mo_names.specs.Sights.{walk_seen}
use Rattle.mo_instance.specs.steps.FirstPass.{broken_source, is_replaced_by}
use Rattle.mo_instance.specs.Passes.{first_of_all, first_pass}
use Rattle.mo_instance.specs.steps.Walks.{walk_or_none}
use Rattle.mo_instance.proofs.Lists.{dropped_map, length_mapped, rest_taken}
use Rattle.mo_instance.proofs.Passing.{sources_are}
use Rattle.mo_instance.proofs.first_pass.first_pass.Goals as goal

pub returns-then-passed-sources : goal.returns-then-passed-sources
returns-then-passed-sources c =
    let F = frames_of c.args.s.now in
    let f = frame_at c.args.s.now c.args.frame.0 in
    let R = is_replaced_by (walk_or_none F (option_copied c.args.replaced)) in
    let xs = c.as_slice-sources.result.now in
    let counted : length xs ≡ length (sources_of f)
    = sym (length_mapped (source_in F) (map source_seen xs) ∙ length_mapped source_seen xs) ∙ ap (λ (ys : List SourceAt). length (sources_in F (map source_seen ys))) c.as_slice-sources.ensures ∙ ap length c.sources.ensures.is in
    ap (first_pass (table_in c.args.s.now) f R (walk_seen F c.args.walk.now)) (drop_all c.args.passed (sources_of f) (subst (λ n. n ≤ c.args.passed) counted c.if-passed-sources.true))

pub returns-in-Some : goal.returns-in-Some
returns-in-Some c =
    let F = frames_of c.args.s.now in
    let T = table_in c.args.s.now in
    let f = frame_at c.args.s.now c.args.frame.0 in
    let R = is_replaced_by (walk_or_none F (option_copied c.args.replaced)) in
    let W = walk_seen F c.args.walk.now in
    let xs = c.as_slice-sources.result.now in
    let same : drop c.args.passed (sources_of f) ≡ sources_in F (map source_seen (take (length xs - c.args.passed) (drop c.args.passed xs)))
    = ap (drop c.args.passed) (sym c.sources.ensures.is ∙ ap (λ (ys : List SourceAt). sources_in F (map source_seen ys)) (sym c.as_slice-sources.ensures))
    ∙ sym (ap (λ (ys : List SourceAt). sources_in F (map source_seen ys)) (rest_taken c.args.passed xs)
    ∙ ap (sources_in F) (dropped_map source_seen c.args.passed xs) ∙ dropped_map (source_in F) c.args.passed (map source_seen xs)) in
    ap (λ (o : Option Broken). unless_broken o tt)
    (sym (sources_are T f R W (drop c.args.passed (sources_of f))) ∙ ap (first_of_all (broken_source T f R W)) same ∙ sym c.in_ok-found.ensures ∙ c.in-Some.is)

pub returns-in-None : goal.returns-in-None
returns-in-None c =
    let F = frames_of c.args.s.now in
    let T = table_in c.args.s.now in
    let f = frame_at c.args.s.now c.args.frame.0 in
    let R = is_replaced_by (walk_or_none F (option_copied c.args.replaced)) in
    let W = walk_seen F c.args.walk.now in
    let xs = c.as_slice-sources.result.now in
    let same : drop c.args.passed (sources_of f) ≡ sources_in F (map source_seen (take (length xs - c.args.passed) (drop c.args.passed xs)))
    = ap (drop c.args.passed) (sym c.sources.ensures.is ∙ ap (λ (ys : List SourceAt). sources_in F (map source_seen ys)) (sym c.as_slice-sources.ensures))
    ∙ sym (ap (λ (ys : List SourceAt). sources_in F (map source_seen ys)) (rest_taken c.args.passed xs)
    ∙ ap (sources_in F) (dropped_map source_seen c.args.passed xs) ∙ dropped_map (source_in F) c.args.passed (map source_seen xs)) in
    ap (λ (o : Option Broken). unless_broken o tt)
    (sym (sources_are T f R W (drop c.args.passed (sources_of f))) ∙ ap (first_of_all (broken_source T f R W)) same ∙ sym c.in_ok-found.ensures ∙ c.in-None.is)
