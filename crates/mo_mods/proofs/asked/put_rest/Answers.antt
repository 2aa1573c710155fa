-- What is left of the argument, then the list behind its names.
use Rattle.std.proofs.Common.{◌++◌, map, ap, ◌∙◌, append_assoc}
use Rattle.std.proofs.lemmas.Result.{on_ok_weaker}
use Rattle.mo_scope.specs.Arguments.{asked_argument, asked_rest}
use Rattle.mo_scope.specs.Parts.{names_left}
use Rattle.mo_scope.specs.Sights.{source_seen}
use Rattle.mo_scope.specs.Worlds.{source_in}
use Rattle.mo_mods.specs.PathSights.{asked_seen}
use Rattle.mo_mods.proofs.asked.put_rest.Goals as goal

pub returns : goal.returns
returns c =
    on_ok_weaker c.put_list.result
    (λ is frames.
    let S = source_in frames (source_seen c.args.source.now) in
    let rest = asked_rest S c.args.argument.now (names_left c.args.argument.now c.args.passed) in
    is frames ∙ ap (λ old. old ++ map (asked_argument S) c.nested_list.result.now) (c.in_ok-put_left.ensures frames)
    ∙ append_assoc (map asked_seen c.args.made.now) rest (map (asked_argument S) c.nested_list.result.now)
    ∙ ap (λ list. map asked_seen c.args.made.now ++ (rest ++ map (asked_argument S) list)) c.nested_list.ensures)
    c.put_list.ensures
