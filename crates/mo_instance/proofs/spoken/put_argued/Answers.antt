-- What is left of the argument, then the list behind its names.
use Rattle.std.proofs.Common.{◌++◌, List, flat_map, map, ap, ◌∙◌, append_assoc}
use Rattle.std.proofs.lemmas.Result.{on_ok_weaker}
use Rattle.mo_syntax.specs.declared.class.ArgumentOf.{ArgumentOf}
use Rattle.mo_syntax.specs.declared.class.Give.{Give}
use Rattle.mo_scope.specs.Sights.{source_seen}
use Rattle.mo_scope.specs.Spoken.{spoken_argument, spoken_rest}
use Rattle.mo_scope.specs.Worlds.{source_in, table_in}
use Rattle.mo_instance.specs.steps.Speeches.{Speech, speech_of, speech_seen}
use Rattle.mo_instance.proofs.spoken.put_argued.Goals as goal

pub returns : goal.returns
returns c =
    on_ok_weaker c.put_list.result
    (λ is frames.
    let S = source_in frames (source_seen c.args.source.now) in
    let rest = map speech_of (spoken_rest (table_in c.args.scopes.now) S c.args.argument.now c.args.passed) in
    let says = λ (one : ArgumentOf Give). map speech_of (spoken_argument (table_in c.args.scopes.now) S one) in
    is frames ∙ ap (λ (old : List Speech). old ++ flat_map says c.nested_list.result.now) (c.in_ok-put_rest.ensures frames)
    ∙ append_assoc (map speech_seen c.args.made.now) rest (flat_map says c.nested_list.result.now)
    ∙ ap (λ (list : List (ArgumentOf Give)). map speech_seen c.args.made.now ++ (rest ++ flat_map says list)) c.nested_list.ensures)
    c.put_list.ensures
