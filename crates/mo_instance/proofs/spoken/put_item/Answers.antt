-- An element with `redeclare` is put.
use Rattle.std.proofs.Common.{[], ◌∷◌, ◌++◌, List, flat_map, map, ap, ◌∙◌}
use Rattle.std.proofs.lemmas.Result.{IfOk-weaker}
use Rattle.mo_syntax.specs.declared.class.Element.{Element}
use Rattle.mo_scope.specs.Parts.{declared_in}
use Rattle.mo_scope.specs.Rows.{Declares}
use Rattle.mo_scope.specs.Sights.{declares_seen, source_seen}
use Rattle.mo_scope.specs.Spoken.{spoken_element}
use Rattle.mo_scope.specs.Worlds.{source_in, table_in}
use Rattle.mo_scope.proofs.Sayings.{pushed_more}
use Rattle.mo_instance.specs.steps.Speeches.{element_with, speech_of, speech_seen}
use Rattle.mo_instance.proofs.spoken.put_item.Goals as goal

pub returns-in-Some : goal.returns-in-Some
returns-in-Some c =
    IfOk-weaker c.pushed.result _ _
    (λ _ value frames.
    let T = table_in c.args.scopes.now in
    let S = source_in frames (source_seen c.args.source.now) in
    pushed_more speech_seen c.spoken_element.result (element_with (source_seen c.args.source.now) (declares_seen c.declared-declares.result)) c.args.made.now c.pushed.new.list c.spoken_element.ensures value
    ∙ ap (λ (declares : Declares). map speech_seen c.args.made.now ++ element_with (source_seen c.args.source.now) declares ∷ []) c.declared-declares.ensures.is
    ∙ ap (λ (elements : List Element). map speech_seen c.args.made.now ++ flat_map (λ (element : Element). map speech_of (spoken_element T S (declared_in T element))) elements) c.in-Some.ensures)
    c.pushed.ensures.value
