-- An element with `redeclare` is put.
use Rattle.std.proofs.Common.{[], ◌∷◌, ◌++◌, map, ap, ◌∙◌}
use Rattle.std.proofs.lemmas.Result.{IfOk-weaker}
use Rattle.mo_scope.specs.Arguments.{asked_element}
use Rattle.mo_scope.specs.Parts.{declared_in}
use Rattle.mo_scope.specs.Sights.{declares_seen, source_seen}
use Rattle.mo_scope.specs.Worlds.{source_in, table_in}
use Rattle.mo_mods.specs.PathSights.{asked_seen}
use Rattle.mo_syntax.specs.declared.class.Element.{Element}
use Rattle.mo_scope.proofs.Sayings.{pushed_more}
use Rattle.mo_mods.proofs.asked.put_item.Goals as goal

pub returns-in-Some : goal.returns-in-Some
returns-in-Some c =
    IfOk-weaker c.pushed.result _ _
    (λ _ value frames.
    let S = source_in frames (source_seen c.args.source.now) in
    pushed_more asked_seen c.asked_declares.result (asked_element S (declares_seen c.declared-declares.result)) c.args.made.now c.pushed.new.list
    (IfOk-weaker c.asked_declares.result _ _ (λ _ is. is frames) c.asked_declares.ensures) value
    ∙ ap (λ declares. map asked_seen c.args.made.now ++ asked_element S declares ∷ []) c.declared-declares.ensures.is
    ∙ ap (λ elements. map asked_seen c.args.made.now ++ map (λ (element : Element). asked_element S (declared_in (table_in c.args.scopes.now) element)) elements) c.in-Some.ensures)
    c.pushed.ensures.value
