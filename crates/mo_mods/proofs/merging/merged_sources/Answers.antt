-- The table stands for the sources of which it is merged.
use Rattle.std.proofs.Common.{List, map, ap, refl, sym, ◌∙◌}
use Rattle.std.specs.Prelude.{IfOk}
use Rattle.std.proofs.lemmas.Result.{IfOk-weaker}
use Rattle.mo_scope.specs.Sights.{source_seen}
use Rattle.mo_scope.specs.Worlds.{table_in}
use Rattle.mo_mods.specs.declared.left.Left.{Left as LeftAt}
use Rattle.mo_mods.specs.Calls.{StandsForSources}
use Rattle.mo_mods.specs.Left.{value_left}
use Rattle.mo_mods.specs.Sights.{left_in}
use Rattle.mo_mods.proofs.Elements.{merged_stands}
use Rattle.mo_mods.proofs.Existing.{sources_exist}
use Rattle.mo_mods.proofs.merging.merged_sources.Goals as goal

pub returns : goal.returns
returns c =
    let T = table_in c.args.scopes.now in
    let stands : IfOk c.table_of.result (StandsForSources T c.args.sources.now) =
    IfOk-weaker c.table_of.result _ _
    (λ made parts frames.
    merged_stands T frames made (map (left_in frames) c.as_slice.result.now) c.args.sources.now c.value_left.result _ c.elements-below.result parts
    (ap (λ (lefts : List LeftAt). map (left_in frames) lefts) c.as_slice.ensures ∙ c.in_ok-lefts.ensures frames)
    (IfOk-weaker c.value_left.result _ _ (λ _ is. is frames ∙ ap (λ (lefts : List LeftAt). value_left (map (left_in frames) lefts)) (c.as_slice-2.ensures ∙ sym c.as_slice.ensures)) c.value_left.ensures) refl
    (IfOk-weaker c.elements-below.result _ _ (λ _ is. is frames) c.elements-below.ensures))
    c.table_of.ensures in
    record {
      stands = stands;
      exist = IfOk-weaker c.table_of.result _ _ (λ made is world. sources_exist world T made (map source_seen c.args.sources.now) is) stands;
    }
