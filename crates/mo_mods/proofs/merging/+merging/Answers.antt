-- The tables of elements, one after another, and a table of its parts.
use Rattle.std.proofs.Common.{List, map, ap, ◌∙◌, subst}
use Rattle.std.proofs.lemmas.Result.{IfOk-weaker}
use Rattle.mo_scope.specs.Worlds.{table_in}
use Rattle.mo_mods.specs.declared.left.Left.{Left as LeftAt}
use Rattle.mo_mods.specs.declared.left.Said.{Said as SaidAt}
use Rattle.mo_mods.specs.Left.{IsElementOf, all_say, anew_first, value_left}
use Rattle.mo_mods.specs.Merged.{table_for}
use Rattle.mo_mods.specs.Sights.{below_seen, left_in, said_in}
use Rattle.mo_mods.proofs.Elements.{element_is, made_first, made_more, made_all, nothing_left, put_tables}
use Rattle.mo_mods.proofs.merging.+merging.Goals as goal

pub element-returns : goal.element-returns
element-returns t c =
    IfOk-weaker c.table_of.result _ _
    (λ made parts frames.
    let T = table_in c.args.scopes.now in
    let lefts = ap (λ (lefts : List LeftAt). map (left_in frames) lefts) c.as_slice-2.ensures ∙ c.in_ok-lefts.ensures frames in
    element_is T frames made (map (said_in frames) c.args.said) c.value_left.result c.anew_first-redeclared.result c.elements-below.result parts
    (IfOk-weaker c.value_left.result _ _ (λ _ is. is frames ∙ ap value_left (ap (λ (lefts : List LeftAt). map (left_in frames) lefts) c.as_slice-3.ensures ∙ c.in_ok-lefts.ensures frames)) c.value_left.ensures)
    (IfOk-weaker c.anew_first-redeclared.result _ _ (λ _ is. is frames ∙ ap (λ (said : List SaidAt). anew_first (map (said_in frames) said)) c.as_slice.ensures) c.anew_first-redeclared.ensures)
    (IfOk-weaker c.elements-below.result _ _ (λ made is name. subst (λ lefts. IsElementOf T (table_for name (below_seen frames made.entries)) (all_say T name lefts)) lefts (is frames name)) c.elements-below.ensures))
    c.table_of.ensures

pub elements-loop-name-init : goal.elements-loop-name-init
elements-loop-name-init t c = λ frames name. made_first (table_in c.args.scopes.now) frames c.in_ok-left.left c.new-made.result name c.new-made.ensures.empty

pub elements-loop-name-preserved : goal.elements-loop-name-preserved
elements-loop-name-preserved t c = λ frames name.
    let put = c.in_ok-put_under.ensures in
    let is = rw put.is at c.element.ensures in
    made_more (table_in c.args.scopes.now) frames c.in_ok-left.left c.loop-name.left c.pop_first.new.self c.loop-name.made c.put_under.new.made c.in-Some.name c.in-Some.said put.value
    c.in-Some.ensures.value c.in-Some.ensures.updates (is frames) (put_tables frames c.in-Some.name.now c.loop-name.made c.put_under.new.made put.value put.updates) name (c.loop-name.invariant frames name)

pub elements-returns : goal.elements-returns
elements-returns t c = λ frames name.
    let T = table_in c.args.scopes.now in
    subst (IsElementOf T (table_for name (below_seen frames c.loop-name.made.entries))) (c.in_ok-left.ensures frames name)
    (made_all T frames c.in_ok-left.left c.loop-name.left c.loop-name.made name (nothing_left c.loop-name.left.entries c.in_default.ensures.variant.1)
    (c.loop-name.invariant frames name))
