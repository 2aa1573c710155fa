-- One saying further.
use Rattle.std.proofs.Common.{ℕ, ◌+◌, ◌<◌, ◌≤◌, ◌++◌, ◌∷◌, [], true, false, List, Option, drop, flat_map, ap, sym, subst, ◌∙◌, arith, append_assoc}
use Rattle.std.specs.Prelude.{option_map}
use Rattle.mo_syntax.specs.declared.class.ArgumentOf.{ArgumentOf}
use Rattle.mo_syntax.specs.declared.class.Element.{Element}
use Rattle.mo_syntax.specs.declared.class.Give.{Give, out-Give}
use Rattle.mo_syntax.specs.declared.class.Give.TheVariants.{outs-Modify}
use Rattle.mo_syntax.specs.declared.class.Item.{Item}
use Rattle.mo_scope.specs.declared.source.Picked.{Picked as PickedAt}
use Rattle.mo_scope.specs.Frames.{Listed, Scope}
use Rattle.mo_scope.specs.Parts.{Saying, declared_in, said_by_argument, said_by_element, said_further, said_in_list}
use Rattle.mo_scope.specs.steps.Picks.{View, name_at, or_else, picked_said}
use Rattle.mo_scope.specs.Rows.{number_of_element, replacing_in}
use Rattle.mo_scope.specs.Sights.{given_seen, modifiers_seen, picked_in}
use Rattle.mo_scope.proofs.PathPicking.{anew, brings, brings_same, by_given, found_here, found_nowhere, is_none, kept_less, kept_set, listed, modifies, passed_here, said_argued, said_left, said_list}
use Rattle.mo_scope.specs.Worlds.{scope_in}
use Rattle.mo_scope.proofs.Sayings.{flat_map_flat_map}
use Rattle.mo_scope.proofs.pick_path.+pick.Goals as goal

pub pick_in_list-returns-in-Some-clause-is : goal.pick_in_list-returns-in-Some-clause-is
pick_in_list-returns-in-Some-clause-is t c = λ frames table source more seen.
    let says = said_by_argument table source (name_at c.args.names.now c.args.at) [] in
    let rest = drop (c.args.at + 1) c.args.names.now in
    found_here says table c.args.list.now rest c.loop-argument.argument-index c.argument-item.result c.loop-argument-test.true c.argument-item.is
    (drop c.args.at c.loop-argument.wins) (drop c.args.at c.pick_by_argument.new.wins) more _ _
    (λ others. ap (λ (r : Option PickedAt). or_else (option_map (picked_in frames) r) (picked_said table (drop c.args.at c.pick_by_argument.new.wins) others rest)) (sym c.in-Some.is)
    ∙ c.pick_by_argument.ensures.is frames table source others seen)
    (c.loop-argument.invariant.is frames table source more seen)

pub pick_in_list-loop-argument-preserved : goal.pick_in_list-loop-argument-preserved
pick_in_list-loop-argument-preserved t c = record {
  is = λ frames table source more seen.
      let says = said_by_argument table source (name_at c.args.names.now c.args.at) [] in
      let rest = drop (c.args.at + 1) c.args.names.now in
      passed_here says table c.args.list.now rest c.loop-argument.argument-index c.argument-item.result c.loop-argument-test.true c.argument-item.is
      (drop c.args.at c.loop-argument.wins) (drop c.args.at c.pick_by_argument.new.wins) more _
      (λ others. ap (λ (r : Option PickedAt). or_else (option_map (picked_in frames) r) (picked_said table (drop c.args.at c.pick_by_argument.new.wins) others rest)) (is_none c.pick_by_argument.result c.in_default.not-Some)
      ∙ c.pick_by_argument.ensures.is frames table source others seen)
      (c.loop-argument.invariant.is frames table source more seen);
  kept = c.pick_by_argument.ensures.kept ∙ c.loop-argument.invariant.kept;
  size = c.pick_by_argument.ensures.size ∙ c.loop-argument.invariant.size;
}

pub pick_in_list-returns-clause-is : goal.pick_in_list-returns-clause-is
pick_in_list-returns-clause-is t c = λ frames table source more seen.
    found_nowhere (said_by_argument table source (name_at c.args.names.now c.args.at) []) table c.args.list.now (drop (c.args.at + 1) c.args.names.now)
    c.loop-argument.argument-index c.loop-argument-test.false (drop c.args.at c.loop-argument.wins) more _ (c.loop-argument.invariant.is frames table source more seen)

pub pick_in_view-returns-clause-is : goal.pick_in_view-returns-clause-is
pick_in_view-returns-clause-is t c = λ frames table source more seen.
    by_given table (drop c.args.at c.args.wins.now) (drop c.args.at c.pick_in_given.new.wins) source more c.args.names.now c.args.at (option_map (picked_in frames) c.pick_in_given.result) (omega (arith, c.if-at-names.false))
    (λ others. c.pick_in_given.ensures.is frames table source others seen)

pub pick_in_given-returns-in_default-clause-is : goal.pick_in_given-returns-in_default-clause-is
pick_in_given-returns-in_default-clause-is t c = λ frames table source more seen.
    let name = name_at c.args.names.now c.args.at in
    let rest = drop (c.args.at + 1) c.args.names.now in
    let others = said_in_list table source name [] c.nested_list.result.now ++ more in
    let further = said_further table source name [] c.in-Argued.argument.now c.in-Argued.passed in
    c.pick_in_list-in-Argued.ensures.is frames table source more seen
    ∙ ap (λ (r : Option PickedAt). or_else (option_map (picked_in frames) r) (picked_said table (drop c.args.at c.pick_further.new.wins) others rest)) (is_none c.pick_further.result c.in_default.not-Some)
    ∙ c.pick_further.ensures.is frames table source others seen
    ∙ ap (λ (s : List Saying). picked_said table (drop c.args.at c.args.wins.now) s rest)
    (sym (ap (λ (s : List Saying). s ++ more)
    (said_argued table name source c.in-Argued.argument.now c.in-Argued.passed (ap (λ (v : View). v.given) seen ∙ ap given_seen c.in-Argued.is)
    ∙ ap (λ (list : List (ArgumentOf Give)). further ++ said_in_list table source name [] list) (sym c.nested_list.ensures))
    ∙ append_assoc further (said_in_list table source name [] c.nested_list.result.now) more))

pub pick_anew-returns-clause-is : goal.pick_anew-returns-clause-is
pick_anew-returns-clause-is t c = λ frames table redeclaration more declares scope pending.
    let rest = drop (c.args.at + 1) c.args.names.now in
    anew table c.args.wins.now c.pick_in_view.new.wins c.args.at redeclaration (modifiers_seen c.brought-modifiers.result) more rest (option_map (picked_in frames) c.pick_in_view.result)
    (omega (arith, c.requires.path, c.requires.wins))
    (c.brought-modifiers.ensures
    ∙ ap (brings _) c.declared_by-declares.ensures
    ∙ brings_same _ c.args.element.now 0 (number_of_element table c.args.element.now)
    ∙ ap (brings _) (sym declares))
    (sym c.is_nothing.ensures ∙ c.if-is_nothing.false) c.pick_in_view.ensures.kept
    (λ others. c.pick_in_view.ensures.is frames table (listed redeclaration (modifiers_seen c.brought-modifiers.result)) others
    (ap (λ (s : Scope). record { given = Listed (modifiers_seen c.brought-modifiers.result); pending = redeclaration.source.piece.pending; scope = s }) scope
    ∙ ap (λ (p : List ℕ). record { given = Listed (modifiers_seen c.brought-modifiers.result); pending = p; scope = scope_in frames c.args.behind.now.scope.now.frame.0 c.args.behind.now.scope.now.iters }) pending))

pub pick_anew-returns-clause-kept : goal.pick_anew-returns-clause-kept
pick_anew-returns-clause-kept t c = kept_set c.args.wins.now c.pick_in_view.new.wins c.args.at false c.pick_in_view.ensures.kept

pub pick_behind-returns-in-Modify-clause-kept : goal.pick_behind-returns-in-Modify-clause-kept
pick_behind-returns-in-Modify-clause-kept t c = kept_less c.pick_in_view-in-Modify.new.wins c.args.wins.now c.args.at c.pick_in_view-in-Modify.ensures.kept

pub pick_behind-returns-then-passed-len-clause-kept : goal.pick_behind-returns-then-passed-len-clause-kept
pick_behind-returns-then-passed-len-clause-kept t c = kept_less c.pick_in_view.new.wins c.args.wins.now c.args.at c.pick_in_view.ensures.kept

pub pick_behind-returns-then-passed-len-clause-is : goal.pick_behind-returns-then-passed-len-clause-is
pick_behind-returns-then-passed-len-clause-is t c = λ frames table source more seen.
    let rest = drop (c.args.at + 1) c.args.names.now in
    modifies table c.args.wins.now c.pick_in_view.new.wins c.args.at source more rest (option_map (picked_in frames) c.pick_in_view.result) (omega (arith, c.requires.path, c.requires.wins)) c.pick_in_view.ensures.kept
    (λ others. c.pick_in_view.ensures.is frames table source others seen)
    ∙ ap (λ (s : Saying). picked_said table (drop c.args.at c.args.wins.now) (s ∷ more) rest)
    (sym (said_left table c.args.argument.now c.args.passed source (subst (λ n. c.args.passed < n) c.len.ensures c.if-passed-len.true)))

pub pick_behind-returns-in-Modify-clause-is : goal.pick_behind-returns-in-Modify-clause-is
pick_behind-returns-in-Modify-clause-is t c = λ frames table source more seen.
    let rest = drop (c.args.at + 1) c.args.names.now in
    modifies table c.args.wins.now c.pick_in_view-in-Modify.new.wins c.args.at source more rest (option_map (picked_in frames) c.pick_in_view-in-Modify.result) (omega (arith, c.requires.path, c.requires.wins))
    c.pick_in_view-in-Modify.ensures.kept (λ others. c.pick_in_view-in-Modify.ensures.is frames table source others seen)
    ∙ ap (λ (s : Saying). picked_said table (drop c.args.at c.args.wins.now) (s ∷ more) rest)
    (sym (said_list table c.args.argument.now c.args.passed source _ _ (subst (λ n. n ≤ c.args.passed) c.len.ensures c.if-passed-len.false) (ap out-Give c.in-Modify.is ∙ outs-Modify _ _)))

pub pick_in_items-returns-in-Some-clause-is : goal.pick_in_items-returns-in-Some-clause-is
pick_in_items-returns-in-Some-clause-is t c = λ frames table source more seen.
    let name = name_at c.args.names.now c.args.at in
    let rest = drop (c.args.at + 1) c.args.names.now in
    let says = λ (element : Element). said_by_element table source name [] (declared_in table element) in
    found_here (λ (item : Item). flat_map says (replacing_in item)) table c.args.items.now rest c.loop-item.item-index c.item-item.result c.loop-item-test.true c.item-item.is
    (drop c.args.at c.loop-item.wins) (drop c.args.at c.pick_by_item.new.wins) more _ _
    (λ others. ap (λ (r : Option PickedAt). or_else (option_map (picked_in frames) r) (picked_said table (drop c.args.at c.pick_by_item.new.wins) others rest)) (sym c.in-Some.is)
    ∙ c.pick_by_item.ensures.is frames table source others seen)
    (c.loop-item.invariant.is frames table source more seen)
    ∙ ap (λ (s : List Saying). picked_said table (drop c.args.at c.args.wins.now) (s ++ more) rest) (sym (flat_map_flat_map says replacing_in c.args.items.now))

pub pick_in_items-loop-item-preserved : goal.pick_in_items-loop-item-preserved
pick_in_items-loop-item-preserved t c = record {
  is = λ frames table source more seen.
      let name = name_at c.args.names.now c.args.at in
      let rest = drop (c.args.at + 1) c.args.names.now in
      let says = λ (element : Element). said_by_element table source name [] (declared_in table element) in
      passed_here (λ (item : Item). flat_map says (replacing_in item)) table c.args.items.now rest c.loop-item.item-index c.item-item.result c.loop-item-test.true c.item-item.is
      (drop c.args.at c.loop-item.wins) (drop c.args.at c.pick_by_item.new.wins) more _
      (λ others. ap (λ (r : Option PickedAt). or_else (option_map (picked_in frames) r) (picked_said table (drop c.args.at c.pick_by_item.new.wins) others rest)) (is_none c.pick_by_item.result c.in_default.not-Some)
      ∙ c.pick_by_item.ensures.is frames table source others seen)
      (c.loop-item.invariant.is frames table source more seen);
  kept = c.pick_by_item.ensures.kept ∙ c.loop-item.invariant.kept;
  size = c.pick_by_item.ensures.size ∙ c.loop-item.invariant.size;
}

pub pick_in_items-returns-clause-is : goal.pick_in_items-returns-clause-is
pick_in_items-returns-clause-is t c = λ frames table source more seen.
    let name = name_at c.args.names.now c.args.at in
    let rest = drop (c.args.at + 1) c.args.names.now in
    let says = λ (element : Element). said_by_element table source name [] (declared_in table element) in
    found_nowhere (λ (item : Item). flat_map says (replacing_in item)) table c.args.items.now rest
    c.loop-item.item-index c.loop-item-test.false (drop c.args.at c.loop-item.wins) more _ (c.loop-item.invariant.is frames table source more seen)
    ∙ ap (λ (s : List Saying). picked_said table (drop c.args.at c.args.wins.now) (s ++ more) rest) (sym (flat_map_flat_map says replacing_in c.args.items.now))
