-- What a source holds says what it mentions.
use Rattle.std.proofs.Common.{◌++◌, flat_map, map, ap, sym, ◌∙◌}
use Rattle.std.proofs.lemmas.Result.{on_ok_weaker}
use Rattle.mo_scope.specs.declared.source.Given.{Given as GivenAt}
use Rattle.mo_scope.specs.Frames.{Argued}
use Rattle.mo_scope.specs.Mentions.{By_rest, if_of, mention_by, mentioned_by, mentions_held}
use Rattle.mo_scope.specs.Parts.{held}
use Rattle.mo_scope.specs.Rows.{replacing_in}
use Rattle.mo_scope.specs.Sights.{given_seen}
use Rattle.mo_scope.proofs.Mentioned.{by_arguments, by_elements}
use Rattle.mo_scope.proofs.mentions.Mentions.add_source.Goals as goal

pub returns-in-Listed : goal.returns-in-Listed
returns-in-Listed c = on_ok_weaker c.add_list.result
    (λ is other. is other
    ∙ ap (λ xs. mentions_held c.args.self.now other ++ xs)
    (by_arguments other c.args.number c.in-Listed.modifiers.list.now
    ∙ ap (λ (given : GivenAt). flat_map (if_of other) (map (mention_by c.args.number) (mentioned_by (given_seen given)))) (sym c.in-Listed.is)))
    c.add_list.ensures

pub returns-in-Argued : goal.returns-in-Argued
returns-in-Argued c = on_ok_weaker c.add_rest.result
    (λ is other. is other
    ∙ ap (λ xs. mentions_held c.args.self.now other ++ xs)
    (ap (λ xs. if_of other (mention_by c.args.number (By_rest c.in-Argued.argument.now c.in-Argued.passed)) ++ xs)
    (by_arguments other c.args.number (held (Argued c.in-Argued.argument.now c.in-Argued.passed)).list)
    ∙ ap (λ (given : GivenAt). flat_map (if_of other) (map (mention_by c.args.number) (mentioned_by (given_seen given)))) (sym c.in-Argued.is)))
    c.add_rest.ensures

pub returns-in-Replacing : goal.returns-in-Replacing
returns-in-Replacing c = on_ok_weaker c.add_items.result
    (λ is other. is other
    ∙ ap (λ xs. mentions_held c.args.self.now other ++ xs)
    (by_elements other c.args.number (flat_map replacing_in c.in-Replacing.items.now)
    ∙ ap (λ (given : GivenAt). flat_map (if_of other) (map (mention_by c.args.number) (mentioned_by (given_seen given)))) (sym c.in-Replacing.is)))
    c.add_items.ensures
