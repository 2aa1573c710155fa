-- A source by what it holds.
use Rattle.std.proofs.Common.{◌++◌, List, flat_map, map, ap, sym, ◌∙◌, append_assoc}
use Rattle.std.proofs.lemmas.Result.{on_ok_weaker}
use Rattle.mo_syntax.specs.declared.class.ArgumentOf.{ArgumentOf}
use Rattle.mo_syntax.specs.declared.class.Give.{Give}
use Rattle.mo_scope.specs.Rows.{replacing_in}
use Rattle.mo_scope.specs.Sights.{given_seen, modifiers_seen, source_seen}
use Rattle.mo_scope.specs.Spoken.{spoken_argument, spoken_rest}
use Rattle.mo_scope.specs.Worlds.{frames_of, source_in, table_in}
use Rattle.mo_redeclare.specs.steps.Sights.{named_seen}
use Rattle.mo_redeclare.specs.steps.Comparing.{redeclares_in}
use Rattle.mo_redeclare.proofs.Speaking.{put_more, listed_speaks, argued_speaks, replacing_speaks}
use Rattle.mo_redeclare.proofs.spoken.add_source.Goals as goal

pub returns-in-Listed-clause-are : goal.returns-in-Listed-clause-are
returns-in-Listed-clause-are c =
    let F = frames_of c.args.s.now in
    on_ok_weaker c.add_list.result
    (λ is. is ∙ ap (λ ys. map (named_seen F) c.args.made.now ++ ys) (sym (listed_speaks (table_in c.args.s.now) (source_in F (source_seen c.args.source.now)) (modifiers_seen c.in-Listed.modifiers) (ap given_seen c.in-Listed.is))))
    c.add_list.ensures.are

pub returns-in_ok-put-in-Argued-clause-are : goal.returns-in_ok-put-in-Argued-clause-are
returns-in_ok-put-in-Argued-clause-are c =
    let F = frames_of c.args.s.now in
    let T = table_in c.args.s.now in
    let S = source_in F (source_seen c.args.source.now) in
    let says = λ (argument : ArgumentOf Give). redeclares_in (spoken_argument T S argument) in
    let rest = redeclares_in (spoken_rest T S c.in-Argued.argument.now c.in-Argued.passed) in
    on_ok_weaker c.add_list-in-Argued.result
    (λ is. is
    ∙ ap (λ xs. xs ++ flat_map says c.nested_list.result.now) (put_more (named_seen F) c.args.made.now c.put.new.made c.in_ok-found-in-Argued.found rest c.in_ok-put-in-Argued.ensures c.in_ok-found-in-Argued.ensures.are)
    ∙ append_assoc (map (named_seen F) c.args.made.now) rest (flat_map says c.nested_list.result.now)
    ∙ ap (λ (list : List (ArgumentOf Give)). map (named_seen F) c.args.made.now ++ (rest ++ flat_map says list)) c.nested_list.ensures
    ∙ ap (λ ys. map (named_seen F) c.args.made.now ++ ys) (sym (argued_speaks T S c.in-Argued.argument.now c.in-Argued.passed (ap given_seen c.in-Argued.is))))
    c.add_list-in-Argued.ensures.are

pub returns-in-Replacing-clause-are : goal.returns-in-Replacing-clause-are
returns-in-Replacing-clause-are c =
    let F = frames_of c.args.s.now in
    on_ok_weaker c.add_items.result
    (λ is. is ∙ ap (λ ys. map (named_seen F) c.args.made.now ++ ys) (sym (replacing_speaks (table_in c.args.s.now) (source_in F (source_seen c.args.source.now)) (flat_map replacing_in c.in-Replacing.items.now) (ap given_seen c.in-Replacing.is))))
    c.add_items.ensures.are
