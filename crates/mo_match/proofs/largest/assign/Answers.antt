use Rattle.std.proofs.Common.{◌≡◌, refl, sym, ◌∙◌, arith}
use Rattle.mo_match.specs.Answer.{left_out}
use Rattle.mo_match.proofs.Written.{owner_small, found_largest, found_deficit, found_all}
use Rattle.mo_match.proofs.largest.assign.Goals as goal
use Rattle.mo_match.proofs.largest.assign.Goals.{in-0, in_default}

pub list_reached-requires-clause-owners : goal.list_reached-requires-clause-owners
list_reached-requires-clause-owners g c = λ j. rw (c.deref-2.ensures.value, c.deref-3.ensures.value)
    (λ l above. omega (arith, owner_small c.assign_pairs.ensures.done.matching j l above, c.assign_pairs.ensures.done.tree.mark_all))

pub returns-clause-largest : goal.returns-clause-largest
returns-clause-largest g c =
    found_largest _ _ _ _ _ _ _ _ c.of_entries-graph.ensures.signature c.of_entries-graph.ensures.tight c.equations-equations.ensures.sound c.assign_pairs.ensures.done

pub returns-clause-deficit : goal.returns-clause-deficit
returns-clause-deficit g c =
    let k_is : c.count_missing.result ≡ left_out c.match-count_missing.result =
    elim c.match-count_missing.branch [ in-0 w ↦ rw w.result-is w.in-0.is | in_default w ↦ rw w.result-is refl ] in
    let again : c.deref-3.result.now ≡ c.deref.result.now = c.deref-3.ensures.value ∙ sym c.deref.ensures.value in
    rw (← k_is) (found_deficit _ _ _ _ _ _ _ _ c.of_entries-graph.ensures.signature c.of_entries-graph.ensures.tight c.equations-equations.ensures.sound c.assign_pairs.ensures.done
    c.count_missing.result c.deref-4.result.now c.deref-2.result.now c.deref.result.now _ _ c.deref-4.ensures.value c.deref-2.ensures.value c.deref.ensures.value c.count_missing.ensures c.list_marked.ensures.items
    (rw again at c.list_reached.ensures.items))

pub returns-clause-all : goal.returns-clause-all
returns-clause-all g c = λ all.
    let none : c.count_missing.result ≡ 0 =
    elim c.match-count_missing.branch [ in-0 w ↦ w.in-0.is | in_default w ↦ absurd (let bad = sym w.result-is ∙ all in cc) ] in
    let equations_are = rw c.of_entries-graph.ensures.signature at c.assign_pairs.ensures.done.matching.equations_all in
    found_all c.args.inc.now _ c.assign_pairs.new.matching.pairs.items c.count_missing.result c.deref-4.ensures.value equations_are c.count_missing.ensures none
