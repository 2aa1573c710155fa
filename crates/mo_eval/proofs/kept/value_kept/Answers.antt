use Rattle.std.proofs.Common.{◌≡◌, ℕ, Ok, Some, subst, rules}
use Rattle.std.specs.Prelude.{slice_get}
use Rattle.mo_scope.specs.Worlds.{frames_of, table_in}
use Rattle.mo_eval.specs.Seen.{element_seen}
use Rattle.mo_eval.specs.Values.{value_of_element}
use Rattle.mo_values.proofs.Splitting.{got}
use Rattle.mo_eval.proofs.kept.value_kept.Goals as goal

pub returns-then-is_same_element : goal.returns-then-is_same_element
returns-then-is_same_element c = λ world kept member.
    let row = c.in-Some-get.kept.now in
    let i = c.in-Some.place.now in
    let lookup = c.in-Some-get.ensures.lookup in
    let at : slice_get c.args.reader.now.values i ≡ Some row = got c.args.reader.now.values i row (rw c.as_slice-2.ensures at lookup.3.0) (rw c.as_slice-2.ensures at lookup.1) in
    let one = kept.values i row at in
    let height : row.height ≡ c.args.left = search rules in
    c.is_same_element.ensures (search rules) world one.member member c.args.left row.known
    (subst (λ (n : ℕ). value_of_element (table_in world) n (element_seen (frames_of world) row.element) ≡ Ok row.known) height one.is)
