-- What was under the text was taken out and put back.
use Rattle.std.proofs.Common.{string_bytes}
use Rattle.std.specs.HashMap.{get_by_text}
use Rattle.std.proofs.lemmas.Map.Text.{hash_map_updates_text}
use Rattle.mo_equations.proofs.Around.{put_under}
use Rattle.mo_equations.proofs.leaves.put.Goals as goal

pub returns : goal.returns
returns c = λ other.
    let text = string_bytes c.args.text in
    put_under (get_by_text c.args.below.now) (get_by_text c.remove-found.new.self) (get_by_text c.insert.new.self) text c.in_ok-numbers.numbers c.remove-found.result c.args.number
    (rw c.as_str.ensures.value at c.remove-found.ensures.value)
    (hash_map_updates_text text c.args.below.now c.remove-found.new.self _ (rw c.as_str.ensures.value at c.remove-found.ensures.updates))
    (hash_map_updates_text text c.remove-found.new.self c.insert.new.self _ c.in_ok-insert.ensures.updates) c.in_ok-numbers.ensures other
