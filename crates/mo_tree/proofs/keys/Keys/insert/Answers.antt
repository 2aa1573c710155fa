-- What the set says of its keys.
use Rattle.std.proofs.Common.{◌∙◌, ap}
use Rattle.std.specs.Prelude.{not, ◌||◌}
use Rattle.std.specs.List.{list_any}
use Rattle.std.specs.Str.{bytes_eq}
use Rattle.mo_tree.proofs.KeySets.{contains_same, insert_holds}
use Rattle.mo_tree.proofs.keys.Keys.insert.Goals as goal

pub returns-clause-added : goal.returns-clause-added
returns-clause-added c = c.in_ok-insert.ensures.added ∙ ap not (contains_same c.args.self.now.set.keys c.into_vec.result)
    ∙ ap (λ i. not (list_any (λ k. bytes_eq i k.items) c.args.self.now.set.keys)) c.into_vec.ensures

pub returns-clause-kept : goal.returns-clause-kept
returns-clause-kept c = λ other. ap (list_any (λ k. bytes_eq other k.items)) c.in_ok-insert.ensures.keys ∙ insert_holds c.args.self.now.set.keys c.into_vec.result other
    ∙ ap (λ i. bytes_eq other i || list_any (λ k. bytes_eq other k.items) c.args.self.now.set.keys) c.into_vec.ensures
