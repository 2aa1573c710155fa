-- The name that was put has the number.
use Rattle.std.proofs.Common.{cond, Some, List, ℕ, ap, sym, ◌∙◌}
use Rattle.std.specs.Prelude.{◌&&◌, if◌then◌else◌}
use Rattle.std.specs.Str.{bytes_eq}
use Rattle.mo_scope.specs.Held.{top_held}
use Rattle.mo_scope.proofs.Keys.{updates_items}
use Rattle.mo_scope.proofs.tops.Tops.put.Goals as goal

pub returns-in_ok-insert : goal.returns-in_ok-insert
returns-in_ok-insert c = λ name.
    updates_items (λ k. k.now) c.as_str.result.now c.args.self.now.numbers c.insert.new.self (Some c.args.row.now.number) c.in_ok-insert.ensures.updates name
    ∙ ap (λ (l : List ℕ). cond (bytes_eq l name) (Some c.args.row.now.number) (top_held c.args.self.now name)) c.as_str.ensures
    ∙ sym (ap (λ b. if b && bytes_eq c.args.row.now.class.now.name name then Some c.args.row.now.number else top_held c.args.self.now name) (sym c.is_top.ensures ∙ c.if-is_top.true))
