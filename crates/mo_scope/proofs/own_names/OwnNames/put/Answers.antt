-- A name that has no place gets one.
use Rattle.std.proofs.Common.{cond, List, ℕ, Some, ap, sym, ◌∙◌}
use Rattle.std.specs.Prelude.{is_some}
use Rattle.std.specs.Str.{bytes_eq}
use Rattle.mo_scope.specs.OwnNames.{own_held}
use Rattle.mo_scope.proofs.Keys.{updates_items}
use Rattle.mo_scope.proofs.Named.{name_put}
use Rattle.mo_scope.proofs.own_names.OwnNames.put.Goals as goal

pub returns : goal.returns
returns c = λ other.
    name_put (own_held c.args.self.now) c.args.name.now other c.args.place _
    (ap (λ (l : List ℕ). is_some (own_held c.args.self.now l)) (sym c.as_str.ensures) ∙ sym c.contains_key.ensures ∙ c.if-contains_key.false)
    (updates_items (λ k. k.now) c.as_str-2.result.now c.args.self.now.places c.insert.new.self (Some c.args.place) c.in_ok-insert.ensures.updates other
    ∙ ap (λ (l : List ℕ). cond (bytes_eq l other) (Some c.args.place) (own_held c.args.self.now other)) c.as_str-2.ensures)
