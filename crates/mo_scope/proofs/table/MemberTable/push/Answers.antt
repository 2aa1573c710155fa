-- A name that has no place yet has that of the element.
use Rattle.std.proofs.Common.{Bool, map, ap, sym, ◌∙◌}
use Rattle.std.specs.Prelude.{◌&&◌}
use Rattle.mo_scope.specs.ByName.{place_held, place_of}
use Rattle.mo_scope.specs.Open.{are_open, is_open_declares}
use Rattle.mo_scope.specs.Sights.{declares_seen, member_seen}
use Rattle.mo_scope.proofs.Named.{names_more, open_more, popped}
use Rattle.mo_scope.proofs.table.MemberTable.push.Goals as goal
use Rattle.mo_scope.proofs.table.MemberTable.push.Goals.{then-self, else-self}

pub invariant_of-self-in-Ok : goal.invariant_of-self-in-Ok
invariant_of-self-in-Ok c = record {
  places = names_more member_seen c.self.inside.members c.push.new.self c.args.member c.len-at.result (place_held c.self.inside.names) (place_held c.put.new.self)
      c.self.invariant.places c.len-at.ensures c.in_ok-push.ensures.ok c.in-Ok.ensures.ok;
  opens = open_more member_seen c.self.inside.members c.push.new.self c.args.member c.self.inside.all_open _ c.self.invariant.opens
      (elim c.if-self.branch [
        | then-self w ↦ w.all_open-is ∙ w.is_open-all_open.ensures ∙ ap (λ (b : Bool). b && is_open_declares (declares_seen c.args.member.declares)) (sym w.if-self.true)
        | else-self w ↦ w.all_open-is ∙ w.if-self.false ∙ ap (λ (b : Bool). b && is_open_declares (declares_seen c.args.member.declares)) (sym w.if-self.false)
      ])
      c.in_ok-push.ensures.ok;
}

pub invariant_of-self-in-Err : goal.invariant_of-self-in-Err
invariant_of-self-in-Err c =
    let same = popped c.pop.result c.self.inside.members c.push.new.self c.pop.new.self c.args.member c.in_ok-push.ensures.ok c.pop.ensures in
    record {
      places = λ name. c.in-Err.ensures.err name ∙ c.self.invariant.places name ∙ ap (λ members. place_of name (map member_seen members)) same;
      opens = c.self.invariant.opens ∙ ap (λ members. are_open (map member_seen members)) same;
    }
