-- First the own modifiers, then those of the constraining clause.
use Rattle.std.proofs.Common.{map}
use Rattle.std.proofs.lemmas.Result.{on_ok_weaker}
use Rattle.std.specs.Option.{option_to_list}
use Rattle.mo_scope.specs.Sights.{constraint_seen, member_seen, source_seen}
use Rattle.mo_scope.specs.Worlds.{member_in, sources_in}
use Rattle.mo_scope.proofs.Sayings.{both_more, seen_append, declared_is, is_some_map}
use Rattle.mo_scope.proofs.sources.extend_declared.Goals as goal

pub returns : goal.returns
returns c =
    on_ok_weaker c.put-2.result
    (λ is frames wins has.
    both_more (sources_in frames (map source_seen c.args.made.now)) (sources_in frames (map source_seen (option_to_list c.in_ok-own.own)))
    (sources_in frames (map source_seen (option_to_list c.in_ok-constraint.constraint))) _ _
    (sources_in frames (map source_seen c.put.new.made)) (sources_in frames (map source_seen c.put-2.new.made)) _
    (seen_append frames c.args.made.now (option_to_list c.in_ok-own.own) c.put.new.made c.in_ok-put.ensures)
    (seen_append frames c.put.new.made (option_to_list c.in_ok-constraint.constraint) c.put-2.new.made is)
    (c.in_ok-own.ensures frames) (c.in_ok-constraint.ensures frames)
    (declared_is (member_in frames (member_seen c.args.member.now)) c.args.index.now wins c.args.replaced _ has (is_some_map constraint_seen c.args.member.now.declares.limit)))
    c.put-2.ensures
