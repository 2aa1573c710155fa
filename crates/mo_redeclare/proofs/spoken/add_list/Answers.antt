-- One argument after another.
use Rattle.std.proofs.Common.{map}
use Rattle.std.specs.Option.{option_to_list}
use Rattle.mo_syntax.specs.declared.class.ArgumentOf.{ArgumentOf}
use Rattle.mo_syntax.specs.declared.class.Give.{Give}
use Rattle.mo_scope.specs.Sights.{source_seen}
use Rattle.mo_scope.specs.Spoken.{spoken_argument}
use Rattle.mo_scope.specs.Worlds.{frames_of, source_in, table_in}
use Rattle.mo_scope.proofs.Sayings.{gathered_more, gathered_all}
use Rattle.mo_redeclare.specs.steps.Sights.{IsNamed, named_seen}
use Rattle.mo_redeclare.specs.steps.Comparing.{redeclares_in}
use Rattle.mo_redeclare.proofs.Speaking.{put_more, put_exist}
use Rattle.mo_redeclare.proofs.spoken.add_list.Goals as goal

pub loop-argument-preserved : goal.loop-argument-preserved
loop-argument-preserved c =
    let F = frames_of c.args.s.now in
    let says = λ (argument : ArgumentOf Give). redeclares_in (spoken_argument (table_in c.args.s.now) (source_in F (source_seen c.args.source.now)) argument) in
    record {
      are = gathered_more says (map (named_seen F) c.args.made.now) (map (named_seen F) c.loop-argument.made) (map (named_seen F) c.put.new.made)
          c.args.list.now c.loop-argument.argument-index c.argument-item.result c.loop-argument-test.true c.argument-item.is c.loop-argument.invariant.are
          (put_more (named_seen F) c.loop-argument.made c.put.new.made c.in_ok-found.found _ c.in_ok-put.ensures c.in_ok-found.ensures.are);
      exist = put_exist (IsNamed c.args.s.now) c.loop-argument.made c.put.new.made (option_to_list c.in_ok-found.found) c.in_ok-put.ensures c.loop-argument.invariant.exist c.in_ok-found.ensures.exist;
    }

pub returns : goal.returns
returns c =
    let F = frames_of c.args.s.now in
    let says = λ (argument : ArgumentOf Give). redeclares_in (spoken_argument (table_in c.args.s.now) (source_in F (source_seen c.args.source.now)) argument) in
    record {
      are = gathered_all says (map (named_seen F) c.args.made.now) (map (named_seen F) c.loop-argument.made) c.args.list.now c.loop-argument.argument-index c.loop-argument-test.false c.loop-argument.invariant.are;
      exist = c.loop-argument.invariant.exist;
    }
