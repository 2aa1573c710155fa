-- An argument that begins with the name says one thing, another one nothing.
use Rattle.std.proofs.Common.{◌++◌, map, ap, sym, ◌∙◌}
use Rattle.std.proofs.lemmas.Result.{on_ok_weaker}
use Rattle.mo_scope.specs.Parts.{begins_with, said_by_argument}
use Rattle.mo_scope.specs.Sights.{saying_in, source_seen, source_at}
use Rattle.mo_scope.specs.Worlds.{frames_of, source_in, table_in}
use Rattle.mo_scope.proofs.Sayings.{argument_skipped, argument_named, nothing_more, pushed_more}
use Rattle.mo_scope.proofs.scopes.Scopes.said_by_argument.Goals as goal

pub returns-in-Some : goal.returns-in-Some
returns-in-Some c =
    let F = frames_of c.args.self.now in
    on_ok_weaker c.pushed.result
    (λ is. pushed_more (saying_in F) c.said_with-said.result _ c.args.made.now c.pushed.new.list c.said_with-said.ensures is
    ∙ ap (λ zs. map (saying_in F) c.args.made.now ++ zs)
    (sym (argument_named (table_in c.args.self.now) (source_in F (source_seen c.args.source.now)) c.args.asked.now.name.now c.args.asked.now.index.now c.args.argument.now c.in-Some.first.now
    (ap (begins_with c.args.asked.now.name.now) (sym c.as_slice.ensures) ∙ sym c.in-Some.ensures.is) c.in-Some.ensures.same)))
    c.pushed.ensures.value

pub returns-in-None : goal.returns-in-None
returns-in-None c =
    let T = table_in c.args.self.now in
    let S = source_at c.args.self.now c.args.source.now in
    nothing_more (map (saying_in (frames_of c.args.self.now)) c.args.made.now) (said_by_argument T S c.args.asked.now.name.now c.args.asked.now.index.now c.args.argument.now)
    (argument_skipped T S c.args.asked.now.name.now c.args.asked.now.index.now c.args.argument.now
    (ap (begins_with c.args.asked.now.name.now) (sym c.as_slice.ensures) ∙ sym c.in-None.ensures.is))
