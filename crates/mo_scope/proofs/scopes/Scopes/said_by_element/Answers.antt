-- An element of that name redeclares it; another one says nothing.
use Rattle.std.proofs.Common.{◌++◌, map, ap, sym, ◌∙◌}
use Rattle.std.proofs.lemmas.Result.{on_ok_weaker}
use Rattle.mo_scope.specs.Frames.{Source}
use Rattle.mo_scope.specs.Parts.{Redeclares, said_by_element}
use Rattle.mo_scope.specs.Sights.{declares_seen, saying_in, source_seen, source_at}
use Rattle.mo_scope.specs.Worlds.{frames_of, source_in, table_in}
use Rattle.mo_scope.proofs.Sayings.{element_skipped, element_named, mapped_more, nothing_more}
use Rattle.mo_scope.proofs.scopes.Scopes.said_by_element.Goals as goal

pub returns-then-not-is_named : goal.returns-then-not-is_named
returns-then-not-is_named c =
    let T = table_in c.args.self.now in
    let S = source_at c.args.self.now c.args.source.now in
    nothing_more (map (saying_in (frames_of c.args.self.now)) c.args.made.now) _
    (ap (said_by_element T S c.args.asked.now.name.now c.args.asked.now.index.now) (sym c.declared-declares.ensures.is)
    ∙ element_skipped T S c.args.asked.now.name.now c.args.asked.now.index.now (declares_seen c.declared-declares.result) (sym c.if-not-is_named.ensures))

pub returns : goal.returns
returns c =
    let F = frames_of c.args.self.now in
    let T = table_in c.args.self.now in
    let S = source_in F (source_seen c.args.source.now) in
    let D = declares_seen c.declared-declares.result in
    on_ok_weaker c.push.result
    (λ is. mapped_more (saying_in F) c.args.made.now c.push.new.self _ _ is
    (ap (λ (s : Source). Redeclares (record { declares = D; place = D.place; keeps = D.flags.replaceable; source = s })) (c.in_ok-behind.ensures F))
    ∙ ap (λ zs. map (saying_in F) c.args.made.now ++ zs)
    (sym (ap (said_by_element T S c.args.asked.now.name.now c.args.asked.now.index.now) (sym c.declared-declares.ensures.is)
    ∙ element_named T S c.args.asked.now.name.now c.args.asked.now.index.now D (sym c.if-not-is_named.ensures))))
    c.push.ensures.ok
