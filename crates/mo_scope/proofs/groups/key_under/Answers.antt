-- One more name.
use Rattle.std.proofs.Common.{◌+◌, ◌++◌, ◌∷◌, [], map, ap, sym, ◌∙◌}
use Rattle.mo_scope.proofs.Keys.{path_key_push}
use Rattle.mo_scope.proofs.groups.key_under.Goals as goal

pub returns : goal.returns
returns c = c.in_ok-write_name.ensures ∙ ap (λ k. k ++ (map (λ b. b + 1) c.args.name.now ++ 0 ∷ [])) c.in_ok-key.ensures
    ∙ sym (path_key_push (map (λ name. name.now) c.args.path.now) c.args.name.now)
