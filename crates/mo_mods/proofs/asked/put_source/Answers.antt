-- The arguments by what the source gives.
use Rattle.std.proofs.Common.{◌++◌, map, ap, sym, ◌∙◌}
use Rattle.std.proofs.lemmas.Result.{on_ok_weaker}
use Rattle.mo_scope.specs.Sights.{given_seen, source_seen}
use Rattle.mo_scope.specs.Worlds.{source_in, table_in}
use Rattle.mo_mods.specs.PathSights.{asked_seen}
use Rattle.mo_mods.proofs.Claims.{asked_listed, asked_replacing}
use Rattle.mo_mods.proofs.asked.put_source.Goals as goal

pub returns-in-Listed : goal.returns-in-Listed
returns-in-Listed c =
    on_ok_weaker c.put_list.result
    (λ is frames. is frames
    ∙ ap (λ xs. map asked_seen c.args.made.now ++ xs) (sym (asked_listed (table_in c.args.scopes.now) (source_in frames (source_seen c.args.source.now)) _ (ap given_seen c.in-Listed.is))))
    c.put_list.ensures

pub returns-in-Replacing : goal.returns-in-Replacing
returns-in-Replacing c =
    on_ok_weaker c.put_items.result
    (λ is frames. is frames
    ∙ ap (λ xs. map asked_seen c.args.made.now ++ xs) (sym (asked_replacing (table_in c.args.scopes.now) (source_in frames (source_seen c.args.source.now)) _ (ap given_seen c.in-Replacing.is))))
    c.put_items.ensures
