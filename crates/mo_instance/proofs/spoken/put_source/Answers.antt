-- The arguments by what the source gives.
use Rattle.std.proofs.Common.{◌++◌, List, map, ap, sym, ◌∙◌}
use Rattle.std.proofs.lemmas.Result.{on_ok_weaker}
use Rattle.mo_scope.specs.Sights.{given_seen, source_seen}
use Rattle.mo_scope.specs.Worlds.{source_in, table_in}
use Rattle.mo_instance.specs.steps.Speeches.{Speech, speech_seen}
use Rattle.mo_instance.proofs.Speaking.{argued_speeches, listed_speeches, replacing_speeches}
use Rattle.mo_instance.proofs.spoken.put_source.Goals as goal

pub returns-in-Listed : goal.returns-in-Listed
returns-in-Listed c =
    on_ok_weaker c.put_list.result
    (λ is frames. is frames
    ∙ ap (λ (xs : List Speech). map speech_seen c.args.made.now ++ xs) (sym (listed_speeches (table_in c.args.scopes.now) (source_in frames (source_seen c.args.source.now)) _ (ap given_seen c.in-Listed.is))))
    c.put_list.ensures

pub returns-in-Argued : goal.returns-in-Argued
returns-in-Argued c =
    on_ok_weaker c.put_argued.result
    (λ is frames. is frames
    ∙ ap (λ (xs : List Speech). map speech_seen c.args.made.now ++ xs) (sym (argued_speeches (table_in c.args.scopes.now) (source_in frames (source_seen c.args.source.now)) _ _ (ap given_seen c.in-Argued.is))))
    c.put_argued.ensures

pub returns-in-Replacing : goal.returns-in-Replacing
returns-in-Replacing c =
    on_ok_weaker c.put_items.result
    (λ is frames. is frames
    ∙ ap (λ (xs : List Speech). map speech_seen c.args.made.now ++ xs) (sym (replacing_speeches (table_in c.args.scopes.now) (source_in frames (source_seen c.args.source.now)) _ (ap given_seen c.in-Replacing.is))))
    c.put_items.ensures
