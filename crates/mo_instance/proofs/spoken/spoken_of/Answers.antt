-- All is put into an empty list.
use Rattle.std.proofs.Common.{◌++◌, List, map, ap, ◌∙◌}
use Rattle.mo_scope.specs.Sights.{source_seen}
use Rattle.mo_scope.specs.Worlds.{source_in, table_in}
use Rattle.mo_instance.specs.declared.spoken.Spoken.{Spoken as SpokenAt}
use Rattle.mo_instance.specs.steps.Speeches.{speech_seen, speeches_of}
use Rattle.mo_instance.proofs.spoken.spoken_of.Goals as goal

pub returns : goal.returns
returns c = λ frames.
    c.in_ok-put_source.ensures frames
    ∙ ap (λ (xs : List SpokenAt). map speech_seen xs ++ speeches_of (table_in c.args.scopes.now) (source_in frames (source_seen c.args.source.now))) c.new-made.ensures
