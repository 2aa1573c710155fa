use Rattle.mo_connect.proofs.TableLemmas.{table_none}
use Rattle.mo_connect.proofs.declared.tell_all.Goals as goal

pub tell_joins-requires-clause-start : goal.tell_joins-requires-clause-start
tell_joins-requires-clause-start c = table_none _ _ _ c.requires.none
