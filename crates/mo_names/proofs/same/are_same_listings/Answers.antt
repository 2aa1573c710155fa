-- Lists of other lengths are no same lists.
use Rattle.mo_scope.specs.Sights.{source_seen}
use Rattle.mo_names.proofs.Reading.{other_counts}
use Rattle.mo_names.proofs.same.are_same_listings.Goals as goal

pub returns-then-a-b : goal.returns-then-a-b
returns-then-a-b c = λ frames. other_counts source_seen frames c.args.a.now c.args.b.now c.if-a-b.true
