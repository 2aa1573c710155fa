-- All but what it holds stays.
use Rattle.std.proofs.Common.{ap, refl}
use Rattle.mo_scope.specs.Frames.{Given}
use Rattle.mo_scope.specs.Sights.{source_seen}
use Rattle.mo_scope.specs.Worlds.{source_in}
use Rattle.mo_scope.proofs.written.without_value.Goals as goal

pub returns : goal.returns
returns c = λ frames.
    let S = source_in frames (source_seen c.args.source) in
    ap (λ (g : Given). record {
      piece = record { given = g; pending = S.piece.pending; listing = S.piece.listing; last = S.piece.last; outside = S.piece.outside; origin = S.piece.origin };
      scope = S.scope;
    }) (c.valueless.ensures S refl)
