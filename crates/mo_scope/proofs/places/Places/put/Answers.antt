-- The place that was put has the number.
use Rattle.std.proofs.Common.{ap, ◌∙◌}
use Rattle.std.specs.Prelude.{unwrap_or}
use Rattle.std.specs.HashMap.{get}
use Rattle.mo_scope.specs.Held.{spot_eq}
use Rattle.mo_scope.specs.Rows.{place_eq}
use Rattle.mo_scope.proofs.Keys.{or_zero}
use Rattle.mo_scope.proofs.places.Places.put.Goals as goal

pub returns : goal.returns
returns c = λ other.
    ap (λ o. unwrap_or o 0) (c.in_ok-insert.ensures.updates.0 (record { file = other.file; byte = other.byte }))
    ∙ or_zero (place_eq c.args.place other) c.args.number (get spot_eq c.args.self.now.numbers (record { file = other.file; byte = other.byte }))
