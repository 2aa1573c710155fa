-- The asked class, then all behind it.
use Rattle.std.proofs.Common.{refl}
use Rattle.mo_flatten.specs.Flat.{Flattens, expansion_in, no_class}
use Rattle.mo_flatten.specs.Told.{TellsOf}
use Rattle.mo_flatten.proofs.Telling.{class_exists, class_has_row, class_told, if_told}
use Rattle.mo_flatten.proofs.phases.flatten.Goals as goal

pub flattened-requires-clause-class : goal.flattened-requires-clause-class
flattened-requires-clause-class c = class_exists c.args.tree.now.files c.args.path.now.0 _ c.in-Ok.ensures.ok

pub flattened-requires-clause-row : goal.flattened-requires-clause-row
flattened-requires-clause-row c = class_has_row c.args.tree.now.files c.args.path.now.0 _ c.in-Ok.ensures.ok

pub returns-in-Ok-clause-told : goal.returns-in-Ok-clause-told
returns-in-Ok-clause-told c =
    let files = c.args.tree.now.files in
    let path = c.args.path.now.0 in
    if_told c.flattened.result (TellsOf (expansion_in files c.in-Ok.class.0)) (Flattens files path)
    (λ told tells. class_told files path c.in-Ok.class.0 told c.in-Ok.ensures.ok c.in-Ok.ensures.accepted tells) c.flattened.ensures.told

pub returns-in-Err-clause-told : goal.returns-in-Err-clause-told
returns-in-Err-clause-told c = no_class c.in-Err.broken c.in-Err.ensures.refused refl
