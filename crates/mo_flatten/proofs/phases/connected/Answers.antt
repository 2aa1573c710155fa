-- The connection sets, then their equations.
use Rattle.std.proofs.Common.{◌≡◌, Err, All, ap, subst, rules}
use Rattle.mo_flat.specs.declared.connect.Connects.{Connects}
use Rattle.mo_flat.specs.declared.connect.Expanded.{Expanded}
use Rattle.mo_scope.specs.Outcome.{Gives}
use Rattle.mo_connect.specs.Alike.{IsConnectable}
use Rattle.mo_connect.specs.Sets.{AreConnectionSets}
use Rattle.mo_flatten.specs.Flat.{model_of, within_size}
use Rattle.mo_flatten.proofs.Sized.{numeric_sets}
use Rattle.mo_flatten.proofs.Telling.{distinct, joins_told, sets_stop, too_large_told}
use Rattle.mo_flatten.proofs.phases.connected.Goals as goal

pub returns-in_err-found-clause-told : goal.returns-in_err-found-clause-told
returns-in_err-found-clause-told c = λ e is.
    let stop = c.in_err-found.field-0.0 in
    let p : c.from_residual.result ≡ Err stop = search rules in
    rw p (sets_stop e c.args.expansion.parts.connects.list stop (ap (λ (x : Connects). x.list) is.connects) c.in_err-found.ensures.broken)

pub returns-then-past-clause-told : goal.returns-then-past-clause-told
returns-then-past-clause-told c = λ e is.
    let parts = c.args.expansion.parts in
    let found = c.in_ok-found.found in
    too_large_told e found parts.place c.too_large.result is.place (is.past c.if-past.true) c.too_large.ensures
    (subst (λ (x : Connects). All IsConnectable x.list) is.connects c.in_ok-found.ensures.connectable)
    (subst (λ (x : Connects). AreConnectionSets x found) is.connects (c.in_ok-found.ensures.sets (distinct parts.connects c.requires.connects)))

pub joined-requires-clause-sound : goal.joined-requires-clause-sound
joined-requires-clause-sound c = c.requires.sound c.if-past.false

pub joined-requires-clause-numbers : goal.joined-requires-clause-numbers
joined-requires-clause-numbers c =
    let parts = c.args.expansion.parts in
    rw c.as_slice.ensures (numeric_sets parts c.in_ok-found.found (c.requires.sound c.if-past.false) (c.in_ok-found.ensures.members (distinct parts.connects c.requires.connects)))

pub returns-clause-told : goal.returns-clause-told
returns-clause-told c = λ e is.
    let parts = c.args.expansion.parts in
    let found = c.in_ok-found.found in
    joins_told c.joined.result e found (subst (λ (x : Connects). All IsConnectable x.list) is.connects c.in_ok-found.ensures.connectable)
    (subst (λ (x : Connects). AreConnectionSets x found) is.connects (c.in_ok-found.ensures.sets (distinct parts.connects c.requires.connects)))
    (subst (λ (x : Expanded). Gives (λ m. m) c.joined.result (within_size (model_of x found))) (is.whole c.if-past.false) (rw c.as_slice.ensures at c.joined.ensures.told))
