-- What is answered of the calls of division.rt.
use Rattle.mo_eval.proofs.Calling.{from_halts}
use Rattle.mo_eval.proofs.Dividing.{flat_is, kept_is, none_known, operands_halt, operands_made}
use Rattle.mo_eval.proofs.Growing.{given_made, gives_as, gives_halt, halts_through, made_as, same_elements, same_known}
use Rattle.mo_eval.proofs.Grown.{same_virtuals, there_still}
use Rattle.mo_syntax.specs.Outcome.{and_then}
use Rattle.mo_values.specs.Asked.{checked_operands, read_in}
use Rattle.mo_values.specs.Made.{known_number}
use Rattle.mo_eval.specs.Calls.{known_of_operands, make_arguments, value_of_division}
use Rattle.mo_values.specs.Scalars.{Known, division}
use Rattle.mo_eval.specs.Seen.{virtuals_seen}
use Rattle.mo_eval.specs.steps.Sites.{elements_in, variables_in}
use Rattle.mo_eval.specs.Virtuals.{numbered}
use Rattle.mo_values.specs.Walk.{known_by}
use Rattle.mo_scope.specs.Worlds.{frames_of}
use Rattle.std.proofs.Common.{Err, Ok, [], ap, false, rules, sym, true, ◌∙◌, ◌≡◌}
use Rattle.mo_eval.proofs.+resolving.Goals as goal
use Rattle.mo_names.proofs.Later.{grows_refl, grows_trans}

pub value_of-returns-in_default-clause-exact : goal.division::value_of-returns-in_default-clause-exact
value_of-returns-in_default-clause-exact t c =
    rw c.broken.ensures (none_known (elements_in c.args.s.now c.args.left) c.args.called.place c.args.called.function c.args.operands.now (virtuals_seen (frames_of c.args.s.now) c.args.virtuals.now) c.in_default.ensures)

pub value_of-returns-in_err-m-clause-exact : goal.division::value_of-returns-in_err-m-clause-exact
value_of-returns-in_err-m-clause-exact t c =
    let known = variables_in c.args.s.now c.args.left c.args.virtuals.now in
    let stop = c.in_err-m.field-0.0 in
    let p : c.from_residual.result ≡ Err stop = search rules in
    rw (p, c.in-Some.ensures)
    (gives_halt {A = Known} stop (known_by known c.in-Some.a.now []) (λ m. and_then (known_by known c.in-Some.b.now []) (λ n. division c.args.called.place c.args.called.function m n)) c.in_err-m.ensures.exact)

pub value_of-returns-in_err-n-clause-exact : goal.division::value_of-returns-in_err-n-clause-exact
value_of-returns-in_err-n-clause-exact t c =
    let known = variables_in c.args.s.now c.args.left c.args.virtuals.now in
    let stop = c.in_err-n.field-0.0 in
    let p : c.from_residual-in_err-n.result ≡ Err stop = search rules in
    let same = ap (λ known. known_by (numbered known) c.in-Some.b.now []) (same_known c.args.s.now c.known_in.new.s c.args.left c.known_in.ensures.grows c.args.virtuals.now c.requires.there) in
    rw (p, c.in-Some.ensures, c.in_ok-m.ensures.exact)
    (gives_halt {A = Known} stop (known_by known c.in-Some.b.now []) (λ n. division c.args.called.place c.args.called.function c.in_ok-m.m n)
    (gives_as {A = Known} (Err stop) _ _ same c.in_err-n.ensures.exact))

pub value_of-returns-clause-exact : goal.division::value_of-returns-clause-exact
value_of-returns-clause-exact t c =
    let same = ap (λ known. known_by (numbered known) c.in-Some.b.now []) (same_known c.args.s.now c.known_in.new.s c.args.left c.known_in.ensures.grows c.args.virtuals.now c.requires.there) in
    rw (c.in-Some.ensures, c.in_ok-m.ensures.exact, sym same ∙ c.in_ok-n.ensures.exact) (rw c.division.ensures.exact at c.answer.ensures)

pub value_of-known_in-requires-2 : goal.division::value_of-known_in-requires-2
value_of-known_in-requires-2 t c = (search rules, (there_still _ _ c.known_in.ensures.grows _ c.requires.there, c.known_in.ensures.kept))

pub in_flat-returns-in_err-operands-clause-exact : goal.division::in_flat-returns-in_err-operands-clause-exact
in_flat-returns-in_err-operands-clause-exact t c = λ parts all.
    let stop = c.in_err-operands.field-0.0 in
    let p : c.from_residual.result ≡ Err stop = search rules in
    rw p (operands_halt _ stop _ (elements_in c.args.s.now c.args.site.now.left) c.args.site.now.context c.args.called.place c.args.called.function parts
    (rw (c.read_in.ensures, c.new-virtuals.ensures) at (c.in_err-operands.ensures.exact parts all)))

pub in_flat-returns-in_err-checked_operands-clause-exact : goal.division::in_flat-returns-in_err-checked_operands-clause-exact
in_flat-returns-in_err-checked_operands-clause-exact t c = λ parts all.
    let stop = c.in_err-checked_operands.field-0.0 in
    let read = elements_in c.args.s.now c.args.site.now.left in
    let place = c.args.called.place in
    let function = c.args.called.function in
    let operands = c.in_ok-operands.operands in
    let seen = virtuals_seen (frames_of c.arguments.new.s) c.arguments.new.virtuals in
    let made = (rw (c.read_in.ensures, c.new-virtuals.ensures) at (c.in_ok-operands.ensures.exact parts all)).is in
    let p : c.from_residual-in_err-checked_operands.result ≡ Err stop = search rules in
    rw (p, operands_made read c.args.site.now.context place function parts operands seen made)
    (gives_halt {A = Unit {0}} stop (checked_operands place operands) (λ _. and_then (known_of_operands read place function operands seen) (known_number place)) (rw c.as_slice.ensures at c.in_err-checked_operands.ensures))

pub in_flat-returns-in_err-known-clause-exact : goal.division::in_flat-returns-in_err-known-clause-exact
in_flat-returns-in_err-known-clause-exact t c = λ parts all.
    let stop = c.in_err-known.field-0.0 in
    let mid = c.arguments.new.s in
    let left = c.args.site.now.left in
    let read = elements_in c.args.s.now left in
    let place = c.args.called.place in
    let function = c.args.called.function in
    let operands = c.in_ok-operands.operands in
    let seen = virtuals_seen (frames_of mid) c.arguments.new.virtuals in
    let made = (rw (c.read_in.ensures, c.new-virtuals.ensures) at (c.in_ok-operands.ensures.exact parts all)).is in
    let checked : checked_operands place operands ≡ Ok tt = rw c.as_slice.ensures at c.in_ok-checked_operands.ensures in
    let same = ap (λ read. known_of_operands read place function operands seen) (same_elements c.args.s.now mid left c.arguments.ensures.grows) in
    let p : c.from_residual-in_err-known.result ≡ Err stop = search rules in
    rw (p, operands_made read c.args.site.now.context place function parts operands seen made, checked)
    (gives_halt {A = Known} stop (known_of_operands read place function operands seen) (known_number place)
    (gives_as {A = Known} (Err stop) _ _ same (rw (c.as_slice-2.ensures, c.as_slice-3.ensures) at c.in_err-known.ensures.exact)))

pub in_flat-returns-clause-exact : goal.division::in_flat-returns-clause-exact
in_flat-returns-clause-exact t c = λ parts all.
    let mid = c.arguments.new.s in
    let left = c.args.site.now.left in
    let read = elements_in c.args.s.now left in
    let place = c.args.called.place in
    let function = c.args.called.function in
    let operands = c.in_ok-operands.operands in
    let seen = virtuals_seen (frames_of mid) c.arguments.new.virtuals in
    let made = (rw (c.read_in.ensures, c.new-virtuals.ensures) at (c.in_ok-operands.ensures.exact parts all)).is in
    let checked : checked_operands place operands ≡ Ok tt = rw c.as_slice.ensures at c.in_ok-checked_operands.ensures in
    let same = ap (λ read. known_of_operands read place function operands seen) (same_elements c.args.s.now mid left c.arguments.ensures.grows) in
    let known : known_of_operands read place function operands seen ≡ Ok c.in_ok-known.known = sym same ∙ (rw (c.as_slice-2.ensures, c.as_slice-3.ensures) at c.in_ok-known.ensures.exact) in
    rw (operands_made read c.args.site.now.context place function parts operands seen made, checked, known) (rw c.known_number.ensures at c.answer.ensures)

pub division-returns-then-site-clause-there : goal.division::division-returns-then-site-clause-there
division-returns-then-site-clause-there t c = there_still _ _ c.in_flat.ensures.grows _ c.requires.there

pub division-returns-then-site-clause-exact : goal.division::division-returns-then-site-clause-exact
division-returns-then-site-clause-exact t c = λ parts all.
    let read = elements_in c.args.s.now c.args.site.now.left in
    let context = c.args.site.now.context in
    let before = virtuals_seen (frames_of c.args.s.now) c.args.virtuals.now in
    let told = value_of_division read context c.args.called.place c.args.called.function parts in
    let same = same_virtuals c.args.s.now c.in_flat.new.s c.in_flat.ensures.grows c.args.virtuals.now c.requires.there in
    let flat : context.flat ≡ true = search rules in
    made_as _ _ _ _ _ (ap (λ seen. and_then told (λ node. Ok (node, seen))) same ∙ sym (flat_is read context c.args.called.place c.args.called.function parts before flat))
    (given_made _ c.in_flat.result _ told (c.in_flat.ensures.exact parts all))

pub division-returns-in_err-operands-clause-exact : goal.division::division-returns-in_err-operands-clause-exact
division-returns-in_err-operands-clause-exact t c = λ parts all.
    let read = elements_in c.args.s.now c.args.site.now.left in
    let context = c.args.site.now.context in
    let before = virtuals_seen (frames_of c.args.s.now) c.args.virtuals.now in
    let stop = c.in_err-operands.field-0.0 in
    let p : c.from_residual.result ≡ Err stop = search rules in
    let not : context.flat ≡ false = search rules in
    rw (p, kept_is read context c.args.called.place c.args.called.function parts before not)
    (halts_through _ stop _ (make_arguments (read_in context) parts before) _ (rw c.read_in.ensures at (c.in_err-operands.ensures.exact parts all)))

pub division-returns-in_err-checked_operands-clause-exact : goal.division::division-returns-in_err-checked_operands-clause-exact
division-returns-in_err-checked_operands-clause-exact t c = λ parts all.
    let read = elements_in c.args.s.now c.args.site.now.left in
    let context = c.args.site.now.context in
    let before = virtuals_seen (frames_of c.args.s.now) c.args.virtuals.now in
    let after = virtuals_seen (frames_of c.arguments.new.s) c.arguments.new.virtuals in
    let stop = c.in_err-checked_operands.field-0.0 in
    let operands = c.in_ok-operands.operands in
    let p : c.from_residual-in_err-checked_operands.result ≡ Err stop = search rules in
    let not : context.flat ≡ false = search rules in
    let made = (rw c.read_in.ensures at (c.in_ok-operands.ensures.exact parts all)).is in
    rw (p, kept_is read context c.args.called.place c.args.called.function parts before not, made)
    (from_halts _ stop _ (checked_operands c.args.called.place operands) after _ (rw c.as_slice.ensures at c.in_err-checked_operands.ensures))

pub division-returns-clause-there : goal.division::division-returns-clause-there
division-returns-clause-there t c = c.put.ensures.there c.arguments.new.s c.arguments.ensures.there

pub division-returns-clause-exact : goal.division::division-returns-clause-exact
division-returns-clause-exact t c = λ parts all.
    let read = elements_in c.args.s.now c.args.site.now.left in
    let context = c.args.site.now.context in
    let before = virtuals_seen (frames_of c.args.s.now) c.args.virtuals.now in
    let operands = c.in_ok-operands.operands in
    let not : context.flat ≡ false = search rules in
    let made = (rw c.read_in.ensures at (c.in_ok-operands.ensures.exact parts all)).is in
    let checked : checked_operands c.args.called.place operands ≡ Ok tt = rw c.as_slice.ensures at c.in_ok-checked_operands.ensures in
    rw (kept_is read context c.args.called.place c.args.called.function parts before not, made, checked) (c.put.ensures.exact c.arguments.new.s)

-- ---- what grows

pub value_of-returns-in_default-clause-grows : goal.division::value_of-returns-in_default-clause-grows
value_of-returns-in_default-clause-grows t c = grows_refl c.args.s.now

pub value_of-returns-in_err-n-clause-grows : goal.division::value_of-returns-in_err-n-clause-grows
value_of-returns-in_err-n-clause-grows t c = grows_trans _ _ _ c.known_in.ensures.grows c.known_in-2.ensures.grows

pub value_of-returns-clause-grows : goal.division::value_of-returns-clause-grows
value_of-returns-clause-grows t c = grows_trans _ _ _ c.known_in.ensures.grows c.known_in-2.ensures.grows

pub in_flat-returns-in_err-known-clause-grows : goal.division::in_flat-returns-in_err-known-clause-grows
in_flat-returns-in_err-known-clause-grows t c = grows_trans _ _ _ c.arguments.ensures.grows c.value_of.ensures.grows

pub in_flat-returns-clause-grows : goal.division::in_flat-returns-clause-grows
in_flat-returns-clause-grows t c = grows_trans _ _ _ c.arguments.ensures.grows c.value_of.ensures.grows
