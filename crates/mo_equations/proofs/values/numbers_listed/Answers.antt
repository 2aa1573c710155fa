-- Number by number.
use Rattle.std.proofs.Common.{◌≡◌, ℤ, ◌+◌, ◌++◌, ◌∷◌, [], Err, rules, ap, arith, sym, subst, ◌∙◌}
use Rattle.std.proofs.lemmas.Int.{to_z-of_z}
use Rattle.mo_syntax.specs.Outcome.{Outcome}
use Rattle.mo_scope.specs.Worlds.{frames_of, table_in}
use Rattle.mo_typing.specs.Indices.{Index, numbers_to}
use Rattle.mo_typing.specs.Outcome.{Gives}
use Rattle.mo_values.specs.Asked.{must_be_whole}
use Rattle.mo_values.specs.Scalars.{Known}
use Rattle.mo_eval.specs.Seen.{resolved_seen}
use Rattle.mo_eval.specs.Values.{known_of, most_references}
use Rattle.mo_eval.proofs.Grown.{there_still}
use Rattle.mo_equations.specs.steps.Ranges.{numbers_seen}
use Rattle.mo_equations.proofs.Eaching.{Left, left_end, left_more}
use Rattle.mo_equations.proofs.Knowing.{item_is, item_within, items_end, known_later, number_known, numbers_stop, stops_known, stops_whole, whole_known}
use Rattle.mo_equations.proofs.Staying.{reads, stays_on}
use Rattle.mo_equations.proofs.values.numbers_listed.Goals as goal

pub returns-in_err-known-clause-stays : goal.returns-in_err-known-clause-stays
returns-in_err-known-clause-stays c =
    let before = c.loop-k.invariant.0 in
    stays_on c.args.s.now c.loop-k.s c.known_of_binding.new.s c.args.desk.now c.loop-k.desk _ before
    (reads c.loop-k.s c.known_of_binding.new.s c.loop-k.desk c.known_of_binding.new.self c.known_of_binding.ensures.grows c.known_of_binding.ensures.kept before.goes.desk)

pub returns-in_err-answer-clause-stays : goal.returns-in_err-answer-clause-stays
returns-in_err-answer-clause-stays c =
    let before = c.loop-k.invariant.0 in
    stays_on c.args.s.now c.loop-k.s c.known_of_binding.new.s c.args.desk.now c.loop-k.desk _ before
    (reads c.loop-k.s c.known_of_binding.new.s c.loop-k.desk c.known_of_binding.new.self c.known_of_binding.ensures.grows c.known_of_binding.ensures.kept before.goes.desk)

pub returns-in_err-push-clause-stays : goal.returns-in_err-push-clause-stays
returns-in_err-push-clause-stays c =
    let before = c.loop-k.invariant.0 in
    stays_on c.args.s.now c.loop-k.s c.known_of_binding.new.s c.args.desk.now c.loop-k.desk _ before
    (reads c.loop-k.s c.known_of_binding.new.s c.loop-k.desk c.known_of_binding.new.self c.known_of_binding.ensures.grows c.known_of_binding.ensures.kept before.goes.desk)

pub returns-in_err-known-clause-exact : goal.returns-in_err-known-clause-exact
returns-in_err-known-clause-exact c =
    let stop = c.in_err-known.field-0.0 in
    let known : Index → Outcome Known = known_of (table_in c.args.s.now) most_references (resolved_seen (frames_of c.args.s.now) c.args.bound.now.resolved) in
    let p : c.from_residual.result ≡ Err stop = search rules in
    let same = known_later c.args.s.now c.loop-k.s c.args.bound.now.resolved ((c.loop-k.k + 1) ∷ []) c.loop-k.invariant.0.goes.grows c.requires.there in
    let told = subst (λ (o : Outcome Known). Gives {T = Known} (Err stop) o) same c.in_err-known.ensures.exact in
    rw p (numbers_stop numbers_seen (number_known known c.args.place) c.args.size c.loop-k.k c.loop-k.made stop c.loop-k-test.true c.loop-k.invariant.2
    (stops_known (known ((c.loop-k.k + 1) ∷ [])) c.args.place stop told))

pub returns-in_err-answer-clause-exact : goal.returns-in_err-answer-clause-exact
returns-in_err-answer-clause-exact c =
    let stop = c.in_err-answer.field-0.0 in
    let known : Index → Outcome Known = known_of (table_in c.args.s.now) most_references (resolved_seen (frames_of c.args.s.now) c.args.bound.now.resolved) in
    let p : c.from_residual-in_err-answer.result ≡ Err stop = search rules in
    let same = known_later c.args.s.now c.loop-k.s c.args.bound.now.resolved ((c.loop-k.k + 1) ∷ []) c.loop-k.invariant.0.goes.grows c.requires.there in
    let told = subst (λ (o : Outcome ℤ). Gives {T = ℤ} (Err stop) o) c.must_be_whole.ensures c.in_err-answer.ensures in
    rw p (numbers_stop numbers_seen (number_known known c.args.place) c.args.size c.loop-k.k c.loop-k.made stop c.loop-k-test.true c.loop-k.invariant.2
    (stops_whole (known ((c.loop-k.k + 1) ∷ [])) c.in_ok-known.known c.args.place stop (sym same ∙ c.in_ok-known.ensures.exact) told))

pub loop-k-preserved : goal.loop-k-preserved
loop-k-preserved c =
    let before = c.loop-k.invariant.0 in
    let known : Index → Outcome Known = known_of (table_in c.args.s.now) most_references (resolved_seen (frames_of c.args.s.now) c.args.bound.now.resolved) in
    let same = known_later c.args.s.now c.loop-k.s c.args.bound.now.resolved ((c.loop-k.k + 1) ∷ []) before.goes.grows c.requires.there in
    let whole = sym c.must_be_whole.ensures ∙ c.in_ok-answer.ensures in
    let pushed : c.push.new.self ≡ c.loop-k.made ++ c.in_ok-answer.field-0 ∷ [] = grind (arith, to_z-of_z, c.in_ok-push.ensures.ok) in (
      stays_on c.args.s.now c.loop-k.s c.known_of_binding.new.s c.args.desk.now c.loop-k.desk _ before
          (reads c.loop-k.s c.known_of_binding.new.s c.loop-k.desk c.known_of_binding.new.self c.known_of_binding.ensures.grows c.known_of_binding.ensures.kept before.goes.desk),
      there_still c.loop-k.s c.known_of_binding.new.s c.known_of_binding.ensures.grows c.args.bound.now.resolved.virtuals c.loop-k.invariant.1,
      ap (Left (number_known known c.args.place) (numbers_to c.args.size) (c.loop-k.k + 1)) pushed
          ∙ (left_more (number_known known c.args.place) (numbers_to c.args.size) c.loop-k.k c.loop-k.made (c.loop-k.k + 1) c.in_ok-answer.field-0 (item_within c.args.size c.loop-k.k c.loop-k-test.true)
          (item_is c.args.size c.loop-k.k c.loop-k-test.true)
          (whole_known (known ((c.loop-k.k + 1) ∷ [])) c.in_ok-known.known c.args.place c.in_ok-answer.field-0 (sym same ∙ c.in_ok-known.ensures.exact) whole)
          ∙ c.loop-k.invariant.2),
    )

pub returns-clause-exact : goal.returns-clause-exact
returns-clause-exact c =
    let known : Index → Outcome Known = known_of (table_in c.args.s.now) most_references (resolved_seen (frames_of c.args.s.now) c.args.bound.now.resolved) in
    sym c.loop-k.invariant.2 ∙ left_end (number_known known c.args.place) (numbers_to c.args.size) c.loop-k.k c.loop-k.made (items_end c.args.size c.loop-k.k c.loop-k-test.false)
