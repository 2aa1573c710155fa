-- What is answered of the calls of subscripts.rt.
use Rattle.mo_eval.proofs.Calling.{seen_halts}
use Rattle.mo_eval.proofs.Growing.{gives_as, gives_halt, same_asked, same_elements, same_known}
use Rattle.mo_eval.proofs.Grown.{grows_on, grows_still, there_still}
use Rattle.mo_eval.proofs.Prefixes.{length_known}
use Rattle.mo_eval.proofs.Subscripting.{behind_nothing, by_none, by_some, get_same, number_halts as number_halts_of_subscripting, number_more as number_more_of_subscripting, numbers_end, subscript_by, subscript_halts, subscript_more, subscripts_end}
use Rattle.mo_syntax.specs.Outcome.{and_then}
use Rattle.mo_values.specs.Asked.{layered, must_be_whole, only_whole, scalar_or_vector, subscript_of}
use Rattle.mo_eval.specs.Contexts.{alone, place_of as place_of_of_contexts}
use Rattle.mo_eval.specs.References.{numbers_of}
use Rattle.mo_values.specs.Scalars.{Known}
use Rattle.mo_eval.specs.Seen.{resolved_seen, virtual_seen, virtuals_seen}
use Rattle.mo_eval.specs.steps.Sites.{elements_in, part_in}
use Rattle.mo_values.specs.Told.{AreRead}
use Rattle.mo_eval.specs.Virtuals.{known_at, known_of_virtuals, numbered}
use Rattle.mo_values.specs.Walk.{known_by}
use Rattle.mo_eval.specs.steps.Subscripting.{numbers_by, subscript_at, subscript_in}
use Rattle.mo_flat.specs.declared.array.Subscript.{Subscript}
use Rattle.mo_flat.specs.declared.array.Subscript.TheVariants.{Many, One}
use Rattle.mo_scope.specs.Worlds.{frames_of}
use Rattle.mo_typing.proofs.Gathering.{opened}
use Rattle.std.proofs.Common.{Err, List, Ok, [], ap, arith, drop, get_or, length, map, refl, rules, subst, sym, ℤ, ◌++◌, ◌+◌, ◌<◌, ◌∙◌, ◌∷◌, ◌≡◌}
use Rattle.std.proofs.lemmas.List.{drop-map, drop_all, length-map}
use Rattle.std.specs.Option.{option_map}
use Rattle.mo_eval.proofs.+resolving.Goals as goal
use Rattle.mo_names.proofs.Later.{grows_refl, grows_trans}

pub numbers_of-loop-k-init : goal.subscripts::numbers_of-loop-k-init
numbers_of-loop-k-init t c =
    let read = elements_in c.args.s.now c.args.left in
    let virtuals = virtuals_seen (frames_of c.args.s.now) c.args.resolved.now.virtuals in (
      grows_still c.args.s.now,
      c.in_ok-reads.ensures (known_of_virtuals read virtuals) (length_known read virtuals ∙ (length-map c.args.resolved.now.virtuals (virtual_seen (frames_of c.args.s.now)) ∙ sym c.len.ensures)),
      rw c.new-made.ensures (behind_nothing _),
      c.requires.kept,
    )

pub numbers_of-known_with-requires : goal.subscripts::numbers_of-known_with-requires
numbers_of-known_with-requires t c =
    let same = same_known c.args.s.now c.loop-k.s c.args.left c.loop-k.invariant.0 c.args.resolved.now.virtuals c.requires.there in (
      search rules,
      (
        rw c.as_slice.ensures (there_still c.args.s.now c.loop-k.s c.loop-k.invariant.0 c.args.resolved.now.virtuals c.requires.there),
        (rw c.as_slice.ensures (subst (λ known. AreRead c.loop-k.reads.items (numbered known)) (sym same) c.loop-k.invariant.1), c.loop-k.invariant.3),
      ),
    )

pub numbers_of-returns-in_err-known-clause-exact : goal.subscripts::numbers_of-returns-in_err-known-clause-exact
numbers_of-returns-in_err-known-clause-exact t c =
    let stop = c.in_err-known.field-0.0 in
    let e = c.args.resolved.now.expression in
    let at = (c.loop-k.k + 1) ∷ [] in
    let known = known_at (elements_in c.args.s.now c.args.left) (resolved_seen (frames_of c.args.s.now) c.args.resolved.now) in
    let same = same_known c.args.s.now c.loop-k.s c.args.left c.loop-k.invariant.0 c.args.resolved.now.virtuals c.requires.there in
    let p : c.from_residual-in_err-known.result ≡ Err stop = search rules in
    rw p
    (number_halts_of_subscripting (λ k. and_then (known (k ∷ [])) (must_be_whole c.args.place)) c.loop-k.made c.args.size c.loop-k.k _ c.loop-k.invariant.2 stop c.loop-k-test.true
    (gives_halt {A = Known} stop (known at) (must_be_whole c.args.place)
    (gives_as {A = Known} (Err stop) _ _ (ap (λ known. known_by (numbered known) e at) same) (rw c.as_slice.ensures at c.in_err-known.ensures.exact))))

pub numbers_of-returns-in_err-n-clause-exact : goal.subscripts::numbers_of-returns-in_err-n-clause-exact
numbers_of-returns-in_err-n-clause-exact t c =
    let stop = c.in_err-n.field-0.0 in
    let e = c.args.resolved.now.expression in
    let at = (c.loop-k.k + 1) ∷ [] in
    let known = known_at (elements_in c.args.s.now c.args.left) (resolved_seen (frames_of c.args.s.now) c.args.resolved.now) in
    let same = same_known c.args.s.now c.loop-k.s c.args.left c.loop-k.invariant.0 c.args.resolved.now.virtuals c.requires.there in
    let has : known at ≡ Ok c.in_ok-known.known = ap (λ known. known_by (numbered known) e at) (sym same) ∙ (rw c.as_slice.ensures at c.in_ok-known.ensures.exact) in
    let p : c.from_residual-in_err-n.result ≡ Err stop = search rules in
    rw p
    (number_halts_of_subscripting (λ k. and_then (known (k ∷ [])) (must_be_whole c.args.place)) c.loop-k.made c.args.size c.loop-k.k _ c.loop-k.invariant.2 stop c.loop-k-test.true
    (gives_as (Err stop) (must_be_whole c.args.place c.in_ok-known.known) _ (ap (λ o. and_then o (must_be_whole c.args.place)) (sym has)) (rw c.must_be_whole.ensures at c.in_err-n.ensures)))

pub numbers_of-loop-k-preserved : goal.subscripts::numbers_of-loop-k-preserved
numbers_of-loop-k-preserved t c =
    let e = c.args.resolved.now.expression in
    let at = (c.loop-k.k + 1) ∷ [] in
    let known = known_at (elements_in c.args.s.now c.args.left) (resolved_seen (frames_of c.args.s.now) c.args.resolved.now) in
    let same = same_known c.args.s.now c.loop-k.s c.args.left c.loop-k.invariant.0 c.args.resolved.now.virtuals c.requires.there in
    let has : known at ≡ Ok c.in_ok-known.known = ap (λ known. known_by (numbered known) e at) (sym same) ∙ (rw c.as_slice.ensures at c.in_ok-known.ensures.exact) in
    let n : and_then (known at) (must_be_whole c.args.place) ≡ Ok c.in_ok-n.n = ap (λ o. and_then o (must_be_whole c.args.place)) has ∙ (rw c.must_be_whole.ensures at c.in_ok-n.ensures) in
    let pushed : c.push.new.self ≡ c.loop-k.made ++ c.in_ok-n.n ∷ [] = search rules in (
      grows_on c.args.s.now c.loop-k.s c.known_with.new.s c.loop-k.invariant.0 c.in_ok-known.ensures.grows,
      subst (λ known. AreRead c.known_with.new.reads.items (numbered known)) same (rw c.as_slice.ensures at c.in_ok-known.ensures.read),
      rw pushed (number_more_of_subscripting (λ k. and_then (known (k ∷ [])) (must_be_whole c.args.place)) c.loop-k.made c.args.size c.loop-k.k _ c.loop-k.invariant.2 c.in_ok-n.n c.loop-k-test.true n),
      c.known_with.ensures.kept,
    )

pub numbers_of-returns-clause-exact : goal.subscripts::numbers_of-returns-clause-exact
numbers_of-returns-clause-exact t c =
    let known = known_at (elements_in c.args.s.now c.args.left) (resolved_seen (frames_of c.args.s.now) c.args.resolved.now) in
    numbers_end (λ k. and_then (known (k ∷ [])) (must_be_whole c.args.place)) c.loop-k.made c.args.size c.loop-k.k _ c.loop-k.invariant.2 (omega arith)

pub subscript_in-returns-in_err-dims-clause-exact : goal.subscripts::subscript_in-returns-in_err-dims-clause-exact
subscript_in-returns-in_err-dims-clause-exact t c =
    let stop = c.in_err-dims.field-0.0 in
    let known = known_at (elements_in c.args.s.now c.args.left) (resolved_seen (frames_of c.args.s.now) c.args.resolved.now) in
    let p : c.from_residual.result ≡ Err stop = search rules in
    rw p (gives_halt stop (layered (only_whole c.args.place) (scalar_or_vector c.args.place) c.args.resolved.now.expression) (numbers_by known c.args.place) c.in_err-dims.ensures)

pub subscript_in-returns-in_err-known-clause-exact : goal.subscripts::subscript_in-returns-in_err-known-clause-exact
subscript_in-returns-in_err-known-clause-exact t c =
    let stop = c.in_err-known.field-0.0 in
    let known = known_at (elements_in c.args.s.now c.args.left) (resolved_seen (frames_of c.args.s.now) c.args.resolved.now) in
    let p : c.from_residual-in_err-known.result ≡ Err stop = search rules in
    rw (p, c.in_ok-dims.ensures)
    (gives_as {A = Subscript} (Err stop) _ _ (sym (by_none known c.args.place c.in_ok-dims.dims (rw c.in_default.is at c.get.ensures)))
    (gives_halt {A = Known} stop (known []) (λ one. and_then (must_be_whole c.args.place one) (λ n. Ok (One c.args.place n))) (rw c.as_slice.ensures at c.in_err-known.ensures.exact)))

pub subscript_in-returns-in_default-clause-exact : goal.subscripts::subscript_in-returns-in_default-clause-exact
subscript_in-returns-in_default-clause-exact t c =
    let known = known_at (elements_in c.args.s.now c.args.left) (resolved_seen (frames_of c.args.s.now) c.args.resolved.now) in
    let has : known [] ≡ Ok c.in_ok-known.known = rw c.as_slice.ensures at c.in_ok-known.ensures.exact in
    rw c.in_ok-dims.ensures
    (gives_as c.answer.result _ _
    (ap (λ o. and_then o (λ one. and_then (must_be_whole c.args.place one) (λ n. Ok (One c.args.place n)))) (sym has) ∙ sym (by_none known c.args.place c.in_ok-dims.dims (rw c.in_default.is at c.get.ensures)))
    (rw c.scalar.ensures at c.answer.ensures))

pub subscript_in-returns-in_err-numbers-clause-exact : goal.subscripts::subscript_in-returns-in_err-numbers-clause-exact
subscript_in-returns-in_err-numbers-clause-exact t c =
    let stop = c.in_err-numbers.field-0.0 in
    let known = known_at (elements_in c.args.s.now c.args.left) (resolved_seen (frames_of c.args.s.now) c.args.resolved.now) in
    let size = c.in-Some.size.now in
    let p : c.from_residual-in_err-numbers.result ≡ Err stop = search rules in
    rw (p, c.in_ok-dims.ensures)
    (gives_as {A = Subscript} (Err stop) _ _ (sym (by_some known c.args.place c.in_ok-dims.dims size (rw c.in-Some.is at c.get.ensures)))
    (gives_halt {A = List ℤ} stop (numbers_of known c.args.place size) (λ ns. Ok (Many c.args.place ns)) c.in_err-numbers.ensures.exact))

pub subscript_in-returns-clause-exact : goal.subscripts::subscript_in-returns-clause-exact
subscript_in-returns-clause-exact t c =
    let known = known_at (elements_in c.args.s.now c.args.left) (resolved_seen (frames_of c.args.s.now) c.args.resolved.now) in
    let size = c.in-Some.size.now in
    rw c.in_ok-dims.ensures
    (by_some known c.args.place c.in_ok-dims.dims size (rw c.in-Some.is at c.get.ensures)
    ∙ ap (λ o. and_then o (λ ns. Ok (Many c.args.place ns))) c.in_ok-numbers.ensures.exact)

pub read_subscript-returns-in_default-clause-exact : goal.subscripts::read_subscript-returns-in_default-clause-exact
read_subscript-returns-in_default-clause-exact t c = rw c.in_default.is refl

pub read_subscript-returns-in_err-resolved-clause-exact : goal.subscripts::read_subscript-returns-in_err-resolved-clause-exact
read_subscript-returns-in_err-resolved-clause-exact t c =
    let stop = c.in_err-resolved.field-0.0 in
    let read = elements_in c.args.s.now c.args.site.now.left in
    let part = part_in c.args.s.now c.args.site.now c.in-Some.e in
    let p : c.from_residual.result ≡ Err stop = search rules in
    rw (p, c.in-Some.is)
    (gives_as {A = Subscript} (Err stop) _ _ (sym (subscript_by read c.args.size part))
    (seen_halts (resolved_seen (frames_of c.alone.new.s)) stop (alone part (subscript_of c.args.size)) (subscript_in read (place_of_of_contexts part)) (rw c.subscript_of.ensures at c.in_err-resolved.ensures.exact)))

pub read_subscript-returns-clause-exact : goal.subscripts::read_subscript-returns-clause-exact
read_subscript-returns-clause-exact t c =
    let mid = c.alone.new.s in
    let left = c.args.site.now.left in
    let read = elements_in c.args.s.now left in
    let part = part_in c.args.s.now c.args.site.now c.in-Some.e in
    let asked = resolved_seen (frames_of mid) c.in_ok-resolved.resolved in
    let same = same_elements c.args.s.now mid left c.alone.ensures.grows in
    rw c.in-Some.is
    (gives_as c.subscript_in.result _ _ (sym (subscript_by read c.args.size part ∙ ap (λ o. and_then o (subscript_in read (place_of_of_contexts part))) (rw c.subscript_of.ensures at c.in_ok-resolved.ensures.exact)))
    (gives_as c.subscript_in.result (subscript_in (elements_in mid left) (place_of_of_contexts part) asked) (subscript_in read (place_of_of_contexts part) asked) (ap (λ read. subscript_in read (place_of_of_contexts part) asked) same) c.subscript_in.ensures.exact))

pub subscript_at-returns-in-None-clause-exact : goal.subscripts::subscript_at-returns-in-None-clause-exact
subscript_at-returns-in-None-clause-exact t c =
    let part = part_in c.args.s.now c.args.site.now in
    let none = drop_all c.args.k c.args.subs.now c.in-None.ensures.lookup.3 in
    ap (subscript_at (elements_in c.args.s.now c.args.site.now.left) c.args.size) (drop-map (option_map part) c.args.k c.args.subs.now ∙ ap (map (option_map part)) none)

pub subscript_at-returns-in-Some-clause-exact : goal.subscripts::subscript_at-returns-in-Some-clause-exact
subscript_at-returns-in-Some-clause-exact t c =
    let read = elements_in c.args.s.now c.args.site.now.left in
    let part = part_in c.args.s.now c.args.site.now in
    let lookup = c.in-Some.ensures.lookup in
    let some = opened (λ xs. subscript_at read c.args.size (map (option_map part) xs)) c.args.subs.now c.args.k c.in-Some.sub.now lookup.3.0 lookup.1 in
    gives_as c.read_subscript.result _ _ (some ∙ sym (ap (subscript_at read c.args.size) (drop-map (option_map part) c.args.k c.args.subs.now))) c.read_subscript.ensures.exact

pub read_subscripts-loop-k-init : goal.subscripts::read_subscripts-loop-k-init
read_subscripts-loop-k-init t c = (grows_still c.args.s.now, rw c.new-made.ensures (behind_nothing _), c.requires.kept)

pub read_subscripts-returns-in_err-sub-clause-exact : goal.subscripts::read_subscripts-returns-in_err-sub-clause-exact
read_subscripts-returns-in_err-sub-clause-exact t c =
    let stop = c.in_err-sub.field-0.0 in
    let k = c.loop-k.k in
    let dims = c.args.dims.now in
    let size = get_or dims k 0 in
    let read = elements_in c.args.s.now c.args.site.now.left in
    let subs = map (option_map (part_in c.args.s.now c.args.site.now)) c.args.subs.now in
    let small : k < length dims = omega arith in
    let same = same_asked (λ read part. subscript_at read size (drop k (map (option_map part) c.args.subs.now))) c.args.s.now c.loop-k.s c.args.site.now c.loop-k.invariant.0 c.requires.frame in
    let p : c.from_residual.result ≡ Err stop = search rules in
    rw p (subscript_halts read c.loop-k.made dims subs k _ c.loop-k.invariant.1 size stop small (get_same dims k 0 size small) (gives_as (Err stop) _ _ same c.in_err-sub.ensures.exact))

pub read_subscripts-loop-k-preserved : goal.subscripts::read_subscripts-loop-k-preserved
read_subscripts-loop-k-preserved t c =
    let k = c.loop-k.k in
    let dims = c.args.dims.now in
    let size = get_or dims k 0 in
    let read = elements_in c.args.s.now c.args.site.now.left in
    let subs = map (option_map (part_in c.args.s.now c.args.site.now)) c.args.subs.now in
    let small : k < length dims = omega arith in
    let same = same_asked (λ read part. subscript_at read size (drop k (map (option_map part) c.args.subs.now))) c.args.s.now c.loop-k.s c.args.site.now c.loop-k.invariant.0 c.requires.frame in
    let pushed : c.push.new.self ≡ c.loop-k.made ++ c.in_ok-sub.sub ∷ [] = search rules in (
      grows_on c.args.s.now c.loop-k.s c.subscript_of.new.s c.loop-k.invariant.0 c.subscript_of.ensures.grows,
      rw pushed (subscript_more read c.loop-k.made dims subs k _ c.loop-k.invariant.1 size c.in_ok-sub.sub small (get_same dims k 0 size small) (sym same ∙ c.in_ok-sub.ensures.exact)),
      c.subscript_of.ensures.kept,
    )

pub read_subscripts-returns-clause-exact : goal.subscripts::read_subscripts-returns-clause-exact
read_subscripts-returns-clause-exact t c =
    let read = elements_in c.args.s.now c.args.site.now.left in
    let subs = map (option_map (part_in c.args.s.now c.args.site.now)) c.args.subs.now in
    subscripts_end read c.loop-k.made c.args.dims.now subs c.loop-k.k _ c.loop-k.invariant.1 (omega arith)

-- ---- what grows

pub numbers_of-returns-in_err-reads-clause-grows : goal.subscripts::numbers_of-returns-in_err-reads-clause-grows
numbers_of-returns-in_err-reads-clause-grows t c = grows_refl c.args.s.now

pub numbers_of-returns-in_err-known-clause-grows : goal.subscripts::numbers_of-returns-in_err-known-clause-grows
numbers_of-returns-in_err-known-clause-grows t c = grows_trans _ _ _ c.loop-k.invariant.0 c.known_with.ensures.grows

pub numbers_of-returns-in_err-n-clause-grows : goal.subscripts::numbers_of-returns-in_err-n-clause-grows
numbers_of-returns-in_err-n-clause-grows t c = grows_trans _ _ _ c.loop-k.invariant.0 c.known_with.ensures.grows

pub numbers_of-returns-in_err-push-clause-grows : goal.subscripts::numbers_of-returns-in_err-push-clause-grows
numbers_of-returns-in_err-push-clause-grows t c = grows_trans _ _ _ c.loop-k.invariant.0 c.known_with.ensures.grows

pub subscript_in-returns-in_err-dims-clause-grows : goal.subscripts::subscript_in-returns-in_err-dims-clause-grows
subscript_in-returns-in_err-dims-clause-grows t c = grows_refl c.args.s.now

pub read_subscript-returns-in_default-clause-grows : goal.subscripts::read_subscript-returns-in_default-clause-grows
read_subscript-returns-in_default-clause-grows t c = grows_refl c.args.s.now

pub read_subscript-returns-clause-grows : goal.subscripts::read_subscript-returns-clause-grows
read_subscript-returns-clause-grows t c = grows_trans _ _ _ c.alone.ensures.grows c.subscript_in.ensures.grows

pub subscript_at-returns-in-None-clause-grows : goal.subscripts::subscript_at-returns-in-None-clause-grows
subscript_at-returns-in-None-clause-grows t c = grows_refl c.args.s.now

pub read_subscripts-returns-in_err-sub-clause-grows : goal.subscripts::read_subscripts-returns-in_err-sub-clause-grows
read_subscripts-returns-in_err-sub-clause-grows t c = grows_trans _ _ _ c.loop-k.invariant.0 c.subscript_of.ensures.grows

pub read_subscripts-returns-in_err-push-clause-grows : goal.subscripts::read_subscripts-returns-in_err-push-clause-grows
read_subscripts-returns-in_err-push-clause-grows t c = grows_trans _ _ _ c.loop-k.invariant.0 c.subscript_of.ensures.grows
