use Rattle.std.proofs.Common.{◌≡◌, Ok, Err, ap, sym, ◌∙◌, rules}
use Rattle.mo_scope.specs.Worlds.{frames_of}
use Rattle.mo_typing.specs.Kinds.{kind_of}
use Rattle.mo_values.specs.Scalars.{Known, if_it_has, value_with}
use Rattle.mo_eval.specs.Seen.{resolved_seen}
use Rattle.mo_eval.specs.steps.Sites.{elements_in}
use Rattle.mo_eval.specs.Values.{most_references}
use Rattle.mo_eval.specs.Virtuals.{known_at}
use Rattle.mo_eval.proofs.Growing.{gives_halt}
use Rattle.mo_names.proofs.Later.{grows_refl}
use Rattle.mo_eval.proofs.reader.value_of.Goals as goal

pub returns-in_err-known-clause-exact : goal.returns-in_err-known-clause-exact
returns-in_err-known-clause-exact c =
    let stop = c.in_err-known.field-0.0 in
    let asked = resolved_seen (frames_of c.args.s.now) c.args.resolved.now in
    let k = c.in_ok-kind.kind in
    let kind : kind_of asked.expression ≡ Ok k = sym c.kind_of.ensures ∙ c.in_ok-kind.ensures in
    let p : c.from_residual-in_err-known.result ≡ Err stop = search rules in
    rw (p, c.in_ok-fitting.ensures, kind)
    (gives_halt {A = Known} stop (known_at (elements_in c.args.s.now most_references) asked c.args.index.now) (λ known. Ok (value_with k (if_it_has k known))) (rw c.as_slice.ensures at c.in_err-known.ensures.exact))

pub returns-clause-exact : goal.returns-clause-exact
returns-clause-exact c =
    let asked = resolved_seen (frames_of c.args.s.now) c.args.resolved.now in
    let k = c.in_ok-kind.kind in
    let kind : kind_of asked.expression ≡ Ok k = sym c.kind_of.ensures ∙ c.in_ok-kind.ensures in
    let known : known_at (elements_in c.args.s.now most_references) asked c.args.index.now ≡ Ok c.in_ok-known.known = rw c.as_slice.ensures at c.in_ok-known.ensures.exact in
    rw (c.in_ok-fitting.ensures, kind, known) (ap Ok (sym (c.value_with.ensures.exact ∙ ap (value_with k) c.if_it_has.ensures.exact)))

pub returns-in_err-fitting-clause-grows : goal.returns-in_err-fitting-clause-grows
returns-in_err-fitting-clause-grows c = grows_refl _

pub returns-in_err-kind-clause-grows : goal.returns-in_err-kind-clause-grows
returns-in_err-kind-clause-grows c = grows_refl _
