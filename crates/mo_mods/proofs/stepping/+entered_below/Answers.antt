-- One table after another.
use Rattle.std.proofs.Common.{◌≡◌, ◌∷◌, ◌++◌, [], refl, ap, sym, ◌∙◌, subst, append_assoc}
use Rattle.std.specs.List.Sorted.{IsStrictlySortedBy}
use Rattle.std.specs.Map.{keys_of}
use Rattle.std.proofs.lemmas.Result.{IfOk-weaker}
use Rattle.mo_mods.specs.Sights.{name_cmp}
use Rattle.mo_mods.proofs.Making.{Entry, entered_more}
use Rattle.mo_mods.proofs.stepping.+entered_below.Goals as goal

pub loop-name-preserved : goal.loop-name-preserved
loop-name-preserved t c =
    let l = c.loop-name in
    let done = l.invariant.0 in
    let e : Entry = (c.in-Some.name.now, c.in-Some.env.now) in
    let left = c.next.new.self in
    let put = c.in_ok-put_under.ensures in
    let is = rw put.is at c.entered_env.ensures in
    let all : c.args.below.now.entries ≡ done ++ e ∷ left = l.invariant.1 ∙ ap (λ es. done ++ es) c.in-Some.ensures.steps in (
      done ++ e ∷ [],
      all ∙ sym (append_assoc done (e ∷ []) left),
      λ frames.
          entered_more frames c.args.index.now done e left l.made.entries c.put_under.new.made.entries c.in-Some.name.now put.value
          (subst (λ es. IsStrictlySortedBy name_cmp (keys_of es)) all c.iter-name-items.ensures.ordered) refl
          (is frames (IfOk-weaker c.entered_below-more.result _ _ (λ _ seen. seen frames) c.entered_below-more.ensures)) put.entries (l.invariant.2 frames),
    )
