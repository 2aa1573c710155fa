-- What a reference hands in.
use Rattle.std.proofs.Common.{◌≡◌, ℕ, ◌+◌, ◌<◌, Bool, true, false, List, [], ◌∷◌, ◌++◌, length, take, get_or, refl, ap, sym, ◌∙◌, append_assoc}
use Rattle.std.specs.Prelude.{if◌then◌else◌, is_ok}
use Rattle.std.proofs.lemmas.List.{append-nil, map-append, take_more}
use Rattle.std.proofs.lemmas.Grind.{flat_map-append}
use Rattle.mo_flat.specs.declared.array.Subscript.{Subscript}
use Rattle.mo_flat.specs.declared.array.Subscript.TheVariants.{All}
use Rattle.mo_typing.specs.Dims.{Dims, subscripted}
use Rattle.mo_typing.specs.Subscripts.{subscripts}
use Rattle.mo_eval.specs.declared.selections.Selection.{Selection as SelectionAt}
use Rattle.mo_eval.specs.References.{Selection, every, handed_in, is_inside, kept_dims}
use Rattle.mo_values.specs.Selected.{emptied}
use Rattle.mo_eval.specs.steps.Selecting.{inside_or, selection_seen, selections_seen}

kept_append : (before : List Selection) (last : Selection) → kept_dims (before ++ last ∷ []) ≡ kept_dims before ++ subscripted last.subs last.dims
kept_append before last =
    flat_map-append (λ (selection : Selection). subscripted selection.subs selection.dims) before (last ∷ [])
    ∙ ap (λ dims. kept_dims before ++ dims) (append-nil (subscripted last.subs last.dims))

-- one more part
pub kept_more : (chosen : List SelectionAt) (i : ℕ) (one : SelectionAt) (made more : Dims) → i < length chosen → one ≡ get_or chosen i one →
    made ≡ kept_dims (selections_seen (take i chosen)) → more ≡ subscripted one.subs one.dims → made ++ more ≡ kept_dims (selections_seen (take (i + 1) chosen))
kept_more chosen i one made more small is before left =
    ap (λ dims. dims ++ more) before
    ∙ (ap (λ dims. kept_dims (selections_seen (take i chosen)) ++ dims) left
    ∙ (sym (kept_append (selections_seen (take i chosen)) (selection_seen one))
    ∙ (ap kept_dims (sym (map-append selection_seen (take i chosen) (one ∷ [])))
    ∙ ap (λ xs. kept_dims (selections_seen xs)) (ap (λ x. take i chosen ++ x ∷ []) is ∙ sym (take_more chosen i one small)))))

pub every_more : (dims : Dims) (i n : ℕ) (made : List Subscript) → i < length dims → made ≡ every (take i dims) → made ++ All ∷ [] ≡ every (take (i + 1) dims)
every_more dims i n made small before =
    ap (λ xs. xs ++ All ∷ []) before
    ∙ (sym (map-append (λ (k : ℕ). All) (take i dims) (get_or dims i n ∷ [])) ∙ ap every (sym (take_more dims i n small)))

-- ---- the last part

inside_last : (before : List Selection) (last : Selection) → is_inside (before ++ last ∷ []) ≡ is_ok (subscripts last.dims last.subs)
inside_last [] last = refl
inside_last (one ∷ []) last = refl
inside_last (one ∷ next ∷ others) last = inside_last (next ∷ others) last

pub handed_inside : (before : List Selection) (last : Selection) → is_ok (subscripts last.dims last.subs) ≡ true →
    handed_in (before ++ last ∷ []) ≡ (kept_dims before ++ subscripted last.subs last.dims, [])
handed_inside [] last inside = rw inside refl
handed_inside (one ∷ []) last inside = rw inside (ap (λ dims. (dims, [])) (kept_append (one ∷ []) last))
handed_inside (one ∷ next ∷ others) last inside =
    ap (λ (b : Bool). if b then (kept_dims (one ∷ next ∷ (others ++ last ∷ [])), []) else (
      subscripted one.subs one.dims ++ (handed_in (next ∷ (others ++ last ∷ []))).0,
      every (subscripted one.subs one.dims) ++ (handed_in (next ∷ (others ++ last ∷ []))).1,
    )) (inside_last (next ∷ others) last ∙ inside)
    ∙ ap (λ dims. (dims, [])) (kept_append (one ∷ next ∷ others) last)

behind_one : (one : Selection) (k more : Dims) (subs : List Subscript) →
    ◌≡◌ {A = Dims × List Subscript} (subscripted one.subs one.dims ++ (k ++ more), every (subscripted one.subs one.dims) ++ (every k ++ subs))
    ((subscripted one.subs one.dims ++ k) ++ more, every (subscripted one.subs one.dims ++ k) ++ subs)
behind_one one k more subs =
    ap (λ dims. (dims, every (subscripted one.subs one.dims) ++ (every k ++ subs))) (sym (append_assoc (subscripted one.subs one.dims) k more))
    ∙ ap (λ xs. ((subscripted one.subs one.dims ++ k) ++ more, xs))
    (sym (append_assoc (every (subscripted one.subs one.dims)) (every k) subs) ∙ ap (λ xs. xs ++ subs) (sym (map-append (λ (n : ℕ). All) (subscripted one.subs one.dims) k)))

pub handed_outside : (before : List Selection) (last : Selection) → is_ok (subscripts last.dims last.subs) ≡ false →
    handed_in (before ++ last ∷ []) ≡ (kept_dims before ++ emptied last.dims last.subs, every (kept_dims before) ++ last.subs)
handed_outside [] last outside = rw outside refl
handed_outside (one ∷ []) last outside = rw outside (behind_one one [] (emptied last.dims last.subs) last.subs)
handed_outside (one ∷ next ∷ others) last outside =
    ap (λ (b : Bool). if b then (kept_dims (one ∷ next ∷ (others ++ last ∷ [])), []) else (
      subscripted one.subs one.dims ++ (handed_in (next ∷ (others ++ last ∷ []))).0,
      every (subscripted one.subs one.dims) ++ (handed_in (next ∷ (others ++ last ∷ []))).1,
    )) (inside_last (next ∷ others) last ∙ outside)
    ∙ (ap (λ (h : Dims × List Subscript). (subscripted one.subs one.dims ++ h.0, every (subscripted one.subs one.dims) ++ h.1)) (handed_outside (next ∷ others) last outside)
    ∙ behind_one one (kept_dims (next ∷ others)) (emptied last.dims last.subs) last.subs)

-- whether the last part lies inside
pub inside_from : (chosen : List Selection) → inside_or true chosen ≡ is_inside chosen
inside_from [] = refl
inside_from (one ∷ []) = refl
inside_from (one ∷ next ∷ others) = inside_from (next ∷ others)
