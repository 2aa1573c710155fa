use Rattle.std.proofs.Common.{◌≡◌, ℕ, ◌+◌, ◌<◌, ◌≤◌, List, [], ◌∷◌, ◌++◌, Vec, length, get_or, map, take, ap, ◌∙◌, sym, subst}
use Rattle.std.specs.Global.{Global}
use Rattle.std.proofs.lemmas.List.{map-append, take_all, take_more}
use Rattle.mo_flat.specs.declared.model.FlatEquation.{FlatEquation}
use Rattle.mo_flat.specs.Roles.{unknown_numbers}
use Rattle.mo_flat.specs.Sound.{IsSoundEquation}
use Rattle.mo_incidence.specs.steps.Given.{given}
use Rattle.mo_incidence.specs.Model.{incidence_of, row_of}
use Rattle.mo_incidence.proofs.model.rows.Goals as goal

-- one more row
gained : (f : FlatEquation → List (ℕ × ℕ)) (qs : List FlatEquation) (i : ℕ) (q : FlatEquation) (rows new : List (Vec (ℕ × ℕ) Global)) (row : Vec (ℕ × ℕ) Global) →
    i < length qs → q ≡ get_or qs i q → new ≡ rows ++ row ∷ [] → row.items ≡ f q → map (λ r. r.items) rows ≡ map f (take i qs) → map (λ r. r.items) new ≡ map f (take (i + 1) qs)
gained f qs i q rows new row h e n r m =
    ap (map (λ r. r.items)) n ∙ map-append (λ r. r.items) rows (row ∷ [])
    ∙ ap (λ l. l ++ row.items ∷ []) m ∙ ap (λ x. map f (take i qs) ++ x ∷ []) (r ∙ ap f e)
    ∙ sym (ap (map f) (take_more qs i q h) ∙ map-append f (take i qs) (get_or qs i q ∷ []))

pub returns : goal.returns
unfolding given incidence_of
returns c = λ sound.
    let qs : List FlatEquation = c.args.m.now.equations in
    let past : length qs ≤ c.loop-equation.equation-index = subst (λ (l : List FlatEquation). length l ≤ c.loop-equation.equation-index) c.as_slice-equation-items.ensures c.loop-equation-test.false in
    let rows : map (λ r. r.items) c.loop-equation.rows.items ≡ map (row_of c.args.m.now.vars) qs = c.loop-equation.invariant sound ∙ ap (map (row_of c.args.m.now.vars)) (take_all c.loop-equation.equation-index qs past) in
    ap (λ (r : List (List (ℕ × ℕ))). record { unknowns = length (unknown_numbers c.args.m.now.vars); rows = r }) rows

pub loop-equation-preserved : goal.loop-equation-preserved
loop-equation-preserved c = λ whole.
    let qs : List FlatEquation = c.args.m.now.equations in
    let i : ℕ = c.loop-equation.equation-index in
    let q : FlatEquation = c.equation-item.result in
    let here : i < length qs = subst (λ (l : List FlatEquation). i < length l) c.as_slice-equation-items.ensures c.loop-equation-test.true in
    let at : q ≡ get_or qs i q = c.equation-item.is ∙ ap (λ (l : List FlatEquation). get_or l i q) c.as_slice-equation-items.ensures in
    let sound : IsSoundEquation c.args.m.now.vars q = subst (λ e. IsSoundEquation c.args.m.now.vars e) (sym at) (whole.equations i q here) in
    gained (row_of c.args.m.now.vars) qs i q c.loop-equation.rows.items c.push.new.self.items c.in_ok-row.field-0 here at c.in_ok-push.ensures.items
    (c.in_ok-row.ensures c.args.m.now.vars c.requires.places sound) (c.loop-equation.invariant whole)
