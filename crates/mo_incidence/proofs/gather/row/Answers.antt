use Rattle.std.proofs.Common.{◌≡◌, ℕ, List, ◌++◌, ap, ◌∙◌, subst, IsPermutation}
use Rattle.std.proofs.lemmas.Result.{IfOk-weaker}
use Rattle.mo_flat.specs.declared.model.FlatVar.{FlatVar}
use Rattle.mo_flat.specs.Sound.{IsSoundEquation}
use Rattle.mo_incidence.specs.steps.Gathered.{found, last_of_each, unknown_places}
use Rattle.mo_incidence.specs.Model.{row_of}
use Rattle.mo_incidence.proofs.RowLaw.{entries_of, row_law}
use Rattle.mo_incidence.proofs.gather.row.Goals as goal

pub returns : goal.returns
returns c =
    let q = c.args.equation.now in
    let both : c.gather-2.new.entries.items ≡ found c.args.places.now q.left 0 ++ found c.args.places.now q.right 0 =
    c.in_ok-gather-2.ensures ∙ ap (λ (l : List (ℕ × ℕ)). l ++ found c.args.places.now q.right 0) (c.in_ok-gather.ensures ∙ ap (λ (l : List (ℕ × ℕ)). l ++ found c.args.places.now q.left 0) c.new-entries.ensures.items) in
    let right : (vars : List FlatVar) → c.args.places.now ≡ unknown_places vars → IsSoundEquation vars q → last_of_each c.deref.result.now ≡ row_of vars q = λ vars same sound.
    (let entries : c.gather-2.new.entries.items ≡ entries_of vars q = both ∙ ap (λ (p : List ℕ). found p q.left 0 ++ found p q.right 0) same in
    ap last_of_each c.deref.ensures.value ∙ row_law vars q c.sort_unstable.new.self.items sound
    (subst (λ l. IsPermutation l c.sort_unstable.new.self.items) entries c.sort_unstable.ensures.permutation) c.sort_unstable.ensures.sorted) in
    IfOk-weaker c.highest.result _ _ (λ row made. λ vars same sound. made ∙ right vars same sound) c.highest.ensures
