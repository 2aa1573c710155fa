-- When a model's incidence is refused.
use Rattle.std.proofs.Common.{◌≡◌, ℕ, zero, suc, ◌<◌, ◌≤◌, Bool, true, false, List, [], ◌∷◌, Some, None, length, get_or, map, refl, ap, ◌∙◌, sym, subst, arith}
use Rattle.std.specs.Prelude.{nat_le}
use Rattle.std.specs.List.{All}
use Rattle.std.proofs.lemmas.Bool.Decides.{nat_tests}
use Rattle.std.proofs.lemmas.List.Elements.{All-head, All-tail}
use Rattle.mo_syntax.specs.Outcome.{breach}
use Rattle.mo_syntax.specs.declared.place.Broken.{Broken}
use Rattle.mo_syntax.specs.declared.place.Place.{Place}
use Rattle.mo_syntax.specs.declared.place.Stop.{Stop}
use Rattle.mo_flat.specs.declared.model.FlatEquation.{FlatEquation}
use Rattle.mo_flat.specs.declared.model.FlatModel.{FlatModel}
use Rattle.mo_flat.specs.declared.model.FlatVar.{FlatVar}
use Rattle.mo_flat.specs.Roles.{unknown_numbers}
use Rattle.mo_flat.specs.Sound.{IsSoundEquation, IsSoundModel}
use Rattle.mo_incidence.specs.Model.{first_uncarried, incidence_of, refusal_of, refused, row_of}
use Rattle.mo_incidence.specs.Signature.{IsSound, entries, equations, order_at, row_len, unknown_at}
use Rattle.mo_incidence.proofs.RowLaw.{IsRowFrom, row_is_sound}
use Rattle.mo_syntax.specs.declared.rules.TheConstants.{DERIVATIVE_OF_INPUT, INCIDENCE_TOO_LARGE}

-- a row of a list of rows is the row of some equation
row_at : (vars : List FlatVar) (qs : List FlatEquation) → All (IsSoundEquation vars) qs → (i : ℕ) → i < length (map (row_of vars) qs) →
    (q : FlatEquation) × (get_or (map (row_of vars) qs) i [] ≡ row_of vars q) × IsSoundEquation vars q
row_at vars [] all i h = absurd (omega arith)
row_at vars (q ∷ qs) all zero h = (q, refl, All-head (IsSoundEquation vars) q qs all)
row_at vars (q ∷ qs) all (suc i) h = row_at vars qs (All-tail (IsSoundEquation vars) q qs all) i (omega arith)

row_facts : (vars : List FlatVar) (qs : List FlatEquation) → All (IsSoundEquation vars) qs → (i : ℕ) → i < length (map (row_of vars) qs) → IsRowFrom 1 (length (unknown_numbers vars)) (get_or (map (row_of vars) qs) i [])
row_facts vars qs all i h = let r = row_at vars qs all i h in subst (λ l. IsRowFrom 1 (length (unknown_numbers vars)) l) (sym r.1) (row_is_sound vars r.0 r.2)

length_map : {A B : Type 0} (f : A → B) (xs : List A) → length (map f xs) ≡ length xs
length_map f [] = refl
length_map f (x ∷ xs) = let e = length_map f xs in omega arith

pub sound_where_few : (m : FlatModel) → IsSoundModel m → entries (incidence_of m) ≤ 1000000 → IsSound (incidence_of m)
unfolding incidence_of equations row_len unknown_at order_at
sound_where_few m s few = record {
  known = λ i k h l. (let r = (row_facts m.vars m.equations s.equations i h).known k l in let a = r.0 in let b = r.1 in ((omega arith), (omega arith)));
  ascending = λ i k h l. (row_facts m.vars m.equations s.equations i h).ascending k l;
  low = λ i k h l. (row_facts m.vars m.equations s.equations i h).low k l;
  few_equations = (let e = length_map (row_of m.vars) m.equations in let f = s.equation_count in omega arith);
  few_unknowns = s.unknown_count;
  few_entries = few;
}

pub refused_first : (m : FlatModel) (place : Place) (refusal : Broken) (s : Stop) → first_uncarried m.vars m.equations ≡ Some place → s ≡ Stop.Broken (breach DERIVATIVE_OF_INPUT place) → s ≡ Stop.Broken refusal → refusal_of m ≡ Some refusal
unfolding refusal_of
refused_first m place refusal s h e f =
    let same : breach DERIVATIVE_OF_INPUT place ≡ refusal = cc in
    ap (λ o. refused o (nat_le (entries (incidence_of m)) 1000000) m.place) h ∙ ap (λ b. Some b) same

accepted_by : (n : ℕ) (place : Place) (b : Bool) → nat_le n 1000000 ≡ b → n ≤ 1000000 → refused None b place ≡ None
accepted_by n place true e h = refl
accepted_by n place false e h = absurd (grind (arith, nat_tests))

pub accepted : (m : FlatModel) → first_uncarried m.vars m.equations ≡ None → IsSound (incidence_of m) → refusal_of m ≡ None
unfolding refusal_of
accepted m h s =
    ap (λ o. refused o (nat_le (entries (incidence_of m)) 1000000) m.place) h
    ∙ accepted_by (entries (incidence_of m)) m.place (nat_le (entries (incidence_of m)) 1000000) refl s.few_entries

refused_by : (m : FlatModel) (refusal : Broken) → IsSoundModel m → (IsSound (incidence_of m) → ⊥) → breach INCIDENCE_TOO_LARGE m.place ≡ refusal → (b : Bool) → nat_le (entries (incidence_of m)) 1000000 ≡ b → refused None b m.place ≡ Some refusal
refused_by m refusal s unsound e true t = absurd (unsound (sound_where_few m s (grind (arith, nat_tests))))
refused_by m refusal s unsound e false t = ap (λ b. Some b) e

pub refused_size : (m : FlatModel) (refusal : Broken) (s : Stop) → IsSoundModel m → first_uncarried m.vars m.equations ≡ None → (IsSound (incidence_of m) → ⊥) →
    s ≡ Stop.Broken (breach INCIDENCE_TOO_LARGE m.place) → s ≡ Stop.Broken refusal → refusal_of m ≡ Some refusal
unfolding refusal_of
refused_size m refusal s sound h unsound e f =
    let same : breach INCIDENCE_TOO_LARGE m.place ≡ refusal = cc in
    ap (λ o. refused o (nat_le (entries (incidence_of m)) 1000000) m.place) h
    ∙ refused_by m refusal sound unsound same (nat_le (entries (incidence_of m)) 1000000) refl
