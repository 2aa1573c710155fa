use Rattle.std.proofs.Common.{◌≡◌, ◌+◌, ◌≤◌, ℕ, false, true, List, [], ◌∷◌, ◌++◌, length, sym, ap, ◌∙◌, arith, length-append, subst}
use Rattle.mo_incidence.specs.Signature.{equations}
use Rattle.mo_incidence.specs.steps.Given.{given, IsRow}
use Rattle.mo_incidence.proofs.Building.{built_none, built_next, built_end, built_sound, built_flat, row_given, equations_given, sound_row, too_many, IsBuiltTo}
use Rattle.mo_incidence.proofs.table.Incidence.from_rows.Goals as goal

pub loop-row-init : goal.loop-row-init
loop-row-init c = built_none _ _ _ (c.in_ok-push.ensures.items ∙ ap (λ (xs : List ℕ). xs ++ 0 ∷ []) c.new-starts.ensures.items) c.new-flat.ensures.items

pub loop-row-preserved : goal.loop-row-preserved
unfolding given
loop-row-preserved c =
    let flat_is : c.extend_from_slice.new.self.items ≡ c.loop-row.flat.items ++ c.row-item.result.items =
    c.in_ok-extend_from_slice.ensures.items ∙ ap (λ (xs : List (ℕ × ℕ)). c.loop-row.flat.items ++ xs) c.deref-in-loop-row.ensures.value in
    let longer : length c.extend_from_slice.new.self.items ≡ length c.loop-row.flat.items + length c.row-item.result.items = ap length flat_is ∙ length-append _ _ in
    let size : c.len-in-loop-row-2.result ≡ length c.extend_from_slice.new.self.items = omega (arith, c.len-in-loop-row-2.ensures) in
    let right : IsRow c.args.unknowns c.deref.result.now = c.is_row.ensures.0 c.if-not-is_row.false in
    built_next _ _ _ _ c.loop-row.invariant c.row-item.result.items
    (row_given c.args.unknowns c.args.rows.now _ _ c.loop-row-test.true c.row-item.is)
    (rw c.deref.ensures.value at right)
    _ _ flat_is (omega (arith, longer, c.len.ensures, c.len-in-loop-row.ensures, c.if-len.false)) (c.in_ok-push-2.ensures.items ∙ ap (λ (n : ℕ). c.loop-row.starts.items ++ n ∷ []) size)

pub returns-then-rows-gt-MOST_EQUATIONS-clause-unsound : goal.returns-then-rows-gt-MOST_EQUATIONS-clause-unsound
returns-then-rows-gt-MOST_EQUATIONS-clause-unsound c =
    λ _ sound. let few : equations (given c.args.unknowns c.args.rows.now) ≤ 50000 = sound.few_equations in absurd (omega (arith, equations_given c.args.unknowns c.args.rows.now))

pub returns-then-unknowns-gt-MOST_UNKNOWNS-clause-unsound : goal.returns-then-unknowns-gt-MOST_UNKNOWNS-clause-unsound
unfolding given
returns-then-unknowns-gt-MOST_UNKNOWNS-clause-unsound c = λ _ sound. let few : c.args.unknowns ≤ 50000 = sound.few_unknowns in absurd (omega arith)

pub returns-then-not-is_row-clause-unsound : goal.returns-then-not-is_row-clause-unsound
unfolding given
returns-then-not-is_row-clause-unsound c = λ _ sound.
    let right : IsRow c.args.unknowns c.row-item.result.items = sound_row _ _ _ sound (omega (arith, equations_given c.args.unknowns c.args.rows.now, c.loop-row-test.true)) (row_given c.args.unknowns c.args.rows.now _ _ c.loop-row-test.true c.row-item.is) in
    let bad : false ≡ true = sym c.if-not-is_row.true ∙ c.is_row.ensures.1 (rw c.deref.ensures.value right) in
    absurd cc

pub returns-then-len-clause-unsound : goal.returns-then-len-clause-unsound
returns-then-len-clause-unsound c = λ _ sound.
    let few = too_many _ _ _ _ _ c.loop-row.invariant sound (omega (arith, equations_given c.args.unknowns c.args.rows.now, c.loop-row-test.true)) (row_given c.args.unknowns c.args.rows.now _ _ c.loop-row-test.true c.row-item.is) in
    absurd (omega (arith, c.len.ensures, c.len-in-loop-row.ensures, c.if-len.true, few))

pub invariant_of-result : goal.invariant_of-result
unfolding given
invariant_of-result c =
    let g = given c.args.unknowns c.args.rows.now in
    let at : c.loop-row.row-index ≡ equations g = omega (arith, equations_given c.args.unknowns c.args.rows.now) in
    built_flat _ _ _ (subst (λ (n : ℕ). IsBuiltTo g n c.loop-row.starts.items c.loop-row.flat.items) at c.loop-row.invariant) (omega (arith, equations_given c.args.unknowns c.args.rows.now)) (omega arith)

pub returns-clause-ok : goal.returns-clause-ok
unfolding given
returns-clause-ok c =
    let g = given c.args.unknowns c.args.rows.now in
    let at : c.loop-row.row-index ≡ equations g = omega (arith, equations_given c.args.unknowns c.args.rows.now) in
    built_end _ _ _ (subst (λ (n : ℕ). IsBuiltTo g n c.loop-row.starts.items c.loop-row.flat.items) at c.loop-row.invariant)

pub returns-clause-sound : goal.returns-clause-sound
unfolding given
returns-clause-sound c =
    let g = given c.args.unknowns c.args.rows.now in
    let at : c.loop-row.row-index ≡ equations g = omega (arith, equations_given c.args.unknowns c.args.rows.now) in
    built_sound _ _ _ (subst (λ (n : ℕ). IsBuiltTo g n c.loop-row.starts.items c.loop-row.flat.items) at c.loop-row.invariant) (omega (arith, equations_given c.args.unknowns c.args.rows.now)) (omega arith)
