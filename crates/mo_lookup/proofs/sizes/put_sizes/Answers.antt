-- Nothing is put where there are no dimensions.
use Rattle.std.proofs.Common.{◌≡◌, ◌∙◌, ◌∷◌, ◌++◌, [], List, Bool, true, false, length, ap, arith, sym, refl, rules}
use Rattle.std.specs.Bool.{◌==◌}
use Rattle.std.proofs.lemmas.Bool.Decides.{nat_tests}
use Rattle.std.proofs.lemmas.List.{append-nil}
use Rattle.mo_scope.specs.Sizes.{is_nothing}
use Rattle.mo_scope.specs.Worlds.{IsFrame}
use Rattle.mo_lookup.specs.Sizing.{sizes_seen}
use Rattle.mo_lookup.proofs.Written.{every_behind, size_put}
use Rattle.mo_lookup.proofs.sizes.put_sizes.Goals as goal

-- whether there are no dimensions
nothing : {A : Type 0} (xs : List A) (b : Bool) → b ≡ (length xs == 0) → is_nothing xs ≡ b
nothing [] b told = sym told
nothing (x ∷ xs) true told = absurd (let none : length (x ∷ xs) ≡ 0 = grind (arith, nat_tests, told) in cc)
nothing (x ∷ xs) false told = refl

pub returns-then-is_empty-clause-exact : goal.returns-then-is_empty-clause-exact
returns-then-is_empty-clause-exact c = λ frames.
    let yes : c.is_empty.result ≡ true = search rules in
    let none : is_nothing c.args.subscripts.now ≡ true = nothing c.args.subscripts.now c.is_empty.result c.is_empty.ensures ∙ yes in
    rw none (sym (append-nil (sizes_seen frames c.args.made.now)))

pub returns-clause-there : goal.returns-clause-there
returns-clause-there c = λ world is are.
    rw c.in_ok-push.ensures.ok (every_behind (λ sizes. IsFrame world sizes.scope.frame.0) c.args.made.now _ are (rw c.in_ok-scope.ensures is))

pub returns-clause-exact : goal.returns-clause-exact
returns-clause-exact c = λ frames.
    let no : c.is_empty.result ≡ false = search rules in
    let some : is_nothing c.args.subscripts.now ≡ false = nothing c.args.subscripts.now c.is_empty.result c.is_empty.ensures ∙ no in
    rw (c.in_ok-push.ensures.ok, some) (size_put frames c.args.made.now _ ∙ ap (λ xs. sizes_seen frames c.args.made.now ++ xs) (rw c.in_ok-scope.ensures refl))
