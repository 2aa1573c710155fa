-- The texts of literals, name by name.
use Rattle.std.proofs.Common.{◌≡◌, ℕ, List, [], ◌∷◌, ◌++◌, refl, ap, sym, ◌∙◌, append_assoc, ◌+◌}
use Rattle.std.specs.Prelude.{codes}
use Rattle.std.proofs.lemmas.List.{append-nil}
use Rattle.std.proofs.lemmas.Grind.{flat_map-append}
use Rattle.mo_eval.specs.Resolving.{dotted}
use Rattle.mo_eval.specs.steps.Spelling.{with_dots}

pub dots_append : (names others : List (List ℕ)) → with_dots (names ++ others) ≡ with_dots names ++ with_dots others
dots_append names others = flat_map-append (λ (name : List ℕ). name ++ codes ".") names others

pub dots_one : (name : List ℕ) → with_dots (name ∷ []) ≡ name ++ codes "."
dots_one name = append-nil (name ++ codes ".")

pub dots_behind : (names : List (List ℕ)) (name : List ℕ) → with_dots (names ++ name ∷ []) ≡ with_dots names ++ (name ++ codes ".")
dots_behind names name = dots_append names (name ∷ []) ∙ ap (λ text. with_dots names ++ text) (dots_one name)

pub dotted_last : (path : List (List ℕ)) (name : List ℕ) → dotted (path ++ name ∷ []) ≡ with_dots path ++ name
dotted_last [] name = refl
dotted_last (one ∷ []) name = ap (λ text. text ++ name) (sym (dots_one one))
dotted_last (one ∷ next ∷ path) name =
    ap (λ text. (one ++ codes ".") ++ text) (dotted_last (next ∷ path) name)
    ∙ sym (append_assoc (one ++ codes ".") (with_dots (next ∷ path)) name)
