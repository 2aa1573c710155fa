-- Sources that hold a modifier list.
use Rattle.std.proofs.Common.{◌≡◌, ℕ, ◌+◌, ◌<◌, ◌≤◌, true, false, List, [], ◌∷◌, ◌++◌, length, drop, get_or, flat_map, Option, Some, None, is_some, Bor, refl, ap, sym, ◌∙◌}
use Rattle.std.specs.Option.{option_to_list, option_copied}
use Rattle.std.proofs.lemmas.List.{drop_more, drop_all}
use Rattle.mo_syntax.specs.declared.class.ArgumentOf.{ArgumentOf}
use Rattle.mo_syntax.specs.declared.class.Give.{Give}
use Rattle.mo_scope.specs.Frames.{Argued, Listed, Source}
use Rattle.mo_scope.specs.Parts.{first_of, held, without_value}

-- ---- a source without its value

-- an argument of which names are left has no value
pub valueless_left : (source : Source) (argument : ArgumentOf Give) (passed : ℕ) → source.piece.given ≡ Argued argument passed → passed < length argument.name.0 →
    (without_value source).piece.given ≡ Argued argument passed
valueless_left source argument passed is below = rw (is, drop_more argument.name.0 passed [] below) refl

pub valueless_passed : (source : Source) (argument : ArgumentOf Give) (passed : ℕ) → source.piece.given ≡ Argued argument passed → length argument.name.0 ≤ passed →
    (without_value source).piece.given ≡ Listed (record { list = (held (Argued argument passed)).list; value = None })
valueless_passed source argument passed is above = rw (is, drop_all passed argument.name.0 above) refl

-- ---- whether a list has an element

pub is_some_copied : {A : Type 0} (o : Option (Bor A)) → is_some (option_copied o) ≡ is_some o
is_some_copied None = refl
is_some_copied (Some a) = refl

module _ {X Y : Type 0} (f : X → List Y) (xs : List X) (i : ℕ) (x : X) (below : i < length xs) (at : x ≡ get_or xs i x) where
  pub rest_is : flat_map f (drop i xs) ≡ f x ++ flat_map f (drop (i + 1) xs)
  rest_is = ap (flat_map f) (drop_more xs i x below ∙ ap (λ y. y ∷ drop (i + 1) xs) (sym at))

  pub first_here : (o : Option Y) → option_to_list o ≡ f x → is_some o ≡ true → is_some (first_of (flat_map f (drop i xs))) ≡ true
  first_here (Some y) is some = rw (rest_is, sym is) refl
  first_here None is some = cc

  pub first_later : (o : Option Y) → option_to_list o ≡ f x → is_some o ≡ false → is_some (first_of (flat_map f (drop (i + 1) xs))) ≡ is_some (first_of (flat_map f (drop i xs)))
  first_later None is none = rw (rest_is, sym is) refl
  first_later (Some y) is none = cc
