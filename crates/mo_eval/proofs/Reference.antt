-- What a reference makes, step by step.
use Rattle.std.proofs.Common.{◌≡◌, ℕ, zero, suc, ◌+◌, ◌-◌, Bool, List, [], ◌∷◌, ◌++◌, length, get_or, drop, map, Some, Ok, Err, refl, ap, sym, ◌∙◌, arith}
use Rattle.std.specs.List.{list_any}
use Rattle.mo_syntax.specs.Outcome.{Outcome, breaks}
use Rattle.mo_syntax.specs.declared.expr.PartOf.{PartOf}
use Rattle.mo_syntax.specs.declared.meaning.Kind.{Kind}
use Rattle.mo_syntax.specs.declared.place.Place.{Place}
use Rattle.mo_syntax.specs.declared.place.Stop.{Stop}
use Rattle.mo_syntax.specs.declared.place.Stop.TheVariants.{Broken as broken_by, NoMemory as no_memory}
use Rattle.mo_flat.specs.declared.array.ArrayNode.{ArrayNode}
use Rattle.mo_flat.specs.declared.array.ArrayNode.TheVariants.{Vars}
use Rattle.mo_scope.specs.Frames.{Member}
use Rattle.mo_scope.specs.Rows.{Table, is_constant}
use Rattle.mo_scope.specs.Worlds.{World}
use Rattle.mo_syntax.specs.declared.rules.TheConstants.{REFERENCE_CHAIN_TOO_LONG}
use Rattle.mo_typing.specs.Indices.{Index}
use Rattle.mo_typing.specs.Outcome.{Gives}
use Rattle.mo_values.specs.declared.context.Context.{Context}
use Rattle.mo_eval.specs.declared.virtuals.Virtual.{Virtual as VirtualAt}
use Rattle.mo_eval.specs.Contexts.{Part, read_element}
use Rattle.mo_eval.specs.Components.{reading_by}
use Rattle.mo_eval.specs.References.{Selection, elements_selected, handed_in, is_replaced, last_of, made_reference, selections, virtual_elements}
use Rattle.mo_eval.specs.steps.Sites.{IsMade}
use Rattle.mo_eval.specs.Values.{reading}
use Rattle.mo_eval.specs.Virtuals.{Ask, Reading, Virtual, numbers_behind}
use Rattle.mo_eval.specs.steps.Selecting.{kind_of_elements}

-- what may be read
pub nothing_left : (table : Table) (left : ℕ) (place : Place) → left ≡ 0 → reading table left place ≡ breaks REFERENCE_CHAIN_TOO_LONG place
unfolding reading
nothing_left table zero place none = refl
nothing_left table (suc left) place none = absurd (omega (arith, none))

pub one_less : (table : Table) (left deeper : ℕ) (place : Place) → left ≡ suc deeper → reading table left place ≡ Ok (reading_by table (reading table deeper))
unfolding reading
one_less table left deeper place is = rw is refl

pub last_is : {A : Type 0} (x : A) (xs : List A) (d : A) → last_of x xs ≡ get_or (x ∷ xs) (length xs) d
last_is x [] d = refl
last_is x (y ∷ ys) d = last_is y ys d

-- the first and the last of some
pub opened_first : {A : Type 0} (xs : List A) (d : A) → (xs ≡ [] → ⊥) → xs ≡ get_or xs 0 d ∷ drop 1 xs
opened_first [] d apart = absurd (apart refl)
opened_first (x ∷ xs) d apart = refl

pub last_get : {A : Type 0} (xs : List A) (d : A) → (xs ≡ [] → ⊥) → last_of (get_or xs 0 d) (drop 1 xs) ≡ get_or xs (length xs - 1) d
last_get [] d apart = absurd (apart refl)
last_get (x ∷ xs) d apart = let e : length (x ∷ xs) - 1 ≡ length xs = omega arith in last_is x xs d ∙ ap (λ k. get_or (x ∷ xs) k d) (sym e)

pub last_map : {A B : Type 0} (h : A → B) (x : A) (xs : List A) → last_of (h x) (map h xs) ≡ h (last_of x xs)
last_map h x [] = refl
last_map h x (y ∷ ys) = last_map h y ys

module _ (table : Table) (ask : Ask) (context : Context) (place : Place) (first : Member × PartOf Part) (others : List (Member × PartOf Part)) (before : List Virtual) where
  abbrev pub is_fixed : Bool
  is_fixed = list_any (λ name. is_constant name.0.declares) (first ∷ others)

  pub asking_breaks : ask place ≡ breaks REFERENCE_CHAIN_TOO_LONG place → made_reference table ask context place first others before ≡ breaks REFERENCE_CHAIN_TOO_LONG place
  asking_breaks h = rw h refl

  module _ (reading : Reading) (may : ask place ≡ Ok reading) where
    pub selecting_halts : (stop : Stop) → Gives {T = List Selection} (Err stop) (selections table reading (read_element ask is_replaced) (Some first.0) (first ∷ others)) →
        Gives {T = ArrayNode × List Virtual} (Err stop) (made_reference table ask context place first others before)
    selecting_halts (broken_by broken) h = rw (may, h) refl
    selecting_halts no_memory h = tt

    module _ (chosen : List Selection) (choice : selections table reading (read_element ask is_replaced) (Some first.0) (first ∷ others) ≡ Ok chosen) where
      pub elements_halt : (stop : Stop) → Gives {T = List (Member × Index)} (Err stop) (elements_selected table reading place first.0 chosen) →
          Gives {T = ArrayNode × List Virtual} (Err stop) (made_reference table ask context place first others before)
      elements_halt (broken_by broken) h = rw (may, choice, h) refl
      elements_halt no_memory h = tt

      module _ (elements : List (Member × Index)) (all : elements_selected table reading place first.0 chosen ≡ Ok elements) where
        pub kind_halts : (stop : Stop) → Gives {T = Kind} (Err stop) (kind_of_elements table context place (last_of first others).0 elements) →
            Gives {T = ArrayNode × List Virtual} (Err stop) (made_reference table ask context place first others before)
        kind_halts (broken_by broken) h = rw (may, choice, all, h) refl
        kind_halts no_memory h = tt

        pub reference_made : (kind : Kind) → kind_of_elements table context place (last_of first others).0 elements ≡ Ok kind →
            made_reference table ask context place first others before
            ≡ Ok (
              Vars (numbers_behind (length before) (virtual_elements place kind is_fixed elements)) kind (handed_in chosen).0 (handed_in chosen).1,
              before ++ virtual_elements place kind is_fixed elements,
            )
        reference_made kind h = rw (may, choice, all, h) refl

-- as what is made
pub made_halts : {A : Type 0} (world : World) (stop : Stop) (virtuals : List VirtualAt) (told : Outcome (A × List Virtual)) → Gives {T = A × List Virtual} (Err stop) told → IsMade {A = A} world (Err stop) virtuals told
made_halts world (broken_by broken) virtuals told h = record { is = h }
made_halts world no_memory virtuals told h = record { is = tt }
