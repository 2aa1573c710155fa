-- Calls by their names and their arguments.
use Rattle.std.proofs.Common.{◌≡◌, ℕ, zero, suc, ◌+◌, ◌-◌, ◌<◌, Bool, true, false, List, [], ◌∷◌, ◌++◌, map, take, drop, length, get_or, Option, Some, None, Ok, Err, refl, ap, sym, subst, append_assoc, ◌∙◌, arith}
use Rattle.std.specs.Prelude.{◌&&◌, ◌↔◌, IsTrue, not, is_some, if◌then◌else◌}
use Rattle.std.specs.List.{list_all}
use Rattle.mo_syntax.specs.Outcome.{Outcome, and_then}
use Rattle.mo_syntax.specs.declared.expr.Arg.{Arg}
use Rattle.mo_syntax.specs.declared.expr.Arg.TheVariants.{Value, Partial}
use Rattle.mo_syntax.specs.declared.expr.Args.{Args, out-Args}
use Rattle.mo_syntax.specs.declared.expr.Expr.{Expr}
use Rattle.mo_syntax.specs.declared.expr.PartOf.{PartOf}
use Rattle.mo_syntax.specs.declared.expr.ReferenceOf.{ReferenceOf}
use Rattle.mo_syntax.specs.declared.place.Place.{Place}
use Rattle.mo_scope.specs.Rows.{Table}
use Rattle.mo_typing.specs.Outcome as typed
use Rattle.mo_scope.specs.Frames.{Scope}
use Rattle.mo_syntax.specs.declared.place.Stop.{Stop}
use Rattle.mo_syntax.specs.declared.place.Stop.TheVariants.{Broken as broken_by, NoMemory as no_memory}
use Rattle.mo_scope.specs.Outcome.{Gives as GivesSeen}
use Rattle.mo_scope.specs.Lookup.{Found, Component, Class, Literal, Iteration, Function, Time, asking_of, found_first}
use Rattle.mo_scope.specs.Names.{behind_found, found_behind, found_reference, taken}
use Rattle.mo_scope.specs.Sizes.{is_nothing}
use Rattle.mo_scope.specs.Worlds.{World}
use Rattle.mo_eval.specs.declared.virtuals.Virtual.{Virtual as VirtualAt}
use Rattle.mo_eval.specs.Virtuals.{Ask, Virtual}
use Rattle.mo_eval.specs.steps.Sites.{IsMade}
use Rattle.mo_eval.specs.Contexts.{Part}
use Rattle.mo_eval.specs.References.{identifier}
use Rattle.mo_eval.specs.Calls.{has_subscripts, last_identifier}
use Rattle.mo_eval.specs.Resolving.{with_argument, is_empty}
use Rattle.mo_eval.specs.steps.Parts.{as_part, as_identifier, made_argument, made_arguments}
use Rattle.mo_eval.specs.steps.Calling.{IsFirst, plain}
use Rattle.mo_eval.proofs.Forms.{at_Args, at_Value, at_Partial}

-- ---- names

then_alike : {A B : Type 0} (o : Outcome A) (f g : A → Outcome B) → ((a : A) → f a ≡ g a) → and_then o f ≡ and_then o g
then_alike (Ok a) f g same = same a
then_alike (Err broken) f g same = refl

behind_alike : (table : Table) (f : Expr → Part) (found : Found) (part : PartOf Expr) → behind_found table found (identifier (as_identifier f part)) ≡ behind_found table found part
behind_alike table f (Component frame member) part = refl
behind_alike table f (Class frame replaceable) part = refl
behind_alike table f (Literal class n) part = refl
behind_alike table f (Iteration n) part = refl
behind_alike table f (Function code) part = refl
behind_alike table f Time part = refl

bare_parts : (table : Table) (f : Expr → Part) (found : Found) (parts : List (PartOf Expr)) →
    found_behind table found (map identifier (map (as_identifier f) parts)) ≡ found_behind table found parts
bare_parts table f found [] = refl
bare_parts table f found (part ∷ parts) =
    ap (λ o. and_then o (λ next. found_behind table next (map identifier (map (as_identifier f) parts)))) (behind_alike table f found part)
    ∙ then_alike (behind_found table found part) (λ next. found_behind table next (map identifier (map (as_identifier f) parts))) (λ next. found_behind table next parts) (λ next. bare_parts table f next parts)

-- subscripts do not count
pub bare_reference : (table : Table) (scope : Scope) (f : Expr → Part) (reference : ReferenceOf Expr) →
    found_reference table scope (record { top = reference.top; parts = map identifier (map (as_identifier f) reference.parts) }) ≡ found_reference table scope reference
bare_reference table scope f reference = go reference.parts
  where
    go : (parts : List (PartOf Expr)) →
        found_reference table scope (record { top = reference.top; parts = map identifier (map (as_identifier f) parts) }) ≡ found_reference table scope (record { top = reference.top; parts = parts })
    go [] = refl
    go (part ∷ parts) =
        then_alike (found_first table (asking_of table) false reference.top scope part) _ _ (λ met.
        then_alike (taken table met.near part.place met.found) _ _ (λ first. bare_parts table f first parts))

-- a broken rule stays
pub seen_halts : {T A B : Type 0} (view : T → A) (stop : Stop) (told : Outcome A) (f : A → Outcome B) → GivesSeen {T = T} view (Err stop) told → typed.Gives {T = B} (Err stop) (and_then told f)
seen_halts view (broken_by broken) told f h = rw h refl
seen_halts view no_memory told f h = tt

-- ---- subscripts on names

pub has_some : (f : Expr → Part) (part : PartOf Expr) (parts : List (PartOf Expr)) → is_nothing part.subs ≡ false → has_subscripts (as_identifier f part ∷ map (as_identifier f) parts) ≡ true
has_some f part parts h = go part.subs h
  where
    go : (subs : List (Option Expr)) → is_nothing subs ≡ false → not (list_all (λ part. is_nothing part.subs) (as_identifier f (record { name = part.name; place = part.place; subs = subs }) ∷ map (as_identifier f) parts)) ≡ true
    go [] k = absurd (cc)
    go (sub ∷ subs) k = refl

pub has_none : (f : Expr → Part) (part : PartOf Expr) (parts : List (PartOf Expr)) → part.subs ≡ [] →
    has_subscripts (as_identifier f part ∷ map (as_identifier f) parts) ≡ has_subscripts (map (as_identifier f) parts)
has_none f part parts h = rw h refl

pub nothing_by : {A : Type 0} (b : Bool) (xs : List A) → IsTrue b ↔ (xs ≡ []) → b ≡ false → is_nothing xs ≡ false
nothing_by b [] h e = absurd (let k = h.1 refl in cc)
nothing_by b (x ∷ xs) h e = refl

abbrev pub last_or : Place → List (PartOf Part) → Place
last_or place [] = place
last_or place (part ∷ parts) = last_or part.place parts

pub last_is : (parts : List (PartOf Part)) → last_or (record { file = 0; byte = 0 }) parts ≡ last_identifier parts
last_is [] = refl
last_is (part ∷ []) = refl
last_is (part ∷ next ∷ parts) = last_is (next ∷ parts)

-- what makes no variable, and breaks a rule
pub from_halts : {A B : Type 0} (world : World) (stop : Stop) (virtuals : List VirtualAt) (told : Outcome A) (before : List Virtual) (f : A × List Virtual → Outcome (B × List Virtual)) →
    typed.Gives {T = A} (Err stop) told → IsMade {A = B} world (Err stop) virtuals (and_then (and_then told (λ a. Ok (a, before))) f)
from_halts world (broken_by broken) virtuals told before f h = record { is = rw h refl }
from_halts world no_memory virtuals told before f h = record { is = tt }

-- ---- lists

-- one more, behind those before
pub each_more : {X Y : Type 0} (g : X → Outcome Y) (made : List Y) (x : X) (xs : List X) (y : Y) → g x ≡ Ok y →
    and_then (typed.each g (x ∷ xs)) (λ more. Ok (made ++ more)) ≡ and_then (typed.each g xs) (λ more. Ok ((made ++ y ∷ []) ++ more))
each_more {Y = Y} g made x xs y h = rw h (go (typed.each g xs))
  where
    go : (o : Outcome (List Y)) →
        and_then (and_then {B = List Y} o (λ ys. Ok (y ∷ ys))) (λ more. Ok (made ++ more)) ≡ and_then o (λ more. Ok ((made ++ y ∷ []) ++ more))
    go (Ok ys) = ap Ok (sym (append_assoc made (y ∷ []) ys))
    go (Err broken) = refl

-- the first element and those behind it
pub opened_list : {A : Type 0} (xs : List A) (x : A) → 0 < length xs → x ≡ get_or xs 0 x → xs ≡ x ∷ take (length xs - 1) (drop 1 xs)
opened_list {A = A} [] x some is = absurd (omega arith)
opened_list {A = A} (y ∷ ys) x some is = ap (λ z. z ∷ ys) (sym is) ∙ ap (λ zs. x ∷ zs) (sym (taken_all ys (length (y ∷ ys) - 1) (omega arith)))
  where
    taken_all : (zs : List A) (n : ℕ) → n ≡ length zs → take n zs ≡ zs
    taken_all [] zero e = refl
    taken_all [] (suc n) e = absurd (omega arith)
    taken_all (z ∷ zs) zero e = absurd (omega arith)
    taken_all (z ∷ zs) (suc n) e = ap (λ more. z ∷ more) (taken_all zs n (omega arith))

pub none_by : {A : Type 0} (o : Option A) → is_some o ≡ false → None ≡ o
none_by None e = refl
none_by (Some a) e = absurd (cc)

pub empty_by : {A : Type 0} (b : Bool) (xs : List A) → IsTrue b ↔ (xs ≡ []) → is_empty xs ≡ b
empty_by true [] h = refl
empty_by false [] h = absurd (let k = h.1 refl in cc)
empty_by true (x ∷ xs) h = absurd (let k : (x ∷ xs) ≡ [] = h.0 refl in cc)
empty_by false (x ∷ xs) h = refl

-- one thing after the other
pub then_then : {A B C : Type 0} (o : Outcome A) (f : A → Outcome B) (g : B → Outcome C) →
    and_then (and_then o f) g ≡ and_then o (λ a. and_then (f a) g)
then_then (Ok a) f g = refl
then_then (Err broken) f g = refl

-- ---- arguments

module _ (table : Table) (ask : Ask) (scope : Scope) where
  pub plain_value : (e : Expr) (args : List Arg) → plain table ask scope (Value e ∷ args) ≡ with_argument (Some (as_part table ask scope e)) (plain table ask scope args)
  plain_value e args = ap (λ first. with_argument first (plain table ask scope args)) (at_Value table ask scope e)

  pub plain_partial : (function : ReferenceOf Expr) (named : List (List ℕ × Arg)) (args : List Arg) → plain table ask scope (Partial function named ∷ args) ≡ None
  plain_partial function named args = ap (λ first. with_argument first (plain table ask scope args)) (at_Partial table ask scope function named) ∙ none (plain table ask scope args)
    where
      none : (o : Option (List Part)) → with_argument None o ≡ None
      none None = refl
      none (Some parts) = refl

  -- the first argument and those behind it
  pub record IsSplit (a : Arg) (args : List Arg) (parts : List Part) : Type 0 where
    pub first : Part
    pub others : List Part
    pub is : parts ≡ first ∷ others
    pub head : made_argument table ask scope a ≡ Some first
    pub rest : plain table ask scope args ≡ Some others

  pub split_plain : (a : Arg) (args : List Arg) (parts : List Part) → plain table ask scope (a ∷ args) ≡ Some parts → IsSplit a args parts
  split_plain a args parts h = taken (made_argument table ask scope a) (plain table ask scope args) refl refl h
    where
      taken : (o : Option Part) (p : Option (List Part)) → made_argument table ask scope a ≡ o → plain table ask scope args ≡ p → with_argument o p ≡ Some parts → IsSplit a args parts
      taken None None same all k = absurd (cc)
      taken None (Some others) same all k = absurd (cc)
      taken (Some first) None same all k = absurd (cc)
      taken (Some first) (Some others) same all k = record { first = first; others = others; is = cc; head = same; rest = all }

  pub first_plain : (e : Expr) (args : List Arg) (parts : List Part) → plain table ask scope (Value e ∷ args) ≡ Some parts → IsFirst table ask scope e args parts
  first_plain e args parts h =
      let split = split_plain (Value e) args parts h in
      let same : ◌≡◌ {A = Option Part} (Some (as_part table ask scope e)) (Some split.first) = sym (at_Value table ask scope e) ∙ split.head in
      record { others = split.others; is = cc; rest = split.rest }

  pub no_parts : (parts : List Part) → plain table ask scope [] ≡ Some parts → parts ≡ []
  no_parts parts h = cc

  pub plain_at : (args : List Arg) (parts : List Part) (i : ℕ) (e : Expr) → plain table ask scope args ≡ Some parts → i < length args → Value e ≡ get_or args i (Value e) →
      drop i parts ≡ as_part table ask scope e ∷ drop (suc i) parts
  plain_at [] parts i e all small is = absurd (omega arith)
  plain_at (a ∷ args) parts zero e all small is =
      let first = first_plain e args parts (subst (λ (x : Arg). plain table ask scope (x ∷ args) ≡ Some parts) (sym is) all) in
      rw first.is refl
  plain_at (a ∷ args) parts (suc i) e all small is =
      let split = split_plain a args parts all in
      rw split.is (plain_at args split.others i e split.rest (omega arith) is)

  -- whether all are plain
  pub some_plain : (a : Arg) (args : List Arg) → is_some (plain table ask scope (a ∷ args)) ≡ (is_some (made_argument table ask scope a) && is_some (plain table ask scope args))
  some_plain a args = go (made_argument table ask scope a) (plain table ask scope args)
    where
      go : (o : Option Part) (p : Option (List Part)) → is_some (with_argument o p) ≡ (is_some o && is_some p)
      go None None = refl
      go None (Some others) = refl
      go (Some first) None = refl
      go (Some first) (Some others) = refl

  pub plain_length : (args : List Arg) (parts : List Part) → plain table ask scope args ≡ Some parts → length parts ≡ length args
  plain_length [] parts h = rw (no_parts parts h) refl
  plain_length (a ∷ args) parts h =
      let split = split_plain a args parts h in
      let counted = plain_length args split.others split.rest in
      rw split.is (ap suc counted)

  pub not_plain : (args : Args) → (is_empty (out-Args args).named && is_empty (out-Args args).iters) ≡ false → is_some (made_arguments table ask scope args) ≡ false
  not_plain args e =
      ap is_some (at_Args table ask scope args)
      ∙ ap (λ b. is_some (if b then plain table ask scope (out-Args args).plain else None)) e

  pub only_plain : (args : Args) → (is_empty (out-Args args).named && is_empty (out-Args args).iters) ≡ true → made_arguments table ask scope args ≡ plain table ask scope (out-Args args).plain
  only_plain args e = at_Args table ask scope args ∙ ap (λ b. if b then plain table ask scope (out-Args args).plain else None) e
