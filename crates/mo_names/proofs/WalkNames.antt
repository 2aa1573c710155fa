-- The names of the elements of a walk, found by key.
use Rattle.std.proofs.Common.{◌≡◌, ℕ, Bool, true, false, List, [], ◌∷◌, ◌++◌, map, Option, Some, None, refl, ap, sym, ◌∙◌}
use Rattle.std.specs.Prelude.{◌||◌, is_some, if◌then◌else◌}
use Rattle.std.specs.List.{list_any}
use Rattle.std.specs.Str.{bytes_eq}
use Rattle.std.proofs.lemmas.List.Folds.{list_any-append}
use Rattle.mo_syntax.specs.ClassTable.{otherwise}
use Rattle.mo_scope.specs.ByName.{place_held}
use Rattle.mo_scope.specs.declared.names.Names.{Names}
use Rattle.mo_scope.specs.Frames.{Frame}
use Rattle.mo_names.specs.declared.walk.Inherited.{Inherited as InheritedAt}
use Rattle.mo_names.specs.Sights.{AreNames, inherited_seen}

-- the names of elements do not depend on the frames
pub named_among : (frames : List Frame) (members : List InheritedAt) (name : List ℕ) →
    list_any (λ other. bytes_eq other.member.name name) (map (inherited_seen frames) members) ≡ list_any (λ (inherited : InheritedAt). bytes_eq inherited.member.name.now name) members
named_among frames [] name = refl
named_among frames (i ∷ members) name = ap (λ (b : Bool). bytes_eq i.member.name.now name || b) (named_among frames members name)

-- whether a name has a place once another one was given its own
some_or : (o : Option ℕ) (n : ℕ) (here : Bool) → is_some (otherwise o (if here then Some n else None)) ≡ (is_some o || here)
some_or None n true = refl
some_or None n false = refl
some_or (Some m) n true = refl
some_or (Some m) n false = refl

or_false : (b : Bool) → (b || false) ≡ b
or_false true = refl
or_false false = refl

-- one more element, whose name is given a place
pub names_more : (members : List InheritedAt) (added : InheritedAt) (names more : Names) (at : ℕ) → AreNames members names →
    ((other : List ℕ) → place_held more other ≡ otherwise (place_held names other) (if bytes_eq added.member.name.now other then Some at else None)) →
    AreNames (members ++ added ∷ []) more
names_more members added names more at are put = λ name.
    ap is_some (put name) ∙ some_or (place_held names name) at (bytes_eq added.member.name.now name)
    ∙ ap (λ (b : Bool). b || bytes_eq added.member.name.now name) (are name)
    ∙ sym (list_any-append (λ (inherited : InheritedAt). bytes_eq inherited.member.name.now name) members (added ∷ [])
    ∙ ap (λ (b : Bool). list_any (λ (inherited : InheritedAt). bytes_eq inherited.member.name.now name) members || b) (or_false (bytes_eq added.member.name.now name)))

-- no element has a name where none has a place
pub no_names : (names : Names) → ((name : List ℕ) → place_held names name ≡ None) → AreNames [] names
no_names names none = λ name. ap is_some (none name)
