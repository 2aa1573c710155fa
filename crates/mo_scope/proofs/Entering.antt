-- Frames that are found by their class and the frame around it.
use Rattle.std.proofs.Common.{◌≡◌, ℕ, zero, suc, ◌<◌, ◌⊎◌, inl, inr, Bool, true, false, ◌&&◌, nat_eq, List, [], ◌∷◌, ◌++◌, length, map, take, Option, Some, None, refl, ap, sym, ◌∙◌, subst, arith, eqb-true, eq-eqb}
use Rattle.std.specs.Prelude.{slice_get, IfOk, IfSome, IsSome, IsTrue, Result, Ok, Err, is_none, is_some, not, option_map, if◌then◌else◌}
use Rattle.std.specs.Option.{option_eq}
use Rattle.std.proofs.lemmas.List.{length-map, map-append}
use Rattle.mo_scope.specs.Bare.{bare_entry, is_bare, is_around, AreEntered}
use Rattle.mo_scope.specs.Frames.{Indexed, looked_up}
use Rattle.mo_scope.specs.Worlds.{FrameEntry, SourceEntry, World, IsSound, frame_at, frame_or_top, frames_of}
use Rattle.mo_scope.proofs.Numbered.{at_append, entry_is}

pub both_true : (a b : Bool) → (a && b) ≡ true → (a ≡ true) × (b ≡ true)
both_true true true h = (refl, refl)
both_true true false h = cc
both_true false b h = cc

-- an entry with nothing else is that of its class and the frame around it
is_that : (entry : FrameEntry) → is_bare entry ≡ true → entry ≡ bare_entry entry.class entry.outer
is_that entry h = by entry.sources entry.at entry.owner refl refl refl
  where
    by : (sources : List SourceEntry) (at : Option Indexed) (owner : Option ℕ) → entry.sources ≡ sources → entry.at ≡ at → entry.owner ≡ owner → entry ≡ bare_entry entry.class entry.outer
    by [] None None s a o =
        ap (λ (xs : List SourceEntry). record { class = entry.class; sources = xs; outer = entry.outer; at = entry.at; owner = entry.owner }) s
        ∙ ap (λ (p : Option Indexed). record { class = entry.class; sources = []; outer = entry.outer; at = p; owner = entry.owner }) a
        ∙ ap (λ (n : Option ℕ). record { class = entry.class; sources = []; outer = entry.outer; at = None; owner = n }) o
    by [] None (Some n) s a o = absurd (let t : is_bare entry ≡ false = rw (s, a, o) refl in cc)
    by [] (Some path) owner s a o = absurd (let t : is_bare entry ≡ false = rw (s, a) refl in cc)
    by (x ∷ xs) at owner s a o = absurd (let t : is_bare entry ≡ false = rw s refl in cc)

option_same : (a b : Option ℕ) → option_eq nat_eq a b ≡ true → a ≡ b
option_same None None h = refl
option_same None (Some b) h = cc
option_same (Some a) None h = cc
option_same (Some a) (Some b) h = ap Some (eqb-true a b h)

around_same : (class c : ℕ) (outer o : Option ℕ) → is_around class outer c o ≡ true → (class ≡ c) × (outer ≡ o)
around_same class c outer o h = let tests : (nat_eq class c ≡ true) × (option_eq nat_eq outer o ≡ true) = both_true (nat_eq class c) (option_eq nat_eq outer o) h in
    (eqb-true class c tests.0, option_same outer o tests.1)

around_self : (class : ℕ) (outer : Option ℕ) → is_around class outer class outer ≡ true
around_self class None = ap (λ b. b && true) (eq-eqb class class refl)
around_self class (Some n) = ap (λ b. b && nat_eq n n) (eq-eqb class class refl) ∙ eq-eqb n n refl

at_front : {A : Type 0} (xs : List A) (y : A) (n : ℕ) (x : A) → slice_get xs n ≡ Some x → slice_get (xs ++ y ∷ []) n ≡ Some x
at_front [] y n x at = absurd (none n at)
  where
    none : (n : ℕ) → slice_get [] n ≡ Some x → ⊥
    none n at = cc
at_front (z ∷ xs) y zero x at = at
at_front (z ∷ xs) y (suc n) x at = at_front xs y n x at

at_last : {A : Type 0} (xs : List A) (y : A) → slice_get (xs ++ y ∷ []) (length xs) ≡ Some y
at_last [] y = refl
at_last (z ∷ xs) y = at_last xs y

-- none was entered
pub none_entered : (held : ℕ → Option ℕ → Option ℕ) → ((class : ℕ) (outer : Option ℕ) → held class outer ≡ None) → AreEntered [] held
none_entered held none = record {
  sound = λ class outer n is. absurd (let no : held class outer ≡ None = none class outer in cc);
  whole = λ class outer n at. absurd (cc);
}

-- one more was entered
pub entered_more : (entries : List FrameEntry) (entry : FrameEntry) (old new : ℕ → Option ℕ → Option ℕ) (number : ℕ) → AreEntered entries old → number ≡ length entries →
    ((c : ℕ) (o : Option ℕ) → new c o ≡ (if is_bare entry && is_around entry.class entry.outer c o then Some number else old c o)) → AreEntered (entries ++ entry ∷ []) new
entered_more entries entry old new number known at change = record {
  sound = λ class outer n is. sound class outer n (is_bare entry) refl (is_around entry.class entry.outer class outer) refl is;
  whole = λ class outer n is. whole class outer n (is_bare entry) refl (is_around entry.class entry.outer class outer) refl (at_append entries entry n (bare_entry class outer) is);
}
  where
    changed : (class : ℕ) (outer : Option ℕ) (b a : Bool) → is_bare entry ≡ b → is_around entry.class entry.outer class outer ≡ a → new class outer ≡ (if b && a then Some number else old class outer)
    changed class outer b a is_b is_a = change class outer ∙ ap (λ t. if t && is_around entry.class entry.outer class outer then Some number else old class outer) is_b
        ∙ ap (λ t. if b && t then Some number else old class outer) is_a

    sound : (class : ℕ) (outer : Option ℕ) (n : ℕ) (b : Bool) → is_bare entry ≡ b → (a : Bool) → is_around entry.class entry.outer class outer ≡ a → new class outer ≡ Some n →
        slice_get (entries ++ entry ∷ []) n ≡ Some (bare_entry class outer)
    sound class outer n true is_b true is_a is =
        let here : new class outer ≡ Some number = changed class outer true true is_b is_a in
        let same : n ≡ length entries = (let s : number ≡ n = cc in sym s ∙ at) in
        let keys : (entry.class ≡ class) × (entry.outer ≡ outer) = around_same entry.class class entry.outer outer is_a in
        ap (slice_get (entries ++ entry ∷ [])) same ∙ at_last entries entry
        ∙ ap Some (is_that entry is_b ∙ ap (λ c. bare_entry c entry.outer) keys.0 ∙ ap (bare_entry class) keys.1)
    sound class outer n true is_b false is_a is =
        at_front entries entry n (bare_entry class outer) (known.sound class outer n (sym (changed class outer true false is_b is_a) ∙ is))
    sound class outer n false is_b a is_a is =
        at_front entries entry n (bare_entry class outer) (known.sound class outer n (sym (changed class outer false a is_b is_a) ∙ is))

    some_of : (o p : Option ℕ) → p ≡ o → IsSome o → IsSome p
    some_of o p same h = subst IsSome (sym same) h

    whole : (class : ℕ) (outer : Option ℕ) (n : ℕ) (b : Bool) → is_bare entry ≡ b → (a : Bool) → is_around entry.class entry.outer class outer ≡ a →
        (slice_get entries n ≡ Some (bare_entry class outer)) ⊎ ((n ≡ length entries) × (entry ≡ bare_entry class outer)) → IsSome (new class outer)
    whole class outer n true is_b true is_a where_ = some_of (Some number) (new class outer) (changed class outer true true is_b is_a) refl
    whole class outer n true is_b false is_a (inl old_at) = some_of (old class outer) (new class outer) (changed class outer true false is_b is_a) (known.whole class outer n old_at)
    whole class outer n true is_b false is_a (inr last) =
        absurd (let t : is_around entry.class entry.outer class outer ≡ true = ap (λ e. is_around e.class e.outer class outer) last.1 ∙ around_self class outer in cc)
    whole class outer n false is_b a is_a (inl old_at) = some_of (old class outer) (new class outer) (changed class outer false a is_b is_a) (known.whole class outer n old_at)
    whole class outer n false is_b a is_a (inr last) = absurd (let t : is_bare entry ≡ true = ap is_bare last.1 in cc)

-- nothing changed
pub entered_same : (xs ys : List FrameEntry) (old new : ℕ → Option ℕ → Option ℕ) → AreEntered xs old → ys ≡ xs → ((c : ℕ) (o : Option ℕ) → new c o ≡ old c o) → AreEntered ys new
entered_same xs ys old new known same change = record {
  sound = λ class outer n is. ap (λ l. slice_get l n) same ∙ known.sound class outer n (sym (change class outer) ∙ is);
  whole = λ class outer n at. subst IsSome (sym (change class outer)) (known.whole class outer n (ap (λ l. slice_get l n) (sym same) ∙ at));
}

-- the frame that is held
pub entered_frame : {A : Type 0} (number : A → ℕ) (inner w : World) (held : ℕ → Option ℕ → Option ℕ) (class : ℕ) (outer : Option ℕ) (r : Option A) → inner ≡ w → IsSound inner → AreEntered inner.entries held →
    option_map number r ≡ held class outer → IfSome r (λ frame. frame_at w (number frame) ≡ looked_up class [] (frame_or_top (frames_of w) outer))
entered_frame number inner w held class outer None same sound known is = tt
entered_frame number inner w held class outer (Some frame) same sound known is =
    entry_is inner w same sound (number frame) (bare_entry class outer)
    (ap (λ v. slice_get v.entries (number frame)) (sym same) ∙ known.sound class outer (number frame) (sym is))

below : {A : Type 0} (xs : List A) (n : ℕ) (x : A) → slice_get xs n ≡ Some x → n < length xs
below [] n x at = absurd (cc)
below (y ∷ xs) zero x at = omega arith
below (y ∷ xs) (suc n) x at = omega (arith, below xs n x at)

pub entered_exists : {A : Type 0} (number : A → ℕ) (inner w : World) (held : ℕ → Option ℕ → Option ℕ) (class : ℕ) (outer : Option ℕ) (r : Option A) → inner ≡ w → AreEntered inner.entries held →
    option_map number r ≡ held class outer → IfSome r (λ frame. number frame < length w.entries)
entered_exists number inner w held class outer None same known is = tt
entered_exists number inner w held class outer (Some frame) same known is =
    below w.entries (number frame) (bare_entry class outer)
    (ap (λ v. slice_get v.entries (number frame)) (sym same) ∙ known.sound class outer (number frame) (sym is))

pub entered_known : {A : Type 0} (number : A → ℕ) (inner w : World) (held : ℕ → Option ℕ → Option ℕ) (class : ℕ) (outer : Option ℕ) (r : Option A) → inner ≡ w → AreEntered inner.entries held →
    option_map number r ≡ held class outer → (n : ℕ) → slice_get w.entries n ≡ Some (bare_entry class outer) → IsSome r
entered_known number inner w held class outer r same known is n at =
    by r (subst IsSome (sym is) (known.whole class outer n (ap (λ v. slice_get v.entries n) same ∙ at)))
  where
    by : (r : Option _) → IsSome (option_map number r) → IsSome r
    by None h = h
    by (Some a) h = refl

pub none_of : {A : Type 0} (x : Option A) (a : Bool) → is_some x ≡ not a → a ≡ is_none x
none_of None true h = refl
none_of None false h = absurd (cc)
none_of (Some x) true h = absurd (cc)
none_of (Some x) false h = refl

-- the tests of a frame say whether its entry is bare
pub bare_is : {B C : Type 0} (path : B → Indexed) (number : C → ℕ) (sources : List SourceEntry) (at : Option B) (owner : Option C) (class : ℕ) (outer : Option ℕ) (e a o : Bool) →
    (IsTrue e → sources ≡ []) × (sources ≡ [] → IsTrue e) → a ≡ is_none at → o ≡ is_none owner →
    (e && a && o) ≡ is_bare (record { class = class; sources = sources; outer = outer; at = option_map path at; owner = option_map number owner })
bare_is path number (x ∷ sources) at owner class outer true a o tests is_a is_o = absurd (let none : x ∷ sources ≡ [] = tests.0 refl in cc)
bare_is path number (x ∷ sources) at owner class outer false a o tests is_a is_o = refl
bare_is path number [] None None class outer e a o tests is_a is_o = rw (is_a, is_o) (ap (λ b. b && true && true) (tests.1 refl))
bare_is path number [] None (Some n) class outer e a o tests is_a is_o = rw (is_a, is_o) (ap (λ b. b && true && false) (tests.1 refl))
bare_is path number [] (Some p) owner class outer e a o tests is_a is_o = rw is_a (ap (λ b. b && false && o) (tests.1 refl))

-- entries of the same parts without sources
pub that_entry : (sources : List SourceEntry) (class c : ℕ) (outer o : Option ℕ) (at p : Option Indexed) (owner n : Option ℕ) → sources ≡ [] → class ≡ c → outer ≡ o → at ≡ p → owner ≡ n →
    ◌≡◌ {A = FrameEntry} (record { class = class; sources = sources; outer = outer; at = at; owner = owner }) (record { class = c; sources = []; outer = o; at = p; owner = n })
that_entry sources class c outer o at p owner n is_sources is_class is_outer is_at is_owner =
    ap (λ (xs : List SourceEntry). record { class = class; sources = xs; outer = outer; at = at; owner = owner }) is_sources
    ∙ ap (λ (x : ℕ). record { class = x; sources = []; outer = outer; at = at; owner = owner }) is_class
    ∙ ap (λ (x : Option ℕ). record { class = c; sources = []; outer = x; at = at; owner = owner }) is_outer
    ∙ ap (λ (x : Option Indexed). record { class = c; sources = []; outer = o; at = x; owner = owner }) is_at
    ∙ ap (λ (x : Option ℕ). record { class = c; sources = []; outer = o; at = p; owner = x }) is_owner

-- what is told of a new frame is told of an old or a new one
pub or_new : {T E : Type 0} (A : Type 0) (B C : T → Type 0) (r : Result T E) → IfOk r B → IfOk r C → IfOk r (λ t. A ⊎ (B t × C t))
or_new A B C (Ok t) b c = inr (b, c)
or_new A B C (Err e) b c = tt

-- ---- a frame that is pushed

pub entered_pushed : {A : Type 0} (seen : A → FrameEntry) (xs ys : List A) (x : A) (bare : Bool) (old new : ℕ → Option ℕ → Option ℕ) (number : ℕ) → AreEntered (map seen xs) old → number ≡ length xs → ys ≡ xs ++ x ∷ [] →
    bare ≡ is_bare (seen x) → ((c : ℕ) (o : Option ℕ) → new c o ≡ (if bare && is_around (seen x).class (seen x).outer c o then Some number else old c o)) → AreEntered (map seen ys) new
entered_pushed seen xs ys x bare old new number known at pushed is change =
    subst (λ l. AreEntered l new) (sym (ap (map seen) pushed ∙ map-append seen xs (x ∷ [])))
    (entered_more (map seen xs) (seen x) old new number known (at ∙ sym (length-map xs seen))
    (λ c o. change c o ∙ ap (λ b. if b && is_around (seen x).class (seen x).outer c o then Some number else old c o) is))

-- a frame that is taken back
pub taken_back : {A : Type 0} (xs middle ys : List A) (x : A) (n : ℕ) → middle ≡ xs ++ x ∷ [] → ys ≡ take n middle → n ≡ length xs → ys ≡ xs
taken_back xs middle ys x n pushed is at =
    is ∙ ap (take n) pushed ∙ ap (λ k. take k (xs ++ x ∷ [])) at ∙ front xs
  where
    front : (xs : List _) → take (length xs) (xs ++ x ∷ []) ≡ xs
    front [] = refl
    front (y ∷ xs) = ap (λ l. y ∷ l) (front xs)
