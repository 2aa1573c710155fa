-- The map has one more text, or the same ones.
use Rattle.std.proofs.Common.{◌≡◌, ◌+◌, ◌<◌, ◌^◌, ◌++◌, ◌∷◌, [], ℕ, suc, true, false, List, Option, None, Some, is_some, length, map, refl, ap, sym, ◌∙◌, arith, length-append}
use Rattle.std.specs.Prelude.{string_bytes}
use Rattle.std.specs.Borrow.{Bor}
use Rattle.std.specs.HashMap.{get_by_text}
use Rattle.std.proofs.lemmas.Map.Text.{hash_map_updates_text}
use Rattle.mo_syntax.specs.declared.meaning.InstancePath.{InstancePath}
use Rattle.mo_equations.specs.declared.table.PathTable.{PathTable}
use Rattle.mo_scope.specs.Frames.{Indexed}
use Rattle.mo_equations.specs.Leaves.{path_text}
use Rattle.mo_equations.specs.steps.Tables.{paths_seen, place_of_text}
use Rattle.mo_equations.proofs.Making.{on_ok}
use Rattle.mo_equations.proofs.Places.{placed_new, placed_old}
use Rattle.mo_equations.proofs.table.PathTable.push.Goals.{then-not-contains_key+in_ok-insert, else-not-contains_key}
use Rattle.mo_equations.proofs.table.PathTable.push.Goals as goal

length_map : {A B : Type 0} (f : A → B) (xs : List A) → length (map f xs) ≡ length xs
length_map f [] = refl
length_map f (x ∷ xs) = ap (λ (n : ℕ). suc n) (length_map f xs)

few_more : {A : Type 0} (xs ys : List A) (x : A) → ys ≡ xs ++ x ∷ [] → length xs < 4294967295 → length ys < 2 ^ 32
few_more xs ys x e h = omega (arith, ap length e, length-append xs (x ∷ []))

none_of : (o : Option ℕ) → is_some o ≡ false → o ≡ None
none_of None h = refl
none_of (Some n) h = absurd (let clash : true ≡ false = h in cc)

record IsSome (o : Option ℕ) : Type 0 where
  value : ℕ
  is : o ≡ Some value

some_of : (o : Option ℕ) → is_some o ≡ true → IsSome o
some_of None h = absurd (let clash : false ≡ true = h in cc)
some_of (Some n) h = record { value = n; is = refl }

seen_more : {A B : Type 0} (f : A → B) (xs ys : List A) (x : A) → ys ≡ xs ++ x ∷ [] → map f ys ≡ map f xs ++ f x ∷ []
seen_more {A} {B} f xs ys x e = ap (map f) e ∙ go xs
  where
    go : (zs : List A) → map f (zs ++ x ∷ []) ≡ map f zs ++ f x ∷ []
    go [] = refl
    go (z ∷ zs) = ap (λ (rest : List B). f z ∷ rest) (go zs)

pub returns-clause-is : goal.returns-clause-is
returns-clause-is c =
    let table = c.args.self.now in
    let paths = paths_seen table in
    let text = string_bytes c.in_ok-text.text in
    let is : text ≡ path_text c.args.path.now.0 = c.in_ok-text.ensures ∙ ap path_text c.as_slice.ensures in
    let held : is_some (get_by_text table.places text) ≡ c.contains_key.result = ap (λ (t : List ℕ). is_some (get_by_text table.places t)) (sym c.as_str.ensures.value) ∙ sym c.contains_key.ensures in
    let path : Bor InstancePath → Indexed = λ (p : Bor InstancePath). p.now.0 in
    elim c.if-not-contains_key.branch [
      | then-not-contains_key+in_ok-insert w ↦
          on_ok c.push.result
          (λ pushed.
          let all : c.push.new.self ≡ table.paths ++ c.args.path ∷ [] = pushed ∙ ap (λ (t : PathTable). t.paths ++ c.args.path ∷ []) w.self-is in
          let new : place_of_text paths text ≡ None = sym (c.requires.is.places text) ∙ none_of (get_by_text table.places text) (held ∙ w.if-not-contains_key.true) in
          record {
            few = few_more table.paths c.push.new.self c.args.path all (rw c.len-place.ensures at c.if-place.false);
            places = λ other.
                placed_new paths (map path c.push.new.self) (path c.args.path) text other c.len-place.result (get_by_text table.places other) (get_by_text c.if-not-contains_key.self.places other)
                (seen_more path table.paths c.push.new.self c.args.path all) is (c.len-place.ensures ∙ sym (length_map path table.paths)) new
                (ap (λ (t : PathTable). get_by_text t.places other) w.self-is ∙ hash_map_updates_text text table.places w.insert.new.self (Some c.len-place.result) w.in_ok-insert.ensures.updates other)
                (c.requires.is.places other);
          })
          c.push.ensures.ok
      | else-not-contains_key w ↦
          on_ok c.push.result
          (λ pushed.
          let all : c.push.new.self ≡ table.paths ++ c.args.path ∷ [] = pushed ∙ ap (λ (t : PathTable). t.paths ++ c.args.path ∷ []) w.self-is in
          let old = some_of (get_by_text table.places text) (held ∙ w.if-not-contains_key.false) in
          record {
            few = few_more table.paths c.push.new.self c.args.path all (rw c.len-place.ensures at c.if-place.false);
            places = λ other.
                placed_old paths (map path c.push.new.self) (path c.args.path) text other old.value (get_by_text table.places other) (get_by_text c.if-not-contains_key.self.places other)
                (seen_more path table.paths c.push.new.self c.args.path all) is (sym (c.requires.is.places text) ∙ old.is)
                (ap (λ (t : PathTable). get_by_text t.places other) w.self-is)
                (c.requires.is.places other);
          })
          c.push.ensures.ok
    ]
