-- The rules of the class tree by keys are the rules of the class tree.
use Rattle.std.proofs.Common.{◌≡◌, ℕ, ◌+◌, Bool, true, false, List, [], ◌∷◌, ◌++◌, map, Option, Some, None, refl, ap, sym, ◌∙◌, subst, append_assoc, append-nil}
use Rattle.std.specs.Prelude.{◌&&◌, ◌||◌, if◌then◌else◌}
use Rattle.std.specs.List.{list_any}
use Rattle.std.specs.Str.{bytes_eq}
use Rattle.std.proofs.lemmas.Grind.{flat_map-append}
use Rattle.mo_syntax.specs.declared.class.FileTree.{FileTree}
use Rattle.mo_syntax.specs.declared.place.Broken.{Broken}
use Rattle.mo_syntax.specs.declared.place.Place.{Place}
use Rattle.mo_syntax.specs.declared.rules.TheConstants.{DECLARED_TWICE, WITHIN_NAMES_NO_CLASS}
use Rattle.mo_syntax.specs.declared.text.Path.{Path}
use Rattle.mo_syntax.specs.Classes.{Under, Inside, Apart, ClassRow, Declaration, each}
use Rattle.mo_syntax.specs.ClassTable.{same_home, Asked, Within, Names, declarations, declared_in, asked_from, class_of_path, first_broken, broken_tree, is_long, is_repeated, names_of, otherwise, in_file}
use Rattle.mo_tree.specs.steps.Homes.{declared_under, number_of_within}
use Rattle.mo_tree.specs.Keys.{key_in, name_of}
use Rattle.mo_tree.specs.steps.Repeats.{has_key, with_key, with_keys, repeated, within_broken, names_in, files_broken}
use Rattle.mo_tree.proofs.Alike.{Alike, AllBeside, Fresh, IsHome, alike, fresh_push, number_of_class, number_of_path, of_path, same_number}
use Rattle.mo_tree.proofs.Everywhere.{in_classes}
use Rattle.mo_tree.proofs.Repeating.{is_same, keys_of, keys_push, repeated_alike}

-- ---- the asked names of files

declared_push : (before : List Asked) (d : Declaration) → declared_in (before ++ Names d ∷ []) ≡ declared_in before ++ d ∷ []
declared_push before d = flat_map-append _ before (Names d ∷ [])

declared_more : (before : List Asked) (ds : List Declaration) → declared_in (before ++ map Names ds) ≡ declared_in before ++ ds
declared_more before ds = flat_map-append _ before (map Names ds) ∙ ap (λ l. declared_in before ++ l) (all_names ds)
  where
    all_names : (ds : List Declaration) → declared_in (map Names ds) ≡ ds
    all_names [] = refl
    all_names (d ∷ ds) = ap (λ l. d ∷ l) (all_names ds)

abbrev asked_within : Option (Path × Place) → List Asked
asked_within None = []
asked_within (Some w) = Within w.0.0 w.1 ∷ []

from_within : (all : List FileTree) (before : List Asked) (within : Option (Path × Place)) (more : List Asked) →
    first_broken all before (asked_within within ++ more) ≡ otherwise (within_broken all within) (first_broken all (before ++ asked_within within) more)
from_within all before None more = ap (λ b. first_broken all b more) (sym (append-nil before))
from_within all before (Some w) more = refl

asked_behind : (before : List Asked) (within : Option (Path × Place)) → declared_in (before ++ asked_within within) ≡ declared_in before
asked_behind before None = ap declared_in (append-nil before)
asked_behind before (Some w) = flat_map-append _ before (Within w.0.0 w.1 ∷ []) ∙ append-nil (declared_in before)

module _ (all : List FileTree) where
  -- ---- the names before, with numbers in place of paths

  abbrev Linked : List Declaration → List Declaration → Type 0
  Linked [] [] = Unit {0}
  Linked [] (e ∷ es) = ⊥
  Linked (d ∷ ds) [] = ⊥
  Linked (d ∷ ds) (e ∷ es) = (IsHome all d.home e.home × (d.name ≡ e.name)) × Linked ds es

  linked_push : (ds es : List Declaration) (d e : Declaration) → Linked ds es → IsHome all d.home e.home → d.name ≡ e.name → Linked (ds ++ d ∷ []) (es ++ e ∷ [])
  linked_push [] [] d e h home name = ((home, name), tt)
  linked_push [] (y ∷ es) d e h home name = absurd h
  linked_push (x ∷ ds) [] d e h home name = absurd h
  linked_push (x ∷ ds) (y ∷ es) d e h home name = (h.0, linked_push ds es d e h.1 home name)

  -- a name is repeated where it is repeated by numbers
  linked_repeated : (ds es : List Declaration) (d e : Declaration) → Linked ds es → IsHome all d.home e.home → d.name ≡ e.name → is_repeated ds d ≡ list_any (is_same e.home e.name) es
  linked_repeated [] [] d e h home name = refl
  linked_repeated [] (y ∷ es) d e h home name = absurd h
  linked_repeated (x ∷ ds) [] d e h home name = absurd h
  linked_repeated (x ∷ ds) (y ∷ es) d e h home name =
      ap (λ b. (b && bytes_eq x.name d.name) || is_repeated ds d) (same_number all x.home y.home d.home e.home h.0.0 home)
      ∙ ap (λ n. (same_home y.home e.home && bytes_eq n d.name) || is_repeated ds d) h.0.1
      ∙ ap (λ n. (same_home y.home e.home && bytes_eq y.name n) || is_repeated ds d) name
      ∙ ap (λ b. (same_home y.home e.home && bytes_eq y.name e.name) || b) (linked_repeated ds es d e h.1 home name)

  -- Names that stand beside each other, and what is asked behind them.
  names_then : (before : List Asked) (kept ds es : List Declaration) (more : List Asked) (answer : Option Broken) → Linked (declared_in before) kept → Fresh all (declared_in before) →
      AllBeside all (declared_in before) ds es →
      ((after : List Asked) (held : List Declaration) → after ≡ before ++ map Names ds → Linked (declared_in after) held → Fresh all (declared_in after) →
      keys_of held ≡ with_keys (keys_of kept) (map name_of es) → first_broken all after more ≡ answer) →
      first_broken all before (map Names ds ++ more) ≡ otherwise (repeated (keys_of kept) (map name_of es)) answer
  names_then before kept [] [] more answer linked fresh beside rest = rest before kept (sym (append-nil before)) linked fresh refl
  names_then before kept [] (e ∷ es) more answer linked fresh beside rest = absurd beside
  names_then before kept (d ∷ ds) [] more answer linked fresh beside rest = absurd beside
  names_then before kept (d ∷ ds) (e ∷ es) more answer linked fresh beside rest =
      by (has_key (keys_of kept) (key_in e.home e.name)) refl (λ new.
      names_then (before ++ Names d ∷ []) (kept ++ e ∷ []) ds es more answer
      (subst (λ l. Linked l (kept ++ e ∷ [])) (sym (declared_push before d)) (linked_push (declared_in before) kept d e linked home beside.0.name))
      (subst (Fresh all) (sym (declared_push before d)) (fresh_push all [] (declared_in before) d fresh new))
      (subst (λ l. AllBeside all l ds es) (sym (declared_push before d)) beside.1)
      (λ after held is l f keys. rest after held (is ∙ append_assoc before (Names d ∷ []) (map Names ds)) l f (keys ∙ ap (λ k. with_keys k (map name_of es)) (keys_push kept e))))
    where
      home : IsHome all d.home e.home
      home = beside.0.home.is fresh

      same : is_repeated (declared_in before) d ≡ has_key (keys_of kept) (key_in e.home e.name)
      same = linked_repeated (declared_in before) kept d e linked home beside.0.name ∙ repeated_alike kept e.home e.name beside.0.home.numbered

      behind : Option Broken
      behind = first_broken all (before ++ Names d ∷ []) (map Names ds ++ more)

      left : Bool → Option Broken
      left b = otherwise (if b then Some (record { rule = DECLARED_TWICE; place = d.place }) else None) behind

      right : Bool → Option Broken
      right b = otherwise (if b then Some (record { rule = DECLARED_TWICE; place = e.place }) else repeated (with_key (keys_of kept) (key_in e.home e.name)) (map name_of es)) answer

      by : (b : Bool) → has_key (keys_of kept) (key_in e.home e.name) ≡ b →
          (is_repeated (declared_in before) d ≡ false → behind ≡ otherwise (repeated (keys_of (kept ++ e ∷ [])) (map name_of es)) answer) →
          otherwise (if is_repeated (declared_in before) d then Some (record { rule = DECLARED_TWICE; place = d.place }) else None) behind
          ≡ otherwise (if has_key (keys_of kept) (key_in e.home e.name) then Some (record { rule = DECLARED_TWICE; place = e.place }) else repeated (with_key (keys_of kept) (key_in e.home e.name)) (map name_of es)) answer
      by true is next =
          ap (λ b. otherwise (if b then Some (record { rule = DECLARED_TWICE; place = d.place }) else None) behind) (same ∙ is)
          ∙ ap (λ (p : Place). Some (record { rule = DECLARED_TWICE; place = p })) beside.0.place
          ∙ sym (ap (λ b. otherwise (if b then Some (record { rule = DECLARED_TWICE; place = e.place }) else repeated (with_key (keys_of kept) (key_in e.home e.name)) (map name_of es)) answer) is)
      by false is next =
          ap (λ b. otherwise (if b then Some (record { rule = DECLARED_TWICE; place = d.place }) else None) behind) (same ∙ is)
          ∙ next (same ∙ is)
          ∙ ap (λ k. otherwise (repeated k (map name_of es)) answer) (keys_push kept e)
          ∙ sym (ap (λ b. otherwise (if b then Some (record { rule = DECLARED_TWICE; place = e.place }) else repeated (with_key (keys_of kept) (key_in e.home e.name)) (map name_of es)) answer) is)

  -- ---- files

  -- where the name behind `within` is that of a long class, the classes of the file are elements of that class
  within_number : (within : Option (Path × Place)) → within_broken all within ≡ None → number_of_path all (names_of within) ≡ Some (number_of_within all within)
  within_number None fine = refl
  within_number (Some w) fine = by (class_of_path all w.0.0) refl fine
    where
      broken_where : Option ClassRow → Option Broken
      broken_where o = if is_long o then None else Some (record { rule = WITHIN_NAMES_NO_CLASS; place = w.1 })

      number_in : Option ClassRow → ℕ
      number_in None = 0
      number_in (Some row) = row.number

      by : (o : Option ClassRow) → class_of_path all w.0.0 ≡ o → broken_where (class_of_path all w.0.0) ≡ None →
          number_of_path all w.0.0 ≡ Some (number_of_within all (Some w))
      by None is h =
          let clash : ◌≡◌ {A = Option Broken} (Some (record { rule = WITHIN_NAMES_NO_CLASS; place = w.1 })) None =
          sym (ap broken_where is) ∙ h in absurd cc
      by (Some row) is h = number_of_class all w.0.0 row is ∙ ap (λ (o : Option ClassRow). Some (number_in o)) (sym is)

  files_then : (before : List Asked) (kept : List Declaration) (n : ℕ) (files : List FileTree) → Linked (declared_in before) kept → Fresh all (declared_in before) →
      declarations all ≡ declared_in before ++ (each in_file files).declared Apart n → first_broken all before (asked_from n files) ≡ files_broken all (keys_of kept) n files
  files_then before kept n [] linked fresh whole = refl
  files_then before kept n (file ∷ files) linked fresh whole =
      from_within all before file.within (map Names ds ++ asked_from m files)
      ∙ by (within_broken all file.within) refl (λ fine.
      names_then after kept ds es (asked_from m files) rest
      (subst (λ l. Linked l kept) (sym (asked_behind before file.within)) linked)
      (subst (Fresh all) (sym (asked_behind before file.within)) fresh)
      (in_classes (Alike all) (alike all) file.classes (Under (names_of file.within)) (Inside home) n (declared_in after) others
      (whole ∙ ap (λ l. l ++ (ds ++ others)) (sym (asked_behind before file.within)))
      (record { numbered = tt; is = λ f. of_path (within_number file.within fine) }))
      (λ last held is l f keys.
      files_then last held m files l f
      (whole ∙ ap (λ l. l ++ (ds ++ others)) (sym (asked_behind before file.within)) ∙ sym (append_assoc (declared_in after) ds others)
      ∙ ap (λ l. l ++ others) (sym (declared_more after ds) ∙ ap declared_in (sym is)))
      ∙ ap (λ k. files_broken all k m files) keys))
    where
      after : List Asked
      after = before ++ asked_within file.within

      ds : List Declaration
      ds = (in_file file).declared Apart n

      m : ℕ
      m = n + (in_file file).classes

      others : List Declaration
      others = (each in_file files).declared Apart m

      home : ℕ
      home = number_of_within all file.within

      es : List Declaration
      es = declared_under home file n

      rest : Option Broken
      rest = files_broken all (with_keys (keys_of kept) (names_in home file n)) m files

      by : (w : Option Broken) → within_broken all file.within ≡ w →
          (within_broken all file.within ≡ None → first_broken all after (map Names ds ++ asked_from m files) ≡ otherwise (repeated (keys_of kept) (map name_of es)) rest) →
          otherwise (within_broken all file.within) (first_broken all after (map Names ds ++ asked_from m files))
          ≡ otherwise (within_broken all file.within) (otherwise (repeated (keys_of kept) (names_in home file n)) rest)
      by None is next = ap (otherwise (within_broken all file.within)) (next is)
      by (Some b) is next =
          ap (λ w. otherwise w (first_broken all after (map Names ds ++ asked_from m files))) is
          ∙ sym (ap (λ w. otherwise w (otherwise (repeated (keys_of kept) (names_in home file n)) rest)) is)

pub tree_alike : (files : List FileTree) → broken_tree files ≡ files_broken files (λ key. false) 6 files
tree_alike files = files_then files [] [] 6 files tt tt refl
