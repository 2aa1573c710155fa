-- Printed paths of identifiers are names of printed reports.
use Rattle.std.proofs.Common.{◌≢◌, ℕ, ◌≤◌, List, [], ◌∷◌, ◌++◌, flat_map, codes, Ok, IsTrue, refl, sym, subst, arith, append_assoc, append-nil}
use Rattle.std.specs.Fmt.{decimal}
use Rattle.std.specs.List.{list_all}
use Rattle.mo_syntax.specs.declared.class.FileTree.{FileTree}
use Rattle.mo_syntax.specs.declared.token.TokenKind.TheVariants.{Ident}
use Rattle.mo_syntax.specs.SoundTree.{IsSoundNamedTree}
use Rattle.mo_lexer.specs.Spelling.{Spells}
use Rattle.mo_flat.specs.declared.model.FlatModel.{FlatModel}
use Rattle.mo_flat.specs.declared.model.FlatVar.{FlatVar}
use Rattle.mo_scope.specs.Frames.{Indexed}
use Rattle.mo_scope.specs.Places.{Every}
use Rattle.mo_scope.proofs.laws.Standing.{every_map}
use Rattle.mo_eval.specs.Resolving.{dotted}
use Rattle.mo_instance.specs.Elements.{most_instances}
use Rattle.mo_equations.specs.Leaves.{index_text, path_text}
use Rattle.mo_flatten.specs.Told.{Tells}
use Rattle.mo_report_lines.specs.Grammar.{AreNumbers, IsName, IsNumber, IsPart, indexed, more, one, plain}
use Rattle.mo_path_names.specs.Identifiers.{is_identifier}
use Rattle.mo_path_names.specs.Named.{HasReportNames}
use Rattle.mo_path_names.proofs.laws.Flattening.{ComesOf, Inner, comes_of, leaves, leaves_inner, leaves_named, name_is, names_differ, path_has, path_some}
use Rattle.mo_path_names.proofs.laws.Growing.{NoGreater}
use Rattle.mo_path_names.proofs.laws.Instancing.{PathNamed}
use Rattle.mo_path_names.proofs.laws.Splitting.{are_delimited, tests_identifiers}
use Rattle.mo_path_names.proofs.laws.Testing.{every_all, left_of, right_of}
use Rattle.mo_path_names.proofs.laws.Variables.{named_all}

-- ---- numbers

number : (n : ℕ) → n ≤ most_instances → IsNumber (decimal n)
number n small = record { value = n; is = refl; fits = omega (arith, small) }

-- numbers with commas between them
numbers : (n : ℕ) (index : List ℕ) → NoGreater most_instances (n ∷ index) → AreNumbers 44 (decimal n ++ flat_map (λ k. codes "," ++ decimal k) index)
numbers n [] h = one (subst IsNumber (sym (append-nil (decimal n))) (number n h.0))
numbers n (k ∷ index) h = more (decimal n) (decimal k ++ flat_map (λ k. codes "," ++ decimal k) index) refl (number n h.0) (numbers k index h.1)

-- ---- parts

spelled : (name : List ℕ) → IsTrue (is_identifier name) → Spells Ident name
spelled name h = (tests_identifiers name).spelled h

part : (name : List ℕ) (index : List ℕ) → IsTrue (is_identifier name) → NoGreater most_instances index → IsPart (name ++ index_text index)
part name [] h k = subst IsPart (sym (append-nil name)) (plain (spelled name h))
part name (n ∷ index) h k =
    indexed name (decimal n ++ flat_map (λ i. codes "," ++ decimal i) index) refl (spelled name h) (numbers n index k)

-- ---- paths

first_passes : (step : List ℕ × List ℕ) (path : Indexed) → PathNamed is_identifier (step ∷ path) → IsTrue (is_identifier step.0)
first_passes step path h = left_of (is_identifier step.0) (list_all (λ (s : List ℕ × List ℕ). is_identifier s.0) path) h.names

rest_passes : (step : List ℕ × List ℕ) (path : Indexed) → PathNamed is_identifier (step ∷ path) → PathNamed is_identifier path
rest_passes step path h = record { names = right_of (is_identifier step.0) (list_all (λ (s : List ℕ × List ℕ). is_identifier s.0) path) h.names; indices = h.indices.1 }

steps : (step : List ℕ × List ℕ) (path : Indexed) → PathNamed is_identifier (step ∷ path) → IsName (path_text (step ∷ path))
steps step [] h = one (part step.0 step.1 (first_passes step [] h) h.indices.0)
steps step (next ∷ path) h =
    more (step.0 ++ index_text step.1) (path_text (next ∷ path)) (append_assoc (step.0 ++ index_text step.1) (46 ∷ []) (path_text (next ∷ path)))
    (part step.0 step.1 (first_passes step (next ∷ path) h) h.indices.0) (steps next path (rest_passes step (next ∷ path) h))

path_readable : (path : Indexed) → path ≢ [] → PathNamed is_identifier path → IsName (path_text path)
path_readable [] some h = absurd (some refl)
path_readable (step ∷ path) some h = steps step path h

names : (name : List ℕ) (others : List (List ℕ)) → IsTrue (list_all is_identifier (name ∷ others)) → IsName (dotted (name ∷ others))
names name [] h = one (plain (spelled name (left_of (is_identifier name) (list_all is_identifier []) h)))
names name (next ∷ others) h =
    more name (dotted (next ∷ others)) (append_assoc name (46 ∷ []) (dotted (next ∷ others))) (plain (spelled name (left_of (is_identifier name) (list_all is_identifier (next ∷ others)) h)))
    (names next others (right_of (is_identifier name) (list_all is_identifier (next ∷ others)) h))

class_readable : (path : List (List ℕ)) → path ≢ [] → IsTrue (list_all is_identifier path) → IsName (dotted path)
class_readable [] some h = absurd (some refl)
class_readable (name ∷ others) some h = names name others h

-- ---- models

paths_readable : (paths : List Indexed) → Every (PathNamed is_identifier) paths → Every Inner paths → Every (λ path. IsName (path_text path)) paths
paths_readable [] named inner = tt
paths_readable (path ∷ paths) named inner = (path_readable path inner.0 named.0, paths_readable paths named.1 inner.1)

pub report_names : (files : List FileTree) → IsSoundNamedTree is_identifier files → (path : List (List ℕ)) (m : FlatModel) → Tells files path (Ok m) → HasReportNames m
report_names files sound path m tells =
    let from : ComesOf files path m = comes_of files path m (Ok m) tells refl in
    record {
      name = subst IsName (sym (name_is is_identifier files sound path m from)) (class_readable path (path_some is_identifier files sound path m from) (path_has is_identifier files sound path m from));
      variables = every_all (λ v. IsName v.name) m.vars
          (named_all (λ (v : FlatVar). v.name) IsName m.vars
          (subst (Every IsName) (sym from.variables)
          (every_map IsName path_text (leaves is_identifier files sound path m from)
          (paths_readable (leaves is_identifier files sound path m from) (leaves_named is_identifier files sound path m from) (leaves_inner is_identifier files sound path m from)))));
      different = names_differ is_identifier files sound are_delimited.identifiers path m from;
    }
