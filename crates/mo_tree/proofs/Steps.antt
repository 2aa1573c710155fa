-- One more name, and one more file.
use Rattle.std.proofs.Common.{◌≡◌, ℕ, ◌+◌, Bool, true, false, List, [], ◌∷◌, ◌++◌, Some, None, ap, sym, ◌∙◌}
use Rattle.std.specs.Prelude.{if◌then◌else◌}
use Rattle.std.proofs.Math.Path.{fun_ext}
use Rattle.mo_syntax.specs.declared.class.FileTree.{FileTree}
use Rattle.mo_syntax.specs.Classes.{Inside, each}
use Rattle.mo_syntax.specs.ClassTable.{in_file, otherwise}
use Rattle.mo_syntax.specs.steps.Parts.{outline_of_class}
use Rattle.mo_syntax.specs.declared.rules.TheConstants.{DECLARED_TWICE}
use Rattle.mo_tree.specs.declared.names.Name.{Name}
use Rattle.mo_tree.specs.steps.Homes.{number_of_within}
use Rattle.mo_tree.specs.Keys.{Lists}
use Rattle.mo_tree.specs.steps.Repeats.{has_key, with_key, with_keys, repeated, within_broken, names_in, files_broken}

-- a name whose key is new
pub name_fits : (keys after : List ℕ → Bool) (name : Name) (xs rest : List Name) → xs ≡ name ∷ rest → has_key keys name.key ≡ false → ((key : List ℕ) → after key ≡ with_key keys name.key key) →
    repeated after rest ≡ repeated keys xs
name_fits keys after name xs rest front new kept =
    ap (λ k. repeated k rest) (fun_ext kept)
    ∙ sym (ap (repeated keys) front ∙ ap (λ b. if b then Some (record { rule = DECLARED_TWICE; place = name.place }) else repeated (with_key keys name.key) rest) new)

pub name_kept : (keys after : List ℕ → Bool) (name : Name) (xs rest : List Name) → xs ≡ name ∷ rest → ((key : List ℕ) → after key ≡ with_key keys name.key key) →
    (key : List ℕ) → with_keys after rest key ≡ with_keys keys xs key
name_kept keys after name xs rest front kept key = ap (λ k. with_keys k rest key) (fun_ext kept) ∙ sym (ap (λ l. with_keys keys l key) front)

-- a file that breaks no rule
pub file_fits : (all xs ys : List FileTree) (file : FileTree) (keys after : List ℕ → Bool) (home n m : ℕ) (before names : List Name) → xs ≡ file ∷ ys → within_broken all file.within ≡ None →
    home ≡ number_of_within all file.within → before ≡ [] → Lists (each (outline_of_class true) file.classes) (Inside home) n before names m → repeated keys names ≡ None →
    ((key : List ℕ) → after key ≡ with_keys keys names key) → files_broken all after m ys ≡ files_broken all keys n xs
file_fits all xs ys file keys after home n m before names front fits number empty listed new kept =
    let under : ℕ = number_of_within all file.within in
    let listing : names ≡ names_in under file n = listed.1 ∙ ap (λ l. l ++ names_in home file n) empty ∙ ap (λ h. names_in h file n) number in
    let added : after ≡ with_keys keys (names_in under file n) = fun_ext kept ∙ ap (with_keys keys) listing in
    ap (λ k. files_broken all k m ys) added
    ∙ ap (λ k. files_broken all (with_keys keys (names_in under file n)) k ys) listed.0
    ∙ sym (ap (files_broken all keys n) front
    ∙ ap (λ w. otherwise w (otherwise (repeated keys (names_in under file n)) (files_broken all (with_keys keys (names_in under file n)) (n + (in_file file).classes) ys))) fits
    ∙ ap (λ r. otherwise r (files_broken all (with_keys keys (names_in under file n)) (n + (in_file file).classes) ys)) (ap (repeated keys) (sym listing) ∙ new))
