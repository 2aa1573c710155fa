-- The data of a report have no floating-point numbers.
use Rattle.std.proofs.Common.{◌≡◌, ℕ, zero, suc, List, [], ◌∷◌, ◌++◌, Bool, true, false, ◌||◌, if◌then◌else◌, nat_lt, Option, Some, None, length, map, true≢false, refl}
use Rattle.serde_json.specs.Data.{Data}
use Rattle.serde_json.specs.View.{items_of}
use Rattle.serde_json.specs.Written.{has_float, items_have_float}
use Rattle.mo_incidence.specs.declared.findings.Offsets.{Offsets}
use Rattle.mo_incidence.specs.declared.findings.Deficit.{Deficit}
use Rattle.mo_report.specs.declared.report.Report.{Report}
use Rattle.mo_json.specs.Values.{count, name_data, numbers_data, names_data, data_below, equation_data, unknown_data, reason_data, derivative_data, dummy_data, equations_data, unknowns_data, singular_data, undetermined_data, square_data, found_data, part_data, report_data}

neither : (a b : Bool) → a ≡ false → b ≡ false → (a || b) ≡ false
neither a b ea eb = rw (ea, eb) refl

mapped : {A : Type 0} (f : A → Data) → ((x : A) → has_float (f x) ≡ false) → (xs : List A) → items_have_float (items_of (map f xs)) ≡ false
mapped f none [] = refl
mapped f none (x ∷ xs) = neither _ _ (none x) (mapped f none xs)

with_last : (ds : List Data) (d : Data) → items_have_float (items_of ds) ≡ false → has_float d ≡ false → items_have_float (items_of (ds ++ d ∷ [])) ≡ false
with_last [] d es e = neither _ _ e refl
with_last (x ∷ ds) d es e = neither _ _ (first _ _ es) (with_last ds d (second _ _ es) e)
  where
    first : (a b : Bool) → (a || b) ≡ false → a ≡ false
    first false b h = refl
    first true b h = h

    second : (a b : Bool) → (a || b) ≡ false → b ≡ false
    second false b h = h
    second true b h = absurd (true≢false h)

below : (entry : ℕ → Data) → ((i : ℕ) → has_float (entry i) ≡ false) → (n : ℕ) → items_have_float (items_of (data_below entry n)) ≡ false
below entry none zero = refl
below entry none (suc n) = with_last (data_below entry n) (entry n) (below entry none n) (none n)

all_numbers : (ns : List ℕ) → has_float (numbers_data ns) ≡ false
all_numbers ns = mapped count (λ n. refl) ns

all_names : (names : List (List ℕ)) (js : List ℕ) → has_float (names_data names js) ≡ false
all_names names js = mapped (name_data names) (λ j. refl) js

all_equations : (r : Report) (offsets : Offsets) → has_float (equations_data r offsets) ≡ false
all_equations r offsets = below (equation_data r.unknowns r.orders.items offsets) (λ i. refl) r.equations

all_unknowns : (r : Report) (offsets : Offsets) → has_float (unknowns_data r offsets) ≡ false
all_unknowns r offsets = below (unknown_data r.unknowns offsets) (λ j. refl) (length r.unknowns)

of_singular : (r : Report) (deficit : Deficit) → has_float (singular_data r deficit) ≡ false
of_singular r deficit = neither _ _ (neither _ _ (all_numbers deficit.equations.items) (neither _ _ (all_names r.unknowns deficit.unknowns.items) refl)) refl

of_undetermined : (r : Report) (offsets : Offsets) → has_float (undetermined_data r offsets) ≡ false
of_undetermined r offsets = neither _ _ (all_equations r offsets) (neither _ _ (all_names r.unknowns r.loose.items) (neither _ _ (all_unknowns r offsets) refl))

of_square : (r : Report) (offsets : Offsets) → has_float (square_data r offsets) ≡ false
of_square r offsets =
    neither _ _ (mapped (λ block. numbers_data block.items) (λ block. all_numbers block.items) r.blocks.0.items)
    (neither _ _ (mapped (dummy_data r.unknowns) (λ x. refl) r.dummies.chosen.items)
    (neither _ _ (all_equations r offsets)
    (neither _ _ (mapped reason_data (λ x. refl) r.reasons.items)
    (neither _ _ (mapped (derivative_data r.unknowns) (λ x. refl) r.dummies.states.items)
    (neither _ _ (all_unknowns r offsets) refl)))))

either : (b : Bool) (x y : Data) → has_float x ≡ false → has_float y ≡ false → has_float (if b then x else y) ≡ false
either true x y ex ey = ex
either false x y ex ey = ey

of_found : (r : Report) (found : Option Offsets) → has_float (found_data r found) ≡ false
of_found r None = refl
of_found r (Some offsets) = either (nat_lt r.equations (length r.unknowns)) _ _ (of_undetermined r offsets) (of_square r offsets)

of_parts : (r : Report) (found : Option Deficit) → has_float (part_data r found) ≡ false
of_parts r None = of_found r r.offsets
of_parts r (Some deficit) = of_singular r deficit

pub no_floats : (r : Report) → has_float (report_data r) ≡ false
no_floats r = of_parts r r.deficit
