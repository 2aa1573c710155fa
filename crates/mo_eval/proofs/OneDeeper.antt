-- What is read one reference deeper.
use Rattle.std.proofs.Common.{◌≡◌, ℕ, suc, Bool, true, false, None, Ok, refl}
use Rattle.std.specs.Prelude.{◌||◌, if◌then◌else◌}
use Rattle.mo_scope.specs.Rows.{Table}
use Rattle.mo_syntax.specs.Outcome.{Outcome, breaks}
use Rattle.mo_syntax.specs.declared.rules.TheConstants.{REFERENCE_CHAIN_TOO_LONG}
use Rattle.mo_values.specs.Scalars.{Known, has_values}
use Rattle.mo_eval.specs.Virtuals.{Element}
use Rattle.mo_eval.specs.References.{is_replaced}
use Rattle.mo_eval.specs.Components.{reader}
use Rattle.mo_eval.specs.Values.{reading, value_of_element}

dropped : (has replaced : Bool) (told : Outcome Known) → (has || replaced) ≡ false → (if has then told else (if replaced then told else Ok None)) ≡ Ok None
dropped true replaced told e = absurd (cc)
dropped false true told e = absurd (cc)
dropped false false told e = refl

taken : (has replaced : Bool) (told : Outcome Known) → (has || replaced) ≡ true → (if has then told else (if replaced then told else Ok None)) ≡ told
taken true replaced told e = refl
taken false true told e = refl
taken false false told e = absurd (cc)

-- an element that is not read
pub not_read : (table : Table) (left : ℕ) (element : Element) → (has_values element.kind || is_replaced element) ≡ false → reader (reading table left) element ≡ Ok None
not_read table left element is = dropped (has_values element.kind) (is_replaced element) _ is

-- one that is read where no more references may be read
pub read_past : (table : Table) (left : ℕ) (element : Element) → (has_values element.kind || is_replaced element) ≡ true → left ≡ 0 → reader (reading table left) element ≡ breaks REFERENCE_CHAIN_TOO_LONG element.place
unfolding reading
read_past table left element is none = rw none (taken (has_values element.kind) (is_replaced element) _ is)

-- one that is read
pub read_deeper : (table : Table) (left deeper : ℕ) (element : Element) → (has_values element.kind || is_replaced element) ≡ true → left ≡ suc deeper →
    reader (reading table left) element ≡ value_of_element table deeper element
unfolding reading
read_deeper table left deeper element is more = rw more (taken (has_values element.kind) (is_replaced element) _ is)
