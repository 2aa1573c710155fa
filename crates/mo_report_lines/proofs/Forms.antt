-- Whether a line has a form, field by field.
use Rattle.std.proofs.Common.{◌≡◌, ℕ, zero, suc, ◌+◌, ◌<◌, ◌≤◌, ◌⊎◌, inl, inr, true, false, ◌==◌, List, [], ◌∷◌, ◌++◌, length, get_or, drop, codes, refl, sym, ap, ◌∙◌, arith, add-one, append-nil}
use Rattle.std.proofs.lemmas.List.{drop_all, drop_more}
use Rattle.std.proofs.lemmas.Bool.Decides.{nat_tests}
use Rattle.mo_lexer.specs.Bytes.{is_digit}
use Rattle.mo_lexer.proofs.Fronts.{both_hold}
use Rattle.mo_report_lines.specs.declared.form.Kind.{Kind}
use Rattle.mo_report_lines.proofs.Numbers.{zero_of}
use Rattle.mo_report_lines.specs.declared.form.Field.{Field}
use Rattle.mo_report_lines.specs.Grammar.{AreNumbers, IsValue, Spells, done, next, HasForm, head_forms, offset_forms, square_forms, IsLine, head, offsets, square, block}
use Rattle.mo_report_lines.specs.steps.Reading.{stops, is_no_blank, in_name, in_numbers, begins_blank, are_apart, is_form, fields_in, IsFieldAt, IsNoFieldAt, IsBlockLine, BeginsOnly, BeginsNever}

pub strip : (w a b : List ℕ) → w ++ a ≡ w ++ b → a ≡ b
strip [] a b e = e
strip (x ∷ w) a b e = strip w a b (cc)

-- ---- a field
pub only_field : (word : List ℕ) (kind : Kind) (text start rest : List ℕ) → text ≡ word ++ start → BeginsOnly (IsValue kind) is_no_blank start rest
    → IsFieldAt word kind text rest
only_field word kind text start rest e b = record {
  value = b.begins.front;
  is_value = b.begins.holds;
  is = e ∙ ap (λ (x : List ℕ). word ++ x) b.begins.is;
  only = λ v other ends h f. b.only other ends (record { front = v; holds = h; is = strip word start (v ++ other) (sym e ∙ f) });
}

pub no_field : (word : List ℕ) (kind : Kind) (text start : List ℕ) → text ≡ word ++ start → BeginsNever (IsValue kind) is_no_blank start → IsNoFieldAt word kind text
no_field word kind text start e never v other ends h f = never other ends (record { front = v; holds = h; is = strip word start (v ++ other) (sym e ∙ f) })

-- ---- forms
blank_front : (b : List ℕ) (text : List ℕ) → begins_blank b ≡ true → stops is_no_blank (b ++ text) ≡ true
blank_front [] text h = cc
blank_front (x ∷ b) text h = rw h refl

-- what has fields that begin with blanks is nothing or begins with one
pub rest_stops : (fields : List (List ℕ × Kind)) (text : List ℕ) → are_apart fields ≡ true → Spells fields text → stops is_no_blank text ≡ true
rest_stops _ _ h done = refl
rest_stops (f ∷ fields) text h (next value rest e v s) =
    let blank = (both_hold (begins_blank f.0) (are_apart fields) h).0 in
    rw e (blank_front f.0 (value ++ rest) blank)

pub apart_tail : (fields : List (List ℕ × Kind)) (f : List ℕ × Kind) → are_apart (f ∷ fields) ≡ true → are_apart fields ≡ true
apart_tail fields f h = (both_hold (begins_blank f.0) (are_apart fields) h).1

-- a field is gone
pub field_gone : (word : List ℕ) (kind : Kind) (fields : List (List ℕ × Kind)) (text rest : List ℕ) → are_apart fields ≡ true → IsFieldAt word kind text rest → Spells ((word, kind) ∷ fields) text → Spells fields rest
field_gone word kind fields text rest h at (next value left e v s) = rw (at.only value left (rest_stops fields left h s) v e) at s

pub field_back : (word : List ℕ) (kind : Kind) (fields : List (List ℕ × Kind)) (text rest : List ℕ) → IsFieldAt word kind text rest → Spells fields rest → Spells ((word, kind) ∷ fields) text
field_back word kind fields text rest at s = next at.value rest at.is at.is_value s

pub field_missing : (word : List ℕ) (kind : Kind) (fields : List (List ℕ × Kind)) (text : List ℕ) → are_apart fields ≡ true → IsNoFieldAt word kind text → Spells ((word, kind) ∷ fields) text → ⊥
field_missing word kind fields text h none (next value left e v s) = none value left (rest_stops fields left h s) v e

pub nothing_left : (text : List ℕ) → Spells [] text → text ≡ []
nothing_left _ done = refl

-- ---- values
pub only_nothing : (text : List ℕ) → BeginsOnly (λ t. t ≡ []) is_no_blank text text
only_nothing text = record {
  begins = record { front = []; holds = refl; is = refl };
  only = λ other ends b. sym (b.is ∙ ap (λ (x : List ℕ). x ++ other) b.holds);
}

pub number_then_blank : (b : ℕ) → is_digit b ≡ true → is_no_blank b ≡ true
number_then_blank b h = grind (arith, nat_tests)

pub name_then_blank : (b : ℕ) → in_name b ≡ true → is_no_blank b ≡ true
name_then_blank b h = grind (arith, nat_tests)

-- ---- numbers of a block
pub block_all : (text numbers rest : List ℕ) → text ≡ codes "block " ++ numbers → BeginsOnly (AreNumbers 32) (in_numbers 32) numbers rest → (length rest == 0) ≡ true → IsBlockLine text
block_all text numbers [] e b none = record { numbers = numbers; is = e; are_numbers = rw (b.begins.is ∙ append-nil b.begins.front) b.begins.holds }
block_all text numbers (x ∷ rest) e b none = absurd (omega (arith, zero_of (length (x ∷ rest)) none))

pub block_more : (text numbers rest : List ℕ) → text ≡ codes "block " ++ numbers → BeginsOnly (AreNumbers 32) (in_numbers 32) numbers rest → (length rest == 0) ≡ false → IsBlockLine text → ⊥
block_more text numbers rest e b some line =
    let same : numbers ≡ line.numbers = strip (codes "block ") numbers line.numbers (sym e ∙ line.is) in
    let end : [] ≡ rest = b.only [] refl (record { front = line.numbers; holds = line.are_numbers; is = same ∙ sym (append-nil line.numbers) }) in
    go rest end some
  where
    go : (r : List ℕ) → [] ≡ r → (length r == 0) ≡ false → ⊥
    go [] end some = cc
    go (x ∷ r) end some = cc

pub block_never : (text numbers : List ℕ) → text ≡ codes "block " ++ numbers → BeginsNever (AreNumbers 32) (in_numbers 32) numbers → IsBlockLine text → ⊥
block_never text numbers e none line =
    let same : numbers ≡ line.numbers = strip (codes "block ") numbers line.numbers (sym e ∙ line.is) in
    none [] refl (record { front = line.numbers; holds = line.are_numbers; is = same ∙ sym (append-nil line.numbers) })

-- ---- the fields that are left
pub record IsSpelledTo (form : List (List ℕ × Kind)) (line : List ℕ) (left : List (List ℕ × Kind)) (rest : List ℕ) : Type 0 where
  pub to : Spells form line → Spells left rest
  pub back : Spells left rest → Spells form line

pub all_left : (form : List (List ℕ × Kind)) (line : List ℕ) → IsSpelledTo form line form line
all_left form line = record { to = λ s. s; back = λ s. s }

-- behind the first field each word of a form begins with a blank
apart_from : (n : ℕ) (fields : List (List ℕ × Kind)) → are_apart fields ≡ true → are_apart (drop n fields) ≡ true
apart_from zero fields h = h
apart_from (suc n) [] h = refl
apart_from (suc n) (f ∷ fields) h = apart_from n fields (apart_tail fields f h)

pub apart_behind : (n : ℕ) (form : List (List ℕ × Kind)) → is_form form ≡ true → are_apart (drop (n + 1) form) ≡ true
apart_behind n [] h = cc
apart_behind n (f ∷ form) h = rw (add-one) (apart_from n form h)

fields_drop : (n : ℕ) (fields : List Field) → fields_in (drop n fields) ≡ drop n (fields_in fields)
fields_drop zero fields = refl
fields_drop (suc n) [] = refl
fields_drop (suc n) (f ∷ fields) = fields_drop n fields

module _ (form : List Field) (line : List ℕ) (n : ℕ) (rest : List ℕ) (field : Field) (ok : is_form (fields_in form) ≡ true) (at : drop n form ≡ field ∷ drop (n + 1) form) (s : IsSpelledTo (fields_in form) line (fields_in (drop n form)) rest) where
  apart_here : are_apart (fields_in (drop (n + 1) form)) ≡ true
  apart_here = rw (fields_drop (n + 1) form) (apart_behind n (fields_in form) ok)

  left_is : fields_in (drop n form) ≡ (field.word.now, field.kind) ∷ fields_in (drop (n + 1) form)
  left_is = ap fields_in at

  pub one_left : (left : List ℕ) → IsFieldAt field.word.now field.kind rest left → IsSpelledTo (fields_in form) line (fields_in (drop (n + 1) form)) left
  one_left left f = record {
    to = λ spells. field_gone field.word.now field.kind (fields_in (drop (n + 1) form)) rest left apart_here f (rw left_is at s.to spells);
    back = λ spells. s.back (rw left_is (field_back field.word.now field.kind (fields_in (drop (n + 1) form)) rest left f spells));
  }

  pub none_left : IsNoFieldAt field.word.now field.kind rest → Spells (fields_in form) line → ⊥
  none_left none spells = field_missing field.word.now field.kind (fields_in (drop (n + 1) form)) rest apart_here none (rw left_is at s.to spells)

module _ (form : List Field) (line : List ℕ) (n : ℕ) (rest : List ℕ) (past : length form ≤ n) (s : IsSpelledTo (fields_in form) line (fields_in (drop n form)) rest) where
  none_more : fields_in (drop n form) ≡ []
  none_more = ap fields_in (drop_all n form past)

  pub form_ends : (length rest == 0) ≡ true → Spells (fields_in form) line
  form_ends e = s.back (rw none_more (go rest e))
    where
      go : (r : List ℕ) → (length r == 0) ≡ true → Spells [] r
      go [] e = done
      go (x ∷ r) e = absurd (omega (arith, zero_of (length (x ∷ r)) e))

  pub form_goes_on : (length rest == 0) ≡ false → Spells (fields_in form) line → ⊥
  form_goes_on e spells = go rest (nothing_left rest (rw none_more at s.to spells)) e
    where
      go : (r : List ℕ) → r ≡ [] → (length r == 0) ≡ false → ⊥
      go [] f e = let no : true ≡ false = e in cc
      go (x ∷ r) f e = cc

module _ (form : List Field) (line : List ℕ) (n : ℕ) (rest : List ℕ) (d : Field) (ok : is_form (fields_in form) ≡ true) (below : n < length form) (s : IsSpelledTo (fields_in form) line (fields_in (drop n form)) rest) where
  pub field_left : (left : List ℕ) → IsFieldAt (get_or form n d).word.now (get_or form n d).kind rest left → IsSpelledTo (fields_in form) line (fields_in (drop (n + 1) form)) left
  field_left left f = one_left form line n rest (get_or form n d) ok (drop_more form n d below) s left f

  pub no_field_left : IsNoFieldAt (get_or form n d).word.now (get_or form n d).kind rest → Spells (fields_in form) line → ⊥
  no_field_left none spells = none_left form line n rest (get_or form n d) ok (drop_more form n d below) s none spells

-- ---- of several forms
pub none_of_three : {A B C : Type 0} → (A → ⊥) → (B → ⊥) → (C → ⊥) → A ⊎ (B ⊎ (C ⊎ ⊥)) → ⊥
none_of_three a b c (inl h) = a h
none_of_three a b c (inr (inl h)) = b h
none_of_three a b c (inr (inr (inl h))) = c h
none_of_three a b c (inr (inr (inr h))) = h

pub none_of_five : {A B C D E : Type 0} → (A → ⊥) → (B → ⊥) → (C → ⊥) → (D → ⊥) → (E → ⊥) → A ⊎ (B ⊎ (C ⊎ (D ⊎ (E ⊎ ⊥)))) → ⊥
none_of_five a b c d e (inl h) = a h
none_of_five a b c d e (inr (inl h)) = b h
none_of_five a b c d e (inr (inr h)) = none_of_three c d e h

pub block_line : (text : List ℕ) → IsBlockLine text → IsLine text
block_line text b = block b.numbers b.is b.are_numbers

pub no_line : (text : List ℕ) → (HasForm offset_forms text → ⊥) → (HasForm square_forms text → ⊥) → (IsBlockLine text → ⊥) → (HasForm head_forms text → ⊥) → IsLine text → ⊥
no_line text o s b h (head f) = h f
no_line text o s b h (offsets f) = o f
no_line text o s b h (square f) = s f
no_line text o s b h (block numbers is are) = b (record { numbers = numbers; is = is; are_numbers = are })
