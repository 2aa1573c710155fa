-- The lines that reports have are lines, and have no line feed but their last byte.
use Rattle.std.proofs.Common.{◌≡◌, ℕ, zero, suc, ◌<◌, inl, inr, Bool, true, false, ◌==◌, List, [], ◌∷◌, ◌++◌, length, get_or, codes, decimal, refl, sym, ap, ◌∙◌, arith, append_assoc}
use Rattle.std.proofs.lemmas.Bool.Decides.{eqb_tells}
use Rattle.std.proofs.lemmas.List.{append-nil}
use Rattle.std.specs.List.{list_all}
use Rattle.std.specs.Prelude.{flat_map}
use Rattle.mo_syntax.specs.declared.token.TokenKind.TheVariants.{Ident}
use Rattle.mo_flat.specs.Text.{derivative_text}
use Rattle.mo_lexer.specs.Bytes.{is_digit, is_word_byte, is_quotable, is_escaped}
use Rattle.mo_lexer.specs.Spelling.{AreContents, nothing, plain, escape, Spells as SpellsToken}
use Rattle.mo_incidence.specs.declared.findings.Deficit.{Deficit}
use Rattle.mo_incidence.specs.declared.findings.Reason.{Reason}
use Rattle.mo_report.specs.Lines.{numbered, named, derivative, unknown_name, reason_line, dummy_line, state_line, block_line, in_line, name_line, deficit_head}
use Rattle.mo_report_lines.specs.declared.form.Kind.{Kind}
use Rattle.mo_report_lines.specs.declared.form.Kind.TheVariants.{Nothing, Number, Name, Derivative}
use Rattle.mo_report_lines.specs.Grammar as lines
use Rattle.mo_report_lines.specs.Grammar.{IsNumber, AreNumbers, IsPart, IsName, IsDerivative, IsValue, Spells, IsLine, IsEquationLine, IsUnknownLine}
use Rattle.mo_report_lines.proofs.Numbers.{digits_of}
use Rattle.mo_report_lines.proofs.Words.{word_bytes}
use Rattle.mo_verify.proofs.Lining.{is_plain, plain_both}

-- ---- bytes
no_feed : (p : ℕ → Bool) (b : ℕ) → p 10 ≡ false → p b ≡ true → (b == 10) ≡ false
no_feed p b off on = elim (eqb_tells b 10) [
  | inl e ↦ (let here : p 10 ≡ true = rw e.1 at on in let no : false ≡ true = sym off ∙ here in cc)
  | inr e ↦ e.0
]

head_all : (p : ℕ → Bool) (x : ℕ) (xs : List ℕ) → list_all p (x ∷ xs) ≡ true → (p x ≡ true) × (list_all p xs ≡ true)
head_all p x xs h = go (p x) refl
  where
    go : (b : Bool) → p x ≡ b → (p x ≡ true) × (list_all p xs ≡ true)
    go true e = (e, rw e at h)
    go false e = let no : false ≡ true = rw e at h in cc

all_plain : (p : ℕ → Bool) (text : List ℕ) → p 10 ≡ false → list_all p text ≡ true → is_plain text ≡ true
all_plain p [] off all = refl
all_plain p (b ∷ bs) off all = let parts = head_all p b bs all in let none : (b == 10) ≡ false = no_feed p b off parts.0 in rw none (all_plain p bs off parts.1)

pub number_plain : (n : ℕ) → n < 4294967296 → is_plain (decimal n) ≡ true
number_plain n fits = all_plain is_digit (decimal n) refl (digits_of n fits)

numbers_plain : (separator : ℕ) → (separator == 10) ≡ false → {text : List ℕ} → AreNumbers separator text → is_plain text ≡ true
numbers_plain separator off (lines.one n) = rw n.is (number_plain n.value n.fits)
numbers_plain separator off (lines.more first rest e n ns) =
    let tail : is_plain (separator ∷ rest) ≡ true = rw off (numbers_plain separator off ns) in
    rw e (plain_both first (separator ∷ rest) (rw n.is (number_plain n.value n.fits)) tail)

contents_plain : {text : List ℕ} → AreContents is_quotable text → is_plain text ≡ true
contents_plain nothing = refl
contents_plain (plain {b} {bs} on rest) = let none : (b == 10) ≡ false = no_feed is_quotable b refl on in rw none (contents_plain rest)
contents_plain (escape {s} {b} {bs} first on rest) = let none : (b == 10) ≡ false = no_feed is_escaped b refl on in rw (first, none) (contents_plain rest)

ident_plain : (text : List ℕ) → SpellsToken Ident text → is_plain text ≡ true
ident_plain text (inl word) = all_plain is_word_byte text refl (word_bytes text word.0)
ident_plain text (inr quoted) = rw quoted.is (plain_both quoted.body (39 ∷ []) (contents_plain quoted.contents) refl)

part_plain : {text : List ℕ} → IsPart text → is_plain text ≡ true
part_plain {text} (lines.plain spells) = ident_plain text spells
part_plain (lines.indexed name indices e spells numbers) =
    rw e (plain_both name (91 ∷ (indices ++ 93 ∷ [])) (ident_plain name spells) (plain_both indices (93 ∷ []) (numbers_plain 44 refl numbers) refl))

pub name_plain : {text : List ℕ} → IsName text → is_plain text ≡ true
name_plain (lines.one part) = part_plain part
name_plain (lines.more first rest e part names) = rw e (plain_both first (46 ∷ rest) (part_plain part) (name_plain names))

derived_plain : (order : ℕ) (name : List ℕ) → is_plain name ≡ true → is_plain (derivative_text order name) ≡ true
derived_plain zero name h = h
derived_plain (suc order) name h = plain_both (codes "der(" ++ derivative_text order name) (codes ")") (plain_both (codes "der(") (derivative_text order name) refl (derived_plain order name h)) refl

-- ---- fields
value_plain : (kind : Kind) (text : List ℕ) → IsValue kind text → is_plain text ≡ true
value_plain Nothing text h = rw h refl
value_plain Number text h = rw h.is (number_plain h.value h.fits)
value_plain Name text h = name_plain h
value_plain Derivative text h = rw h.is (derived_plain h.order h.name (name_plain h.is_name))

-- values behind words, spelled and without line feeds
pub record IsSpelled (fields : List (List ℕ × Kind)) (text : List ℕ) : Type 0 where
  pub spells : Spells fields text
  pub plain : is_plain text ≡ true

pub last_field : (word : List ℕ) (kind : Kind) (value : List ℕ) → is_plain word ≡ true → IsValue kind value → IsSpelled ((word, kind) ∷ []) (word ++ value)
last_field word kind value h v = record {
  spells = lines.next value [] (ap (λ (t : List ℕ). word ++ t) (sym (append-nil value))) v lines.done;
  plain = plain_both word value h (value_plain kind value v);
}

pub more_fields : (word : List ℕ) (kind : Kind) (value : List ℕ) (fields : List (List ℕ × Kind)) (text : List ℕ) → is_plain word ≡ true → IsValue kind value → IsSpelled fields text
    → IsSpelled ((word, kind) ∷ fields) (word ++ (value ++ text))
more_fields word kind value fields text h v s = record {
  spells = lines.next value text refl v s.spells;
  plain = plain_both word (value ++ text) h (plain_both value text (value_plain kind value v) s.plain);
}

respelled : (fields : List (List ℕ × Kind)) (a b : List ℕ) → a ≡ b → IsSpelled fields b → IsSpelled fields a
respelled fields a b e s = rw e s

pub number_value : (n : ℕ) → n < 4294967296 → IsNumber (decimal n)
number_value n fits = record { value = n; is = refl; fits = fits }

-- ---- lines
-- a line of a report with its line feed, and none before
pub record IsGood (line : List ℕ) : Type 0 where
  pub text : List ℕ
  pub is : line ≡ text ++ 10 ∷ []
  pub plain : is_plain text ≡ true
  pub is_line : IsLine text

pub good_name : (name : List ℕ) → IsName name → IsGood (named (codes "report ") name ++ codes "\n")
unfolding named
good_name name h = let s = last_field (codes "report ") Name name refl h in record { text = codes "report " ++ name; is = refl; plain = s.plain; is_line = lines.head (inl s.spells) }

pub good_counts : (m n : ℕ) → m < 4294967296 → n < 4294967296 → IsGood (codes "equations " ++ (decimal m ++ (codes " unknowns " ++ decimal n)) ++ 10 ∷ [])
good_counts m n fits fits' =
    let s = more_fields (codes "equations ") Number (decimal m) _ _ refl (number_value m fits) (last_field (codes " unknowns ") Number (decimal n) refl (number_value n fits')) in
    record { text = codes "equations " ++ (decimal m ++ (codes " unknowns " ++ decimal n)); is = refl; plain = s.plain; is_line = lines.head (inr (inl s.spells)) }

pub good_equation : (text : List ℕ) (i c : ℕ) (name : List ℕ) (k : ℕ) → IsEquationLine text i c name k → IsGood (text ++ 10 ∷ [])
good_equation text i c name k e =
    let s = more_fields (codes "equation ") Number (decimal i) _ _ refl (number_value i e.number_fits)
    (more_fields (codes " c ") Number (decimal c) _ _ refl (number_value c e.offset_fits)
    (more_fields (codes " pairs ") Name name _ _ refl e.is_name (last_field (codes " order ") Number (decimal k) refl (number_value k e.order_fits)))) in
    record { text = text; is = refl; plain = rw e.is s.plain; is_line = lines.offsets (inl (rw e.is s.spells)) }

pub good_unknown : (text name : List ℕ) (d : ℕ) → IsUnknownLine text name d → IsGood (text ++ 10 ∷ [])
good_unknown text name d e =
    let s = more_fields (codes "unknown ") Name name _ _ refl e.is_name (last_field (codes " d ") Number (decimal d) refl (number_value d e.fits)) in
    record { text = text; is = refl; plain = rw e.is s.plain; is_line = lines.offsets (inr (inl (rw e.is s.spells))) }

pub equation_plain : (text : List ℕ) (i c : ℕ) (name : List ℕ) (k : ℕ) → IsEquationLine text i c name k → is_plain text ≡ true
unfolding good_equation
equation_plain text i c name k e = (good_equation text i c name k e).plain

pub unknown_plain : (text name : List ℕ) (d : ℕ) → IsUnknownLine text name d → is_plain text ≡ true
unfolding good_unknown
unknown_plain text name d e = (good_unknown text name d e).plain

pub good_reason : (reason : Reason) → reason.equation < 4294967296 → reason.from < 4294967296 → IsGood (reason_line reason)
unfolding numbered
good_reason reason fits fits' =
    let w = codes "reason " in
    let d = decimal reason.equation in
    let rest = codes " from " ++ decimal reason.from in
    let s = more_fields (codes "reason ") Number (decimal reason.equation) _ _ refl (number_value reason.equation fits) (last_field (codes " from ") Number (decimal reason.from) refl (number_value reason.from fits')) in
    let e : (w ++ d) ++ rest ≡ w ++ (d ++ rest) = append_assoc w d rest in
    record { text = (w ++ d) ++ rest; is = refl; plain = (respelled _ _ _ e s).plain; is_line = lines.square (inl (respelled _ _ _ e s).spells) }

derived : (order : ℕ) (name : List ℕ) → IsName name → IsDerivative (derivative_text order name)
derived order name h = record { order = order; name = name; is = refl; is_name = h }

pub good_dummy : (names : List (List ℕ)) (x : ℕ × ℕ × ℕ × ℕ) → IsName (unknown_name names x.0) → x.2 < 4294967296 → x.3 < 4294967296 → IsGood (dummy_line names x)
unfolding numbered derivative
good_dummy names x h fits fits' =
    let w = codes "dummy " in
    let d = derivative_text x.1 (unknown_name names x.0) in
    let v = codes " stage " in
    let n = decimal x.2 in
    let rest = codes " equation " ++ decimal x.3 in
    let s = more_fields (codes "dummy ") Derivative d _ _ refl (derived x.1 (unknown_name names x.0) h)
    (more_fields (codes " stage ") Number (decimal x.2) _ _ refl (number_value x.2 fits) (last_field (codes " equation ") Number (decimal x.3) refl (number_value x.3 fits'))) in
    let e : ((w ++ d) ++ (v ++ n)) ++ rest ≡ w ++ (d ++ (v ++ (n ++ rest))) =
    append_assoc (w ++ d) (v ++ n) rest ∙ (append_assoc w d ((v ++ n) ++ rest) ∙ ap (λ (t : List ℕ). w ++ (d ++ t)) (append_assoc v n rest)) in
    record { text = ((w ++ d) ++ (v ++ n)) ++ rest; is = refl; plain = (respelled _ _ _ e s).plain; is_line = lines.square (inr (inl (respelled _ _ _ e s).spells)) }

pub good_state : (names : List (List ℕ)) (x : ℕ × ℕ) → IsName (unknown_name names x.0) → IsGood (state_line names x)
unfolding derivative
good_state names x h =
    let s = last_field (codes "state ") Derivative (derivative_text x.1 (unknown_name names x.0)) refl (derived x.1 (unknown_name names x.0) h) in
    record { text = codes "state " ++ derivative_text x.1 (unknown_name names x.0); is = refl; plain = s.plain; is_line = lines.square (inr (inr (inl s.spells))) }

pub good_index : (n : ℕ) → n < 4294967296 → IsGood ((codes "index " ++ decimal n) ++ 10 ∷ [])
good_index n fits = let s = last_field (codes "index ") Number (decimal n) refl (number_value n fits) in record { text = codes "index " ++ decimal n; is = refl; plain = s.plain; is_line = lines.square (inr (inr (inr (inl s.spells)))) }

pub good_freedom : (n : ℕ) → n < 4294967296 → IsGood ((codes "freedom " ++ decimal n) ++ 10 ∷ [])
good_freedom n fits =
    let s = last_field (codes "freedom ") Number (decimal n) refl (number_value n fits) in
    record { text = codes "freedom " ++ decimal n; is = refl; plain = s.plain; is_line = lines.square (inr (inr (inr (inr (inl s.spells))))) }

-- numbers behind blanks
blanks : (x : ℕ) (xs : List ℕ) → x < 4294967296 → ((i : ℕ) → i < length xs → get_or xs i 0 < 4294967296) → AreNumbers 32 (decimal x ++ flat_map (numbered (codes " ")) xs)
unfolding numbered
blanks x [] fits all = lines.one (rw (append-nil (decimal x)) (number_value x fits))
blanks x (y ∷ ys) fits all = lines.more (decimal x) (decimal y ++ flat_map (numbered (codes " ")) ys) refl (number_value x fits) (blanks y ys (all 0 (omega arith)) (λ i l. all (suc i) (omega arith)))

pub good_block : (block : List ℕ) → 0 < length block → ((i : ℕ) → i < length block → get_or block i 0 < 4294967296) → IsGood (block_line block)
unfolding numbered
good_block [] some all = absurd (omega (arith, some))
good_block (x ∷ xs) some all =
    let fits : x < 4294967296 = all 0 (omega arith) in
    let ns = blanks x xs fits (λ i l. all (suc i) (omega arith)) in
    let tail = decimal x ++ flat_map (numbered (codes " ")) xs in
    record { text = codes "block " ++ tail; is = refl; plain = plain_both (codes "block ") tail refl (numbers_plain 32 refl ns); is_line = lines.block tail refl ns }

pub good_in : (n : ℕ) → n < 4294967296 → IsGood (in_line n)
unfolding numbered
good_in n fits = let s = last_field (codes "in ") Number (decimal n) refl (number_value n fits) in record { text = codes "in " ++ decimal n; is = refl; plain = s.plain; is_line = lines.head (inr (inr (inr (inl s.spells)))) }

pub good_mention : (names : List (List ℕ)) (j : ℕ) → IsName (unknown_name names j) → IsGood (name_line (codes "mentions ") names j)
unfolding named
good_mention names j h =
    let s = last_field (codes "mentions ") Name (unknown_name names j) refl h in
    record { text = codes "mentions " ++ unknown_name names j; is = refl; plain = s.plain; is_line = lines.head (inr (inr (inr (inr (inl s.spells))))) }

pub good_deficit : (deficit : Deficit) → length deficit.equations.items < 4294967296 → length deficit.unknowns.items < 4294967296 → IsGood (deficit_head deficit)
unfolding numbered
good_deficit deficit fits fits' =
    let w = codes "deficit " in
    let d = decimal (length deficit.equations.items) in
    let v = codes " equations " in
    let n = decimal (length deficit.unknowns.items) in
    let u = codes " unknowns" in
    let s = more_fields (codes "deficit ") Number d _ _ refl (number_value (length deficit.equations.items) fits)
    (more_fields (codes " equations ") Number n _ _ refl (number_value (length deficit.unknowns.items) fits') (last_field (codes " unknowns") Nothing [] refl refl)) in
    let e : ((w ++ d) ++ (v ++ n)) ++ u ≡ w ++ (d ++ (v ++ (n ++ (u ++ [])))) =
    append_assoc (w ++ d) (v ++ n) u ∙ (append_assoc w d ((v ++ n) ++ u) ∙ ap (λ (t : List ℕ). w ++ (d ++ t)) (append_assoc v n u ∙ ap (λ (t : List ℕ). v ++ (n ++ t)) (sym (append-nil u)))) in
    record { text = ((w ++ d) ++ (v ++ n)) ++ u; is = sym (append_assoc ((w ++ d) ++ (v ++ n)) u (10 ∷ [])); plain = (respelled _ _ _ e s).plain; is_line = lines.head (inr (inr (inl (respelled _ _ _ e s).spells))) }
