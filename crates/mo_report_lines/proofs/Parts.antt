-- Identifiers with indices, names, and derivatives at the front.
use Rattle.std.proofs.Common.{◌≡◌, ℕ, ◌<◌, inl, inr, Bool, true, false, not, List, [], ◌∷◌, ◌++◌, length, drop, get_or, refl, sym, ap, ◌∙◌, arith, append_assoc, length-append}
use Rattle.mo_syntax.specs.declared.token.TokenKind.TheVariants.{Ident}
use Rattle.mo_lexer.specs.Bytes.{is_word_byte}
use Rattle.mo_lexer.specs.Spelling.{Spells}
use Rattle.mo_lexer.proofs.Fronts.{tail_is}
use Rattle.mo_report_lines.specs.Grammar.{AreNumbers, IsPart, plain, indexed, IsName}
use Rattle.mo_report_lines.specs.steps.Reading.{stops, in_part, in_name, in_numbers, AreIndices, Begins, BeginsOnly, BeginsNever}
use Rattle.mo_report_lines.proofs.Separated.{GoesOn, first_goes, never_first, next_goes, next_never, all_gone}

-- ---- what may stop what
pub stops_within : (p q : ℕ → Bool) → ((b : ℕ) → p b ≡ true → q b ≡ true) → (text : List ℕ) → stops q text ≡ true → stops p text ≡ true
stops_within p q wider [] h = refl
stops_within p q wider (b ∷ text) h = go (p b) (q b) h (wider b) refl
  where
    go : (x y : Bool) → not y ≡ true → (p b ≡ true → y ≡ true) → p b ≡ x → not x ≡ true
    go true true h w e = h
    go true false h w e = let no : false ≡ true = w e in cc
    go false y h w e = refl

word_in_part : (b : ℕ) → is_word_byte b ≡ true → in_part b ≡ true
word_in_part b h = rw h refl

part_in_name : (b : ℕ) → in_part b ≡ true → in_name b ≡ true
part_in_name b h = rw h refl

-- ---- indices
bracket_stops : (text : List ℕ) → stops (in_numbers 44) (93 ∷ text) ≡ true
bracket_stops text = refl

-- the numbers behind the bracket, and the bracket that closes them
indices_parts : (t other : List ℕ) → Begins AreIndices (91 ∷ t) other → Begins (AreNumbers 44) t (93 ∷ other)
indices_parts t other b = record {
  front = b.holds.numbers;
  holds = b.holds.are_numbers;
  is = tail_is 91 91 t (b.holds.numbers ++ 93 ∷ other)
      (b.is ∙ ap (λ (x : List ℕ). x ++ other) b.holds.is ∙ ap (λ (x : List ℕ). 91 ∷ x) (append_assoc b.holds.numbers (93 ∷ []) other));
}

pub only_indices : (t rest after : List ℕ) → BeginsOnly (AreNumbers 44) (in_numbers 44) t rest → rest ≡ 93 ∷ after → BeginsOnly AreIndices in_part (91 ∷ t) after
only_indices t rest after b e = record {
  begins = record {
    front = 91 ∷ (b.begins.front ++ 93 ∷ []);
    holds = record { numbers = b.begins.front; is = refl; are_numbers = b.begins.holds };
    is = ap (λ (x : List ℕ). 91 ∷ x) (b.begins.is ∙ ap (λ (x : List ℕ). b.begins.front ++ x) e ∙ sym (append_assoc b.begins.front (93 ∷ []) after));
  };
  only = λ other ends a. tail_is 93 93 other after (b.only (93 ∷ other) (bracket_stops other) (indices_parts t other a) ∙ e);
}

pub no_indices : (t rest : List ℕ) → BeginsOnly (AreNumbers 44) (in_numbers 44) t rest → ((after : List ℕ) → rest ≡ 93 ∷ after → ⊥) → BeginsNever AreIndices in_part (91 ∷ t)
no_indices t rest b none other ends a = none other (sym (b.only (93 ∷ other) (bracket_stops other) (indices_parts t other a)))

pub no_numbers : (t : List ℕ) → BeginsNever (AreNumbers 44) (in_numbers 44) t → BeginsNever AreIndices in_part (91 ∷ t)
no_numbers t none other ends a = none (93 ∷ other) (bracket_stops other) (indices_parts t other a)

-- ---- parts
bracket_opens : (t : List ℕ) → stops is_word_byte (91 ∷ t) ≡ true
bracket_opens t = refl

-- an identifier stands before what is behind a part, or before its indices
data PartOf (text other : List ℕ) : Type 0 where
  plainly : Begins (Spells Ident) text other → PartOf text other
  with_indices : (t : List ℕ) → Begins (Spells Ident) text (91 ∷ t) → Begins AreIndices (91 ∷ t) other → PartOf text other

part_of : (text other : List ℕ) → Begins IsPart text other → PartOf text other
part_of text other b = go b.front b.holds b.is
  where
    go : (front : List ℕ) → IsPart front → text ≡ front ++ other → PartOf text other
    go front (plain s) e = plainly (record { front = front; holds = s; is = e })
    go front (indexed name indices cut s ns) e =
        with_indices (indices ++ 93 ∷ other)
        (record {
          front = name;
          holds = s;
          is = e ∙ ap (λ (x : List ℕ). x ++ other) cut ∙ append_assoc name (91 ∷ (indices ++ 93 ∷ [])) other ∙ ap (λ (x : List ℕ). name ++ 91 ∷ x) (append_assoc indices (93 ∷ []) other);
        })
        (record {
          front = 91 ∷ (indices ++ 93 ∷ []);
          holds = record { numbers = indices; is = refl; are_numbers = ns };
          is = ap (λ (x : List ℕ). 91 ∷ x) (sym (append_assoc indices (93 ∷ []) other));
        })

part_stops : (other : List ℕ) → stops in_part other ≡ true → stops is_word_byte other ≡ true
part_stops other h = stops_within is_word_byte in_part word_in_part other h

module _ (text rest : List ℕ) (b : BeginsOnly (Spells Ident) is_word_byte text rest) where
  -- no bracket stands behind the identifier
  pub only_plain : ((t : List ℕ) → rest ≡ 91 ∷ t → ⊥) → BeginsOnly IsPart in_part text rest
  only_plain none = record {
    begins = record { front = b.begins.front; holds = plain b.begins.holds; is = b.begins.is };
    only = λ other ends a. elim (part_of text other a) [
      | plainly s ↦ b.only other (part_stops other ends) s
      | with_indices t s i ↦ absurd (none t (sym (b.only (91 ∷ t) (bracket_opens t) s)))
    ];
  }

  module _ (t : List ℕ) (bracket : rest ≡ 91 ∷ t) where
    not_plain : (other : List ℕ) → stops in_part other ≡ true → Begins (Spells Ident) text other → ⊥
    not_plain other ends s = let same : other ≡ 91 ∷ t = b.only other (part_stops other ends) s ∙ bracket in let h : stops in_part (91 ∷ t) ≡ true = rw same at ends in cc

    indices_of : (t' other : List ℕ) → Begins (Spells Ident) text (91 ∷ t') → Begins AreIndices (91 ∷ t') other → Begins AreIndices rest other
    indices_of t' other s i = rw (b.only (91 ∷ t') (bracket_opens t') s) at i

    pub only_indexed : (after : List ℕ) → BeginsOnly AreIndices in_part rest after → BeginsOnly IsPart in_part text after
    only_indexed after i = record {
      begins = record {
        front = b.begins.front ++ i.begins.front;
        holds = indexed b.begins.front i.begins.holds.numbers (ap (λ (x : List ℕ). b.begins.front ++ x) i.begins.holds.is) b.begins.holds i.begins.holds.are_numbers;
        is = b.begins.is ∙ ap (λ (x : List ℕ). b.begins.front ++ x) i.begins.is ∙ sym (append_assoc b.begins.front i.begins.front after);
      };
      only = λ other ends a. elim (part_of text other a) [
        | plainly s ↦ absurd (not_plain other ends s)
        | with_indices t' s i' ↦ i.only other ends (indices_of t' other s i')
      ];
    }

    pub never_indexed : BeginsNever AreIndices in_part rest → BeginsNever IsPart in_part text
    never_indexed none other ends a = elim (part_of text other a) [
      | plainly s ↦ not_plain other ends s
      | with_indices t' s i' ↦ none other ends (indices_of t' other s i')
    ]

pub never_part : (text : List ℕ) → BeginsNever (Spells Ident) is_word_byte text → BeginsNever IsPart in_part text
never_part text none other ends a = elim (part_of text other a) [
  | plainly s ↦ none other (part_stops other ends) s
  | with_indices t s i ↦ none (91 ∷ t) (bracket_opens t) s
]

-- ---- names
pub name_first : (text rest : List ℕ) → BeginsOnly IsPart in_part text rest → GoesOn 46 IsPart in_name text rest
name_first = first_goes 46 IsPart in_part in_name refl refl part_in_name

pub name_never : (text : List ℕ) → BeginsNever IsPart in_part text → BeginsNever IsName in_name text
name_never = never_first 46 IsPart in_part in_name refl refl part_in_name

pub name_next : (text rest left : List ℕ) → GoesOn 46 IsPart in_name text rest → rest ≡ 46 ∷ drop 1 rest → BeginsOnly IsPart in_part (drop 1 rest) left → GoesOn 46 IsPart in_name text left
name_next text rest left = next_goes 46 IsPart in_part in_name refl refl part_in_name text rest (drop 1 rest) left

pub name_stop : (text rest : List ℕ) → GoesOn 46 IsPart in_name text rest → rest ≡ 46 ∷ drop 1 rest → BeginsNever IsPart in_part (drop 1 rest) → BeginsNever IsName in_name text
name_stop text rest = next_never 46 IsPart in_part in_name refl refl part_in_name text rest (drop 1 rest)

pub name_all : (text rest : List ℕ) → GoesOn 46 IsPart in_name text rest → ((t : List ℕ) → rest ≡ 46 ∷ t → ⊥) → BeginsOnly IsName in_name text rest
name_all = all_gone 46 IsPart in_part in_name refl refl part_in_name

pub name_stops : (other : List ℕ) → stops in_name other ≡ true → stops is_word_byte other ≡ true
name_stops other h = part_stops other (stops_within in_part in_name part_in_name other h)

-- ---- in the form of the code
pub front_of : (text : List ℕ) (b : ℕ) → text ≡ b ∷ drop 1 text → (0 < length text) × (get_or text 0 0 ≡ b)
front_of [] b e = cc
front_of (x ∷ text) b e = (omega arith, cc)

front_is : (text : List ℕ) (b : ℕ) → 0 < length text → get_or text 0 0 ≡ b → text ≡ b ∷ drop 1 text
front_is [] b some first = absurd (omega arith)
front_is (x ∷ text) b some first = ap (λ (y : ℕ). y ∷ text) first

pub indices_at : (text rest : List ℕ) → 0 < length text → get_or text 0 0 ≡ 91 → BeginsOnly (AreNumbers 44) (in_numbers 44) (drop 1 text) rest → rest ≡ 93 ∷ drop 1 rest → BeginsOnly AreIndices in_part text (drop 1 rest)
indices_at text rest some first b e = rw (front_is text 91 some first) (only_indices (drop 1 text) rest (drop 1 rest) b e)

pub unclosed_at : (text rest : List ℕ) → 0 < length text → get_or text 0 0 ≡ 91 → BeginsOnly (AreNumbers 44) (in_numbers 44) (drop 1 text) rest → ((after : List ℕ) → rest ≡ 93 ∷ after → ⊥) → BeginsNever AreIndices in_part text
unclosed_at text rest some first b none = rw (front_is text 91 some first) (no_indices (drop 1 text) rest b none)

pub unnumbered_at : (text : List ℕ) → 0 < length text → get_or text 0 0 ≡ 91 → BeginsNever (AreNumbers 44) (in_numbers 44) (drop 1 text) → BeginsNever AreIndices in_part text
unnumbered_at text some first none = rw (front_is text 91 some first) (no_numbers (drop 1 text) none)

-- a part has a byte
spelled_some : (front : List ℕ) → Spells Ident front → 0 < length front
spelled_some [] (inl w) = cc
spelled_some (x ∷ front) (inl w) = omega arith
spelled_some front (inr q) = omega (arith, ap length q.is)

part_some : (front : List ℕ) → IsPart front → 0 < length front
part_some front (plain s) = spelled_some front s
part_some front (indexed name indices cut s ns) = omega (arith, ap length cut, length-append name (91 ∷ (indices ++ 93 ∷ [])), spelled_some name s)

pub part_shorter : (text rest : List ℕ) → Begins IsPart text rest → length rest < length text
part_shorter text rest b = omega (arith, ap length b.is, length-append b.front rest, part_some b.front b.holds)
