-- The text in quotes at the front.
use Rattle.std.proofs.Common.{◌≡◌, ℕ, suc, ◌+◌, ◌-◌, ◌<◌, ◌≤◌, ◌⊎◌, inl, inr, Bool, false, List, [], ◌∷◌, ◌++◌, length, take, drop, get_or, refl, sym, ap, subst, ◌∙◌, arith, length-append, append_assoc, append-nil, take-append-drop, length-take-le}
use Rattle.std.proofs.lemmas.List.{drop_more, take_all, take_more}
use Rattle.std.proofs.lemmas.Bool.Decides.{nat_tests}
use Rattle.mo_syntax.specs.declared.rules.TheConstants.{TEXT_WITHOUT_END, BAD_CHARACTER, LITERAL_TOO_WIDE}
use Rattle.mo_syntax.specs.declared.token.TokenKind.TheVariants.{Ident}
use Rattle.mo_lexer.specs.Bytes.{is_quotable, is_string_byte}
use Rattle.mo_lexer.specs.Spelling.{AreContents, IsQuoted, IsString}
use Rattle.mo_lexer.specs.Lexing.{IsStuck, Breaks, cut_by_end, bad_byte, IsCutByEnd, comment, string, quoted, in_string, in_quoted}
use Rattle.mo_lexer.specs.steps.Finding.{IsContentsEnd}
use Rattle.mo_lexer.proofs.Fronts.{first_is, tail_is}
use Rattle.mo_lexer.proofs.Endings.{Stops, same_contents, stop_at_single, stop_at_double}
use Rattle.mo_lexer.proofs.Shapes.{SingleQuotes, DoubleQuotes, class}
use Rattle.mo_lexer.proofs.Stuck.{HasNoPiece, no_piece, stuck_where_none, narrow_where_none, fits_from, bounded, cut_after, opens_with_slash, wide_front}
use Rattle.mo_lexer.proofs.Words.{Front}

-- where the contents end
pub record Parts (p : ℕ → Bool) (t : List ℕ) (n : ℕ) : Type 0 where
  pub body : List ℕ
  pub next : ℕ
  pub after : List ℕ
  pub body_is : body ≡ take n t
  pub next_is : next ≡ get_or t n 0
  pub whole : t ≡ body ++ next ∷ after
  pub size : length body ≡ n
  pub contents : AreContents p body
  pub stops : Stops p (next ∷ after)

pub parts : (p : ℕ → Bool) (t : List ℕ) (n : ℕ) → n < length t → IsContentsEnd p t n → Parts p t n
parts p t n below ends = record {
  body = take n t;
  next = get_or t n 0;
  after = drop (n + 1) t;
  body_is = refl;
  next_is = refl;
  whole = sym (take-append-drop n t) ∙ ap (λ x. take n t ++ x) (drop_more t n 0 below);
  size = length-take-le n t ends.within;
  contents = ends.contents;
  stops = (ends.stops below, ends.unescaped below);
}

all_contents : (p : ℕ → Bool) (t : List ℕ) (n : ℕ) → n ≡ length t → IsContentsEnd p t n → AreContents p t
all_contents p t n e ends = subst (AreContents p) (take_all n t (omega arith)) ends.contents

joined : (t s after body : List ℕ) (q : ℕ) → t ≡ s ++ after → s ≡ body ++ q ∷ [] → t ≡ body ++ q ∷ after
joined t s after body q e f = e ∙ ap (λ x. x ++ after) f ∙ append_assoc body (q ∷ []) after

unclosed : (p : ℕ → Bool) → p 92 ≡ false → (t body after : List ℕ) (q : ℕ) → AreContents p t → AreContents p body → t ≡ body ++ q ∷ after → Stops p (q ∷ after) → ⊥
unclosed p off t body after q all some e stops =
    let same : [] ≡ q ∷ after = (same_contents p off t body [] (q ∷ after) all some (append-nil t ∙ e) tt stops).1 in cc

-- contents that end before the text does are not all of it
unfinished : (p : ℕ → Bool) → p 92 ≡ false → (t body : List ℕ) (n : ℕ) → Parts p t n → t ≡ body → AreContents p body → ⊥
unfinished p off t body n at e all =
    let same : [] ≡ at.next ∷ at.after = (same_contents p off body at.body [] (at.next ∷ at.after) all at.contents (append-nil body ∙ sym e ∙ at.whole) tt at.stops).1 in cc

no_bytes : (xs : List ℕ) → length xs ≡ 0 → xs ≡ []
no_bytes [] e = refl
no_bytes (x ∷ xs) e = absurd (omega arith)

-- ---- between single quotes
module _ (b : ℕ) (t : List ℕ) (first : b ≡ 39) where
  single : class b ≡ SingleQuotes
  single = rw first refl

  -- nothing closes it
  pub quoted_open : (rule n : ℕ) → rule ≡ TEXT_WITHOUT_END → n ≡ length t → IsContentsEnd is_quotable t n → IsStuck (b ∷ t) × Breaks (b ∷ t) rule 0
  quoted_open rule n is whole ends =
      let all = all_contents is_quotable t n whole ends in
      let none : HasNoPiece (b ∷ t) = no_piece SingleQuotes b t single (λ s after e q. unclosed is_quotable refl t q.body after 39 all q.contents (joined t s after q.body 39 e (tail_is b 39 s _ q.is)) (stop_at_single after)) in
      (stuck_where_none (b ∷ t) (omega arith) none, cut_by_end (narrow_where_none (b ∷ t) none) (quoted t (rw first refl) all) is refl)

  module _ (n : ℕ) (at : Parts is_quotable t n) where
    -- what closes it
    closes : (s after : List ℕ) → t ≡ s ++ after → (q : IsQuoted (b ∷ s)) → (at.body ≡ q.body) × (at.next ≡ 39)
    closes s after e q =
        let same = same_contents is_quotable refl at.body q.body (at.next ∷ at.after) (39 ∷ after) at.contents q.contents (sym at.whole ∙ joined t s after q.body 39 e (tail_is b 39 s _ q.is)) at.stops (stop_at_single after) in
        let next : at.next ≡ 39 = first_is at.next 39 at.after after same.1 in
        (same.0, next)

    not_cut : IsCutByEnd (b ∷ t) → ⊥
    not_cut (comment body e never) = let slash : b ≡ 47 = first_is b 47 t _ e in omega arith
    not_cut (string body e all) = let double : b ≡ 34 = first_is b 34 t _ e in omega arith
    not_cut (quoted body e all) = unfinished is_quotable refl t body n at (tail_is b 39 t body e) all

    -- a byte stands there that may not
    pub quoted_bad : (rule place : ℕ) → rule ≡ BAD_CHARACTER → place ≡ 1 + n → (at.next ≡ 39 → n ≡ 0) → IsStuck (b ∷ t) × Breaks (b ∷ t) rule place
    quoted_bad rule place is there unless_empty =
        let none : HasNoPiece (b ∷ t) = no_piece SingleQuotes b t single (λ s after e q.
        let same = closes s after e q in
        let none_yet : n ≡ 0 = unless_empty same.1 in
        omega (arith, q.some, at.size, ap length same.0)) in
        let empty : at.next ≡ 39 → at.body ≡ [] = λ e. no_bytes at.body (omega (arith, at.size, unless_empty e)) in
        let left : b ∷ t ≡ 39 ∷ (at.body ++ at.next ∷ at.after) = let tails = at.whole in cc in (
          stuck_where_none (b ∷ t) (omega arith) none,
          bad_byte (narrow_where_none (b ∷ t) none) not_cut (in_quoted at.body at.next at.after left at.contents at.stops.0 empty at.stops.1 (omega (arith, at.size))) is,
        )

    -- a quote closes it
    pub quoted_found : at.next ≡ 39 → 0 < n → (m : ℕ) → m ≡ 1 + n + 1 → Front IsQuoted (b ∷ t) m
    quoted_found close some m size =
        let below : n + 1 ≤ length t = omega (arith, at.size, ap length at.whole, length-append at.body (at.next ∷ at.after)) in
        let two : m ≡ suc (n + 1) = omega arith in
        let taken : take (n + 1) t ≡ at.body ++ 39 ∷ [] =
        take_more t n 0 (omega arith) ∙ (let body = at.body_is in let next : get_or t n 0 ≡ 39 = sym at.next_is ∙ close in rw (← body, next) refl) in
        let last : get_or (b ∷ t) (n + 1) 0 < 128 =
        let one : n + 1 ≡ suc n = omega arith in
        let next : get_or t n 0 ≡ 39 = sym at.next_is ∙ close in
        rw (one, next) (omega arith) in
        rw two record {
          cut = cut_after (b ∷ t) (suc (n + 1)) (omega arith) (omega (arith, below)) (let back : suc (n + 1) - 1 ≡ n + 1 = omega arith in rw back last);
          is = record { body = at.body; is = rw (first, taken) refl; contents = at.contents; some = omega (arith, at.size) };
          fits = fits_from (b ∷ t) (suc (n + 1)) (omega (arith, below))
              (bounded SingleQuotes b t single (suc (n + 1)) (λ s after e q.
              omega (arith, at.size, ap length (closes s after e q).0, ap length (tail_is b 39 s _ q.is), length-append q.body (39 ∷ []))))
              (λ opens. let slash : b ≡ 47 = opens_with_slash b t opens in absurd (omega arith));
        }

-- ---- between double quotes
module _ (b : ℕ) (t : List ℕ) (first : b ≡ 34) where
  double : class b ≡ DoubleQuotes
  double = rw first refl

  pub string_open : (rule n : ℕ) → rule ≡ TEXT_WITHOUT_END → n ≡ length t → IsContentsEnd is_string_byte t n → IsStuck (b ∷ t) × Breaks (b ∷ t) rule 0
  string_open rule n is whole ends =
      let all = all_contents is_string_byte t n whole ends in
      let none : HasNoPiece (b ∷ t) = no_piece DoubleQuotes b t double (λ s after e q. unclosed is_string_byte refl t q.body after 34 all q.contents (joined t s after q.body 34 e (tail_is b 34 s _ q.is)) (stop_at_double after)) in
      (stuck_where_none (b ∷ t) (omega arith) none, cut_by_end (narrow_where_none (b ∷ t) none) (string t (rw first refl) all) is refl)

  module _ (n : ℕ) (at : Parts is_string_byte t n) where
    closes_string : (s after : List ℕ) → t ≡ s ++ after → (q : IsString (b ∷ s)) → (at.body ≡ q.body) × (at.next ≡ 34)
    closes_string s after e q =
        let same = same_contents is_string_byte refl at.body q.body (at.next ∷ at.after) (34 ∷ after) at.contents q.contents (sym at.whole ∙ joined t s after q.body 34 e (tail_is b 34 s _ q.is)) at.stops (stop_at_double after) in
        let next : at.next ≡ 34 = first_is at.next 34 at.after after same.1 in
        (same.0, next)

    string_not_cut : IsCutByEnd (b ∷ t) → ⊥
    string_not_cut (comment body e never) = let slash : b ≡ 47 = first_is b 47 t _ e in omega arith
    string_not_cut (string body e all) = unfinished is_string_byte refl t body n at (tail_is b 34 t body e) all
    string_not_cut (quoted body e all) = let single : b ≡ 39 = first_is b 39 t _ e in omega arith

    backslash : (x : ℕ) → is_string_byte x ≡ false → (x ≡ 34 → ⊥) → x ≡ 92
    backslash x off apart = grind (arith, nat_tests)

    pub string_bad : (rule place : ℕ) → rule ≡ BAD_CHARACTER → place ≡ 1 + n → (at.next ≡ 34 → ⊥) → IsStuck (b ∷ t) × Breaks (b ∷ t) rule place
    string_bad rule place is there apart =
        let none : HasNoPiece (b ∷ t) = no_piece DoubleQuotes b t double (λ s after e q. apart (closes_string s after e q).1) in
        let slash : at.next ≡ 92 = backslash at.next at.stops.0 apart in
        let left : b ∷ t ≡ 34 ∷ (at.body ++ 92 ∷ at.after) = let tails : t ≡ at.body ++ 92 ∷ at.after = at.whole ∙ ap (λ x. at.body ++ x ∷ at.after) slash in cc in (
          stuck_where_none (b ∷ t) (omega arith) none,
          bad_byte (narrow_where_none (b ∷ t) none) string_not_cut (in_string at.body at.after left at.contents (at.stops.1 slash) (omega (arith, at.size))) is,
        )

    pub string_found : at.next ≡ 34 → (m : ℕ) → m ≡ 1 + n + 1 → Front IsString (b ∷ t) m
    string_found close m size =
        let below : n + 1 ≤ length t = omega (arith, at.size, ap length at.whole, length-append at.body (at.next ∷ at.after)) in
        let two : m ≡ suc (n + 1) = omega arith in
        let taken : take (n + 1) t ≡ at.body ++ 34 ∷ [] =
        take_more t n 0 (omega arith) ∙ (let body = at.body_is in let next : get_or t n 0 ≡ 34 = sym at.next_is ∙ close in rw (← body, next) refl) in
        let last : get_or (b ∷ t) (n + 1) 0 < 128 =
        let one : n + 1 ≡ suc n = omega arith in
        let next : get_or t n 0 ≡ 34 = sym at.next_is ∙ close in
        rw (one, next) (omega arith) in
        rw two record {
          cut = cut_after (b ∷ t) (suc (n + 1)) (omega arith) (omega (arith, below)) (let back : suc (n + 1) - 1 ≡ n + 1 = omega arith in rw back last);
          is = record { body = at.body; is = rw (first, taken) refl; contents = at.contents };
          fits = fits_from (b ∷ t) (suc (n + 1)) (omega (arith, below))
              (bounded DoubleQuotes b t double (suc (n + 1)) (λ s after e q.
              omega (arith, at.size, ap length (closes_string s after e q).0, ap length (tail_is b 34 s _ q.is), length-append q.body (34 ∷ []))))
              (λ opens. let slash : b ≡ 47 = opens_with_slash b t opens in absurd (omega arith));
        }

-- ---- in the form of the code
pub quoted_open_at : (rest : List ℕ) → 0 < length rest → get_or rest 0 0 ≡ 39 → (rule n : ℕ) → rule ≡ TEXT_WITHOUT_END → 1 + n ≡ length rest → IsContentsEnd is_quotable (drop 1 rest) n
    → (0 < length rest) × IsStuck rest × Breaks rest rule 0
quoted_open_at [] some first rule n is whole ends = absurd (omega arith)
quoted_open_at (b ∷ t) some first rule n is whole ends = let r = quoted_open b t first rule n is (omega arith) ends in (some, r.0, r.1)

pub quoted_bad_at : (rest : List ℕ) → 0 < length rest → get_or rest 0 0 ≡ 39 → (rule n : ℕ) → rule ≡ BAD_CHARACTER → 1 + n < length rest → IsContentsEnd is_quotable (drop 1 rest) n → (get_or rest (1 + n) 0 ≡ 39 → n ≡ 0)
    → (1 + n < length rest) × IsStuck rest × Breaks rest rule (1 + n)
quoted_bad_at [] some first rule n is below ends unless = absurd (omega arith)
quoted_bad_at (b ∷ t) some first rule n is below ends unless =
    let at = parts is_quotable t n (omega arith) ends in
    let one : 1 + n ≡ suc n = omega arith in
    let r = quoted_bad b t first n at rule (1 + n) is refl (λ e. unless (rw one (sym at.next_is ∙ e))) in
    (below, r.0, r.1)

pub quoted_found_at : (rest : List ℕ) → 0 < length rest → get_or rest 0 0 ≡ 39 → (n : ℕ) → 1 + n < length rest → IsContentsEnd is_quotable (drop 1 rest) n → get_or rest (1 + n) 0 ≡ 39 → 0 < n → Front IsQuoted rest (1 + n + 1)
quoted_found_at [] some first n below ends close more = absurd (omega arith)
quoted_found_at (b ∷ t) some first n below ends close more =
    let at = parts is_quotable t n (omega arith) ends in
    let one : 1 + n ≡ suc n = omega arith in
    quoted_found b t first n at (at.next_is ∙ (rw one at close)) more (1 + n + 1) refl

pub string_open_at : (rest : List ℕ) → 0 < length rest → get_or rest 0 0 ≡ 34 → (rule n : ℕ) → rule ≡ TEXT_WITHOUT_END → 1 + n ≡ length rest → IsContentsEnd is_string_byte (drop 1 rest) n
    → (0 < length rest) × IsStuck rest × Breaks rest rule 0
string_open_at [] some first rule n is whole ends = absurd (omega arith)
string_open_at (b ∷ t) some first rule n is whole ends = let r = string_open b t first rule n is (omega arith) ends in (some, r.0, r.1)

pub string_bad_at : (rest : List ℕ) → 0 < length rest → get_or rest 0 0 ≡ 34 → (rule n : ℕ) → rule ≡ BAD_CHARACTER → 1 + n < length rest → IsContentsEnd is_string_byte (drop 1 rest) n → (get_or rest (1 + n) 0 ≡ 34 → ⊥)
    → (1 + n < length rest) × IsStuck rest × Breaks rest rule (1 + n)
string_bad_at [] some first rule n is below ends apart = absurd (omega arith)
string_bad_at (b ∷ t) some first rule n is below ends apart =
    let at = parts is_string_byte t n (omega arith) ends in
    let one : 1 + n ≡ suc n = omega arith in
    let r = string_bad b t first n at rule (1 + n) is refl (λ e. apart (rw one (sym at.next_is ∙ e))) in
    (below, r.0, r.1)

pub string_found_at : (rest : List ℕ) → 0 < length rest → get_or rest 0 0 ≡ 34 → (n : ℕ) → 1 + n < length rest → IsContentsEnd is_string_byte (drop 1 rest) n → get_or rest (1 + n) 0 ≡ 34 → Front IsString rest (1 + n + 1)
string_found_at [] some first n below ends close = absurd (omega arith)
string_found_at (b ∷ t) some first n below ends close =
    let at = parts is_string_byte t n (omega arith) ends in
    let one : 1 + n ≡ suc n = omega arith in
    string_found b t first n at (at.next_is ∙ (rw one at close)) (1 + n + 1) refl

pub quoted_too_wide : (rest : List ℕ) (m rule : ℕ) → rule ≡ LITERAL_TOO_WIDE → Front IsQuoted rest m → 256 < m → (0 < length rest) × IsStuck rest × Breaks rest rule 0
quoted_too_wide rest m rule is front wide =
    wide_front rest m Ident rule is (omega (arith, front.cut.within)) (inr front.is) front.fits (λ short. omega (arith, short, length-take-le m rest front.cut.within))

pub unless_either : {A B : Type 0} (n : ℕ) → (A → ⊥) ⊎ (B × (n < 1)) → A → n ≡ 0
unless_either n (inl none) a = absurd (none a)
unless_either n (inr b) a = omega (arith, b.1)
