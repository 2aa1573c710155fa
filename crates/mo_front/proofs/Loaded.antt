-- Files that are read, one after another.
use Rattle.std.proofs.Common.{◌≡◌, ◌<◌, ◌≤◌, ◌+◌, ◌-◌, ℕ, suc, zero, List, [], ◌∷◌, ◌++◌, map, length, drop, get_or, min, Option, Some, None, unwrap_or, IfSome, IsSomeAnd, Result, Ok, Err, IfOk, IfErr, refl, ap, sym, ◌∙◌, subst, append_assoc, append-nil, arith}
use Rattle.std.specs.Prelude.{IsUtf8, Contains, slice_index_or}
use Rattle.std.proofs.lemmas.List.{drop_more, length-drop, length-append}
use Rattle.std.specs.Str.Lossy.{utf8_valid_len}
use Rattle.mo_syntax.specs.declared.place.Broken.{Broken}
use Rattle.mo_ports.specs.Contents.{Contents}
use Rattle.mo_ports.specs.Counts.{Rose}
use Rattle.mo_front.specs.declared.load.Unread.{Unread}
use Rattle.mo_front.specs.declared.load.Unread.TheVariants.{Fault, NoMemory, Refused}
use Rattle.mo_front.specs.Files.{IsText, too_long, not_utf8, Reads, none, broken, text, later, breaks_at}
use Rattle.mo_front.specs.Limits.{file_limit, all_files_limit}
use Rattle.mo_front.specs.steps.Loading.{IsLine, IsTextOf, RefusesBytes, RefusesFile, RefusesReading, MoreFiles}
use Rattle.mo_front.specs.Refusal.{refusal_line}
use Rattle.mo_front.specs.Run.{IsNamedFault}
use Rattle.mo_front.specs.Told.{bytes_of_all, line_of_broken}
use Rattle.mo_syntax.specs.declared.rules.TheConstants.{NOT_UTF_8, FILE_TOO_LONG}

-- ---- one file

pub text_read : (told : Option Contents) (name bytes items : List ℕ) (left limit : ℕ) (r : Result (List ℕ) Unread) → limit ≡ min file_limit left → items ≡ bytes → IfSome told (λ contents. contents name ≡ Some bytes)
    → length bytes ≤ limit → IfOk r (IsTextOf items) → IfOk r (λ t. IfSome told (λ contents. IsText contents left name t))
text_read told name bytes items left limit (Err u) is are holds short given = tt
text_read None name bytes items left limit (Ok t) is are holds short given = tt
text_read (Some contents) name bytes items left limit (Ok t) is are holds short given = record {
  holds = holds ∙ ap Some (sym (given.0 ∙ are));
  within = subst (λ (x : List ℕ). length x ≤ min file_limit left) (sym (given.0 ∙ are)) (subst (λ (n : ℕ). length bytes ≤ n) is short);
  utf8 = subst IsUtf8 (sym given.0) given.1;
}

pub text_within : (items bytes : List ℕ) (left limit : ℕ) (r : Result (List ℕ) Unread) → limit ≡ min file_limit left → items ≡ bytes → length bytes ≤ limit → IfOk r (IsTextOf items) → IfOk r (λ t. length t ≤ min file_limit left)
text_within items bytes left limit (Err u) is are short given = tt
text_within items bytes left limit (Ok t) is are short given = subst (λ (x : List ℕ). length x ≤ min file_limit left) (sym (given.0 ∙ are)) (subst (λ (n : ℕ). length bytes ≤ n) is short)

refused_bytes : (contents : Contents) (k left : ℕ) (name bytes : List ℕ) (u : Unread) → contents name ≡ Some bytes → length bytes ≤ min file_limit left → RefusesBytes k name bytes u → RefusesFile contents k left name u
refused_bytes contents k left name bytes (Refused line) holds short refuses = record {
  b = breaks_at NOT_UTF_8 k (utf8_valid_len bytes);
  breaks = not_utf8 bytes holds short refuses.0 refl;
  at = refl;
  is = refuses.1 ∙ ap (λ (x : List ℕ). refusal_line name x (breaks_at NOT_UTF_8 k (utf8_valid_len bytes))) (sym (ap (λ (o : Option (List ℕ)). unwrap_or o []) holds));
}
refused_bytes contents k left name bytes Fault holds short refuses = tt
refused_bytes contents k left name bytes NoMemory holds short refuses = tt

pub bytes_refused : (told : Option Contents) (name bytes items : List ℕ) (k left limit : ℕ) (r : Result (List ℕ) Unread) → limit ≡ min file_limit left → items ≡ bytes → IfSome told (λ contents. contents name ≡ Some bytes)
    → length bytes ≤ limit → IfErr r (RefusesBytes k name items) → IfErr r (λ u. IfSome told (λ contents. RefusesFile contents k left name u))
bytes_refused told name bytes items k left limit (Ok t) is are holds short given = tt
bytes_refused None name bytes items k left limit (Err u) is are holds short given = tt
bytes_refused (Some contents) name bytes items k left limit (Err u) is are holds short given =
    refused_bytes contents k left name bytes u holds (subst (λ (n : ℕ). length bytes ≤ n) is short) (subst (λ (x : List ℕ). RefusesBytes k name x u) are given)

refused_long : (contents : Contents) (k left limit : ℕ) (name : List ℕ) (u : Unread) (o : Option (List ℕ)) → contents name ≡ o → limit ≡ min file_limit left → IsSomeAnd o (λ bytes. limit < length bytes)
    → IsLine (breaks_at FILE_TOO_LONG k 0) name [] u → RefusesFile contents k left name u
refused_long contents k left limit name (Refused line) (Some bytes) held is long line_is = record {
  b = breaks_at FILE_TOO_LONG k 0;
  breaks = too_long bytes held (subst (λ (n : ℕ). n < length bytes) is long) refl;
  at = refl;
  is = line_is;
}
refused_long contents k left limit name (Refused line) None held is long line_is = absurd long
refused_long contents k left limit name Fault o held is long line_is = tt
refused_long contents k left limit name NoMemory o held is long line_is = tt

pub long_refused : (told : Option Contents) (k left limit : ℕ) (name : List ℕ) (u : Unread) → limit ≡ min file_limit left → IfSome told (λ contents. IsSomeAnd (contents name) (λ bytes. limit < length bytes))
    → IsLine (breaks_at FILE_TOO_LONG k 0) name [] u → IfSome told (λ contents. RefusesFile contents k left name u)
long_refused None k left limit name u is long line_is = tt
long_refused (Some contents) k left limit name u is long line_is = refused_long contents k left limit name u (contents name) refl is long line_is

-- ---- all files

pub files_start : (told : Option Contents) (names : List (List ℕ)) → IfSome told (λ contents. MoreFiles contents names [] 1 all_files_limit names)
files_start None names = tt
files_start (Some contents) names = go
  where
    go : MoreFiles contents names [] 1 all_files_limit names
    go (Ok ys) e = e
    go (Err b) e = e

pub files_step : (told held : Option Contents) (names texts new rest after : List (List ℕ)) (name t : List ℕ) (k next left less : ℕ) → held ≡ told → IfSome told (λ contents. MoreFiles contents names texts k left rest) → rest ≡ name ∷ after
    → IfSome held (λ contents. IsText contents left name t) → new ≡ texts ++ t ∷ [] → next ≡ k + 1 → less ≡ left - length t → IfSome told (λ contents. MoreFiles contents names new next less after)
files_step None held names texts new rest after name t k next left less same more is given pushed one less_is = tt
files_step (Some contents) held names texts new rest after name t k next left less same more is given pushed one less_is = rw (pushed, one, less_is) go
  where
    it : IsText contents left name t
    it = subst (λ (o : Option Contents). IfSome o (λ c. IsText c left name t)) same given

    go : MoreFiles contents names (texts ++ t ∷ []) (k + 1) (left - length t) after
    go (Ok ys) e = subst (λ (zs : List (List ℕ)). Reads contents 1 all_files_limit names (Ok zs)) (sym (append_assoc texts (t ∷ []) ys)) (more (Ok (t ∷ ys)) (rw is (text it e)))
    go (Err b) e = more (Err b) (rw is (later t it e))

pub files_ended : (told : Option Contents) (names texts rest : List (List ℕ)) (k left : ℕ) → IfSome told (λ contents. MoreFiles contents names texts k left rest) → rest ≡ [] → IfSome told (λ contents. Reads contents 1 all_files_limit names (Ok texts))
files_ended None names texts rest k left more is = tt
files_ended (Some contents) names texts rest k left more is =
    subst (λ (zs : List (List ℕ)). Reads contents 1 all_files_limit names (Ok zs)) (append-nil texts) (more (Ok []) (rw is none))

-- the name at a place, and what is made of it
at_place : (f : List ℕ → List ℕ) (names after : List (List ℕ)) (i : ℕ) (name : List ℕ) → drop i names ≡ name ∷ after → (get_or names i [] ≡ name) × (get_or (map f names) i [] ≡ f name)
at_place f [] after zero name is = absurd (empty is)
  where
    empty : [] ≡ name ∷ after → ⊥
    empty eq = cc
at_place f [] after (suc i) name is = absurd (empty is)
  where
    empty : [] ≡ name ∷ after → ⊥
    empty eq = cc
at_place f (n ∷ names) after zero name is = (same, ap f same)
  where
    same : n ≡ name
    same = cc
at_place f (n ∷ names) after (suc i) name is = at_place f names after i name is

line_at : (contents : Contents) (names after : List (List ℕ)) (name : List ℕ) (i : ℕ) (b : Broken) → b.place.file ≡ 1 + i → drop i names ≡ name ∷ after
    → refusal_line name (unwrap_or (contents name) []) b ≡ line_of_broken names (bytes_of_all contents names) b
line_at contents names after name i b number at = rw number (rw one (rw (found.0, found.1) refl))
  where
    one : (1 + i) - 1 ≡ i
    one = omega arith

    found : (get_or names i [] ≡ name) × (get_or (bytes_of_all contents names) i [] ≡ unwrap_or (contents name) [])
    found = at_place (λ n. unwrap_or (contents n) []) names after i name at

refused_first : (contents : Contents) (names texts rest after : List (List ℕ)) (name : List ℕ) (k i left : ℕ) (u : Unread) → MoreFiles contents names texts k left rest → rest ≡ name ∷ after → k ≡ 1 + i → drop i names ≡ rest
    → RefusesFile contents k left name u → RefusesReading contents names u
refused_first contents names texts rest after name k i left (Refused line) more is number at refuses = record {
  b = refuses.b;
  reads = more (Err refuses.b) (rw is (broken refuses.breaks));
  is = refuses.is ∙ line_at contents names after name i refuses.b (refuses.at ∙ number) (at ∙ is);
}
refused_first contents names texts rest after name k i left Fault more is number at refuses = tt
refused_first contents names texts rest after name k i left NoMemory more is number at refuses = tt

pub files_refused : (told held : Option Contents) (names texts rest after : List (List ℕ)) (name : List ℕ) (k i left : ℕ) (u : Unread) → held ≡ told → IfSome told (λ contents. MoreFiles contents names texts k left rest) → rest ≡ name ∷ after
    → k ≡ 1 + i → drop i names ≡ rest → IfSome held (λ contents. RefusesFile contents k left name u) → IfSome told (λ contents. RefusesReading contents names u)
files_refused None held names texts rest after name k i left u same more is number at refuses = tt
files_refused (Some contents) held names texts rest after name k i left u same more is number at refuses =
    refused_first contents names texts rest after name k i left u more is number at (subst (λ (o : Option Contents). IfSome o (λ c. RefusesFile c k left name u)) same refuses)

-- a count that rose after it may have risen
pub rose_later : (first before after : ℕ) → first ≤ before → Rose before after → Rose first after
rose_later first before after before_rose rose = omega (arith, before_rose, rose)

-- ---- names

pub words_front : (names : List (List ℕ)) (i : ℕ) (d name : List ℕ) → i < length names → name ≡ get_or names i d → drop i names ≡ name ∷ drop (i + 1) names
words_front names i d name within is = drop_more names i d within ∙ ap (λ (x : List ℕ). x ∷ drop (i + 1) names) (sym is)

length_cons : (x : List ℕ) (xs : List (List ℕ)) → length (x ∷ xs) ≡ suc (length xs)
length_cons x xs = refl

front_of : (names : List (List ℕ)) (i : ℕ) (name : List ℕ) {after rest : List (List ℕ)} → drop i names ≡ get_or names i name ∷ rest → drop i names ≡ name ∷ after → get_or names i name ≡ name
front_of names i name a b = cc

contained : (names after : List (List ℕ)) (i : ℕ) (name : List ℕ) → drop i names ≡ name ∷ after → Contains names name
contained names after i name is = (i, within, same)
  where
    parts : length (drop i names) ≡ length (name ∷ after)
    parts = ap length is

    within : i < length names
    within = omega (arith, length-drop i names, parts, length_cons name after)

    same : slice_index_or names i name ≡ name
    same = front_of names i name (drop_more names i name within) is

pub named_fault : (failed : Option (List ℕ)) (names : List (List ℕ)) (i : ℕ) (name : List ℕ) (after : List (List ℕ)) → failed ≡ Some name → drop i names ≡ name ∷ after → IsNamedFault failed names
named_fault failed names i name after is front = record { name = name; is = is; among = contained names after i name front }

-- ---- numbers

pub one_up : (i : ℕ) → 1 + i + 1 ≡ 1 + (i + 1)
one_up i = omega arith

pub one_longer : (texts new : List (List ℕ)) (t : List ℕ) (i : ℕ) → new ≡ texts ++ t ∷ [] → length texts ≡ i → length new ≡ i + 1
one_longer texts new t i pushed held = rw pushed (omega (arith, length-append texts (t ∷ []), held))

pub within_limit : (left n : ℕ) → n ≤ min file_limit left → n ≤ file_limit
within_limit left n within = omega (arith, within)

pub few_enough : (k i n : ℕ) → k ≡ 1 + i → i < n → n ≤ 64 → k + 1 < 4294967296
few_enough k i n is below few = omega (arith, is, below, few)
