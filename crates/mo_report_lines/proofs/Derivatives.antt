-- Derivatives at the front.
use Rattle.std.proofs.Common.{◌≡◌, ℕ, zero, suc, ◌+◌, ◌<◌, true, List, [], ◌∷◌, ◌++◌, drop, None, Some, codes, refl, sym, ap, ◌∙◌, arith, add-one, append_assoc}
use Rattle.mo_syntax.specs.declared.token.TokenKind.TheVariants.{Ident}
use Rattle.mo_tables.specs.Words.{code_in, keywords}
use Rattle.mo_tables.specs.declared.keywords.TheConstants.{DER}
use Rattle.mo_tables.proofs.Names.{keyword_der}
use Rattle.mo_flat.specs.Text.{derivative_text}
use Rattle.mo_lexer.specs.Bytes.{is_word_byte}
use Rattle.mo_lexer.specs.Spelling.{Spells}
use Rattle.mo_lexer.proofs.Fronts.{tail_is}
use Rattle.mo_report_lines.specs.Grammar.{one, more, IsPart, plain, indexed, IsName, IsDerivative}
use Rattle.mo_report_lines.specs.steps.Reading.{stops, in_name, closed, OpensTo, Begins, BeginsOnly, BeginsNever}
use Rattle.mo_report_lines.proofs.Words.{front_word}
use Rattle.mo_report_lines.proofs.Parts.{name_stops}

-- the first identifier of a name
record Headed (text : List ℕ) : Type 0 where
  name : List ℕ
  after : List ℕ
  spells : Spells Ident name
  ends : stops is_word_byte after ≡ true
  is : text ≡ name ++ after

part_headed : (text front after : List ℕ) → IsPart front → stops is_word_byte after ≡ true → text ≡ front ++ after → Headed text
part_headed text front after (plain s) ends e = record { name = front; after = after; spells = s; ends = ends; is = e }
part_headed text front after (indexed name indices cut s ns) ends e = record {
  name = name;
  after = 91 ∷ (indices ++ 93 ∷ []) ++ after;
  spells = s;
  ends = refl;
  is = e ∙ ap (λ (x : List ℕ). x ++ after) cut ∙ append_assoc name (91 ∷ (indices ++ 93 ∷ [])) after;
}

name_headed : (text front after : List ℕ) → IsName front → stops in_name after ≡ true → text ≡ front ++ after → Headed text
name_headed text front after (one h) ends e = part_headed text front after h (name_stops after ends) e
name_headed text front after (more first rest cut h hs) ends e =
    part_headed text first (46 ∷ (rest ++ after)) h refl (e ∙ ap (λ (x : List ℕ). x ++ after) cut ∙ append_assoc first (46 ∷ rest) after)

-- `der` is reserved, so no name begins as a derivative does
no_name_opens : (inner front after : List ℕ) → IsName front → stops in_name after ≡ true → codes "der(" ++ inner ≡ front ++ after → ⊥
no_name_opens inner front after n ends e =
    let h = name_headed (codes "der(" ++ inner) front after n ends e in
    let w = front_word (codes "der(" ++ inner) h.name h.after refl h.ends h.spells h.is in
    let word : h.name ≡ codes "der" = w.1 in
    let found : code_in keywords h.name ≡ Some DER = ap (code_in keywords) word ∙ keyword_der in
    let none : code_in keywords h.name ≡ None = w.0 in cc

closed_stops : (depth : ℕ) (other : List ℕ) → stops in_name other ≡ true → stops in_name (closed depth other) ≡ true
closed_stops zero other h = h
closed_stops (suc depth) other h = refl

closed_same : (depth : ℕ) (s t : List ℕ) → closed depth s ≡ closed depth t → s ≡ t
closed_same zero s t e = e
closed_same (suc depth) s t e = closed_same depth s t (tail_is 41 41 (closed depth s) (closed depth t) e)

-- ---- one derivative more
opened_text : (k : ℕ) (name after : List ℕ) → derivative_text (suc k) name ++ after ≡ codes "der(" ++ (derivative_text k name ++ 41 ∷ after)
opened_text k name after =
    append_assoc (codes "der(" ++ derivative_text k name) (codes ")") after ∙ append_assoc (codes "der(") (derivative_text k name) (codes ")" ++ after)

strip : (s t : List ℕ) → codes "der(" ++ s ≡ codes "der(" ++ t → s ≡ t
strip s t e = cc

pub opens_one : (rest inner other : List ℕ) (depth : ℕ) → stops in_name other ≡ true → rest ≡ codes "der(" ++ inner → OpensTo rest other depth → OpensTo inner other (suc depth)
opens_one rest inner other depth ends e b = go b.holds.order b.holds.is
  where
    go : (k : ℕ) → b.front ≡ derivative_text k b.holds.name → OpensTo inner other (suc depth)
    go zero f = absurd (no_name_opens inner b.holds.name (closed depth other) b.holds.is_name (closed_stops depth other ends) (sym e ∙ b.is ∙ ap (λ (x : List ℕ). x ++ closed depth other) f))
    go (suc k) f = record {
      front = derivative_text k b.holds.name;
      holds = record { order = k; name = b.holds.name; is = refl; is_name = b.holds.is_name };
      is = strip inner (derivative_text k b.holds.name ++ 41 ∷ closed depth other)
          (sym e ∙ b.is ∙ ap (λ (x : List ℕ). x ++ closed depth other) f ∙ opened_text k b.holds.name (closed depth other));
    }

pub closes_one : (rest inner other : List ℕ) (depth : ℕ) → rest ≡ codes "der(" ++ inner → OpensTo inner other (suc depth) → OpensTo rest other depth
closes_one rest inner other depth e b = record {
  front = derivative_text (suc b.holds.order) b.holds.name;
  holds = record { order = suc b.holds.order; name = b.holds.name; is = refl; is_name = b.holds.is_name };
  is = e ∙ ap (λ (x : List ℕ). codes "der(" ++ x) (b.is ∙ ap (λ (x : List ℕ). x ++ 41 ∷ closed depth other) b.holds.is) ∙ sym (opened_text b.holds.order b.holds.name (closed depth other));
}

-- ---- all derivatives are opened
bare : (text other : List ℕ) (depth : ℕ) → ((inner : List ℕ) → text ≡ codes "der(" ++ inner → ⊥) → OpensTo text other depth → Begins IsName text (closed depth other)
bare text other depth none b = go b.holds.order b.holds.is
  where
    go : (k : ℕ) → b.front ≡ derivative_text k b.holds.name → Begins IsName text (closed depth other)
    go zero f = record { front = b.holds.name; holds = b.holds.is_name; is = b.is ∙ ap (λ (x : List ℕ). x ++ closed depth other) f }
    go (suc k) f = absurd (none (derivative_text k b.holds.name ++ 41 ∷ closed depth other) (b.is ∙ ap (λ (x : List ℕ). x ++ closed depth other) f ∙ opened_text k b.holds.name (closed depth other)))

pub record IsOpened (text inner : List ℕ) (depth : ℕ) : Type 0 where
  pub to : (other : List ℕ) → stops in_name other ≡ true → OpensTo text other 0 → OpensTo inner other depth
  pub back : (other : List ℕ) → OpensTo inner other depth → OpensTo text other 0

pub none_opened : (text : List ℕ) → IsOpened text text 0
none_opened text = record { to = λ other ends h. h; back = λ other h. h }

pub one_opened : (text rest inner : List ℕ) (depth : ℕ) → IsOpened text rest depth → rest ≡ codes "der(" ++ inner → IsOpened text inner (depth + 1)
one_opened text rest inner depth o e = record {
  to = λ other ends h. rw (add-one) (opens_one rest inner other depth ends e (o.to other ends h));
  back = λ other h. o.back other (closes_one rest inner other depth e (rw (add-one) at h));
}

module _ (text inner : List ℕ) (depth : ℕ) (to : (other : List ℕ) → stops in_name other ≡ true → OpensTo text other 0 → OpensTo inner other depth) (back : (other : List ℕ) → OpensTo inner other depth → OpensTo text other 0)
    (none : (t : List ℕ) → inner ≡ codes "der(" ++ t → ⊥) where
  pub never_derived : BeginsNever IsName in_name inner → BeginsNever IsDerivative in_name text
  never_derived never other ends a = never (closed depth other) (closed_stops depth other ends) (bare inner other depth none (to other ends a))

  module _ (rest : List ℕ) (name : BeginsOnly IsName in_name inner rest) where
    rest_is : (other : List ℕ) → stops in_name other ≡ true → Begins IsDerivative text other → rest ≡ closed depth other
    rest_is other ends a = sym (name.only (closed depth other) (closed_stops depth other ends) (bare inner other depth none (to other ends a)))

    pub not_closed : ((other : List ℕ) → rest ≡ closed depth other → ⊥) → BeginsNever IsDerivative in_name text
    not_closed open_still other ends a = open_still other (rest_is other ends a)

    pub only_derivative : (after : List ℕ) → rest ≡ closed depth after → BeginsOnly IsDerivative in_name text after
    only_derivative after e = record {
      begins = back after (record {
        front = name.begins.front;
        holds = record { order = 0; name = name.begins.front; is = refl; is_name = name.begins.holds };
        is = name.begins.is ∙ ap (λ (x : List ℕ). name.begins.front ++ x) e;
      });
      only = λ other ends a. closed_same depth other after (sym (rest_is other ends a) ∙ e);
    }

-- ---- parentheses that close
closed_shift : (n : ℕ) (rest : List ℕ) → closed n (41 ∷ rest) ≡ closed (suc n) rest
closed_shift zero rest = refl
closed_shift (suc n) rest = ap (λ (x : List ℕ). 41 ∷ x) (closed_shift n rest)

pub closed_next : (text rest after : List ℕ) (at : ℕ) → text ≡ closed at rest → rest ≡ 41 ∷ drop 1 rest → after ≡ drop 1 rest → text ≡ closed (at + 1) after
closed_next text rest after at e f g = rw (add-one, g) (e ∙ ap (closed at) f ∙ closed_shift at (drop 1 rest))

closed_split : (at depth : ℕ) (rest r : List ℕ) → at < depth → closed at rest ≡ closed depth r → (t : List ℕ) × (rest ≡ 41 ∷ t)
closed_split at zero rest r below e = absurd (omega arith)
closed_split zero (suc depth) rest r below e = (closed depth r, e)
closed_split (suc at) (suc depth) rest r below e = closed_split at depth rest r (omega arith) (tail_is 41 41 (closed at rest) (closed depth r) e)

pub still_open : (text rest : List ℕ) (at depth : ℕ) → at < depth → text ≡ closed at rest → ((t : List ℕ) → rest ≡ 41 ∷ t → ⊥) → (r : List ℕ) → text ≡ closed depth r → ⊥
still_open text rest at depth below e none r f = let s = closed_split at depth rest r below (sym e ∙ f) in none s.0 s.1
