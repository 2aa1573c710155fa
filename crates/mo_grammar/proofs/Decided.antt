-- The test of a grammar, as facts.
use Rattle.std.proofs.Common.{◌≡◌, not, true, false}
use Rattle.mo_grammar.specs.Grammar.{Grammar, empty, token, seq, either, either2, many, made, placed, nested, end_name, under, unless, symbol, has}
use Rattle.mo_grammar.specs.Reading.{may_be_empty, entry_codes, first_codes, later_codes, second_codes, Tables, no_codes, is_decided, is_pair, apart, covers}
use Rattle.mo_grammar.proofs.Codes.{both, not_true}

abbrev pub Decided : {S : Type 0} {V : S → Type 0} {A : Type 0} → Tables S → Grammar S V A → Type 0
Decided k (empty a) = Unit {0}
Decided k (token codes) = Unit {0}
Decided k (seq g h) = Decided k g × Decided k h × (apart (later_codes k.starts k.laters g) (first_codes k.starts h) ≡ true)
Decided k (either g h) = Decided k g × Decided k h × (may_be_empty g ≡ false) × (apart (first_codes k.starts g) (first_codes k.starts h) ≡ true)
Decided k (either2 c ds g h) = Decided k g × Decided k h × (is_pair k.starts c ds g ≡ true) × (has k.specials c ≡ true) × (has (entry_codes false k.plains h) c ≡ true) × (apart ds (second_codes k.starts (k.seconds c) c h) ≡ true)
Decided k (many g) = Decided k g × (may_be_empty g ≡ false) × (apart (later_codes k.starts k.laters g) (first_codes k.starts g) ≡ true)
Decided k (made f g) = Decided k g
Decided k (placed g) = Decided k g × (may_be_empty g ≡ false)
Decided k (nested o g) = Decided k g × (may_be_empty g ≡ false) × (covers (entry_codes false no_codes g) (first_codes k.starts g) ≡ true)
Decided k end_name = Unit {0}
Decided k (under called g h) = Decided k g × Decided k h × (apart (later_codes k.starts k.laters g) (first_codes k.starts h) ≡ true)
Decided k (unless test g h) = Decided k g × Decided k h × (may_be_empty g ≡ false) × (may_be_empty h ≡ false) × (apart (later_codes k.starts k.laters g) (first_codes k.starts h) ≡ true)
Decided k (symbol x) = Unit {0}

pub decided : {S : Type 0} {V : S → Type 0} {A : Type 0} (k : Tables S) (g : Grammar S V A) → is_decided k g ≡ true → Decided k g
decided k (empty a) d = tt
decided k (token codes) d = tt
decided k (seq g h) d =
    let p = both (is_decided k g) _ d in
    let q = both (is_decided k h) _ p.1 in
    (decided k g p.0, decided k h q.0, q.1)
decided k (either g h) d =
    let p = both (is_decided k g) _ d in
    let q = both (is_decided k h) _ p.1 in
    let r = both (not (may_be_empty g)) _ q.1 in
    (decided k g p.0, decided k h q.0, not_true (may_be_empty g) r.0, r.1)
decided k (either2 c ds g h) d =
    let p = both (is_decided k g) _ d in
    let q = both (is_decided k h) _ p.1 in
    let r = both (is_pair k.starts c ds g) _ q.1 in
    let s = both (has k.specials c) _ r.1 in
    let t = both (has (entry_codes false k.plains h) c) _ s.1 in
    (decided k g p.0, decided k h q.0, r.0, s.0, t.0, t.1)
decided k (many g) d =
    let p = both (is_decided k g) _ d in
    let q = both (not (may_be_empty g)) _ p.1 in
    (decided k g p.0, not_true (may_be_empty g) q.0, q.1)
decided k (made f g) d = decided k g d
decided k (placed g) d =
    let p = both (is_decided k g) _ d in
    (decided k g p.0, not_true (may_be_empty g) p.1)
decided k (nested o g) d =
    let p = both (is_decided k g) _ d in
    let q = both (not (may_be_empty g)) _ p.1 in
    (decided k g p.0, not_true (may_be_empty g) q.0, q.1)
decided k end_name d = tt
decided k (under called g h) d =
    let p = both (is_decided k g) _ d in
    let q = both (is_decided k h) _ p.1 in
    (decided k g p.0, decided k h q.0, q.1)
decided k (unless test g h) d =
    let p = both (is_decided k g) _ d in
    let q = both (is_decided k h) _ p.1 in
    let r = both (not (may_be_empty g)) _ q.1 in
    let s = both (not (may_be_empty h)) _ r.1 in
    (decided k g p.0, decided k h q.0, not_true (may_be_empty g) r.0, not_true (may_be_empty h) s.0, s.1)
decided k (symbol x) d = tt
