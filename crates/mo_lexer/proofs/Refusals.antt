-- A text is refused in one way, and not where it has tokens.
use Rattle.std.proofs.Common.{◌≡◌, ℕ, ◌+◌, ◌-◌, inl, inr, List, [], ◌∷◌, ◌++◌, length, refl, sym, ap, subst, ◌∙◌, arith}
use Rattle.mo_syntax.specs.declared.place.Broken.{Broken}
use Rattle.mo_syntax.specs.declared.place.Place.{Place}
use Rattle.mo_lexer.specs.Bytes.{is_quotable, is_string_byte}
use Rattle.mo_syntax.specs.Lexeme.{Lexeme}
use Rattle.mo_lexer.specs.Lexing.{after_mark, Lexes, IsBadAt, in_string, in_quoted, Breaks, too_wide, cut_by_end, bad_byte, no_token, IsRefused}
use Rattle.mo_lexer.proofs.Fronts.{first_is, tail_is}
use Rattle.mo_lexer.proofs.Endings.{same_contents}
use Rattle.mo_lexer.proofs.Unique.{same_reading}

apart_quotes : (s t : List ℕ) → 34 ∷ s ≡ 39 ∷ t → ⊥
apart_quotes s t e = omega (arith, first_is 34 39 s t e)

-- the first byte that may not stand there is one
same_bad : (left : List ℕ) (at at' : ℕ) → IsBadAt left at → IsBadAt left at' → at ≡ at'
same_bad left at at' (in_string body after e all off place) (in_string body' after' e' all' off' place') =
    let tails : body ++ 92 ∷ after ≡ body' ++ 92 ∷ after' = tail_is 34 34 _ _ (sym e ∙ e') in
    let same = same_contents is_string_byte refl body body' (92 ∷ after) (92 ∷ after') all all' tails (refl, λ _. off) (refl, λ _. off') in
    omega (arith, place, place', ap length same.0)
same_bad left at at' (in_string body after e all off place) (in_quoted body' b after' e' all' off' close slash place') =
    absurd (apart_quotes _ _ (sym e ∙ e'))
same_bad left at at' (in_quoted body b after e all off close slash place) (in_string body' after' e' all' off' place') =
    absurd (apart_quotes _ _ (sym e' ∙ e))
same_bad left at at' (in_quoted body b after e all off close slash place) (in_quoted body' b' after' e' all' off' close' slash' place') =
    let tails : body ++ b ∷ after ≡ body' ++ b' ∷ after' = tail_is 39 39 _ _ (sym e ∙ e') in
    let same = same_contents is_quotable refl body body' (b ∷ after) (b' ∷ after') all all' tails (off, slash) (off', slash') in
    omega (arith, place, place', ap length same.0)

same_break : (left : List ℕ) (rule rule' at at' : ℕ) → Breaks left rule at → Breaks left rule' at' → (rule ≡ rule') × (at ≡ at')
same_break left rule rule' at at' (too_wide w r a) (too_wide w' r' a') = (r ∙ sym r', a ∙ sym a')
same_break left rule rule' at at' (too_wide w r a) (cut_by_end no_w c r' a') = absurd (no_w w)
same_break left rule rule' at at' (too_wide w r a) (bad_byte no_w no_c b r') = absurd (no_w w)
same_break left rule rule' at at' (too_wide w r a) (no_token no_w no_c no_b r' a') = absurd (no_w w)
same_break left rule rule' at at' (cut_by_end no_w c r a) (too_wide w r' a') = absurd (no_w w)
same_break left rule rule' at at' (cut_by_end no_w c r a) (cut_by_end no_w' c' r' a') = (r ∙ sym r', a ∙ sym a')
same_break left rule rule' at at' (cut_by_end no_w c r a) (bad_byte no_w' no_c b r') = absurd (no_c c)
same_break left rule rule' at at' (cut_by_end no_w c r a) (no_token no_w' no_c no_b r' a') = absurd (no_c c)
same_break left rule rule' at at' (bad_byte no_w no_c b r) (too_wide w r' a') = absurd (no_w w)
same_break left rule rule' at at' (bad_byte no_w no_c b r) (cut_by_end no_w' c r' a') = absurd (no_c c)
same_break left rule rule' at at' (bad_byte no_w no_c b r) (bad_byte no_w' no_c' b' r') = (r ∙ sym r', same_bad left at at' b b')
same_break left rule rule' at at' (bad_byte no_w no_c b r) (no_token no_w' no_c' no_b r' a') = absurd (no_b at b)
same_break left rule rule' at at' (no_token no_w no_c no_b r a) (too_wide w r' a') = absurd (no_w w)
same_break left rule rule' at at' (no_token no_w no_c no_b r a) (cut_by_end no_w' c r' a') = absurd (no_c c)
same_break left rule rule' at at' (no_token no_w no_c no_b r a) (bad_byte no_w' no_c' b r') = absurd (no_b at' b)
same_break left rule rule' at at' (no_token no_w no_c no_b r a) (no_token no_w' no_c' no_b' r' a') = (r ∙ sym r', a ∙ sym a')

made : ℕ → Place → Broken
made rule place = record { rule = rule; place = place }

placed : ℕ → ℕ → Place
placed file byte = record { file = file; byte = byte }

pub same_refusal : (file : ℕ) (text : List ℕ) (a b : Broken) → IsRefused file text a → IsRefused file text b → b ≡ a
unfolding made placed
same_refusal file text a b p q =
    let same = same_reading file text (after_mark text) p.left q.left p.tokens q.tokens p.front q.front (inr p.stuck) (inr q.stuck) in
    let breaks : Breaks q.left a.rule p.at = subst (λ x. Breaks x a.rule p.at) same.1 p.breaks in
    let one = same_break q.left a.rule b.rule p.at q.at breaks q.breaks in
    let bytes : (length text - length p.left) + p.at ≡ (length text - length q.left) + q.at = omega (arith, ap length same.1, one.1) in
    let places : placed file ((length text - length p.left) + p.at) ≡ placed file ((length text - length q.left) + q.at) = ap (placed file) bytes in
    let place : b.place ≡ a.place = q.place ∙ sym places ∙ sym p.place in
    let both : made b.rule b.place ≡ made a.rule a.place = ap (λ r. made r b.place) (sym one.0) ∙ ap (made a.rule) place in
    both

pub none_where_refused : (file : ℕ) (text : List ℕ) (broken : Broken) (tokens : List Lexeme) → IsRefused file text broken → Lexes file text tokens → ⊥
none_where_refused file text broken tokens p lexes =
    let same = same_reading file text (after_mark text) p.left [] p.tokens lexes.before_end p.front lexes.all (inr p.stuck) (inl refl) in
    omega (arith, p.stuck.some, ap length same.1)
