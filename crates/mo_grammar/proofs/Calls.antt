-- What a call answers that reads one production from a place on.
use Rattle.std.proofs.Common.{◌≡◌, ◌+◌, ◌-◌, ℕ, true, List, [], ◌∷◌, ◌++◌, ◌⊎◌, length, drop, take, refl, sym, ap, subst, ◌∙◌, arith, append_assoc, inl, inr, Err}
use Rattle.std.proofs.Math.Seq.{drop-append_seam}
use Rattle.std.proofs.lemmas.List.{drop-map, length-map, length-append, take-append-drop, append_cancel_right}
use Rattle.std.specs.Borrow.{Bor}
use Rattle.mo_syntax.specs.declared.place.Broken.{Broken}
use Rattle.mo_syntax.specs.declared.place.Stop.{Stop}
use Rattle.mo_syntax.specs.declared.place.Stop.TheVariants.{Broken as broken}
use Rattle.mo_syntax.specs.declared.token.Token.{Token}
use Rattle.mo_grammar.specs.declared.fault.Fault.{Fault}
use Rattle.mo_grammar.specs.declared.fault.Fault.TheVariants.{Misplaced, Misnamed, TooDeep}
use Rattle.mo_grammar.specs.declared.reading.Halt.{Halt}
use Rattle.mo_grammar.specs.declared.reading.Halt.TheVariants.{Stuck}
use Rattle.mo_grammar.specs.Lexeme.{Lexeme, lexeme, lexemes}
use Rattle.mo_grammar.specs.Grammar.{this_name}
use Rattle.mo_grammar.specs.Reading.{Outcome, read, stuck, unfinished}
use Rattle.mo_grammar.specs.Symbols.{Symbol, ValueOf}
use Rattle.mo_grammar.specs.Productions.{rule}
use Rattle.mo_grammar.specs.Tables.{tables}
use Rattle.mo_grammar.specs.Classless.{is_classless}
use Rattle.mo_grammar.specs.Language.{limits_inside, Spells, Begins, IsLongestFront, EndsBeforeNames, reads}
use Rattle.mo_grammar.specs.Answers.{from, broken_at, limits_at, IsLongestSpelling, IsMisplaced, IsTooDeep, IsRefusal, Gives}
use Rattle.mo_grammar.proofs.GrammarLaws.{read_law, whole_law, misplaced_law, stuck_law}
use Rattle.mo_grammar.proofs.Tested.{passed}
use Rattle.mo_grammar.proofs.Classless.{Sane, sane}

-- the place of what is left
pub rest_place : (tokens : List Token) (at : ℕ) (front rest : List Lexeme) → from tokens at ≡ front ++ rest → from tokens (length tokens - length rest) ≡ rest
rest_place tokens at front rest parts =
    let all = lexemes tokens in
    let before = take at all ++ front in
    let whole : before ++ rest ≡ all = append_assoc (take at all) front rest ∙ ap (λ v. take at all ++ v) (sym parts ∙ sym (drop-map lexeme at tokens)) ∙ take-append-drop at all in
    let sizes : length tokens ≡ length before + length rest = sym (length-map tokens lexeme) ∙ ap length (sym whole) ∙ length-append before rest in
    let place : length tokens - length rest ≡ length before = omega (arith, sizes) in
    ap (λ n. from tokens n) place ∙ sym (drop-map lexeme (length before) tokens) ∙ ap (drop (length before)) (sym whole) ∙ drop-append_seam before rest

read_behind : (x : Symbol) (nest : ℕ) (tokens : List Token) (at : ℕ) (a : ValueOf x) (rest : List Token) (end : ℕ) → reads x (limits_at nest) (from tokens at) ≡ read a (lexemes rest) → end ≡ length tokens - length rest → from tokens end ≡ lexemes rest
unfolding reads
read_behind x nest tokens at a rest end e place =
    let law = read_law tables rule passed x (limits_at nest) (from tokens at) a (lexemes rest) e in
    ap (λ n. from tokens n) (place ∙ ap (λ n. length tokens - n) (sym (length-map rest lexeme))) ∙ rest_place tokens at law.0 (lexemes rest) law.1.parts

read_found : (x : Symbol) (nest : ℕ) (tokens : List Token) (at : ℕ) (a : ValueOf x) (rest : List Token) (end : ℕ) → reads x (limits_at nest) (from tokens at) ≡ read a (lexemes rest) → end ≡ length tokens - length rest → IsLongestSpelling x nest tokens at a end
unfolding reads
read_found x nest tokens at a rest end e place =
    let law = read_law tables rule passed x (limits_at nest) (from tokens at) a (lexemes rest) e in
    record { front = law.0; longest = subst (λ v. IsLongestFront x (this_name []) (from tokens at) law.0 v) (sym (read_behind x nest tokens at a rest end e place)) law.1; spells = law.2 }

-- Where the longest run spells a value within the limits, that is what is read.
read_only : (x : Symbol) → EndsBeforeNames x → (nest : ℕ) (tokens front rest : List Lexeme) (a : ValueOf x) → IsLongestFront x (this_name []) tokens front rest → Spells x (limits_at nest) front a → reads x (limits_at nest) tokens ≡ read a rest
unfolding reads
read_only x plain nest tokens front rest a longest spells = whole_law tables rule passed x plain (limits_at nest) tokens front rest a longest spells

-- Where reading is stuck, a token is misplaced, or too deep.
stuck_refused : (x : Symbol) → EndsBeforeNames x → is_classless x ≡ true → (nest : ℕ) (tokens : List Lexeme) (fault : Fault) (rest : List Lexeme) → reads x (limits_at nest) tokens ≡ stuck fault rest → IsMisplaced x (limits_at nest) tokens (broken_at fault rest) ⊎ IsTooDeep x (limits_at nest) tokens (broken_at fault rest)
unfolding reads
stuck_refused x plain classless nest tokens Misplaced rest e =
    let law = misplaced_law tables rule passed x plain (limits_at nest) tokens rest e in
    let taken = stuck_law tables rule passed x (limits_at nest) tokens rest Misplaced e in
    let same : taken.0 ≡ law.0 = append_cancel_right taken.0 law.0 rest (sym taken.1 ∙ law.1.parts) in
    inl (record { front = law.0; rest = rest; longest = law.1; within = subst (Begins x (limits_at nest)) same taken.2; unspelled = law.2; is = refl })
stuck_refused x plain classless nest tokens Misnamed rest e = absurd (subst Sane e (sane x classless (limits_at nest) tokens))
stuck_refused x plain classless nest tokens TooDeep [] e = absurd (subst Sane e (sane x classless (limits_at nest) tokens) refl)
stuck_refused x plain classless nest tokens TooDeep (t ∷ rest) e =
    let law = stuck_law tables rule passed x (limits_at nest) tokens (t ∷ rest) TooDeep e in
    let why = law.3 t rest refl in
    inr (record { before = law.0; token = t; rest = rest; parts = law.1; impossible = why.0; past = why.1; is = refl })

-- ---- a call that reads the tokens from a place on, with what is left of the nesting

told : (x : Symbol) (nest left at : ℕ) (tokens here : List Token) (o : Outcome (ValueOf x)) → left ≡ 128 - nest → here ≡ drop at tokens → reads x (limits_inside left) (lexemes here) ≡ o → reads x (limits_at nest) (from tokens at) ≡ o
told x nest left at tokens here o limit place e = ap (λ v. reads x (limits_at nest) (lexemes v)) (sym place) ∙ ap (λ n. reads x (limits_inside n) (lexemes here)) (sym limit) ∙ e

-- A value that is read is what the longest run spells.
pub call_found : (x : Symbol) (nest left at : ℕ) (tokens here : List Token) (a : ValueOf x) (rest : List Token) (end : ℕ) → left ≡ 128 - nest → here ≡ drop at tokens → reads x (limits_inside left) (lexemes here) ≡ read a (lexemes rest) → end ≡ length tokens - length rest → IsLongestSpelling x nest tokens at a end
call_found x nest left at tokens here a rest end limit place e is = read_found x nest tokens at a rest end (told x nest left at tokens here (read a (lexemes rest)) limit place e) is

-- Where the longest run spells another value within the limits, it is that one.
pub call_only : (x : Symbol) → EndsBeforeNames x → (nest left at : ℕ) (tokens here : List Token) (a : ValueOf x) (rest : List Token) (end : ℕ) → left ≡ 128 - nest → here ≡ drop at tokens → reads x (limits_inside left) (lexemes here) ≡ read a (lexemes rest) → end ≡ length tokens - length rest → (front behind : List Lexeme) (b : ValueOf x) → IsLongestFront x (this_name []) (from tokens at) front behind → Spells x (limits_at nest) front b → (a ≡ b) × (from tokens end ≡ behind)
call_only x plain nest left at tokens here a rest end limit place e is front behind b longest spells =
    let mine = told x nest left at tokens here (read a (lexemes rest)) limit place e in
    let same : read a (lexemes rest) ≡ read b behind = sym mine ∙ read_only x plain nest (from tokens at) front behind b longest spells in
    (let h : a ≡ b = cc in h, read_behind x nest tokens at a rest end mine is ∙ (let h : lexemes rest ≡ behind = cc in h))

-- Where reading is stuck, the longest run spells nothing within the limits.
pub call_nothing : (x : Symbol) → EndsBeforeNames x → (nest left at : ℕ) (tokens here : List Token) (fault : Fault) (rest : List Lexeme) → left ≡ 128 - nest → here ≡ drop at tokens → reads x (limits_inside left) (lexemes here) ≡ stuck fault rest → (front behind : List Lexeme) (b : ValueOf x) → IsLongestFront x (this_name []) (from tokens at) front behind → Spells x (limits_at nest) front b → ⊥
call_nothing x plain nest left at tokens here fault rest limit place e front behind b longest spells =
    let same : stuck fault rest ≡ read b behind = sym (told x nest left at tokens here (stuck fault rest) limit place e) ∙ read_only x plain nest (from tokens at) front behind b longest spells in cc

-- Where reading is stuck, a token is misplaced, or too deep.
pub call_refused : (x : Symbol) → EndsBeforeNames x → is_classless x ≡ true → (nest left at : ℕ) (tokens here : List Token) (fault : Fault) (rest : List Lexeme) → left ≡ 128 - nest → here ≡ drop at tokens → reads x (limits_inside left) (lexemes here) ≡ stuck fault rest → IsMisplaced x (limits_at nest) (from tokens at) (broken_at fault rest) ⊎ IsTooDeep x (limits_at nest) (from tokens at) (broken_at fault rest)
call_refused x plain classless nest left at tokens here fault rest limit place e = stuck_refused x plain classless nest (from tokens at) fault rest (told x nest left at tokens here (stuck fault rest) limit place e)

-- A reader that halts at a token was stuck there.
pub halted : {B : Type 0} (halt : Halt) (fault : Fault) (rest : Bor (List Token)) (o : Outcome B) → halt ≡ Stuck fault rest → Gives {A = ℕ} {B = B} (λ n. unfinished) (Err halt) o → o ≡ stuck fault (lexemes rest.now)
halted {B = B} halt fault rest o is gives = subst (λ h. Gives {A = ℕ} {B = B} (λ n. unfinished) (Err h) o) is gives

-- So the answer is a refusal.
pub call_told : (A : Type 0) (x : Symbol) (nest : ℕ) (tokens : List Lexeme) (stop : Stop) (b : Broken) → stop ≡ broken b → IsMisplaced x (limits_at nest) tokens b ⊎ IsTooDeep x (limits_at nest) tokens b → IsRefusal {A = A} x nest tokens (Err stop)
call_told A x nest tokens stop b is why = subst (λ s. IsRefusal {A = A} x nest tokens (Err s)) (sym is) why
