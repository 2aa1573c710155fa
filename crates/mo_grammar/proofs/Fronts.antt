-- A front of what begins a grammar begins it too.
use Rattle.std.proofs.Common.{◌≡◌, ℕ, zero, suc, List, [], ◌∷◌, ◌++◌, inl, inr, refl, sym, ap, subst, ◌∙◌}
use Rattle.mo_grammar.specs.Lexeme.{Lexeme}
use Rattle.mo_grammar.specs.Grammar.{Limits, renamed, Grammar, empty, token, seq, either, either2, many, made, placed, nested, end_name, under, unless, symbol, Spelling, Beginning, Productions, SpelledBy, BegunBy, BegunEach, SpelledIn, BegunIn, BegunAs}
use Rattle.mo_grammar.specs.Reading.{Tables}
use Rattle.mo_grammar.proofs.Codes.{nothing_left, split_one, cuts}
use Rattle.mo_grammar.proofs.Begun.{Known, spelled_begun}
use Rattle.mo_grammar.proofs.Checked.{Checked, known}

each_front : {A : Type 0} (part : List Lexeme → A → Type 0) (begun : List Lexeme → Type 0) → ((w : List Lexeme) (a : A) → part w a → begun w) → ((w u v : List Lexeme) → begun w → w ≡ u ++ v → begun u) → (list : List A) (w u v : List Lexeme) → BegunEach part begun w list → w ≡ u ++ v → (some : List A) × BegunEach part begun u some
each_front part begun p b [] w u v s e = ([], b w u v s e)
each_front part begun p b (a ∷ list) w u v (front, rest, cut, here, others) e =
    elim (cuts u v front rest (sym e ∙ cut)) [
      | inl m ↦ ([], b front u m.0 (p front a here) m.1)
      | inr m ↦ let more = each_front part begun p b list rest m.0 v others m.2 in (a ∷ more.0, (front, m.0, m.1, here, more.1))
    ]

module _ {S : Type 0} {V : S → Type 0} where
  pub begun_front : {A : Type 0} (st : S → List ℕ) (of : Spelling S V) (begun : Beginning S) → Known S V st of begun → ((x : S) (l : Limits) (u v : List Lexeme) → begun x l (u ++ v) → begun x l u) → (g : Grammar S V A) (l : Limits) (w u v : List Lexeme) → BegunBy of begun g l w → w ≡ u ++ v → BegunBy of begun g l u
  begun_front st of begun k sub (empty a) l w u v s e = (nothing_left u v (sym s ∙ e)).0
  begun_front st of begun k sub (token codes) l w u v (inl s) e = inl (nothing_left u v (sym s ∙ e)).0
  begun_front st of begun k sub (token codes) l w u v (inr s) e =
      elim (split_one u v s.0 [] (sym e ∙ s.1)) [
        | inl none ↦ inl none
        | inr some ↦ inr (s.0, some.1 ∙ ap (λ x. s.0 ∷ x) (nothing_left some.0 v some.2).0, s.2)
      ]
  begun_front st of begun k sub (seq g h) l w u v (inl s) e = inl (begun_front st of begun k sub g l w u v s e)
  begun_front st of begun k sub (seq g h) l w u v (inr s) e =
      elim (cuts u v s.0 s.1 (sym e ∙ s.3)) [
        | inl m ↦ inl (begun_front st of begun k sub g l s.0 u m.0 (spelled_begun st of begun k g l s.0 s.2 s.4) m.1)
        | inr m ↦ inr (s.0, m.0, s.2, m.1, s.4, begun_front st of begun k sub h l s.1 m.0 v s.5 m.2)
      ]
  begun_front st of begun k sub (either g h) l w u v (inl s) e = inl (begun_front st of begun k sub g l w u v s e)
  begun_front st of begun k sub (either g h) l w u v (inr s) e = inr (begun_front st of begun k sub h l w u v s e)
  begun_front st of begun k sub (either2 c ds g h) l w u v (inl s) e = inl (begun_front st of begun k sub g l w u v s e)
  begun_front st of begun k sub (either2 c ds g h) l w u v (inr s) e = inr (begun_front st of begun k sub h l w u v s e)
  begun_front st of begun k sub (many g) l w u v s e = each_front (SpelledBy of g l) (BegunBy of begun g l) (λ w a p. spelled_begun st of begun k g l w a p) (λ w u v b e. begun_front st of begun k sub g l w u v b e) s.0 w u v s.1 e
  begun_front st of begun k sub (made f g) l w u v s e = begun_front st of begun k sub g l w u v s e
  begun_front st of begun k sub (placed g) l w u v s e = begun_front st of begun k sub g l w u v s e
  begun_front st of begun k sub (nested o g) l w u v (inl s) e = inl (nothing_left u v (sym s ∙ e)).0
  begun_front st of begun k sub (nested o g) l w u v (inr s) e = inr (s.0, s.1, begun_front st of begun k sub g s.0 w u v s.2 e)
  begun_front st of begun k sub end_name l w u v (inl s) e = inl (nothing_left u v (sym s ∙ e)).0
  begun_front st of begun k sub end_name l w u v (inr s) e =
      elim (split_one u v s.0 [] (sym e ∙ s.1)) [
        | inl none ↦ inl none
        | inr some ↦ inr (s.0, some.1 ∙ ap (λ x. s.0 ∷ x) (nothing_left some.0 v some.2).0, s.2, s.3)
      ]
  begun_front st of begun k sub (under called g h) l w u v (inl s) e = inl (begun_front st of begun k sub g l w u v s e)
  begun_front st of begun k sub (under called g h) l w u v (inr s) e =
      elim (cuts u v s.0 s.1 (sym e ∙ s.3)) [
        | inl m ↦ inl (begun_front st of begun k sub g l s.0 u m.0 (spelled_begun st of begun k g l s.0 s.2 s.4) m.1)
        | inr m ↦ inr (s.0, m.0, s.2, m.1, s.4, begun_front st of begun k sub h (renamed (called s.2) l) s.1 m.0 v s.5 m.2)
      ]
  begun_front st of begun k sub (unless test g h) l w u v (inl s) e = inl (begun_front st of begun k sub g l w u v s e)
  begun_front st of begun k sub (unless test g h) l w u v (inr s) e =
      elim (cuts u v s.0 s.1 (sym e ∙ s.3)) [
        | inl m ↦ inl (begun_front st of begun k sub g l s.0 u m.0 (spelled_begun st of begun k g l s.0 s.2 s.4) m.1)
        | inr m ↦ inr (s.0, m.0, s.2, m.1, s.4, begun_front st of begun k sub h l s.1 m.0 v s.5 m.2)
      ]
  begun_front st of begun k sub (symbol x) l w u v s e = sub x l u v (subst (begun x l) e s)

  in_front : (k : Tables S) (rule : Productions S V) → Checked S V k rule → (n : ℕ) (x : S) (l : Limits) (u v : List Lexeme) → BegunIn rule n x l (u ++ v) → BegunIn rule n x l u
  in_front k rule ok zero x l u v b = (nothing_left u v (sym b)).0
  in_front k rule ok (suc n) x l u v b = begun_front k.starts (SpelledIn rule n) (BegunIn rule n) (known k rule ok n) (λ x l u v b. in_front k rule ok n x l u v b) (rule x) l (u ++ v) u v b refl

  -- A front of what begins a production begins it.
  pub front_begins : (k : Tables S) (rule : Productions S V) → Checked S V k rule → (x : S) (l : Limits) (u v : List Lexeme) → BegunAs rule x l (u ++ v) → BegunAs rule x l u
  front_begins k rule ok x l u v b = (b.0, in_front k rule ok b.0 x l u v b.1)
