-- The arguments of a call, as they are printed and as they are read.
use Rattle.std.proofs.Common.{◌≡◌, ℕ, zero, suc, List, [], ◌∷◌, ◌++◌, inl, inr, Option, Some, None, refl, sym, ap, subst, ◌∙◌, append_assoc, append-nil}
use Rattle.mo_syntax.specs.declared.expr.Arg.{Arg}
use Rattle.mo_syntax.specs.declared.expr.Args.{Args}
use Rattle.mo_syntax.specs.declared.expr.Arg.TheVariants.{Value}
use Rattle.mo_grammar.specs.Lexeme.{Lexeme}
use Rattle.mo_grammar.specs.Codes.{comma}
use Rattle.mo_grammar.specs.Grammar.{Limits, token, many, symbol, SpelledBy, SpelledEach, SpelledIn}
use Rattle.mo_grammar.specs.Forms.{behind, separated, optional}
use Rattle.mo_grammar.specs.Trees.{Given, named_argument, given_more, args_given, args_from, following_iters, following_more}
use Rattle.mo_grammar.specs.Symbols.{Form, Expressions, Arguments, OneArgument, MoreArguments}
use Rattle.mo_grammar.specs.Expressions.{named, named_list, function_argument, printed_given, printed_args}
use Rattle.mo_grammar.specs.Productions.{rule}
use Rattle.mo_grammar.specs.Language.{Spells, SpelledByForm}
use Rattle.mo_grammar.proofs.Extending.{two_heights}

-- ---- named arguments

named_out : (n : ℕ) (l : Limits) (w : List Lexeme) (list : List (List ℕ × Arg)) → SpelledBy (SpelledIn rule n) named_list l w list → SpelledBy (SpelledIn rule n) (separated comma named) l w list
named_out n l w list ((t, (arg, more)), (f, r, cut, st, (f', r', cut', sa, sm)), e) =
    ((named_argument (t, arg), more), (f ++ f', r', cut ∙ ap (λ v. f ++ v) cut' ∙ sym (append_assoc f f' r'), ((t, arg), (f, f', refl, st, sa), refl), sm), e)

named_in : (n : ℕ) (l : Limits) (w : List Lexeme) (list : List (List ℕ × Arg)) → SpelledBy (SpelledIn rule n) (separated comma named) l w list → SpelledBy (SpelledIn rule n) named_list l w list
named_in n l w list ((x, more), (f, r, cut, ((t, arg), (f', r', cut', st, sa), e'), sm), e) =
    ((t, (arg, more)), (f', r' ++ r, cut ∙ ap (λ v. v ++ r) cut' ∙ append_assoc f' r' r, st, (r', r, refl, sa, sm)), ap (λ v. v ∷ more) e' ∙ e)

-- ---- after a comma

-- one more item in front of a list of items
more_items : {A : Type 0} (g : Form A) (n : ℕ) (l : Limits) (w : List Lexeme) (list : List A) → SpelledBy (SpelledIn rule n) (behind comma (separated comma g)) l w list → SpelledBy (SpelledIn rule n) (many (behind comma g)) l w list
more_items {A = A} g n l w list ((t, all), (f, r, cut, st, ((a, more), (f', r', cut', sa, sm), e')), e) =
    subst (λ v. SpelledBy (SpelledIn rule n) (many (behind comma g)) l w v) (e' ∙ e)
    (f ++ f', r', cut ∙ ap (λ v. f ++ v) cut' ∙ sym (append_assoc f f' r'), ((t, a), (f, f', refl, st, sa), refl), sm)

more_out : (n : ℕ) (l : Limits) (w : List Lexeme) (given : Given) (arg : Arg) (m : Given) (f r : List Lexeme) → w ≡ f ++ r → SpelledIn rule n OneArgument l f arg → (t : Lexeme) (f' r' : List Lexeme) → r ≡ f' ++ r' → SpelledBy (SpelledIn rule n) (token (comma ∷ [])) l f' t → SpelledByForm printed_given l r' m → given_more (arg, Some m) ≡ given → SpelledByForm printed_given l w given
more_out n l w given arg m f r cut sa t f' r' cut' st (h, inl (list, s, q)) e =
    let items = more_items named h l r list ((t, list), (f', r', cut', st, s), refl) in
    let p = two_heights rule l l (symbol OneArgument) (many (behind comma named)) f r arg list n h sa items in (
      p.0,
      subst (SpelledBy (SpelledIn rule p.0) printed_given l w) (ap (λ x. given_more (arg, Some x)) q ∙ e)
          (inr (f, r, cut, ((arg, []), (f, [], sym (append-nil f), p.1, refl), refl), p.2)),
    )
more_out n l w given arg m f r cut sa t f' r' cut' st (h, inr (fr, rr, cut2, sp, sn)) e =
    let items = more_items (symbol OneArgument) h l (f' ++ fr) m.0 ((t, m.0), (f', fr, refl, st, sp), refl) in
    let p = two_heights rule l l (symbol OneArgument) (many (behind comma (symbol OneArgument))) f (f' ++ fr) arg m.0 n h sa items in
    let all : SpelledBy (SpelledIn rule p.0) (separated comma (symbol OneArgument)) l (f ++ (f' ++ fr)) (arg ∷ m.0) = ((arg, m.0), (f, f' ++ fr, refl, p.1, p.2), refl) in
    let q = two_heights rule l l (separated comma (symbol OneArgument)) (many (behind comma named)) (f ++ (f' ++ fr)) rr (arg ∷ m.0) m.1 p.0 h all sn in (
      q.0,
      subst (SpelledBy (SpelledIn rule q.0) printed_given l w) e
          (inr (f ++ (f' ++ fr), rr, cut ∙ ap (λ v. f ++ v) (cut' ∙ ap (λ v. f' ++ v) cut2 ∙ sym (append_assoc f' fr rr)) ∙ sym (append_assoc f (f' ++ fr) rr), q.1, q.2)),
    )

given_out : (n : ℕ) (l : Limits) (w : List Lexeme) (given : Given) → SpelledIn rule n MoreArguments l w given → SpelledByForm printed_given l w given
unfolding rule
given_out zero l w given s = absurd s
given_out (suc n) l w given (inl (list, s, e)) = (n, inl (list, named_out n l w list s, e))
given_out (suc n) l w given (inr ((arg, None), (f, r, cut, sa, inr none), e)) =
    (n, inr (f, r, cut, ((arg, []), (f, [], sym (append-nil f), sa, refl), ap (λ g. g.0) e), subst (λ v. SpelledBy (SpelledIn rule n) (many (behind comma named)) l r v) (ap (λ g. g.1) e) none.0))
given_out (suc n) l w given (inr ((arg, None), (f, r, cut, sa, inl some), e)) = let clash = some.2 in cc
given_out (suc n) l w given (inr ((arg, Some rest), (f, r, cut, sa, inr none), e)) = let clash = none.1 in cc
given_out (suc n) l w given (inr ((arg, Some rest), (f, r, cut, sa, inl (g, ((t, m), (f', r', cut', st, sm), e'), e2)), e)) =
    let same : m ≡ rest = cc in
    more_out n l w given arg m f r cut sa t f' r' cut' st (given_out n l r' m sm) (ap (λ x. given_more (arg, Some x)) same ∙ e)

-- ---- back

plain_in : (n : ℕ) (l : Limits) (more : List Arg) (f r rest : List Lexeme) (a : Arg) (names : List (List ℕ × Arg)) → SpelledIn rule n OneArgument l f a → SpelledEach (SpelledBy (SpelledIn rule n) (behind comma (symbol OneArgument)) l) r more → SpelledEach (SpelledBy (SpelledIn rule n) (behind comma named) l) rest names → Spells MoreArguments l (f ++ (r ++ rest)) (a ∷ more, names)
unfolding rule
plain_in n l [] f r rest a [] sa none last = (suc n, inr ((a, None), (f, r ++ rest, refl, sa, inr (ap (λ v. v ++ rest) none ∙ last, refl)), refl))
plain_in n l [] f r rest a (x ∷ names) sa none (front, others, cut, ((t, y), (fc, fn, cut2, st, sn), e), sm) =
    let list : SpelledIn rule (suc n) MoreArguments l (fn ++ others) ([], x ∷ names) = inl (x ∷ names, named_in n l (fn ++ others) (x ∷ names) ((x, names), (fn, others, refl, subst (SpelledBy (SpelledIn rule n) named l fn) e sn, sm), refl), refl) in
    let p = two_heights rule l l (symbol OneArgument) (symbol MoreArguments) f (fn ++ others) a ([], x ∷ names) n (suc n) sa list in
    (suc p.0, inr ((a, Some ([], x ∷ names)), (f, r ++ rest, refl, p.1, inl (([], x ∷ names), ((t, ([], x ∷ names)), (fc, fn ++ others, ap (λ v. v ++ rest) none ∙ cut ∙ ap (λ v. v ++ others) cut2 ∙ append_assoc fc fn others, st, p.2), refl), refl)), refl))
plain_in n l (b ∷ more) f r rest a names sa (front, others, cut, ((t, c), (fc, f2, cut2, st, sb), e), sm) last =
    let ih = plain_in n l more f2 others rest b names (subst (SpelledIn rule n OneArgument l f2) e sb) sm last in
    let p = two_heights rule l l (symbol OneArgument) (symbol MoreArguments) f (f2 ++ (others ++ rest)) a (b ∷ more, names) n ih.0 sa ih.1 in (
      suc p.0,
      inr (
        (a, Some (b ∷ more, names)),
        (
          f,
          r ++ rest,
          refl,
          p.1,
          inl ((b ∷ more, names), ((t, (b ∷ more, names)), (fc, f2 ++ (others ++ rest), ap (λ v. v ++ rest) (cut ∙ ap (λ v. v ++ others) cut2 ∙ append_assoc fc f2 others) ∙ append_assoc fc (f2 ++ others) rest ∙ ap (λ v. fc ++ v) (append_assoc f2 others rest), st, p.2), refl), refl),
        ),
        refl,
      ),
    )

given_in : (n : ℕ) (l : Limits) (w : List Lexeme) (given : Given) → SpelledBy (SpelledIn rule n) printed_given l w given → Spells MoreArguments l w given
unfolding rule
given_in n l w given (inl (list, s, e)) = (suc n, inl (list, named_in n l w list s, e))
given_in n l w given (inr (front, rest, cut, ((a, more), (f, r, cut2, sa, sm), e), sn)) =
    subst (λ v. Spells MoreArguments l v given) (sym (cut ∙ ap (λ v. v ++ rest) cut2 ∙ append_assoc f r rest))
    (subst (λ p. Spells MoreArguments l (f ++ (r ++ rest)) (p, given.1)) e (plain_in n l more f r rest a given.1 sa sm sn))

pub given_agree : (l : Limits) (w : List Lexeme) (given : Given) → (Spells MoreArguments l w given → SpelledByForm printed_given l w given) × (SpelledByForm printed_given l w given → Spells MoreArguments l w given)
given_agree l w given = (λ s. given_out s.0 l w given s.1, λ s. given_in s.0 l w given s.1)

-- ---- all arguments

args_printed : (l : Limits) (w : List Lexeme) (given : Given) → SpelledByForm printed_given l w given → SpelledByForm printed_args l w (args_given given)
args_printed l w given s = (s.0, inr (given, s.1, refl))

-- an argument and those behind it, as what follows a comma
given_first : (n : ℕ) (l : Limits) (f r : List Lexeme) (arg : Arg) (o : Option Given) → SpelledIn rule (suc n) OneArgument l f arg → SpelledBy (SpelledIn rule n) (optional (behind comma (symbol MoreArguments))) l r o → Spells MoreArguments l (f ++ r) (given_more (arg, o))
unfolding rule
given_first n l f r arg o sa so =
    let p = two_heights rule l l (symbol OneArgument) (optional (behind comma (symbol MoreArguments))) f r arg o (suc n) n sa so in
    (suc p.0, inr ((arg, o), (f, r, refl, p.1, p.2), refl))

args_out : (n : ℕ) (l : Limits) (w : List Lexeme) (a : Args) → SpelledIn rule n Arguments l w a → SpelledByForm printed_args l w a
unfolding rule
args_out zero l w a s = absurd s
args_out (suc n) l w a (inl (g, (list, s, e1), e2)) = (n, inr (g, inl (list, named_out n l w list s, e1), e2))
args_out (suc n) l w a (inr (inl (g, ((arg, o), (f, r, cut, sf, so), e1), e2))) =
    let m = given_first n l f r arg o (inl sf) so in
    let p = given_out m.0 l (f ++ r) (given_more (arg, o)) m.1 in
    (p.0, inr (g, subst (λ v. SpelledBy (SpelledIn rule p.0) printed_given l v g) (sym cut) (subst (SpelledBy (SpelledIn rule p.0) printed_given l (f ++ r)) e1 p.1), e2))
args_out (suc n) l w a (inr (inr ((e, x), (f, r, cut, se, inl (iters, si, q)), p))) = (n, inl ((e, iters), (f, r, cut, se, si), ap (λ y. args_from (e, y)) q ∙ p))
args_out (suc n) l w a (inr (inr ((e, x), (f, r, cut, se, inr (o, so, q)), p))) =
    let m = given_first n l f r (Value e) o (inr (e, se, refl)) so in
    let s = given_out m.0 l (f ++ r) (given_more (Value e, o)) m.1 in
    (s.0, inr (given_more (Value e, o), subst (λ v. SpelledBy (SpelledIn rule s.0) printed_given l v (given_more (Value e, o))) (sym cut) s.1, ap (λ y. args_from (e, y)) q ∙ p))

args_in : (n : ℕ) (l : Limits) (w : List Lexeme) (a : Args) → SpelledBy (SpelledIn rule n) printed_args l w a → Spells Arguments l w a
unfolding rule
args_in n l w a (inl ((e, iters), (f, r, cut, se, si), q)) = (suc n, inr (inr ((e, following_iters iters), (f, r, cut, se, inl (iters, si, refl)), q)))
args_in n l w a (inr (g, s, q)) = go (given_in n l w g s)
  where
    go : Spells MoreArguments l w g → Spells Arguments l w a
    go (zero, m) = absurd m
    go (suc h, inl named) = (suc h, inl (g, named, q))
    go (suc zero, inr ((arg, o), (f, r, cut, sa, so), e)) = absurd sa
    go (suc (suc h), inr ((arg, o), (f, r, cut, inl sf, so), e)) =
        let p = two_heights rule l l function_argument (optional (behind comma (symbol MoreArguments))) f r arg o h (suc h) sf so in
        (suc p.0, inr (inl (g, ((arg, o), (f, r, cut, p.1, p.2), e), q)))
    go (suc (suc h), inr ((arg, o), (f, r, cut, inr (x, sx, v), so), e)) =
        let p = two_heights rule l l (symbol Expressions) (optional (behind comma (symbol MoreArguments))) f r x o h (suc h) sx so in
        (suc p.0, inr (inr ((x, following_more o), (f, r, cut, p.1, inr (o, p.2, refl)), ap args_given (ap (λ y. given_more (y, o)) v ∙ e) ∙ q)))

pub arguments_agree : (l : Limits) (w : List Lexeme) (a : Args) → (Spells Arguments l w a → SpelledByForm printed_args l w a) × (SpelledByForm printed_args l w a → Spells Arguments l w a)
arguments_agree l w a = (λ s. args_out s.0 l w a s.1, λ s. args_in s.0 l w a s.1)
