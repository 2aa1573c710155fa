-- Productions with several branches that begin alike, as they are printed and as they are read.
use Rattle.std.proofs.Common.{◌≡◌, ℕ, zero, suc, List, [], ◌∷◌, ◌++◌, inl, inr, Some, None, refl, sym, ap, subst, ◌∙◌, append_assoc, append-nil}
use Rattle.mo_syntax.specs.declared.expr.Expr.{Expr}
use Rattle.mo_syntax.specs.declared.expr.Node.{Node}
use Rattle.mo_syntax.specs.declared.expr.Node.TheVariants.{Array}
use Rattle.mo_syntax.specs.declared.class.Body.{Body}
use Rattle.mo_grammar.specs.Lexeme.{Lexeme}
use Rattle.mo_grammar.specs.Codes.{ident}
use Rattle.mo_grammar.specs.Grammar.{Limits, token, seq, SpelledBy, SpelledIn}
use Rattle.mo_grammar.specs.Trees.{InBraces, array_node, array_tree, braces_iters, braces_more}
use Rattle.mo_grammar.specs.Symbols.{References, CallArguments, Primaries}
use Rattle.mo_grammar.specs.Expressions.{array_args, array, primary}
use Rattle.mo_grammar.specs.Classes.{short_spec, class_spec, external_arguments, external_call}
use Rattle.mo_grammar.specs.Printed.{array_at, printed_array_args, printed_array, printed_primary, printed_short_spec, printed_class_spec, printed_external_call}
use Rattle.mo_grammar.specs.Productions.{rule}
use Rattle.mo_grammar.specs.Language.{Spells, SpelledByForm}

-- ---- what stands in braces

abbrev node_of : Expr × InBraces → Node
node_of x = array_node x.0 x.1.0 x.1.1

args_out : (n : ℕ) (l : Limits) (w : List Lexeme) (x : Expr × InBraces) → SpelledBy (SpelledIn rule n) array_args l w x → SpelledBy (SpelledIn rule n) printed_array_args l w (node_of x)
args_out n l w x (f, r, cut, se, inl (iters, s, e)) = inl ((x.0, iters), (f, r, cut, se, s), ap (λ v. array_node x.0 v.0 v.1) e)
args_out n l w x (f, r, cut, se, inr (more, s, e)) = inr (x.0 ∷ more, ((x.0, more), (f, r, cut, se, s), refl), ap (λ v. array_node x.0 v.0 v.1) e)

args_in : (n : ℕ) (l : Limits) (w : List Lexeme) (node : Node) → SpelledBy (SpelledIn rule n) printed_array_args l w node → (x : Expr × InBraces) × SpelledBy (SpelledIn rule n) array_args l w x × (node_of x ≡ node)
args_in n l w node (inl ((a, iters), (f, r, cut, se, s), e)) = ((a, braces_iters iters), (f, r, cut, se, inl (iters, s, refl)), e)
args_in n l w node (inr (list, ((a, more), (f, r, cut, se, s), e1), e)) = ((a, braces_more more), (f, r, cut, se, inr (more, s, refl)), ap Array e1 ∙ e)

array_out : (n : ℕ) (l : Limits) (w : List Lexeme) (a : Expr) → SpelledBy (SpelledIn rule n) array l w a → SpelledBy (SpelledIn rule n) printed_array l w a
array_out n l w a ((place, x), (t, more, cut, here, (inner, left, ((c, y), (f, r, cut1, sc, ((z, d), (f2, r2, cut2, sz, sd), e2)), e1))), e) = (
  (place, node_of z),
  (t, more, cut, here, (inner, left, ((c, node_of z), (f, r, cut1, sc, ((node_of z, d), (f2, r2, cut2, args_out n inner f2 z sz, sd), refl)), refl))),
  ap (λ v. array_tree (place, v)) (e2 ∙ e1) ∙ e,
)

array_in : (n : ℕ) (l : Limits) (w : List Lexeme) (a : Expr) → SpelledBy (SpelledIn rule n) printed_array l w a → SpelledBy (SpelledIn rule n) array l w a
array_in n l w a ((place, x), (t, more, cut, here, (inner, left, ((c, y), (f, r, cut1, sc, ((z, d), (f2, r2, cut2, sz, sd), e2)), e1))), e) =
    let p = args_in n inner f2 z sz in (
      (place, p.0),
      (t, more, cut, here, (inner, left, ((c, p.0), (f, r, cut1, sc, ((p.0, d), (f2, r2, cut2, p.1, sd), refl)), refl))),
      ap (λ v. array_at (place, v)) (p.2 ∙ e2 ∙ e1) ∙ e,
    )

pub arrays_agree : (l : Limits) (w : List Lexeme) (a : Expr) → (SpelledByForm array l w a → SpelledByForm printed_array l w a) × (SpelledByForm printed_array l w a → SpelledByForm array l w a)
arrays_agree l w a = (λ s. (s.0, array_out s.0 l w a s.1), λ s. (s.0, array_in s.0 l w a s.1))

-- ---- primaries

primary_out : (n : ℕ) (l : Limits) (w : List Lexeme) (a : Expr) → SpelledBy (SpelledIn rule n) primary l w a → SpelledBy (SpelledIn rule n) printed_primary l w a
primary_out n l w a (inl s) = inl s
primary_out n l w a (inr (inl s)) = inr (inl s)
primary_out n l w a (inr (inr (inl ((place, (r, None)), (t, more, cut, here, (f, rest, cut2, sr, inr none)), e)))) =
    let whole : w ≡ f = cut2 ∙ ap (λ v. f ++ v) none.0 ∙ append-nil f in
    inr (inr (inr (inl ((place, r), (t, more, cut, here, subst (λ v. SpelledIn rule n References l v r) (sym whole) sr), e))))
primary_out n l w a (inr (inr (inl ((place, (r, None)), (t, more, cut, here, (f, rest, cut2, sr, inl some)), e)))) = let clash = some.2 in cc
primary_out n l w a (inr (inr (inl ((place, (r, Some args)), (t, more, cut, here, (f, rest, cut2, sr, inr none)), e)))) = let clash = none.1 in cc
primary_out n l w a (inr (inr (inl ((place, (r, Some args)), (t, more, cut, here, (f, rest, cut2, sr, inl (given, s, given_same))), e)))) =
    let same : given ≡ args = cc in
    inr (inr (inl ((place, (r, args)), (t, more, cut, here, (f, rest, cut2, sr, subst (SpelledIn rule n CallArguments l rest) same s)), e)))
primary_out n l w a (inr (inr (inr (inl s)))) = inr (inr (inr (inr (inl s))))
primary_out n l w a (inr (inr (inr (inr (inl s))))) = inr (inr (inr (inr (inr (inl s)))))
primary_out n l w a (inr (inr (inr (inr (inr s))))) = inr (inr (inr (inr (inr (inr (array_out n l w a s))))))

primary_in : (n : ℕ) (l : Limits) (w : List Lexeme) (a : Expr) → SpelledBy (SpelledIn rule n) printed_primary l w a → SpelledBy (SpelledIn rule n) primary l w a
primary_in n l w a (inl s) = inl s
primary_in n l w a (inr (inl s)) = inr (inl s)
primary_in n l w a (inr (inr (inl ((place, (r, args)), (t, more, cut, here, (f, rest, cut2, sr, s)), e)))) =
    inr (inr (inl ((place, (r, Some args)), (t, more, cut, here, (f, rest, cut2, sr, inl (args, s, refl))), e)))
primary_in n l w a (inr (inr (inr (inl ((place, r), (t, more, cut, here, sr), e))))) =
    inr (inr (inl ((place, (r, None)), (t, more, cut, here, (w, [], sym (append-nil w), sr, inr (refl, refl))), e)))
primary_in n l w a (inr (inr (inr (inr (inl s))))) = inr (inr (inr (inl s)))
primary_in n l w a (inr (inr (inr (inr (inr (inl s)))))) = inr (inr (inr (inr (inl s))))
primary_in n l w a (inr (inr (inr (inr (inr (inr s)))))) = inr (inr (inr (inr (inr (array_in n l w a s)))))

pub primaries_agree : (l : Limits) (w : List Lexeme) (a : Expr) → (Spells Primaries l w a → SpelledByForm printed_primary l w a) × (SpelledByForm printed_primary l w a → Spells Primaries l w a)
unfolding rule
primaries_agree l w a = (λ s. out s.0 s.1, λ s. (suc s.0, primary_in s.0 l w a s.1))
  where
    out : (n : ℕ) → SpelledIn rule n Primaries l w a → SpelledByForm printed_primary l w a
    out zero s = absurd s
    out (suc n) s = (n, primary_out n l w a s)

-- ---- classes with `=`

short_out : (n : ℕ) (l : Limits) (w : List Lexeme) (x : Lexeme × Body) → SpelledBy (SpelledIn rule n) short_spec l w x → SpelledBy (SpelledIn rule n) printed_short_spec l w x
short_out n l w x (f, r, cut, st, (y, (f2, r2, cut2, sq, inl s), e)) = inr (f, r, cut, st, (y, (f2, r2, cut2, sq, s), e))
short_out n l w x (f, r, cut, st, (y, (f2, r2, cut2, sq, inr s), e)) = inl (f, r, cut, st, (y, (f2, r2, cut2, sq, s), e))

short_in : (n : ℕ) (l : Limits) (w : List Lexeme) (x : Lexeme × Body) → SpelledBy (SpelledIn rule n) printed_short_spec l w x → SpelledBy (SpelledIn rule n) short_spec l w x
short_in n l w x (inl (f, r, cut, st, (y, (f2, r2, cut2, sq, s), e))) = (f, r, cut, st, (y, (f2, r2, cut2, sq, inr s), e))
short_in n l w x (inr (f, r, cut, st, (y, (f2, r2, cut2, sq, s), e))) = (f, r, cut, st, (y, (f2, r2, cut2, sq, inl s), e))

pub short_specs_agree : (l : Limits) (w : List Lexeme) (x : Lexeme × Body) → (SpelledByForm short_spec l w x → SpelledByForm printed_short_spec l w x) × (SpelledByForm printed_short_spec l w x → SpelledByForm short_spec l w x)
short_specs_agree l w x = (λ s. (s.0, short_out s.0 l w x s.1), λ s. (s.0, short_in s.0 l w x s.1))

spec_out : (n : ℕ) (l : Limits) (w : List Lexeme) (x : Lexeme × Body) → SpelledBy (SpelledIn rule n) class_spec l w x → SpelledBy (SpelledIn rule n) printed_class_spec l w x
spec_out n l w x (inl s) = inr (inl s)
spec_out n l w x (inr (inl (f, r, cut, st, (y, (f2, r2, cut2, sq, inl s), e)))) = inr (inr (inr (f, r, cut, st, (y, (f2, r2, cut2, sq, s), e))))
spec_out n l w x (inr (inl (f, r, cut, st, (y, (f2, r2, cut2, sq, inr s), e)))) = inr (inr (inl (short_out n l w x (f, r, cut, st, (y, (f2, r2, cut2, sq, s), e)))))
spec_out n l w x (inr (inr s)) = inl s

spec_in : (n : ℕ) (l : Limits) (w : List Lexeme) (x : Lexeme × Body) → SpelledBy (SpelledIn rule n) printed_class_spec l w x → SpelledBy (SpelledIn rule n) class_spec l w x
spec_in n l w x (inl s) = inr (inr s)
spec_in n l w x (inr (inl s)) = inl s
spec_in n l w x (inr (inr (inl (inl (f, r, cut, st, (y, (f2, r2, cut2, sq, s), e)))))) = inr (inl (f, r, cut, st, (y, (f2, r2, cut2, sq, inr (inr s)), e)))
spec_in n l w x (inr (inr (inl (inr (f, r, cut, st, (y, (f2, r2, cut2, sq, s), e)))))) = inr (inl (f, r, cut, st, (y, (f2, r2, cut2, sq, inr (inl s)), e)))
spec_in n l w x (inr (inr (inr (f, r, cut, st, (y, (f2, r2, cut2, sq, s), e))))) = inr (inl (f, r, cut, st, (y, (f2, r2, cut2, sq, inl s), e)))

pub class_specs_agree : (l : Limits) (w : List Lexeme) (x : Lexeme × Body) → (SpelledByForm class_spec l w x → SpelledByForm printed_class_spec l w x) × (SpelledByForm printed_class_spec l w x → SpelledByForm class_spec l w x)
class_specs_agree l w x = (λ s. (s.0, spec_out s.0 l w x s.1), λ s. (s.0, spec_in s.0 l w x s.1))

-- ---- external calls

pub external_out : (n : ℕ) (l : Limits) (w : List Lexeme) (x : Unit {0}) → SpelledBy (SpelledIn rule n) external_call l w x → SpelledBy (SpelledIn rule n) printed_external_call l w x
external_out n l w x (inl (y, s, e)) = ((None, y), ([], w, refl, inr (refl, refl), s), e)
external_out n l w x (inr ((r, z), (f, rest, cut, sr, ((q, y), (f2, r2, cut2, sq, s), e1)), e)) =
    ((Some r, y), (f ++ f2, r2, cut ∙ ap (λ v. f ++ v) cut2 ∙ sym (append_assoc f f2 r2), inl (r, ((r, q), (f, f2, refl, sr, sq), refl), refl), s), e)

pub external_in : (n : ℕ) (l : Limits) (w : List Lexeme) (x : Unit {0}) → SpelledBy (SpelledIn rule n) printed_external_call l w x → SpelledBy (SpelledIn rule n) external_call l w x
external_in n l w x ((o, y), (f, rest, cut, inr none, s), e) = inl (y, subst (λ v. SpelledBy (SpelledIn rule n) (seq (token (ident ∷ [])) external_arguments) l v y) (sym (cut ∙ ap (λ v. v ++ rest) none.0)) s, e)
external_in n l w x ((o, y), (f, rest, cut, inl (r, ((r', q), (fr, fq, cut2, sr, sq), e2), e1), s), e) =
    inr ((r', y), (fr, fq ++ rest, cut ∙ ap (λ v. v ++ rest) cut2 ∙ append_assoc fr fq rest, sr, ((q, y), (fq, rest, refl, sq, s), refl)), e)

pub external_calls_agree : (l : Limits) (w : List Lexeme) (x : Unit {0}) → (SpelledByForm external_call l w x → SpelledByForm printed_external_call l w x) × (SpelledByForm printed_external_call l w x → SpelledByForm external_call l w x)
external_calls_agree l w x = (λ s. (s.0, external_out s.0 l w x s.1), λ s. (s.0, external_in s.0 l w x s.1))
