-- The kind of a class, as it is printed and as it is read.
use Rattle.std.proofs.Common.{◌≡◌, ◌==◌, ◌⊎◌, ℕ, true, false, List, [], ◌∷◌, ◌++◌, inl, inr, Some, None, if◌then◌else◌, refl, sym, ap, ◌∙◌, append-nil}
use Rattle.mo_syntax.specs.declared.class.ClassKind.{ClassKind}
use Rattle.mo_syntax.specs.declared.class.ClassKind.TheVariants.{Plain, Model, Block, Recd, Connector, TypeDef, Package, Function}
use Rattle.mo_grammar.specs.Lexeme.{Lexeme, code_of}
use Rattle.mo_grammar.specs.Codes.{class_word, model_word, operator_word, record_word, block_word, expandable_word, connector_word, type_word, package_word, pure_word, impure_word, function_word}
use Rattle.mo_grammar.specs.Grammar.{Limits, token, seq, either, made, has, SpelledBy, SpelledIn}
use Rattle.mo_grammar.specs.Forms.{optional, flag, behind}
use Rattle.mo_grammar.specs.ClassTrees.{Kinded, kinded, kind_of, one_word_kind, expandable_kind, pure_kind, operator_or}
use Rattle.mo_grammar.specs.Symbols.{Form}
use Rattle.mo_grammar.specs.Classes.{class_prefixes}
use Rattle.mo_grammar.specs.Printed.{operator_before, connector_prefix, function_prefix, operator_alone, printed_class_prefixes}
use Rattle.mo_grammar.specs.Productions.{rule}
use Rattle.mo_grammar.specs.Language.{SpelledByForm}
use Rattle.mo_grammar.proofs.Codes.{one_of, or_left, or_right, covers_lem, has_one}

-- ---- the codes of the words

-- a code of the one list or the other
has_split : (xs ys : List ℕ) (c : ℕ) → has (xs ++ ys) c ≡ true → (has xs c ≡ true) ⊎ (has ys c ≡ true)
has_split [] ys c e = inr e
has_split (x ∷ xs) ys c e =
    elim (one_of (x == c) (has (xs ++ ys) c) e) [
      | inl same ↦ inl (or_left (x == c) (has xs c) same)
      | inr more ↦ elim (has_split xs ys c more) [
        | inl h ↦ inl (or_right (x == c) (has xs c) h)
        | inr h ↦ inr h
      ]
    ]

abbrev words : List ℕ
words = class_word ∷ model_word ∷ record_word ∷ block_word ∷ connector_word ∷ type_word ∷ package_word ∷ function_word ∷ []

-- those that no other word stands before
abbrev alone : List ℕ
alone = class_word ∷ model_word ∷ block_word ∷ type_word ∷ package_word ∷ []

abbrev kind_by_code : ℕ → ClassKind
kind_by_code c =
    if c == model_word then Model else (if c == block_word then Block else (if c == record_word then Recd
    else (if c == connector_word then Connector else (if c == type_word then TypeDef else (if c == package_word then Package
    else (if c == function_word then Function else Plain))))))

connector_kind : (t : Lexeme) → has (connector_word ∷ []) (code_of t) ≡ true → kind_of t ≡ Connector
connector_kind t h = ap kind_by_code (sym (has_one connector_word (code_of t) h))

function_kind : (t : Lexeme) → has (function_word ∷ []) (code_of t) ≡ true → kind_of t ≡ Function
function_kind t h = ap kind_by_code (sym (has_one function_word (code_of t) h))

-- ---- what stands behind `partial`

abbrev read_kind : Form Kinded
read_kind =
    either (made one_word_kind (token words))
    (either (made expandable_kind (behind expandable_word (token (connector_word ∷ []))))
    (either (made pure_kind (seq (token (pure_word ∷ impure_word ∷ [])) (seq (flag operator_word) (token (function_word ∷ [])))))
    (made operator_or (behind operator_word (optional (token (record_word ∷ function_word ∷ [])))))))

abbrev printed_kind : Form Kinded
printed_kind =
    either (made one_word_kind (token alone))
    (either (made operator_before (seq (flag operator_word) (token (record_word ∷ []))))
    (either (made connector_prefix (seq (flag expandable_word) (token (connector_word ∷ []))))
    (either (made function_prefix (seq (optional (token (pure_word ∷ impure_word ∷ []))) (seq (flag operator_word) (token (function_word ∷ [])))))
    (made operator_alone (token (operator_word ∷ []))))))

one_word_out : (n : ℕ) (l : Limits) (w : List Lexeme) (x : Kinded) (t : Lexeme) → w ≡ t ∷ [] → has words (code_of t) ≡ true → one_word_kind t ≡ x → SpelledBy (SpelledIn rule n) printed_kind l w x
one_word_out n l w x t shape code e = go (has_split alone (record_word ∷ connector_word ∷ function_word ∷ []) (code_of t) (covers_lem (alone ++ (record_word ∷ connector_word ∷ function_word ∷ [])) words (code_of t) refl code))
  where
    last : (has (connector_word ∷ []) (code_of t) ≡ true) ⊎ (has (function_word ∷ []) (code_of t) ≡ true) → SpelledBy (SpelledIn rule n) printed_kind l w x
    last (inl h) = inr (inr (inl ((false, t), ([], w, refl, inr (refl, refl), (shape, h)), sym (ap (λ v. kinded v false false None) (connector_kind t h)) ∙ e)))
    last (inr h) = inr (inr (inr (inl ((None, (false, t)), ([], w, refl, inr (refl, refl), ([], w, refl, inr (refl, refl), (shape, h))), sym (ap (λ v. kinded v false false None) (function_kind t h)) ∙ e))))

    go : (has alone (code_of t) ≡ true) ⊎ (has (record_word ∷ connector_word ∷ function_word ∷ []) (code_of t) ≡ true) → SpelledBy (SpelledIn rule n) printed_kind l w x
    go (inl h) = inl (t, (shape, h), e)
    go (inr h) = elim (has_split (record_word ∷ []) (connector_word ∷ function_word ∷ []) (code_of t) h) [
      | inl r ↦ inr (inl ((false, t), ([], w, refl, inr (refl, refl), (shape, r)), e))
      | inr r ↦ last (has_split (connector_word ∷ []) (function_word ∷ []) (code_of t) r)
    ]

kind_out : (n : ℕ) (l : Limits) (w : List Lexeme) (x : Kinded) → SpelledBy (SpelledIn rule n) read_kind l w x → SpelledBy (SpelledIn rule n) printed_kind l w x
kind_out n l w x (inl (t, (shape, code), e)) = one_word_out n l w x t shape code e
kind_out n l w x (inr (inl (t, ((c, u), (f, r, cut, sc, su), e1), e))) = inr (inr (inl ((true, u), (f, r, cut, inl (c, sc, refl), su), e)))
kind_out n l w x (inr (inr (inl ((t, (o, u)), (f, r, cut, st, s), e)))) = inr (inr (inr (inl ((Some t, (o, u)), (f, r, cut, inl (t, st, refl), s), e))))
kind_out n l w x (inr (inr (inr (o, ((c, None), (f, r, cut, sc, inr none), e1), e)))) =
    inr (inr (inr (inr (c, (cut ∙ ap (λ v. v ++ r) sc.0 ∙ ap (λ v. c ∷ v) none.0, sc.1), ap operator_or e1 ∙ e))))
kind_out n l w x (inr (inr (inr (o, ((c, None), (f, r, cut, sc, inl some), e1), e)))) = let clash = some.2 in cc
kind_out n l w x (inr (inr (inr (o, ((c, Some u), (f, r, cut, sc, inr none), e1), e)))) = let clash = none.1 in cc
kind_out n l w x (inr (inr (inr (o, ((c, Some u), (f, r, cut, sc, inl (t, (shape, code), same)), e1), e)))) = go (has_split (record_word ∷ []) (function_word ∷ []) (code_of t) code)
  where
    go : (has (record_word ∷ []) (code_of t) ≡ true) ⊎ (has (function_word ∷ []) (code_of t) ≡ true) → SpelledBy (SpelledIn rule n) printed_kind l w x
    go (inl h) = inr (inl ((true, t), (f, r, cut, inl (c, sc, refl), (shape, h)), ap operator_or (same ∙ e1) ∙ e))
    go (inr h) =
        inr (inr (inr (inl ((None, (true, t)), ([], w, refl, inr (refl, refl), (f, r, cut, inl (c, sc, refl), (shape, h))), sym (ap (λ v. kinded v true false None) (function_kind t h)) ∙ ap operator_or (same ∙ e1) ∙ e))))

kind_in : (n : ℕ) (l : Limits) (w : List Lexeme) (x : Kinded) → SpelledBy (SpelledIn rule n) printed_kind l w x → SpelledBy (SpelledIn rule n) read_kind l w x
kind_in n l w x (inl (t, (shape, code), e)) = inl (t, (shape, covers_lem words alone (code_of t) refl code), e)
kind_in n l w x (inr (inl ((o, t), (f, r, cut, inl (c, sc, p), (shape, code)), e))) =
    inr (inr (inr (Some t, ((c, Some t), (f, r, cut, sc, inl (t, (shape, covers_lem (record_word ∷ function_word ∷ []) (record_word ∷ []) (code_of t) refl code), refl)), refl), ap (λ v. operator_before (v, t)) p ∙ e)))
kind_in n l w x (inr (inl ((o, t), (f, r, cut, inr none, (shape, code)), e))) =
    inl (t, (cut ∙ ap (λ v. v ++ r) none.0 ∙ shape, covers_lem words (record_word ∷ []) (code_of t) refl code), ap (λ v. operator_before (v, t)) none.1 ∙ e)
kind_in n l w x (inr (inr (inl ((o, t), (f, r, cut, inl (c, sc, p), st), e)))) = inr (inl (t, ((c, t), (f, r, cut, sc, st), refl), ap (λ v. connector_prefix (v, t)) p ∙ e))
kind_in n l w x (inr (inr (inl ((o, t), (f, r, cut, inr none, (shape, code)), e)))) =
    inl (t, (cut ∙ ap (λ v. v ++ r) none.0 ∙ shape, covers_lem words (connector_word ∷ []) (code_of t) refl code), ap (λ v. kinded v false false None) (connector_kind t code) ∙ ap (λ v. connector_prefix (v, t)) none.1 ∙ e)
kind_in n l w x (inr (inr (inr (inl ((u, (o, t)), (f, r, cut, inl (p, sp, same), s), e))))) = inr (inr (inl ((p, (o, t)), (f, r, cut, sp, s), ap (λ v. function_prefix (v, (o, t))) same ∙ e)))
kind_in n l w x (inr (inr (inr (inl ((u, (o, t)), (f, r, cut, inr none, (f2, r2, cut2, inl (c, sc, p), (shape, code))), e))))) =
    inr (inr (inr (
      Some t,
      ((c, Some t), (f2, r2, cut ∙ ap (λ v. v ++ r) none.0 ∙ cut2, sc, inl (t, (shape, covers_lem (record_word ∷ function_word ∷ []) (function_word ∷ []) (code_of t) refl code), refl)), refl),
      ap (λ v. kinded v true false None) (function_kind t code) ∙ ap (λ v. function_prefix (None, (v, t))) p ∙ ap (λ v. function_prefix (v, (o, t))) none.1 ∙ e,
    )))
kind_in n l w x (inr (inr (inr (inl ((u, (o, t)), (f, r, cut, inr none, (f2, r2, cut2, inr none2, (shape, code))), e))))) =
    inl (
      t,
      (cut ∙ ap (λ v. v ++ r) none.0 ∙ cut2 ∙ ap (λ v. v ++ r2) none2.0 ∙ shape, covers_lem words (function_word ∷ []) (code_of t) refl code),
      ap (λ v. kinded v false false None) (function_kind t code) ∙ ap (λ v. function_prefix (None, (v, t))) none2.1 ∙ ap (λ v. function_prefix (v, (o, t))) none.1 ∙ e,
    )
kind_in n l w x (inr (inr (inr (inr (c, s, e))))) = inr (inr (inr (None, ((c, None), (w, [], sym (append-nil w), s, inr (refl, refl)), refl), e)))

-- ---- with `partial`

pub class_prefixes_agree : (l : Limits) (w : List Lexeme) (x : Kinded) → (SpelledByForm class_prefixes l w x → SpelledByForm printed_class_prefixes l w x) × (SpelledByForm printed_class_prefixes l w x → SpelledByForm class_prefixes l w x)
class_prefixes_agree l w x = (λ s. (s.0, out s.0 s.1), λ s. (s.0, back s.0 s.1))
  where
    out : (n : ℕ) → SpelledBy (SpelledIn rule n) class_prefixes l w x → SpelledBy (SpelledIn rule n) printed_class_prefixes l w x
    out n ((p, k), (f, r, cut, sp, s), e) = ((p, k), (f, r, cut, sp, kind_out n l r k s), e)

    back : (n : ℕ) → SpelledBy (SpelledIn rule n) printed_class_prefixes l w x → SpelledBy (SpelledIn rule n) class_prefixes l w x
    back n ((p, k), (f, r, cut, sp, s), e) = ((p, k), (f, r, cut, sp, kind_in n l r k s), e)
