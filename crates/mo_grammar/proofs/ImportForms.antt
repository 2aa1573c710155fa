-- The name of an import and what is taken from it, as they are printed and as they are read.
use Rattle.std.proofs.Common.{◌≡◌, ℕ, zero, suc, List, [], ◌∷◌, ◌++◌, inl, inr, Option, Some, None, refl, sym, ap, subst, ◌∙◌, append_assoc, append-nil}
use Rattle.mo_grammar.specs.Lexeme.{Lexeme}
use Rattle.mo_grammar.specs.Codes.{ident, dot}
use Rattle.mo_grammar.specs.Grammar.{Limits, token, SpelledBy, SpelledEach, SpelledIn}
use Rattle.mo_grammar.specs.Forms.{behind, optional}
use Rattle.mo_grammar.specs.ClassTrees.{Imported, imported}
use Rattle.mo_grammar.specs.Symbols.{Form, ImportNames}
use Rattle.mo_grammar.specs.Classes.{printed_taken, printed_import}
use Rattle.mo_grammar.specs.Productions.{rule}
use Rattle.mo_grammar.specs.Language.{Spells, SpelledByForm}

abbrev name_token : Form Lexeme
name_token = token (ident ∷ [])

-- an identifier and a dot in front
name_first : (h : ℕ) (l : Limits) (f fd rest : List Lexeme) (t d : Lexeme) (x : Imported) → SpelledBy (SpelledIn rule h) name_token l f t → SpelledBy (SpelledIn rule h) (token (dot ∷ [])) l fd d → SpelledBy (SpelledIn rule h) printed_import l rest x → SpelledBy (SpelledIn rule h) printed_import l (f ++ (fd ++ rest)) (t ∷ x.0, x.1)
name_first h l f fd rest t d x st sd (fn, rn, cut, ((u, more), (fu, ru, cutu, su, sm), e), so) = (
  f ++ (fd ++ fn),
  rn,
  ap (λ v. f ++ (fd ++ v)) cut ∙ ap (λ v. f ++ v) (sym (append_assoc fd fn rn)) ∙ sym (append_assoc f (fd ++ fn) rn),
  ((t, u ∷ more), (f, fd ++ fn, refl, st, (fd ++ fu, ru, ap (λ v. fd ++ v) cutu ∙ sym (append_assoc fd fu ru), ((d, u), (fd, fu, refl, sd, su), refl), sm)), ap (λ v. t ∷ v) e),
  so,
)

import_printed : (n : ℕ) (l : Limits) (w : List Lexeme) (x : Imported) → SpelledIn rule n ImportNames l w x → SpelledByForm printed_import l w x
unfolding rule
import_printed zero l w x s = absurd s
import_printed (suc n) l w x ((t, None), (f, r, cut, st, inr none), e) =
    (n, subst (SpelledBy (SpelledIn rule n) printed_import l w) e (f, r, cut, ((t, []), (f, [], sym (append-nil f), st, refl), refl), inr (none.0, refl)))
import_printed (suc n) l w x ((t, None), (f, r, cut, st, inl some), e) = let clash = some.2 in cc
import_printed (suc n) l w x ((t, Some y), (f, r, cut, st, inr none), e) = let clash = none.1 in cc
import_printed (suc n) l w x ((t, Some y), (f, r, cut, st, inl (z, inl (all, sa, ea), ez)), e) =
    let same : z ≡ y = cc in (
      n,
      subst (SpelledBy (SpelledIn rule n) printed_import l w) (ap (λ v. imported (t, Some v)) (ea ∙ same) ∙ e)
          (f, r, cut, ((t, []), (f, [], sym (append-nil f), st, refl), refl), inl (None, inl (all, sa, refl), refl)),
    )
import_printed (suc n) l w x ((t, Some y), (f, r, cut, st, inl (z, inr ((d, v), (fd, rd, cutd, sd, inl (all, sa, ea)), ev), ez)), e) =
    let same : z ≡ y = cc in (
      n,
      subst (SpelledBy (SpelledIn rule n) printed_import l w) (ap (λ v. imported (t, Some v)) (ea ∙ ev ∙ same) ∙ e)
          (f, r, cut, ((t, []), (f, [], sym (append-nil f), st, refl), refl), inl (None, inr ((d, None), (fd, rd, cutd, sd, inl (all, sa, refl)), refl), refl)),
    )
import_printed (suc n) l w x ((t, Some y), (f, r, cut, st, inl (z, inr ((d, v), (fd, rd, cutd, sd, inr (inl (group, sg, eg))), ev), ez)), e) =
    let same : z ≡ y = cc in (
      n,
      subst (SpelledBy (SpelledIn rule n) printed_import l w) (ap (λ v. imported (t, Some v)) (eg ∙ ev ∙ same) ∙ e)
          (f, r, cut, ((t, []), (f, [], sym (append-nil f), st, refl), refl), inl (Some group, inr ((d, Some group), (fd, rd, cutd, sd, inr (group, sg, refl)), refl), refl)),
    )
import_printed (suc n) l w x ((t, Some y), (f, r, cut, st, inl (z, inr ((d, v), (fd, rd, cutd, sd, inr (inr sv)), ev), ez)), e) =
    let same : z ≡ y = cc in
    let ih = import_printed n l rd v sv in (
      ih.0,
      subst (λ u. SpelledBy (SpelledIn rule ih.0) printed_import l u x) (sym (cut ∙ ap (λ u. f ++ u) cutd))
          (subst (SpelledBy (SpelledIn rule ih.0) printed_import l (f ++ (fd ++ rd))) (ap (λ v. imported (t, Some v)) (ev ∙ same) ∙ e) (name_first ih.0 l f fd rd t d v st sd ih.1)),
    )

import_read : (n : ℕ) (l : Limits) (more : List Lexeme) (f r rest : List Lexeme) (t : Lexeme) (taken : Option (Option (List Lexeme))) → SpelledBy (SpelledIn rule n) name_token l f t → SpelledEach (SpelledBy (SpelledIn rule n) (behind dot name_token) l) r more → SpelledBy (SpelledIn rule n) (optional printed_taken) l rest taken → Spells ImportNames l (f ++ (r ++ rest)) (t ∷ more, taken)
unfolding rule
import_read n l [] f r rest t None st none (inr last) = (suc n, ((t, None), (f, r ++ rest, refl, st, inr (ap (λ v. v ++ rest) none ∙ last.0, refl)), refl))
import_read n l [] f r rest t None st none (inl some) = let clash = some.2 in cc
import_read n l [] f r rest t (Some x) st none (inr last) = let clash = last.1 in cc
import_read n l [] f r rest t (Some x) st none (inl (y, inl (all, sa, ea), ey)) =
    let same : y ≡ x = cc in
    (suc n, ((t, Some ([], Some None)), (f, r ++ rest, refl, st, inl (([], Some None), inl (all, subst (λ v. SpelledBy (SpelledIn rule n) (token (Rattle.mo_grammar.specs.Codes.dot_times ∷ [])) l v all) (sym (ap (λ v. v ++ rest) none)) sa, refl), refl)), ap (λ v. let out : Imported = (t ∷ [], Some v) in out) (ea ∙ same)))
import_read n l [] f r rest t (Some x) st none (inl (y, inr ((d, z), (fd, rd, cutd, sd, inl (all, sa, ea)), ez), ey)) =
    let same : y ≡ x = cc in
    (suc n, ((t, Some ([], Some None)), (f, r ++ rest, refl, st, inl (([], Some None), inr ((d, ([], Some None)), (fd, rd, ap (λ v. v ++ rest) none ∙ cutd, sd, inl (all, sa, refl)), refl), refl)), ap (λ v. let out : Imported = (t ∷ [], Some v) in out) (ea ∙ ez ∙ same)))
import_read n l [] f r rest t (Some x) st none (inl (y, inr ((d, z), (fd, rd, cutd, sd, inr (group, sg, eg)), ez), ey)) =
    let same : y ≡ x = cc in
    (suc n, ((t, Some ([], Some (Some group))), (f, r ++ rest, refl, st, inl (([], Some (Some group)), inr ((d, ([], Some (Some group))), (fd, rd, ap (λ v. v ++ rest) none ∙ cutd, sd, inr (inl (group, sg, refl))), refl), refl)), ap (λ v. let out : Imported = (t ∷ [], Some v) in out) (eg ∙ ez ∙ same)))
import_read n l (u ∷ more) f r rest t taken st (front, others, cut, ((d, v), (fd, fu, cutd, sd, su), e), sm) so =
    let ih = import_read n l more fu others rest u taken (subst (SpelledBy (SpelledIn rule n) name_token l fu) e su) sm so in (
      suc ih.0,
      (
        (t, Some (u ∷ more, taken)),
        (
          f,
          r ++ rest,
          refl,
          st,
          inl ((u ∷ more, taken), inr ((d, (u ∷ more, taken)), (fd, fu ++ (others ++ rest), ap (λ v. v ++ rest) (cut ∙ ap (λ v. v ++ others) cutd ∙ append_assoc fd fu others) ∙ append_assoc fd (fu ++ others) rest ∙ ap (λ v. fd ++ v) (append_assoc fu others rest), sd, inr (inr ih.1)), refl), refl),
        ),
        refl,
      ),
    )

pub imports_agree : (l : Limits) (w : List Lexeme) (x : Imported) → (Spells ImportNames l w x → SpelledByForm printed_import l w x) × (SpelledByForm printed_import l w x → Spells ImportNames l w x)
imports_agree l w x = (λ s. import_printed s.0 l w x s.1, λ s. back s.0 s.1)
  where
    back : (n : ℕ) → SpelledBy (SpelledIn rule n) printed_import l w x → Spells ImportNames l w x
    back n (fn, rest, cut, ((t, more), (f, r, cut2, st, sm), e), so) =
        subst (λ v. Spells ImportNames l v x) (sym (cut ∙ ap (λ v. v ++ rest) cut2 ∙ append_assoc f r rest))
        (subst (λ v. Spells ImportNames l (f ++ (r ++ rest)) (v, x.1)) e (import_read n l more f r rest t x.1 st sm so))
