-- A phase that goes on file by file.
use Rattle.std.proofs.Common.{◌≡◌, ◌<◌, ◌+◌, ℕ, zero, suc, List, [], ◌∷◌, ◌++◌, map, length, drop, get_or, Result, Ok, Err, All, refl, ap, sym, ◌∙◌, subst, append_assoc, append-nil, arith}
use Rattle.std.proofs.lemmas.List.{drop_more, map-append}
use Rattle.std.proofs.lemmas.List.Elements.{All-append}
use Rattle.mo_syntax.specs.Outcome.{IfBroken}
use Rattle.mo_syntax.specs.declared.place.Broken.{Broken}
use Rattle.mo_syntax.specs.declared.place.Stop.{Stop}
use Rattle.mo_syntax.specs.declared.place.Stop.TheVariants.{Broken as broken_by, NoMemory as no_memory}
use Rattle.mo_syntax.specs.Lexeme.{Lexeme}
use Rattle.mo_lexer.specs.Lexing.{Lexes, end_of}
use Rattle.mo_parse_class.specs.WholeFiles.{EndsAtEnd, IsAtImpossible, IsFirstImpossible}
use Rattle.mo_front.specs.Files.{Each, none, broken, given, later}
use Rattle.mo_front.specs.steps.Loading.{More}
use Rattle.mo_syntax.specs.declared.rules.TheConstants.{FILE_TOO_LONG}

module _ {A B : Type 0} (gives : ℕ → A → B → Type 0) (breaks : ℕ → A → Broken → Type 0) where
  pub more_given : (all : List A) (gathered new : List B) (k next : ℕ) (x : A) (rest after : List A) (y : B) → More gives breaks all gathered k rest → rest ≡ x ∷ after → gives k x y
      → new ≡ gathered ++ y ∷ [] → next ≡ k + 1 → More gives breaks all new next after
  more_given all gathered new k next x rest after y more is gave pushed one = rw (pushed, one) go
    where
      go : More gives breaks all (gathered ++ y ∷ []) (k + 1) after
      go (Ok ys) e = subst (λ (zs : List B). Each gives breaks FILE_TOO_LONG all (Ok zs)) (sym (append_assoc gathered (y ∷ []) ys)) (more (Ok (y ∷ ys)) (rw is (given gave e)))
      go (Err b) e = more (Err b) (rw is (later y gave e))

  pub more_broken : (all : List A) (gathered : List B) (k : ℕ) (x : A) (rest after : List A) (b : Broken) → More gives breaks all gathered k rest → rest ≡ x ∷ after → breaks k x b → Each gives breaks FILE_TOO_LONG all (Err b)
  more_broken all gathered k x rest after b more is breaks_it = more (Err b) (rw is (broken breaks_it))

  pub more_ended : (all : List A) (gathered : List B) (k : ℕ) (rest : List A) → More gives breaks all gathered k rest → rest ≡ [] → Each gives breaks FILE_TOO_LONG all (Ok gathered)
  more_ended all gathered k rest more is = subst (λ (zs : List B). Each gives breaks FILE_TOO_LONG all (Ok zs)) (append-nil gathered) (more (Ok []) (rw is none))

pub refused_as : {T : Type 0} (U : Type 0) (r : Result T Stop) (s : Stop) (P Q : Broken → Type 0) → r ≡ Err s → IfBroken r P → ((b : Broken) → P b → Q b) → IfBroken {T = U} (Err s) Q
refused_as {T} U r s P Q is p f = at s (rw is at p)
  where
    at : (s : Stop) → IfBroken {T = T} (Err s) P → IfBroken {T = U} (Err s) Q
    at (broken_by b) p = f b p
    at no_memory p = tt

pub map_more : {A B : Type 0} (f : A → B) (xs new : List A) (x : A) → new ≡ xs ++ x ∷ [] → map f new ≡ map f xs ++ f x ∷ []
map_more f xs new x pushed = ap (map f) pushed ∙ map-append f xs (x ∷ [])

pub lexed_ended : (file : ℕ) (text : List ℕ) (tokens : List Lexeme) → Lexes file text tokens → EndsAtEnd tokens
lexed_ended file text tokens l = record { front = l.before_end; last = end_of file text; parts = l.closed; is_end = refl }

pub impossible_as : (U : Type 0) (tokens : List Lexeme) (s : Stop) (Q : Broken → Type 0) → IsFirstImpossible tokens s → ((b : Broken) → IsAtImpossible tokens b → Q b) → IfBroken {T = U} (Err s) Q
impossible_as U tokens (broken_by b) Q p f = f b p
impossible_as U tokens no_memory Q p f = tt

-- the first of all values is among what was gathered before none
pub more_start : {A B : Type 0} (gives : ℕ → A → B → Type 0) (breaks : ℕ → A → Broken → Type 0) (all : List A) → More gives breaks all [] 1 all
more_start gives breaks all (Ok ys) e = e
more_start gives breaks all (Err b) e = e

-- what is left of a list begins with the element at that place
pub at_front : {X : Type 0} (xs : List X) (i : ℕ) (x : X) → i < length xs → x ≡ get_or xs i x → drop i xs ≡ x ∷ drop (i + 1) xs
at_front xs i x within is = drop_more xs i x within ∙ ap (λ y. y ∷ drop (i + 1) xs) (sym is)

alone : {X : Type 0} (P : X → Type 0) (x : X) → P x → All P (x ∷ [])
alone P x holds zero d within = holds
alone P x holds (suc k) d within = absurd (omega (arith, within))

-- one more element of which a fact holds
pub all_more : {X : Type 0} (P : X → Type 0) (xs new : List X) (x : X) → new ≡ xs ++ x ∷ [] → All P xs → P x → All P new
all_more P xs new x pushed all holds = rw pushed (All-append P xs (x ∷ []) all (alone P x holds))
