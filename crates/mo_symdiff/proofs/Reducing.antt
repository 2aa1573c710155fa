-- The lines of the reduced model, gathered one by one, and the room that they take.
use Rattle.std.proofs.Common.{◌≡◌, ℕ, zero, suc, ◌+◌, ◌-◌, ◌<◌, ◌≤◌, List, [], ◌∷◌, ◌++◌, drop, get_or, length, refl, ap, ◌∙◌, sym, arith, append_assoc, add-one, inl, inr}
use Rattle.std.specs.Prelude.{◌^◌, min, IfOk, MatchOption, Result, Ok, Err, Option, Some, None, codes, flat_map, if◌then◌else◌, sum_by}
use Rattle.std.proofs.lemmas.List.{append-nil, drop_all, length-append}
use Rattle.std.proofs.lemmas.List.Sums.{sum_by-cons, sum_by-append}
use Rattle.std.proofs.Math.Seq.{drop-cons}
use Rattle.mo_syntax.specs.declared.place.Place.{Place}
use Rattle.mo_flat.specs.declared.model.FlatVar.{FlatVar}
use Rattle.mo_flat.specs.declared.model.FlatEquation.{FlatEquation}
use Rattle.mo_flat.specs.declared.model.FlatModel.{FlatModel}
use Rattle.mo_flat.specs.Text.{equation_line}
use Rattle.mo_symdiff.specs.Reduced.{bytes_at, bytes_of, carried_equation, derivatives, derived_equation, differentiates_given, first_given, nodes_at, nodes_of, IsWithin, reduced_lines, reduced_text}
use Rattle.mo_symdiff.specs.steps.Room.{IsPaid, IsShort}

-- one more line of an equation
pub line_turn : (vars : List FlatVar) (count k : ℕ) (made made2 all : List FlatEquation) (line next : FlatEquation) → k < count →
    made ++ derivatives vars (count - k) line ≡ all → made2 ≡ made ++ line ∷ [] → next ≡ derived_equation vars line → made2 ++ derivatives vars (count - (k + 1)) next ≡ all
line_turn vars count k made made2 all line next l h m n =
    let less : count - k ≡ suc (count - (k + 1)) = omega arith in
    let opens : made ++ line ∷ derivatives vars (count - (k + 1)) (derived_equation vars line) ≡ all = ap (λ j. made ++ derivatives vars j line) (sym less) ∙ h in
    ap (λ q. made2 ++ derivatives vars (count - (k + 1)) q) n ∙ ap (λ ms. ms ++ derivatives vars (count - (k + 1)) (derived_equation vars line)) m ∙ append_assoc made (line ∷ []) _ ∙ opens

-- the last line of an equation
pub last_line : (vars : List FlatVar) (count k : ℕ) (made all : List FlatEquation) (line : FlatEquation) → k ≡ count →
    made ++ derivatives vars (count - k) line ≡ all → made ++ line ∷ [] ≡ all
last_line vars count k made all line l h =
    let none : count - k ≡ 0 = omega arith in
    ap (λ j. made ++ derivatives vars j line) (sym none) ∙ h

-- there is a line, and more behind it
pub line_first : (vars : List FlatVar) (n : ℕ) (line : FlatEquation) → (more : List FlatEquation) × (derivatives vars n line ≡ line ∷ more)
line_first vars zero line = ([], refl)
line_first vars (suc n) line = (derivatives vars n (derived_equation vars line), refl)

-- the cost of one more part
pub cost_turn : {A : Type 0} (cost : A → ℕ) (made made2 : List A) (x : A) (room left rest : ℕ) →
    left + sum_by cost made ≡ room → rest + cost x ≡ left → made2 ≡ made ++ x ∷ [] → rest + sum_by cost made2 ≡ room
cost_turn cost made made2 x room left rest h k m =
    let all : sum_by cost made2 ≡ sum_by cost made + sum_by cost (x ∷ []) = ap (sum_by cost) m ∙ sum_by-append cost made (x ∷ []) in
    let one : sum_by cost (x ∷ []) ≡ cost x + 0 = sum_by-cons cost x [] in
    rw (all, one) (omega (arith, h, k))

-- the cost of one more part, which is known by what it is
pub cost_next : {A : Type 0} (cost : A → ℕ) (made made2 : List A) (x whole : A) (room left rest : ℕ) →
    left + sum_by cost made ≡ room → rest + cost whole ≡ left → x ≡ whole → made2 ≡ made ++ x ∷ [] → rest + sum_by cost made2 ≡ room
cost_next cost made made2 x whole room left rest h k is m =
    let paid : rest + cost x ≡ left = ap (λ y. rest + cost y) is ∙ k in
    cost_turn cost made made2 x room left rest h paid m

-- what is put into an empty list
pub into_empty : {A : Type 0} (first made lines : List A) → first ≡ [] → made ≡ first ++ lines → made ≡ lines
into_empty first made lines h is = is ∙ ap (λ ls. ls ++ lines) h

-- a part that costs more than is left
over : {A : Type 0} (cost : A → ℕ) (first made more all : List A) (x : A) (room left : ℕ) →
    made ++ x ∷ more ≡ first ++ all → left + sum_by cost made ≡ room + sum_by cost first → left < cost x → room < sum_by cost all
over cost first made more all x room left is h l =
    let halves : sum_by cost made + sum_by cost (x ∷ more) ≡ sum_by cost first + sum_by cost all = sym (sum_by-append cost made (x ∷ more)) ∙ ap (sum_by cost) is ∙ sum_by-append cost first all in
    let front : sum_by cost (x ∷ more) ≡ cost x + sum_by cost more = sum_by-cons cost x more in
    omega (arith, h, halves, front, l)

pub short_within : {A : Type 0} (nodes bytes : A → ℕ) (first made more all : List A) (x : A) (rn rb ln lb : ℕ) →
    made ++ x ∷ more ≡ first ++ all → ln + sum_by nodes made ≡ rn + sum_by nodes first → lb + sum_by bytes made ≡ rb + sum_by bytes first → IsShort ln lb (nodes x) (bytes x) → IsShort rn rb (sum_by nodes all) (sum_by bytes all)
short_within nodes bytes first made more all x rn rb ln lb is hn hb (inl l) = inl (over nodes first made more all x rn ln is hn l)
short_within nodes bytes first made more all x rn rb ln lb is hn hb (inr l) = inr (over bytes first made more all x rb lb is hb l)

-- a line that costs more than is left
pub short_line : (vars : List FlatVar) (n : ℕ) (first made all : List FlatEquation) (line : FlatEquation) (rn rb ln lb : ℕ) →
    made ++ derivatives vars n line ≡ first ++ all → ln + nodes_of made ≡ rn + nodes_of first → lb + bytes_of vars made ≡ rb + bytes_of vars first → IsShort ln lb (nodes_at line) (bytes_at vars line) → IsShort rn rb (nodes_of all) (bytes_of vars all)
short_line vars n first made all line rn rb ln lb is hn hb short =
    let lines = line_first vars n line in
    short_within nodes_at (bytes_at vars) first made lines.0 all line rn rb ln lb (ap (λ ls. made ++ ls) (sym lines.1) ∙ is) hn hb short

-- a line and its derivative that cost more than is left
over_two : {A : Type 0} (cost : A → ℕ) (first made more all : List A) (x y : A) (room left : ℕ) →
    made ++ x ∷ y ∷ more ≡ first ++ all → left + sum_by cost made ≡ room + sum_by cost first → left < cost x + cost y → room < sum_by cost all
over_two cost first made more all x y room left is h l =
    let halves : sum_by cost made + sum_by cost (x ∷ y ∷ more) ≡ sum_by cost first + sum_by cost all = sym (sum_by-append cost made (x ∷ y ∷ more)) ∙ ap (sum_by cost) is ∙ sum_by-append cost first all in
    let front : sum_by cost (x ∷ y ∷ more) ≡ cost x + sum_by cost (y ∷ more) = sum_by-cons cost x (y ∷ more) in
    let second : sum_by cost (y ∷ more) ≡ cost y + sum_by cost more = sum_by-cons cost y more in
    omega (arith, h, halves, front, second, l)

two_within : (vars : List FlatVar) (first made more all : List FlatEquation) (x y : FlatEquation) (rn rb ln lb : ℕ) →
    made ++ x ∷ y ∷ more ≡ first ++ all → ln + nodes_of made ≡ rn + nodes_of first → lb + bytes_of vars made ≡ rb + bytes_of vars first → IsShort ln lb (nodes_at x + nodes_at y) (bytes_at vars x + bytes_at vars y) → IsShort rn rb (nodes_of all) (bytes_of vars all)
two_within vars first made more all x y rn rb ln lb is hn hb (inl l) = inl (over_two nodes_at first made more all x y rn ln is hn l)
two_within vars first made more all x y rn rb ln lb is hn hb (inr l) = inr (over_two (bytes_at vars) first made more all x y rb lb is hb l)

two_first : (vars : List FlatVar) (n : ℕ) (line : FlatEquation) → 0 < n → (more : List FlatEquation) × (derivatives vars n line ≡ line ∷ derived_equation vars line ∷ more)
two_first vars zero line l = absurd (omega (arith, l))
two_first vars (suc n) line l = let lines = line_first vars n (derived_equation vars line) in (lines.0, ap (λ ls. line ∷ ls) lines.1)

pub short_two : (vars : List FlatVar) (n : ℕ) (first made all : List FlatEquation) (line : FlatEquation) (rn rb ln lb : ℕ) → 0 < n →
    made ++ derivatives vars n line ≡ first ++ all → ln + nodes_of made ≡ rn + nodes_of first → lb + bytes_of vars made ≡ rb + bytes_of vars first →
    IsShort ln lb (nodes_at line + nodes_at (derived_equation vars line)) (bytes_at vars line + bytes_at vars (derived_equation vars line)) → IsShort rn rb (nodes_of all) (bytes_of vars all)
short_two vars n first made all line rn rb ln lb l is hn hb short =
    let lines = two_first vars n line l in
    two_within vars first made lines.0 all line (derived_equation vars line) rn rb ln lb (ap (λ ls. made ++ ls) (sym lines.1) ∙ is) hn hb short

-- the first line costs more than there is
pub short_first : (vars : List FlatVar) (n : ℕ) (line : FlatEquation) (rn rb : ℕ) → IsShort rn rb (nodes_at line) (bytes_at vars line) → IsShort rn rb (nodes_of (derivatives vars n line)) (bytes_of vars (derivatives vars n line))
short_first vars n line rn rb short = short_line vars n [] [] (derivatives vars n line) line rn rb rn rb refl refl refl short

pub short_more : (nodes bytes x y u v : ℕ) → IsShort nodes bytes x y → IsShort nodes bytes (x + u) (y + v)
short_more nodes bytes x y u v (inl l) = inl (omega (arith, l))
short_more nodes bytes x y u v (inr l) = inr (omega (arith, l))

pub short_after : (nodes bytes x y n b u v : ℕ) → IsPaid nodes bytes x y n b → IsShort n b u v → IsShort nodes bytes (x + u) (y + v)
short_after nodes bytes x y n b u v paid (inl l) = let e = paid.nodes_paid in inl (omega (arith, e, l))
short_after nodes bytes x y n b u v paid (inr l) = let e = paid.bytes_paid in inr (omega (arith, e, l))

-- what was put at the end beside
pub with_pushed : {A : Type 0} (o : Option A) (P R : Type 0) (Q : A → Type 0) → MatchOption o P Q → R → MatchOption o P (λ x. Q x × R)
with_pushed None P R Q h k = h
with_pushed (Some x) P R Q h k = (h, k)

-- what all parts cost, once the last is paid
pub all_paid : {A : Type 0} (cost : A → ℕ) (first made all : List A) (x : A) (room left rest : ℕ) →
    made ++ x ∷ [] ≡ first ++ all → left + sum_by cost made ≡ room + sum_by cost first → rest + cost x ≡ left → rest + sum_by cost all ≡ room
all_paid cost first made all x room left rest is h k =
    let halves : sum_by cost made + sum_by cost (x ∷ []) ≡ sum_by cost first + sum_by cost all = sym (sum_by-append cost made (x ∷ [])) ∙ ap (sum_by cost) is ∙ sum_by-append cost first all in
    let front : sum_by cost (x ∷ []) ≡ cost x + 0 = sum_by-cons cost x [] in
    omega (arith, h, halves, front, k)

-- the last line pays for all
pub finished : {R E : Type 0} (nodes_left bytes_left : R → ℕ) (vars : List FlatVar) (count k : ℕ) (first made made2 : List FlatEquation) (start line : FlatEquation) (rn rb ln lb : ℕ) (result : Result (Option R) E) → k ≡ count →
    made ++ derivatives vars (count - k) line ≡ first ++ derivatives vars count start → ln + nodes_of made ≡ rn + nodes_of first → lb + bytes_of vars made ≡ rb + bytes_of vars first →
    IfOk result (λ found. MatchOption found (IsShort ln lb (nodes_at line) (bytes_at vars line)) (λ rest. (made2 ≡ made ++ line ∷ []) × IsPaid ln lb (nodes_at line) (bytes_at vars line) (nodes_left rest) (bytes_left rest))) →
    IfOk result (λ found. MatchOption found (IsShort rn rb (nodes_of (derivatives vars count start)) (bytes_of vars (derivatives vars count start))) (λ rest. (made2 ≡ first ++ derivatives vars count start) × IsPaid rn rb (nodes_of (derivatives vars count start)) (bytes_of vars (derivatives vars count start)) (nodes_left rest) (bytes_left rest)))
finished nodes_left bytes_left vars count k first made made2 start line rn rb ln lb (Err e) same h hn hb found = tt
finished nodes_left bytes_left vars count k first made made2 start line rn rb ln lb (Ok None) same h hn hb short =
    short_line vars (count - k) first made (derivatives vars count start) line rn rb ln lb h hn hb short
finished nodes_left bytes_left vars count k first made made2 start line rn rb ln lb (Ok (Some rest)) same h hn hb (pushed, paid) =
    let lines = derivatives vars count start in
    let whole : made ++ line ∷ [] ≡ first ++ derivatives vars count start = last_line vars count k made (first ++ derivatives vars count start) line same h in (
      pushed ∙ whole,
      record {
        nodes_paid = all_paid nodes_at first made lines line rn ln (nodes_left rest) whole hn paid.nodes_paid;
        bytes_paid = all_paid (bytes_at vars) first made lines line rb lb (bytes_left rest) whole hb paid.bytes_paid;
      },
    )

-- one more equation
model_turn : (vars : List FlatVar) (qs : List FlatEquation) (cs : List ℕ) (i : ℕ) (q : FlatEquation) (c : ℕ) (d : FlatEquation) (e : ℕ) → i < length qs → length cs ≡ length qs → q ≡ get_or qs i d → c ≡ get_or cs i e →
    reduced_lines vars (drop i qs) (drop i cs) ≡ derivatives vars c (carried_equation vars q) ∷ reduced_lines vars (drop (i + 1) qs) (drop (i + 1) cs)
model_turn vars qs cs i q c d e l same hq hc =
    let fronts : drop i qs ≡ q ∷ drop (i + 1) qs = drop-cons qs i d l ∙ ap (λ n. get_or qs i d ∷ drop n qs) (sym (add-one i)) ∙ ap (λ y. y ∷ drop (i + 1) qs) (sym hq) in
    let counts : drop i cs ≡ c ∷ drop (i + 1) cs = drop-cons cs i e (omega arith) ∙ ap (λ n. get_or cs i e ∷ drop n cs) (sym (add-one i)) ∙ ap (λ y. y ∷ drop (i + 1) cs) (sym hc) in
    ap (λ ys. reduced_lines vars ys (drop i cs)) fronts ∙ ap (λ ys. reduced_lines vars (q ∷ drop (i + 1) qs) ys) counts

pub model_next : (vars : List FlatVar) (qs : List FlatEquation) (cs : List ℕ) (i : ℕ) (q : FlatEquation) (c : ℕ) (d : FlatEquation) (e : ℕ) (made made2 all : List (List FlatEquation)) (lines : List FlatEquation) →
    i < length qs → length cs ≡ length qs → q ≡ get_or qs i d → c ≡ get_or cs i e → made ++ reduced_lines vars (drop i qs) (drop i cs) ≡ all → lines ≡ derivatives vars c (carried_equation vars q) → made2 ≡ made ++ lines ∷ [] →
    made2 ++ reduced_lines vars (drop (i + 1) qs) (drop (i + 1) cs) ≡ all
model_next vars qs cs i q c d e made made2 all lines l same hq hc h is m =
    let rest = reduced_lines vars (drop (i + 1) qs) (drop (i + 1) cs) in
    let turn : reduced_lines vars (drop i qs) (drop i cs) ≡ lines ∷ rest = model_turn vars qs cs i q c d e l same hq hc ∙ ap (λ ls. ls ∷ rest) (sym is) in
    ap (λ ms. ms ++ rest) m ∙ append_assoc made (lines ∷ []) rest ∙ ap (λ ls. made ++ ls) (sym turn) ∙ h

-- the lines of an equation that cost more than is left
pub model_short : (vars : List FlatVar) (qs : List FlatEquation) (cs : List ℕ) (i : ℕ) (q : FlatEquation) (c : ℕ) (d : FlatEquation) (e : ℕ) (made all : List (List FlatEquation)) (rn rb ln lb : ℕ) →
    i < length qs → length cs ≡ length qs → q ≡ get_or qs i d → c ≡ get_or cs i e → made ++ reduced_lines vars (drop i qs) (drop i cs) ≡ all → ln + sum_by nodes_of made ≡ rn → lb + sum_by (bytes_of vars) made ≡ rb →
    IsShort ln lb (nodes_of (derivatives vars c (carried_equation vars q))) (bytes_of vars (derivatives vars c (carried_equation vars q))) → IsShort rn rb (sum_by nodes_of all) (sum_by (bytes_of vars) all)
model_short vars qs cs i q c d e made all rn rb ln lb l same hq hc h hn hb short =
    let nodes : ln + sum_by nodes_of made ≡ rn + sum_by nodes_of [] = omega (arith, hn) in
    let bytes : lb + sum_by (bytes_of vars) made ≡ rb + sum_by (bytes_of vars) [] = omega (arith, hb) in
    short_within nodes_of (bytes_of vars) [] made (reduced_lines vars (drop (i + 1) qs) (drop (i + 1) cs)) all (derivatives vars c (carried_equation vars q)) rn rb ln lb
    (ap (λ ls. made ++ ls) (sym (model_turn vars qs cs i q c d e l same hq hc)) ∙ h) nodes bytes short

-- no equation is left
pub model_end : (vars : List FlatVar) (qs : List FlatEquation) (cs : List ℕ) (i : ℕ) (made all : List (List FlatEquation)) → length qs ≤ i → made ++ reduced_lines vars (drop i qs) (drop i cs) ≡ all → made ≡ all
model_end vars qs cs i made all l h =
    let none : reduced_lines vars (drop i qs) (drop i cs) ≡ [] = ap (λ ys. reduced_lines vars ys (drop i cs)) (drop_all i qs l) in
    sym (append-nil made) ∙ ap (λ ls. made ++ ls) (sym none) ∙ h

-- nothing is made yet
pub no_lines : (vars : List FlatVar) (qs : List FlatEquation) (cs : List ℕ) (made : List (List FlatEquation)) → made ≡ [] → made ++ reduced_lines vars (drop 0 qs) (drop 0 cs) ≡ reduced_lines vars qs cs
no_lines vars qs cs made h = ap (λ ms. ms ++ reduced_lines vars qs cs) h

-- what is paid is at most the room
pub all_within : {A : Type 0} (cost : A → ℕ) (made all : List A) (left room : ℕ) → made ≡ all → left + sum_by cost made ≡ room → sum_by cost all ≤ room
all_within cost made all left room is h = let same = ap (sum_by cost) is in omega (arith, h, same)

pub given_turn : (vars : List FlatVar) (qs : List FlatEquation) (cs : List ℕ) (i : ℕ) (q : FlatEquation) (c : ℕ) (d : FlatEquation) (e : ℕ) → i < length qs → length cs ≡ length qs → q ≡ get_or qs i d → c ≡ get_or cs i e →
    first_given vars (drop i qs) (drop i cs) ≡ (if differentiates_given vars q c then Some q.place else first_given vars (drop (i + 1) qs) (drop (i + 1) cs))
given_turn vars qs cs i q c d e l same hq hc =
    let fronts : drop i qs ≡ q ∷ drop (i + 1) qs = drop-cons qs i d l ∙ ap (λ n. get_or qs i d ∷ drop n qs) (sym (add-one i)) ∙ ap (λ y. y ∷ drop (i + 1) qs) (sym hq) in
    let counts : drop i cs ≡ c ∷ drop (i + 1) cs = drop-cons cs i e (omega arith) ∙ ap (λ n. get_or cs i e ∷ drop n cs) (sym (add-one i)) ∙ ap (λ y. y ∷ drop (i + 1) cs) (sym hc) in
    ap (λ ys. first_given vars ys (drop i cs)) fronts ∙ ap (λ ys. first_given vars (q ∷ drop (i + 1) qs) ys) counts

-- the answer for the variables and equations of a model
pub given_answer : (vars vars2 : List FlatVar) (qs qs2 : List FlatEquation) (cs : List ℕ) (found answer : Option Place) → vars2 ≡ vars → qs2 ≡ qs → found ≡ first_given vars2 qs2 cs → found ≡ answer → first_given vars qs cs ≡ answer
given_answer vars vars2 qs qs2 cs found answer hv hq is told =
    let same : first_given vars2 qs2 cs ≡ first_given vars qs cs = ap (λ v. first_given v qs2 cs) hv ∙ ap (λ y. first_given vars y cs) hq in
    sym same ∙ sym is ∙ told

length_lines : {A : Type 0} (f : A → List ℕ) (xs : List A) → length (flat_map f xs) ≡ sum_by (λ x. length (f x)) xs
length_lines f [] = refl
length_lines f (x ∷ xs) = length-append (f x) (flat_map f xs) ∙ ap (λ n. length (f x) + n) (length_lines f xs) ∙ sym (sum_by-cons (λ y. length (f y)) x xs)

sums : {A : Type 0} (f g : A → ℕ) → ((x : A) → f x ≡ g x) → (xs : List A) → sum_by f xs ≡ sum_by g xs
sums f g h [] = refl
sums f g h (x ∷ xs) = sum_by-cons f x xs ∙ ap (λ n. n + sum_by f xs) (h x) ∙ ap (λ n. g x + n) (sums f g h xs) ∙ sym (sum_by-cons g x xs)

-- the bytes of the text are those of its first and last line and of the lines between
pub text_bytes : (m : FlatModel) (lines : List (List FlatEquation)) → length (reduced_text m lines) ≡ length (reduced_text m []) + sum_by (bytes_of m.vars) lines
unfolding reduced_text bytes_at
text_bytes m lines =
    let body : length (flat_map (flat_map (equation_line m.vars)) lines) ≡ sum_by (bytes_of m.vars) lines =
    length_lines (flat_map (equation_line m.vars)) lines ∙ sums (λ ls. length (flat_map (equation_line m.vars) ls)) (bytes_of m.vars) (length_lines (equation_line m.vars)) lines in
    framed (codes "reduced " ++ m.name ++ codes "\n") (flat_map (flat_map (equation_line m.vars)) lines) (codes "end " ++ m.name ++ codes ";\n") ∙ ap (λ n. length (reduced_text m []) + n) body where
      framed : (a b c : List ℕ) → length (a ++ b ++ c) ≡ length (a ++ [] ++ c) + length b
      framed a b c = omega (arith, length-append (a ++ b) c, length-append a b, length-append (a ++ []) c, ap length (append-nil a))

frame_at : (m : FlatModel) (lines : List (List FlatEquation)) (frame : ℕ) → frame ≡ min (length (reduced_text m [])) (2 ^ 64 - 1) → IsWithin m lines → frame + sum_by (bytes_of m.vars) lines ≤ 67108864
frame_at m lines frame is within = omega (arith, is, text_bytes m lines, within.bytes)

-- the first and the last line are too long
pub frame_too_long : (m : FlatModel) (lines : List (List FlatEquation)) (frame : ℕ) → frame ≡ min (length (reduced_text m [])) (2 ^ 64 - 1) → 67108864 < frame → IsWithin m lines → ⊥
frame_too_long m lines frame is l within = let all = frame_at m lines frame is within in absurd (omega (arith, all, l))

-- the room that is left for the lines decides
pub within_limits : {E : Type 0} (m : FlatModel) (lines : List (List FlatEquation)) (frame left : ℕ) (result : Result (Option (List (List FlatEquation))) E) → frame ≡ min (length (reduced_text m [])) (2 ^ 64 - 1) → left + frame ≡ 67108864 →
    IfOk result (λ found. MatchOption found (IsShort 4000000 left (sum_by nodes_of lines) (sum_by (bytes_of m.vars) lines)) (λ made. (made ≡ lines) × (sum_by nodes_of lines ≤ 4000000) × (sum_by (bytes_of m.vars) lines ≤ left))) →
    IfOk result (λ found. MatchOption found (IsWithin m lines → ⊥) (λ made. (made ≡ lines) × IsWithin m lines))
within_limits m lines frame left (Err e) is pays found = tt
within_limits m lines frame left (Ok None) is pays (inl short) = λ within. let nodes = within.nodes in absurd (omega (arith, nodes, short))
within_limits m lines frame left (Ok None) is pays (inr short) = λ within. let all = frame_at m lines frame is within in absurd (omega (arith, all, pays, short))
within_limits m lines frame left (Ok (Some made)) is pays (same, nodes, bytes) =
    (same, record { nodes = nodes; bytes = omega (arith, is, pays, text_bytes m lines, bytes) })
