-- What sources say of a name, found by where they mention it.
use Rattle.std.proofs.Common.{◌≡◌, ℕ, zero, suc, ◌+◌, ◌<◌, Bool, true, false, cond, List, [], ◌∷◌, ◌++◌, length, drop, get_or, map, flat_map, Option, Some, None, Bor, if◌then◌else◌, refl, ap, sym, ◌∙◌, append-nil, arith}
use Rattle.std.specs.HashMap.{HashMap, get_by, UpdatesBy}
use Rattle.std.specs.Option.{option_to_list}
use Rattle.std.specs.Prelude.{slice_get, option_map}
use Rattle.std.specs.Str.{bytes_eq}
use Rattle.std.proofs.lemmas.Grind.{flat_map-append}
use Rattle.std.proofs.lemmas.List.{drop_more, map-append}
use Rattle.std.proofs.lemmas.List.Folds.{flat_map-map}
use Rattle.std.proofs.lemmas.Option.{slice_get-map}
use Rattle.std.proofs.lemmas.Slice.Eq.{bytes_eq-Decides}
use Rattle.mo_syntax.specs.declared.class.ArgumentOf.{ArgumentOf}
use Rattle.mo_syntax.specs.declared.class.Body.{Body}
use Rattle.mo_syntax.specs.declared.class.Element.{Element, out-Element}
use Rattle.mo_syntax.specs.declared.class.Give.{Give}
use Rattle.mo_syntax.specs.declared.class.Item.{Item}
use Rattle.mo_syntax.specs.declared.class.What.{What, What-F, out-What}
use Rattle.mo_scope.specs.declared.mentions.Mention.{Mention as MentionAt}
use Rattle.mo_scope.specs.declared.source.Source.{Source as SourceAt}
use Rattle.mo_scope.specs.Frames.{Given, Listed, Argued, Replacing, Frame, Source}
use Rattle.mo_scope.specs.Mentions.{By_argument, By_element, By_rest, Mention, MentionedBy, if_of, mention_by, mention_seen, mentioned_by, mentions_from, mentions_of, mentions_or_none, names_in, said_at, said_by}
use Rattle.mo_scope.specs.Parts.{begins_with, declared_in, held, said, said_by_all}
use Rattle.mo_scope.specs.Rows.{Table, declared_by, number_of_element}
use Rattle.mo_scope.specs.Sights.{source_seen}
use Rattle.mo_scope.specs.Worlds.{SourceEntry, source_in, sources_in}
use Rattle.mo_scope.proofs.Keys.{updates_items}
use Rattle.mo_scope.proofs.Sayings.{argument_skipped, further_skipped, element_skipped, flat_map_flat_map}

flat_map_same : {X Y : Type 0} (f g : X → List Y) → ((x : X) → f x ≡ g x) → (xs : List X) → flat_map f xs ≡ flat_map g xs
flat_map_same f g same [] = refl
flat_map_same f g same (x ∷ xs) = ap (λ ys. ys ++ flat_map f xs) (same x) ∙ ap (λ ys. g x ++ ys) (flat_map_same f g same xs)

flat_map_none : {X Y : Type 0} (f : X → List Y) → ((x : X) → f x ≡ []) → (xs : List X) → flat_map f xs ≡ []
flat_map_none f none [] = refl
flat_map_none f none (x ∷ xs) = ap (λ ys. ys ++ flat_map f xs) (none x) ∙ flat_map_none f none xs

-- ---- the name of an element

-- it does not depend on the number of its class
name_is : (element : Element) (m n : ℕ) → (declared_by element m).name ≡ (declared_by element n).name
name_is element m n = by (out-What (out-Element element).what) refl
  where
    by : (w : What-F Body Give Item What Element) → out-What (out-Element element).what ≡ w → (declared_by element m).name ≡ (declared_by element n).name
    by (What-F.Class class) is = rw is refl
    by (What-F.Component component) is = rw is refl

-- ---- what a source says

module _ (table : Table) (name index : List ℕ) where
  -- what mentions another name says nothing of this one
  other_says : (source : Source) (by : MentionedBy) → begins_with name (names_in by) ≡ false → said_by table name index source by ≡ []
  other_says source (By_argument argument) other = argument_skipped table source name index argument other
  other_says source (By_rest argument passed) other = further_skipped table source name index argument passed other
  other_says source (By_element element) other =
      element_skipped table source name index (declared_in table element)
      (ap (λ (l : List ℕ). bytes_eq l name) (name_is element (number_of_element table element) 0) ∙ other)

  -- each of its mentions says its part
  by_mentions : (source : Source) → flat_map (said_by table name index source) (mentioned_by source.piece.given) ≡ said table name index source
  by_mentions source = by source.piece.given refl
    where
      by : (given : Given) → source.piece.given ≡ given → flat_map (said_by table name index source) (mentioned_by source.piece.given) ≡ said table name index source
      by (Listed modifiers) is = rw is (flat_map-map (said_by table name index source) By_argument modifiers.list)
      by (Argued argument passed) is =
          rw is (ap (λ xs. said_by table name index source (By_rest argument passed) ++ xs)
          (flat_map-map (said_by table name index source) By_argument (held (Argued argument passed)).list))
      by (Replacing elements) is = rw is (flat_map-map (said_by table name index source) By_element elements)

  -- ---- what is said at mentions

  -- at those of another name nothing is said
  if_of_says : (sources : List Source) (mention : Mention) → flat_map (said_at table name index sources) (if_of name mention) ≡ said_at table name index sources mention
  if_of_says sources mention = by (begins_with name (names_in mention.by)) refl
    where
      by : (b : Bool) → begins_with name (names_in mention.by) ≡ b →
          flat_map (said_at table name index sources) (if b then mention ∷ [] else []) ≡ said_at table name index sources mention
      by true is = append-nil (said_at table name index sources mention)
      by false is = sym (flat_map_none (λ source. said_by table name index source mention.by) (λ source. other_says source mention.by is) (option_to_list (slice_get sources mention.source)))

  found_says : (sources : List Source) (mentions : List Mention) → flat_map (said_at table name index sources) (flat_map (if_of name) mentions) ≡ flat_map (said_at table name index sources) mentions
  found_says sources mentions =
      flat_map_flat_map (said_at table name index sources) (if_of name) mentions
      ∙ flat_map_same (λ mention. flat_map (said_at table name index sources) (if_of name mention)) (said_at table name index sources) (if_of_says sources) mentions

  -- the sources of the mentions are those that stand behind so many
  all_says : (frames : List Frame) (all : List Source) (n : ℕ) (entries : List SourceEntry) → ((k : ℕ) → slice_get all (n + k) ≡ slice_get (sources_in frames entries) k) →
      flat_map (said_at table name index all) (mentions_from n entries) ≡ said_by_all table name index (sources_in frames entries)
  all_says frames all n [] at = refl
  all_says frames all n (entry ∷ entries) at =
      flat_map-append (said_at table name index all) (map (mention_by n) (mentioned_by entry.piece.given)) (mentions_from (n + 1) entries)
      ∙ ap (λ xs. xs ++ flat_map (said_at table name index all) (mentions_from (n + 1) entries)) here
      ∙ ap (λ xs. said table name index source ++ xs) (all_says frames all (n + 1) entries (λ k. ap (slice_get all) (next k) ∙ at (suc k)))
    where
      source : Source
      source = source_in frames entry

      next : (k : ℕ) → n + 1 + k ≡ n + suc k
      next k = omega arith

      this : slice_get all n ≡ Some source
      this = ap (slice_get all) (let e : n ≡ n + 0 = omega arith in e) ∙ at 0

      one : (by : MentionedBy) → said_at table name index all (mention_by n by) ≡ said_by table name index source by
      one by = ap (λ (o : Option Source). flat_map (λ s. said_by table name index s by) (option_to_list o)) this ∙ append-nil (said_by table name index source by)

      here : flat_map (said_at table name index all) (map (mention_by n) (mentioned_by entry.piece.given)) ≡ said table name index source
      here = flat_map-map (said_at table name index all) (mention_by n) (mentioned_by entry.piece.given)
          ∙ flat_map_same (λ by. said_at table name index all (mention_by n by)) (said_by table name index source) one (mentioned_by entry.piece.given)
          ∙ by_mentions source

  -- what is said at the mentions of a name is all that is said of it
  pub mentions_say : (frames : List Frame) (entries : List SourceEntry) →
      flat_map (said_at table name index (sources_in frames entries)) (mentions_of name entries) ≡ said_by_all table name index (sources_in frames entries)
  mentions_say frames entries =
      found_says (sources_in frames entries) (mentions_from 0 entries)
      ∙ all_says frames (sources_in frames entries) 0 entries (λ k. ap (slice_get (sources_in frames entries)) (let e : 0 + k ≡ k = omega arith in e))

  -- ---- the source of a mention

  pub said_there : (frames : List Frame) (entries : List SourceEntry) (mention : Mention) (entry : SourceEntry) → Some entry ≡ slice_get entries mention.source →
      said_at table name index (sources_in frames entries) mention ≡ said_by table name index (source_in frames entry) mention.by
  said_there frames entries mention entry is =
      ap (λ (o : Option Source). flat_map (λ source. said_by table name index source mention.by) (option_to_list o))
      (slice_get-map (source_in frames) entries mention.source ∙ ap (option_map (source_in frames)) (sym is))
      ∙ append-nil (said_by table name index (source_in frames entry) mention.by)

  pub said_nowhere : (frames : List Frame) (entries : List SourceEntry) (mention : Mention) → None ≡ slice_get entries mention.source →
      said_at table name index (sources_in frames entries) mention ≡ []
  said_nowhere frames entries mention is =
      ap (λ (o : Option Source). flat_map (λ source. said_by table name index source mention.by) (option_to_list o))
      (slice_get-map (source_in frames) entries mention.source ∙ ap (option_map (source_in frames)) (sym is))

-- ---- what is held

abbrev pub text_of : Bor (List ℕ) → List ℕ
text_of text = text.now

-- a mention that is put behind those of its name, which are taken out before
pub mention_put : {S : Type 0} (name : List ℕ) (old middle new : HashMap (Bor (List ℕ)) (List MentionAt) S) (taken : Option (List MentionAt)) (group more : List MentionAt) (mention : MentionAt) →
    taken ≡ get_by (λ k. bytes_eq name k.now) old → UpdatesBy (λ x y. bytes_eq (text_of x) (text_of y)) (λ k. bytes_eq name (text_of k)) old middle None →
    map mention_seen group ≡ mentions_or_none taken → more ≡ group ++ mention ∷ [] →
    UpdatesBy (λ x y. bytes_eq (text_of x) (text_of y)) (λ k. bytes_eq name (text_of k)) middle new (Some more) → (other : List ℕ) →
    mentions_or_none (get_by (λ k. bytes_eq other k.now) new)
    ≡ mentions_or_none (get_by (λ k. bytes_eq other k.now) old) ++ (if bytes_eq name other then mention_seen mention ∷ [] else [])
mention_put name old middle new taken group more mention was removed seen behind inserted other =
    by (bytes_eq name other) refl (updates_items text_of name old middle None removed other) (updates_items text_of name middle new (Some more) inserted other)
  where
    before : Option (List MentionAt)
    before = get_by (λ k. bytes_eq other k.now) old

    by : (b : Bool) → bytes_eq name other ≡ b → get_by (λ k. bytes_eq other k.now) middle ≡ cond (bytes_eq name other) None before →
        get_by (λ k. bytes_eq other k.now) new ≡ cond (bytes_eq name other) (Some more) (get_by (λ k. bytes_eq other k.now) middle) →
        mentions_or_none (get_by (λ k. bytes_eq other k.now) new) ≡ mentions_or_none before ++ (if b then mention_seen mention ∷ [] else [])
    by true is taken_out put_in =
        ap mentions_or_none (put_in ∙ ap (λ b. cond b (Some more) (get_by (λ k. bytes_eq other k.now) middle)) is)
        ∙ ap (map mention_seen) behind ∙ map-append mention_seen group (mention ∷ [])
        ∙ ap (λ l. l ++ mention_seen mention ∷ []) (seen ∙ ap mentions_or_none (was ∙ ap (λ (l : List ℕ). get_by (λ k. bytes_eq l k.now) old) ((bytes_eq-Decides name other).0 is)))
    by false is taken_out put_in =
        ap mentions_or_none (put_in ∙ ap (λ b. cond b (Some more) (get_by (λ k. bytes_eq other k.now) middle)) is ∙ taken_out ∙ ap (λ b. cond b None before) is)
        ∙ sym (append-nil (mentions_or_none before))

-- ---- one more

-- the first name that is left
pub next_mentioned : (names : List (List ℕ)) (passed : ℕ) (name other : List ℕ) (old new is : List Mention) → Some name ≡ slice_get names passed →
    new ≡ old ++ (if bytes_eq name other then is else []) → new ≡ old ++ (if begins_with other (drop passed names) then is else [])
next_mentioned [] passed name other old new is at more = absurd (no_name passed at)
  where
    no_name : (passed : ℕ) → Some name ≡ slice_get [] passed → ⊥
    no_name passed at = cc
next_mentioned (first ∷ names) zero name other old new is at more =
    let same : name ≡ first = cc in
    more ∙ ap (λ (l : List ℕ). old ++ (if bytes_eq l other then is else [])) same
next_mentioned (first ∷ names) (suc passed) name other old new is at more = next_mentioned names passed name other old new is at more

pub none_mentioned : (names : List (List ℕ)) (passed : ℕ) (other : List ℕ) (old is : List Mention) → None ≡ slice_get names passed →
    old ≡ old ++ (if begins_with other (drop passed names) then is else [])
none_mentioned [] zero other old is at = sym (append-nil old)
none_mentioned [] (suc passed) other old is at = sym (append-nil old)
none_mentioned (first ∷ names) zero other old is at = absurd (cc)
none_mentioned (first ∷ names) (suc passed) other old is at = none_mentioned names passed other old is at

-- the mentions by one source, form by form
pub by_arguments : (name : List ℕ) (n : ℕ) (arguments : List (ArgumentOf Give)) →
    flat_map (λ argument. if_of name (mention_by n (By_argument argument))) arguments ≡ flat_map (if_of name) (map (mention_by n) (map By_argument arguments))
by_arguments name n arguments =
    sym (flat_map-map (if_of name) (mention_by n) (map By_argument arguments) ∙ flat_map-map (λ by. if_of name (mention_by n by)) By_argument arguments)

pub by_elements : (name : List ℕ) (n : ℕ) (elements : List Element) →
    flat_map (λ element. if_of name (mention_by n (By_element element))) elements ≡ flat_map (if_of name) (map (mention_by n) (map By_element elements))
by_elements name n elements =
    sym (flat_map-map (if_of name) (mention_by n) (map By_element elements) ∙ flat_map-map (λ by. if_of name (mention_by n by)) By_element elements)

-- the mentions by one more source
pub source_mentioned : (name : List ℕ) (sources : List SourceAt) (i : ℕ) (source : SourceAt) → i < length sources → source ≡ get_or sources i source →
    flat_map (if_of name) (map (mention_by i) (mentioned_by (source_seen source).piece.given)) ++ flat_map (if_of name) (mentions_from (i + 1) (map source_seen (drop (i + 1) sources)))
    ≡ flat_map (if_of name) (mentions_from i (map source_seen (drop i sources)))
source_mentioned name sources i source below at =
    sym (ap (λ (xs : List SourceAt). flat_map (if_of name) (mentions_from i (map source_seen xs)))
    (drop_more sources i source below ∙ ap (λ (x : SourceAt). x ∷ drop (i + 1) sources) (sym at))
    ∙ flat_map-append (if_of name) (map (mention_by i) (mentioned_by (source_seen source).piece.given)) (mentions_from (i + 1) (map source_seen (drop (i + 1) sources))))
