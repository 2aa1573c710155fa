-- Where the sources of a frame speak of its elements (Modelica Language Specification 3.5, sections 7.2 and 7.3).
use Rattle.std.specs.Prelude.{◌≡◌, ℕ, ◌+◌, List, [], ◌∷◌, ◌++◌, flat_map, map, slice_get, Option, Some, None, if◌then◌else◌}
use Rattle.std.specs.HashMap.{get_by}
use Rattle.std.specs.Option.{option_to_list}
use Rattle.std.specs.Str.{bytes_eq}
use Rattle.mo_syntax.specs.declared.class.ArgumentOf.{ArgumentOf}
use Rattle.mo_syntax.specs.declared.class.Element.{Element}
use Rattle.mo_syntax.specs.declared.class.Give.{Give}
use Rattle.mo_scope.specs.declared.mentions.Mention.{Mention as MentionAt}
use Rattle.mo_scope.specs.declared.mentions.MentionedBy.{MentionedBy as MentionedByAt}
use Rattle.mo_scope.specs.declared.mentions.MentionedBy.TheVariants.{Argument as argument_at, Rest as rest_at, Replacing as replacing_at}
use Rattle.mo_scope.specs.declared.mentions.Mentions.{Mentions}
use Rattle.mo_scope.specs.Rows.{Table, declared_by}
use Rattle.mo_scope.specs.Frames.{Given, Listed, Argued, Replacing, Source}
use Rattle.mo_scope.specs.Parts.{Saying, begins_with, declared_in, held, names_left, said_by_argument, said_by_element, said_further}
use Rattle.mo_scope.specs.Worlds.{SourceEntry}

-- By what an element is mentioned: an argument of a modifier list; an argument of which so many names were passed; an element with
-- `redeclare`.
pub data MentionedBy : Type 0 where
  By_argument : ArgumentOf Give → MentionedBy
  By_rest : ArgumentOf Give → (passed : ℕ) → MentionedBy
  By_element : Element → MentionedBy

-- An element is mentioned by a source, before which so many stand.
pub record Mention : Type 0 where
  pub source : ℕ
  pub by : MentionedBy

-- ---- what is mentioned

-- the names that are left, of which the first is that of the element
abbrev pub names_in : MentionedBy → List (List ℕ)
names_in (By_argument argument) = argument.name.0
names_in (By_rest argument passed) = names_left argument passed
names_in (By_element element) = (declared_by element 0).name ∷ []

abbrev pub mentioned_by : Given → List MentionedBy
mentioned_by (Listed modifiers) = map By_argument modifiers.list
mentioned_by (Argued argument passed) = By_rest argument passed ∷ map By_argument (held (Argued argument passed)).list
mentioned_by (Replacing elements) = map By_element elements

abbrev pub mention_by : ℕ → MentionedBy → Mention
mention_by source by = record { source = source; by = by }

-- all mentions by sources in their order, before which so many stand
abbrev pub mentions_from : ℕ → List SourceEntry → List Mention
mentions_from n [] = []
mentions_from n (source ∷ sources) = map (mention_by n) (mentioned_by source.piece.given) ++ mentions_from (n + 1) sources

-- a mention, where it is of that name
abbrev pub if_of : List ℕ → Mention → List Mention
if_of name mention = if begins_with name (names_in mention.by) then mention ∷ [] else []

abbrev pub mentions_of : List ℕ → List SourceEntry → List Mention
mentions_of name sources = flat_map (if_of name) (mentions_from 0 sources)

-- ---- what is said of a name

abbrev pub said_by : Table → List ℕ → List ℕ → Source → MentionedBy → List Saying
said_by table name index source (By_argument argument) = said_by_argument table source name index argument
said_by table name index source (By_rest argument passed) = said_further table source name index argument passed
said_by table name index source (By_element element) = said_by_element table source name index (declared_in table element)

abbrev pub said_at : Table → List ℕ → List ℕ → List Source → Mention → List Saying
said_at table name index sources mention =
    flat_map (λ source. said_by table name index source mention.by) (option_to_list (slice_get sources mention.source))

-- ---- what is held

abbrev pub mentioned_seen : MentionedByAt → MentionedBy
mentioned_seen (argument_at argument) = By_argument argument.now
mentioned_seen (rest_at argument passed) = By_rest argument.now passed
mentioned_seen (replacing_at element) = By_element element.now

abbrev pub mention_seen : MentionAt → Mention
mention_seen mention = record { source = mention.source; by = mentioned_seen mention.by }

abbrev pub mentions_or_none : Option (List MentionAt) → List Mention
mentions_or_none None = []
mentions_or_none (Some mentions) = map mention_seen mentions

-- the mentions that are held of a name
abbrev pub mentions_held : Mentions → List ℕ → List Mention
mentions_held mentions name = mentions_or_none (get_by (λ k. bytes_eq name k.now) mentions.by_name)

-- each name has the mentions of it by those sources
abbrev pub AreMentions : List SourceEntry → Mentions → Type 0
AreMentions sources mentions = (name : List ℕ) → mentions_held mentions name ≡ mentions_of name sources
