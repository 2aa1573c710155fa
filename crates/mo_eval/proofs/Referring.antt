-- What the components that identifiers find make, in the worlds of the code.
use Rattle.std.proofs.Common.{◌≡◌, ℕ, suc, ◌+◌, ◌-◌, ◌<◌, Bool, List, [], ◌∷◌, ◌++◌, length, get_or, drop, Result, Some, Ok, Err, refl, ap, sym, subst, ◌∙◌, arith}
use Rattle.std.specs.List.{list_any}
use Rattle.std.proofs.lemmas.List.{length-map}
use Rattle.mo_syntax.specs.Outcome.{Outcome, and_then, breaks}
use Rattle.mo_syntax.specs.declared.expr.Expr.{Expr}
use Rattle.mo_syntax.specs.declared.expr.PartOf.{PartOf}
use Rattle.mo_syntax.specs.declared.expr.ReferenceOf.{ReferenceOf}
use Rattle.mo_syntax.specs.declared.meaning.Kind.{Kind}
use Rattle.mo_syntax.specs.declared.place.Place.{Place}
use Rattle.mo_syntax.specs.declared.place.Stop.{Stop}
use Rattle.mo_flat.specs.declared.array.ArrayNode.{ArrayNode}
use Rattle.mo_flat.specs.declared.array.ArrayNode.TheVariants.{Vars}
use Rattle.mo_flat.specs.declared.array.Subscript.{Subscript}
use Rattle.mo_scope.specs.Frames.{Member}
use Rattle.mo_scope.specs.Rows.{is_constant}
use Rattle.mo_scope.specs.Worlds.{World, Grows, IsFrame, frames_of, table_in}
use Rattle.mo_scope.specs.declared.row.Member.{Member as MemberAt}
use Rattle.mo_names.specs.Sights.{IsMember, found_in, member_of}
use Rattle.mo_names.specs.declared.found.Found.{Found as FoundAt}
use Rattle.mo_names.proofs.Later.{table_later}
use Rattle.mo_syntax.specs.declared.rules.TheConstants.{REFERENCE_CHAIN_TOO_LONG}
use Rattle.mo_typing.specs.Dims.{Dims}
use Rattle.mo_typing.specs.Indices.{Index}
use Rattle.mo_typing.specs.Outcome.{Gives}
use Rattle.mo_eval.specs.declared.names.Name.{Name}
use Rattle.mo_values.specs.declared.context.Context.{Context}
use Rattle.mo_eval.specs.declared.references.Common.{Common}
use Rattle.mo_eval.specs.declared.resolve.Site.{Site}
use Rattle.mo_eval.specs.declared.virtuals.Virtual.{Virtual as VirtualAt}
use Rattle.mo_eval.specs.Components.{reading_by}
use Rattle.mo_eval.specs.Contexts.{Part}
use Rattle.mo_eval.specs.References.{Components, Found_at, Named, Selection, elements_selected, handed_in, last_of, made_reference, named, selections, virtual_elements}
use Rattle.mo_eval.specs.Resolving.{made_found, made_name, made_named}
use Rattle.mo_eval.specs.Seen.{AreThere, virtual_seen, virtuals_seen}
use Rattle.mo_eval.specs.steps.Sites.{IsMade, ask_of, elements_in, part_in, scope_of}
use Rattle.mo_eval.specs.Values.{reading}
use Rattle.mo_eval.specs.Virtuals.{Virtual, numbers_behind}
use Rattle.mo_eval.specs.steps.Naming.{AreNames, name_seen, names_seen}
use Rattle.mo_eval.specs.steps.Parts.{as_reference}
use Rattle.mo_eval.specs.steps.Selecting.{elements_as, elements_seen, kind_of_elements, reading_at}
use Rattle.mo_eval.proofs.Earlier.{every_at, of_member}
use Rattle.mo_eval.proofs.Growing.{given_made, made_as, same_parts}
use Rattle.mo_eval.proofs.Grown.{same_virtuals}
use Rattle.mo_eval.proofs.Reference.{asking_breaks, elements_halt, kind_halts, last_is, last_map, nothing_left, one_less, reference_made, selecting_halts}

-- the first name, and those behind it
pub opened_names : (names : List Name) (first : Name) → 0 < length names → first ≡ get_or names 0 first → names ≡ first ∷ drop 1 names
opened_names [] first some is = absurd (omega arith)
opened_names (x ∷ xs) first some is = ap (λ y. y ∷ xs) (sym is)

pub last_name : (names : List Name) (first last : Name) → 0 < length names → first ≡ get_or names 0 first → last ≡ get_or names (length names - 1) last → last_of first (drop 1 names) ≡ last
last_name [] first last some is ends = absurd (omega arith)
last_name (x ∷ xs) first last some is ends =
    let e : length (x ∷ xs) - 1 ≡ length xs = omega arith in
    ap (λ y. last_of y xs) is ∙ (last_is x xs last ∙ (ap (λ k. get_or (x ∷ xs) k last) (sym e) ∙ sym ends))

module _ (w : World) (site : Site) (place : Place) (names : List Name) (first : Name) (before : List Virtual) (some : 0 < length names) (is : first ≡ get_or names 0 first) where
  abbrev pub told : Outcome (ArrayNode × List Virtual)
  told = made_named (table_in w) (ask_of w site) site.context place (Components (names_seen (part_in w site) (frames_of w) names)) before

  abbrev pub first_seen : Member × PartOf Part
  first_seen = name_seen (part_in w site) (frames_of w) first

  abbrev pub others_seen : List (Member × PartOf Part)
  others_seen = names_seen (part_in w site) (frames_of w) (drop 1 names)

  as_told : told ≡ made_reference (table_in w) (ask_of w site) site.context place first_seen others_seen before
  as_told =
      ap (λ ns. made_named (table_in w) (ask_of w site) site.context place (Components (names_seen (part_in w site) (frames_of w) ns)) before) (opened_names names first some is)

  pub none_left : site.left ≡ 0 → told ≡ breaks REFERENCE_CHAIN_TOO_LONG place
  none_left none =
      as_told ∙ asking_breaks (table_in w) (ask_of w site) site.context place first_seen others_seen before (nothing_left (table_in w) site.left place none)

  module _ (deeper : ℕ) (more : site.left ≡ suc deeper) where
    abbrev pub choice : Outcome (List Selection)
    choice = selections (table_in w) (reading_at w deeper) (elements_in w site.left) (Some (member_of (frames_of w) first.member)) (names_seen (part_in w site) (frames_of w) names)

    as_choice : selections (table_in w) (reading_at w deeper) (elements_in w site.left) (Some (member_of (frames_of w) first.member)) (first_seen ∷ others_seen) ≡ choice
    as_choice =
        ap (λ ns. selections (table_in w) (reading_at w deeper) (elements_in w site.left) (Some (member_of (frames_of w) first.member)) (names_seen (part_in w site) (frames_of w) ns)) (sym (opened_names names first some is))

    pub no_choice : (stop : Stop) → Gives {T = List Selection} (Err stop) choice → Gives {T = ArrayNode × List Virtual} (Err stop) told
    no_choice stop h =
        subst (Gives {T = ArrayNode × List Virtual} (Err stop)) (sym as_told)
        (selecting_halts (table_in w) (ask_of w site) site.context place first_seen others_seen before (reading_at w deeper) (one_less (table_in w) site.left deeper place more) stop
        (subst (Gives {T = List Selection} (Err stop)) (sym as_choice) h))

    module _ (chosen : List Selection) (chose : choice ≡ Ok chosen) where
      pub no_elements : (stop : Stop) → Gives {T = List (Member × Index)} (Err stop) (elements_selected (table_in w) (reading_at w deeper) place (member_of (frames_of w) first.member) chosen) →
          Gives {T = ArrayNode × List Virtual} (Err stop) told
      no_elements stop h =
          subst (Gives {T = ArrayNode × List Virtual} (Err stop)) (sym as_told)
          (elements_halt (table_in w) (ask_of w site) site.context place first_seen others_seen before (reading_at w deeper) (one_less (table_in w) site.left deeper place more) chosen (as_choice ∙ chose) stop h)

      module _ (elements : List (Member × Index)) (all : elements_selected (table_in w) (reading_at w deeper) place (member_of (frames_of w) first.member) chosen ≡ Ok elements)
          (last : Name) (ends : last ≡ get_or names (length names - 1) last) where
        as_last : (last_of first_seen others_seen).0 ≡ member_of (frames_of w) last.member
        as_last =
            ap (λ (seen : Member × PartOf Part). seen.0) (last_map (name_seen (part_in w site) (frames_of w)) first (drop 1 names))
            ∙ ap (λ (n : Name). member_of (frames_of w) n.member) (last_name names first last some is ends)

        pub no_kind : (stop : Stop) → Gives {T = Kind} (Err stop) (kind_of_elements (table_in w) site.context place (member_of (frames_of w) last.member) elements) →
            Gives {T = ArrayNode × List Virtual} (Err stop) told
        no_kind stop h =
            subst (Gives {T = ArrayNode × List Virtual} (Err stop)) (sym as_told)
            (kind_halts (table_in w) (ask_of w site) site.context place first_seen others_seen before (reading_at w deeper) (one_less (table_in w) site.left deeper place more) chosen (as_choice ∙ chose) elements all stop
            (subst (λ (m : Member). Gives {T = Kind} (Err stop) (kind_of_elements (table_in w) site.context place m elements)) (sym as_last) h))

        abbrev made_with : Kind → Bool → Outcome (ArrayNode × List Virtual)
        made_with kind constant =
            Ok (
              Vars (numbers_behind (length before) (virtual_elements place kind constant elements)) kind (handed_in chosen).0 (handed_in chosen).1,
              before ++ virtual_elements place kind constant elements,
            )

        pub all_made : (kind : Kind) (constant : Bool) → kind_of_elements (table_in w) site.context place (member_of (frames_of w) last.member) elements ≡ Ok kind →
            constant ≡ list_any (λ name. is_constant name.0.declares) (names_seen (part_in w site) (frames_of w) names) →
            told
            ≡ Ok (
              Vars (numbers_behind (length before) (virtual_elements place kind constant elements)) kind (handed_in chosen).0 (handed_in chosen).1,
              before ++ virtual_elements place kind constant elements,
            )
        all_made kind constant kinds fixed =
            as_told
            ∙ (reference_made (table_in w) (ask_of w site) site.context place first_seen others_seen before (reading_at w deeper) (one_less (table_in w) site.left deeper place more) chosen (as_choice ∙ chose) elements all kind
            (ap (λ (m : Member). kind_of_elements (table_in w) site.context place m elements) as_last ∙ kinds)
            ∙ ap (made_with kind) (ap (λ ns. list_any (λ name. is_constant name.0.declares) (names_seen (part_in w site) (frames_of w) ns)) (sym (opened_names names first some is)) ∙ sym fixed))

-- no first name is read where nothing is left
pub none_left_of : (w : World) (site : Site) (place : Place) (names : List Name) (before : List Virtual) → 0 < length names → site.left ≡ 0 →
    made_named (table_in w) (ask_of w site) site.context place (Components (names_seen (part_in w site) (frames_of w) names)) before ≡ breaks REFERENCE_CHAIN_TOO_LONG place
none_left_of w site place [] before some none = absurd (omega arith)
none_left_of w site place (x ∷ xs) before some none = none_left w site place (x ∷ xs) x before some refl none

-- ---- worlds

pub named_member : (w : World) (names : List Name) (i : ℕ) (name : Name) → i < length names → name ≡ get_or names i name → AreNames w names → IsMember w name.member
named_member w names i name small at are = subst (λ (n : Name). IsMember w n.member) (sym at) (every_at (λ (n : Name). IsMember w n.member) names i name small are)

pub elements_earlier : (w u : World) → Grows w u → (m : MemberAt) → IsMember w m → (deeper : ℕ) (place : Place) (chosen : List Selection) →
    elements_selected (table_in u) (reading_at u deeper) place (member_of (frames_of u) m) chosen ≡ elements_selected (table_in w) (reading_at w deeper) place (member_of (frames_of w) m) chosen
elements_earlier w u g m is deeper place chosen = of_member (λ t x. elements_selected t (reading_by t (reading t deeper)) place x chosen) w u g m is

pub kind_earlier : (w u : World) → Grows w u → (m : MemberAt) → IsMember w m → (context : Context) (place : Place) (elements : List (Member × Index)) →
    kind_of_elements (table_in u) context place (member_of (frames_of u) m) elements ≡ kind_of_elements (table_in w) context place (member_of (frames_of w) m) elements
kind_earlier w u g m is context place elements = of_member (λ t x. kind_of_elements t context place x elements) w u g m is

abbrev pub with_numbers : Kind → List ℕ → Dims → List Subscript → List Virtual → Outcome (ArrayNode × List Virtual)
with_numbers kind ns ds ss vs = Ok (Vars ns kind ds ss, vs)

-- what is made as the code makes it
pub made_as_put : (w v x : World) (answer : Outcome (ArrayNode × List Virtual)) (virtuals new : List VirtualAt) (elements : List (MemberAt × Index)) (common : Common) (vars : List ℕ) (dims : Dims) (subs : List Subscript) (handed : Dims × List Subscript) →
    answer ≡ Ok (
      Vars (numbers_behind (length (virtuals_seen (frames_of w) virtuals)) (virtual_elements common.place common.kind common.constant (elements_seen (frames_of v) elements))) common.kind handed.0 handed.1,
      virtuals_seen (frames_of w) virtuals ++ virtual_elements common.place common.kind common.constant (elements_seen (frames_of v) elements),
    ) →
    virtuals_seen (frames_of x) virtuals ≡ virtuals_seen (frames_of w) virtuals →
    elements_seen (frames_of x) elements ≡ elements_seen (frames_of v) elements →
    dims ≡ handed.0 → subs ≡ handed.1 →
    vars ≡ numbers_behind (length virtuals) (elements_as (frames_of x) common elements) →
    virtuals_seen (frames_of x) new ≡ virtuals_seen (frames_of x) virtuals ++ elements_as (frames_of x) common elements →
    answer ≡ Ok (Vars vars common.kind dims subs, virtuals_seen (frames_of x) new)
made_as_put w v x answer virtuals new elements common vars dims subs handed is older same few many numbered put =
    is
    ∙ (ap (λ es. with_numbers common.kind (numbers_behind (length (virtuals_seen (frames_of w) virtuals)) (virtual_elements common.place common.kind common.constant es)) handed.0 handed.1 (virtuals_seen (frames_of w) virtuals ++ virtual_elements common.place common.kind common.constant es)) (sym same)
    ∙ (ap (λ vs. with_numbers common.kind (numbers_behind (length vs) (elements_as (frames_of x) common elements)) handed.0 handed.1 (vs ++ elements_as (frames_of x) common elements)) (sym older)
    ∙ (ap (λ n. with_numbers common.kind (numbers_behind n (elements_as (frames_of x) common elements)) handed.0 handed.1 (virtuals_seen (frames_of x) virtuals ++ elements_as (frames_of x) common elements)) (length-map virtuals (virtual_seen (frames_of x)))
    ∙ (ap (λ ns. with_numbers common.kind ns handed.0 handed.1 (virtuals_seen (frames_of x) virtuals ++ elements_as (frames_of x) common elements)) (sym numbered)
    ∙ (ap (λ vs. with_numbers common.kind vars handed.0 handed.1 vs) (sym put)
    ∙ (ap (λ ds. with_numbers common.kind vars ds handed.1 (virtuals_seen (frames_of x) new)) (sym few)
    ∙ ap (λ ss. with_numbers common.kind vars dims ss (virtuals_seen (frames_of x) new)) (sym many)))))))

name_made : (w : World) (site : Site) (place : Place) (reference : ReferenceOf Expr) (it : Named) (before : List Virtual) → named (table_in w) (scope_of w site) (as_reference (part_in w site) reference) ≡ Ok it →
    made_name (table_in w) (ask_of w site) (scope_of w site) site.context place (as_reference (part_in w site) reference) before ≡ made_named (table_in w) (ask_of w site) site.context place it before
name_made w site place reference it before found = rw found refl

-- what identifiers find, as it is made
pub named_components : (w u : World) → Grows w u → (site : Site) → IsFrame w site.at.now.frame.0 → (place : Place) (reference : ReferenceOf Expr) (names : List Name) (virtuals : List VirtualAt) → AreThere w virtuals →
    named (table_in w) (scope_of w site) (as_reference (part_in w site) reference) ≡ Ok (Components (names_seen (part_in w site) (frames_of u) names)) →
    made_named (table_in u) (ask_of u site) site.context place (Components (names_seen (part_in u site) (frames_of u) names)) (virtuals_seen (frames_of u) virtuals)
    ≡ made_name (table_in w) (ask_of w site) (scope_of w site) site.context place (as_reference (part_in w site) reference) (virtuals_seen (frames_of w) virtuals)
named_components w u g site frame place reference names virtuals are found =
    ap (λ t. made_named t (reading t site.left) site.context place (Components (names_seen (part_in u site) (frames_of u) names)) (virtuals_seen (frames_of u) virtuals)) (table_later w u g)
    ∙ (ap (λ (f : Expr → Part). made_named (table_in w) (ask_of w site) site.context place (Components (names_seen f (frames_of u) names)) (virtuals_seen (frames_of u) virtuals)) (same_parts w u site g frame)
    ∙ (ap (λ vs. made_named (table_in w) (ask_of w site) site.context place (Components (names_seen (part_in w site) (frames_of u) names)) vs) (same_virtuals w u g virtuals are)
    ∙ sym (name_made w site place reference (Components (names_seen (part_in w site) (frames_of u) names)) (virtuals_seen (frames_of w) virtuals) found)))

pub named_other : (w u : World) → Grows w u → (site : Site) (place : Place) (reference : ReferenceOf Expr) (found : FoundAt) (at : Place) (answer : Result ArrayNode Stop) (virtuals : List VirtualAt) → AreThere w virtuals →
    named (table_in w) (scope_of w site) (as_reference (part_in w site) reference) ≡ Ok (Found_at (found_in (frames_of u) found) at) →
    Gives answer (made_found (table_in u) at (found_in (frames_of u) found)) →
    IsMade u answer virtuals (made_name (table_in w) (ask_of w site) (scope_of w site) site.context place (as_reference (part_in w site) reference) (virtuals_seen (frames_of w) virtuals))
named_other w u g site place reference found at answer virtuals are is h =
    made_as u answer virtuals _ _
    (ap (λ t. and_then (made_found t at (found_in (frames_of u) found)) (λ a. Ok (a, virtuals_seen (frames_of u) virtuals))) (table_later w u g)
    ∙ (ap (λ (vs : List Virtual). and_then {B = ArrayNode × List Virtual} (made_found (table_in w) at (found_in (frames_of u) found)) (λ a. Ok (a, vs))) (same_virtuals w u g virtuals are)
    ∙ sym (name_made w site place reference (Found_at (found_in (frames_of u) found) at) (virtuals_seen (frames_of w) virtuals) is)))
    (given_made u answer virtuals (made_found (table_in u) at (found_in (frames_of u) found)) h)
