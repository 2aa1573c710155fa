-- Frames that are only added leave components and virtual variables as they are.
use Rattle.std.proofs.Common.{◌≡◌, ℕ, zero, suc, ◌+◌, Bool, List, [], ◌∷◌, ◌++◌, length, Some, Ok, refl, ap, sym, ◌∙◌, append_assoc, length-append, arith}
use Rattle.std.specs.Prelude.{slice_get}
use Rattle.std.proofs.lemmas.List.{append-nil}
use Rattle.mo_scope.specs.Frames.{Frame}
use Rattle.mo_scope.specs.Rows.{table_of}
use Rattle.mo_scope.specs.Sights.{member_seen}
use Rattle.mo_scope.specs.Worlds.{World, Grows, IsFrame, frames_of, table_in}
use Rattle.mo_scope.specs.declared.row.Member.{Member as MemberAt}
use Rattle.mo_scope.proofs.Numbered.{frames_stay}
use Rattle.mo_names.specs.Sights.{IsMember, member_of}
use Rattle.mo_names.proofs.Later.{is_member_later, member_later}
use Rattle.mo_typing.specs.Dims.{Dims}
use Rattle.mo_values.specs.Scalars.{Known}
use Rattle.mo_eval.specs.declared.virtuals.Element.{Element as ElementAt}
use Rattle.mo_eval.specs.declared.virtuals.Virtual.{Virtual as VirtualAt}
use Rattle.mo_eval.specs.declared.virtuals.Virtual.TheVariants.{Component, Division as division_at}
use Rattle.mo_eval.specs.Virtuals.{Component_element, Division}
use Rattle.mo_eval.specs.Components.{binding_of}
use Rattle.mo_eval.specs.declared.reader.Bound.{Bound}
use Rattle.mo_eval.specs.declared.reader.KeptBinding.{KeptBinding}
use Rattle.mo_eval.specs.declared.reader.KeptDims.{KeptDims}
use Rattle.mo_eval.specs.declared.reader.KeptThere.{KeptThere}
use Rattle.mo_eval.specs.declared.reader.KeptValue.{KeptValue}
use Rattle.mo_eval.specs.declared.reader.Reader.{Reader}
use Rattle.mo_eval.specs.Values.{component_dims, resolved_for_value, there_of, value_of_element}
use Rattle.mo_eval.specs.Seen.{AreThere, element_seen, virtuals_seen}
use Rattle.mo_eval.specs.Keeping.{AreDimsKept, IsBinding, IsBindingKept, IsKept, IsThereKept, IsValueKept}

pub grows_still : (world : World) → Grows world world
grows_still world = record { files = refl; more = []; entries = sym (append-nil world.entries) }

pub grows_on : (a b c : World) → Grows a b → Grows b c → Grows a c
grows_on a b c ab bc = record {
  files = bc.files ∙ ab.files;
  more = ab.more ++ bc.more;
  entries = bc.entries ∙ (ap (λ xs. xs ++ bc.more) ab.entries ∙ append_assoc a.entries ab.more bc.more);
}

pub same_table : (old new : World) → Grows old new → table_in new ≡ table_in old
same_table old new grows = ap table_of grows.files

pub frame_stays : (old new : World) (n : ℕ) → Grows old new → IsFrame old n → IsFrame new n
frame_stays old new n grows is = let counted = ap length grows.entries ∙ length-append old.entries grows.more in omega arith

-- an element of a component whose frame is older
pub same_element : (old new : World) → Grows old new → (element : ElementAt) → IsMember old element.member →
    element_seen (frames_of new) element ≡ element_seen (frames_of old) element
same_element old new grows element is =
    ap (λ frame. record {
      member = record {
        name = (member_seen element.member).name;
        home = frame;
        item = (member_seen element.member).item;
        hidden = (member_seen element.member).hidden;
        declares = (member_seen element.member).declares;
      };
      index = element.index;
      kind = element.kind;
      place = element.place;
      constant = element.constant;
    })
    (frames_stay old new grows element.member.home.0 is.home)

virtuals_alike : (F G : List Frame) (virtuals : List VirtualAt) → ((k : ℕ) (element : ElementAt) → slice_get virtuals k ≡ Some (Component element) → element_seen F element ≡ element_seen G element) →
    virtuals_seen F virtuals ≡ virtuals_seen G virtuals
virtuals_alike F G [] alike = refl
virtuals_alike F G (Component element ∷ virtuals) alike =
    ap (λ one. Component_element one ∷ virtuals_seen F virtuals) (alike zero element refl)
    ∙ ap (λ others. Component_element (element_seen G element) ∷ others) (virtuals_alike F G virtuals (λ k one at. alike (suc k) one at))
virtuals_alike F G (division_at place function left right ∷ virtuals) alike =
    ap (λ others. Division place function left right ∷ others) (virtuals_alike F G virtuals (λ k one at. alike (suc k) one at))

pub member_still : (old new : World) → Grows old new → (member : MemberAt) → IsMember old member → IsMember new member
member_still old new grows member is = is_member_later old new member grows is

-- variables of a world that has grown
pub same_virtuals : (old new : World) → Grows old new → (virtuals : List VirtualAt) → AreThere old virtuals → virtuals_seen (frames_of new) virtuals ≡ virtuals_seen (frames_of old) virtuals
same_virtuals old new grows virtuals are = virtuals_alike (frames_of new) (frames_of old) virtuals (λ k element at. same_element old new grows element (are.each k element at))

pub there_still : (old new : World) → Grows old new → (virtuals : List VirtualAt) → AreThere old virtuals → AreThere new virtuals
there_still old new grows virtuals are = record { each = λ k element at. member_still old new grows element.member (are.each k element at) }

-- what elements and components have
pub value_still : (old new : World) → Grows old new → (left : ℕ) (element : ElementAt) → IsMember old element.member → (known : Known) →
    value_of_element (table_in old) left (element_seen (frames_of old) element) ≡ Ok known → value_of_element (table_in new) left (element_seen (frames_of new) element) ≡ Ok known
value_still old new grows left element is known told =
    ap (λ element. value_of_element (table_in new) left element) (same_element old new grows element is)
    ∙ (ap (λ table. value_of_element table left (element_seen (frames_of old) element)) (same_table old new grows) ∙ told)

pub is_there_still : (old new : World) → Grows old new → (left : ℕ) (member : MemberAt) → IsMember old member → (there : Bool) →
    there_of (table_in old) left (member_of (frames_of old) member) ≡ Ok there → there_of (table_in new) left (member_of (frames_of new) member) ≡ Ok there
is_there_still old new grows left member is there told =
    ap (λ member. there_of (table_in new) left member) (member_later old new member grows is)
    ∙ (ap (λ table. there_of table left (member_of (frames_of old) member)) (same_table old new grows) ∙ told)

pub dims_still : (old new : World) → Grows old new → (left : ℕ) (member : MemberAt) → IsMember old member → (dims : Dims) →
    component_dims (table_in old) left (member_of (frames_of old) member) ≡ Ok dims → component_dims (table_in new) left (member_of (frames_of new) member) ≡ Ok dims
dims_still old new grows left member is dims told =
    ap (λ member. component_dims (table_in new) left member) (member_later old new member grows is)
    ∙ (ap (λ table. component_dims table left (member_of (frames_of old) member)) (same_table old new grows) ∙ told)

pub binding_still : (old new : World) → Grows old new → (left : ℕ) (member : MemberAt) → IsMember old member → (bound : Bound) → IsBinding old left member bound → IsBinding new left member bound
binding_still old new grows left member is bound one = record {
  there = there_still old new grows bound.resolved.virtuals one.there;
  layers = one.layers;
  is = λ index picked at.
      ap (λ table. resolved_for_value table left picked.scope picked.value) (same_table old new grows)
      ∙ (one.is index picked
      (sym (ap (λ one. binding_of (table_in new) one index) (member_later old new member grows is) ∙ ap (λ table. binding_of table (member_of (frames_of old) member) index) (same_table old new grows)) ∙ at)
      ∙ ap (λ virtuals. Ok (record { expression = bound.resolved.expression; virtuals = virtuals })) (sym (same_virtuals old new grows bound.resolved.virtuals one.there)));
}

-- what a reader keeps
pub kept_still : (old new : World) → Grows old new → (reader : Reader) → IsKept old reader → IsKept new reader
kept_still old new grows reader is = record {
  values = λ k kept at. value_kept_still kept (is.values k kept at);
  conditions = λ k kept at. there_kept_still kept (is.conditions k kept at);
  dims = λ k kept at. dims_kept_still kept (is.dims k kept at);
  bindings = λ k kept at. binding_kept_still kept (is.bindings k kept at);
}
  where
    value_kept_still : (kept : KeptValue) → IsValueKept old kept → IsValueKept new kept
    value_kept_still kept one = record {
      member = member_still old new grows kept.element.member one.member;
      is = value_still old new grows kept.height kept.element one.member kept.known one.is;
    }

    there_kept_still : (kept : KeptThere) → IsThereKept old kept → IsThereKept new kept
    there_kept_still kept one = record {
      member = member_still old new grows kept.member one.member;
      is = is_there_still old new grows kept.left kept.member one.member kept.there one.is;
    }

    dims_kept_still : (kept : KeptDims) → AreDimsKept old kept → AreDimsKept new kept
    dims_kept_still kept one = record {
      member = member_still old new grows kept.member one.member;
      are = dims_still old new grows kept.left kept.member one.member kept.dims one.are;
    }

    binding_kept_still : (kept : KeptBinding) → IsBindingKept old kept → IsBindingKept new kept
    binding_kept_still kept one = record {
      member = member_still old new grows kept.member one.member;
      is = λ resolved e. binding_still old new grows kept.left kept.member one.member resolved (one.is resolved e);
    }
