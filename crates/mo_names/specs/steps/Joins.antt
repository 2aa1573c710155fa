-- Steps of joining the elements of bases.
use Rattle.std.specs.Prelude.{Bool, ◌||◌, List, [], ◌∷◌, ◌++◌, map, Option}
use Rattle.std.specs.List.{list_any}
use Rattle.mo_scope.specs.Frames.{Frame, Member, is_same_base}
use Rattle.mo_scope.specs.Lookup.{Inherited, Walked, final_frame, hidden_if, is_counted, not_counted, or_leaf, through_base, with_members}
use Rattle.mo_syntax.specs.Outcome.{Outcome}

-- whether a frame is the innermost one of some base
abbrev pub is_among : List (List Frame) → Frame → Bool
is_among bases frame = list_any (λ base. is_same_base (final_frame base) frame) bases

-- whether one of the base frames on the way to an element is among the bases before
abbrev pub counts_through : List (List Frame) → Inherited → Bool
counts_through bases inherited = is_counted bases inherited.through

abbrev pub base_behind : Frame → List Frame → List Frame
base_behind base through = base ∷ through

abbrev pub member_hidden : Bool → Member → Member
member_hidden hidden member = record {
  name = member.name;
  home = member.home;
  item = member.item;
  hidden = member.hidden || hidden;
  declares = member.declares;
}

abbrev pub inherited_behind : Bool → Frame → Inherited → Inherited
inherited_behind hidden base inherited = hidden_if hidden (through_base base inherited)

-- what a base adds to the elements before, whose bases are known
abbrev pub base_added : Bool → Frame → List (List Frame) → Walked → Walked
base_added hidden base before walked = record {
  members = not_counted (counts_through before) (map (inherited_behind hidden base) walked.members);
  bases = not_counted (is_counted before) ((base ∷ []) ∷ map (base_behind base) walked.bases);
  sections = not_counted (is_counted before) (map (base_behind base) walked.sections ++ (base ∷ []) ∷ []);
  leaf = walked.leaf;
}

-- bases and their sections behind those before; the first leaf stays
abbrev pub bases_added : List (List Frame) → List (List Frame) → Option Frame → Walked → Walked
bases_added bases sections leaf so_far = record {
  members = so_far.members;
  bases = so_far.bases ++ bases;
  sections = so_far.sections ++ sections;
  leaf = or_leaf so_far.leaf leaf;
}

-- all that is added behind what is before
abbrev pub all_added : Walked → Walked → Outcome Walked
all_added added so_far = with_members added.members (bases_added added.bases added.sections added.leaf so_far)
