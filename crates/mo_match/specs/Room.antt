-- The room in a work space.
use Rattle.std.specs.Prelude.{◌≡◌, ◌≤◌, length}
use Rattle.std.specs.Vec.{vec_capacity}
use Rattle.std.proofs.Common.{suc}
use Rattle.mo_match.specs.Results.{Results}
use Rattle.mo_match.specs.declared.work.Work.TheInside.{Inside}

abbrev pub results : Inside → Results
results a = record {
  equations = a.equations;
  unknowns = a.unknowns;
  entries = a.entries;
  assignment = a.matching.pairs.items;
  deficient = a.deficit.equations.items;
  mentioned = a.deficit.unknowns.items;
  loose = a.loose.items;
  c = a.offsets.c.items;
  d = a.offsets.d.items;
  pairs = a.offsets.pairs.items;
  reasons = a.reasons.items;
}

-- the lists of the searches have their lengths, and the others room for all that can come
pub record HasRoom (a : Inside) : Type 0 where
  pub assignment : length a.matching.pairs.items ≡ a.equations
  pub owner : length a.matching.owner.items ≡ suc a.unknowns
  pub queue : length a.search.queue.items ≡ a.equations
  pub parent : length a.search.parent.items ≡ a.equations
  pub mark : length a.search.mark.items ≡ a.equations
  pub reached : length a.reached.items ≡ suc a.unknowns
  pub order : length a.order.items ≡ a.unknowns
  pub last : length a.last.items ≡ suc a.unknowns
  pub before : length a.before.items ≡ a.entries
  pub row_of : length a.row_of.items ≡ a.entries
  pub deficient : a.equations ≤ vec_capacity a.deficit.equations
  pub mentioned : a.unknowns ≤ vec_capacity a.deficit.unknowns
  pub loose : a.unknowns ≤ vec_capacity a.loose
  pub c : a.equations ≤ vec_capacity a.offsets.c
  pub d : a.unknowns ≤ vec_capacity a.offsets.d
  pub pairs : a.equations ≤ vec_capacity a.offsets.pairs
  pub reasons : a.equations ≤ vec_capacity a.reasons
