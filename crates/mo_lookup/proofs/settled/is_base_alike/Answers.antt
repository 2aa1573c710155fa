-- Where one of the tests fails, nothing is told.
use Rattle.mo_lookup.proofs.settled.is_base_alike.Goals as goal

pub returns-then-is_none-clause-row : goal.returns-then-is_none-clause-row
returns-then-is_none-clause-row c = λ no. absurd cc

pub returns-then-is_none-clause-unowned : goal.returns-then-is_none-clause-unowned
returns-then-is_none-clause-unowned c = λ no. absurd cc

pub returns-then-is_none-clause-sources : goal.returns-then-is_none-clause-sources
returns-then-is_none-clause-sources c = λ no. absurd cc

pub returns-then-is_none-clause-elsewhere : goal.returns-then-is_none-clause-elsewhere
returns-then-is_none-clause-elsewhere c = λ no. absurd cc

pub returns-then-not-is_unowned-clause-row : goal.returns-then-not-is_unowned-clause-row
returns-then-not-is_unowned-clause-row c = λ no. absurd cc

pub returns-then-not-is_unowned-clause-unowned : goal.returns-then-not-is_unowned-clause-unowned
returns-then-not-is_unowned-clause-unowned c = λ no. absurd cc

pub returns-then-not-is_unowned-clause-sources : goal.returns-then-not-is_unowned-clause-sources
returns-then-not-is_unowned-clause-sources c = λ no. absurd cc

pub returns-then-not-is_unowned-clause-elsewhere : goal.returns-then-not-is_unowned-clause-elsewhere
returns-then-not-is_unowned-clause-elsewhere c = λ no. absurd cc

pub returns-then-len-clause-row : goal.returns-then-len-clause-row
returns-then-len-clause-row c = λ no. absurd cc

pub returns-then-len-clause-unowned : goal.returns-then-len-clause-unowned
returns-then-len-clause-unowned c = λ no. absurd cc

pub returns-then-len-clause-sources : goal.returns-then-len-clause-sources
returns-then-len-clause-sources c = λ no. absurd cc

pub returns-then-len-clause-elsewhere : goal.returns-then-len-clause-elsewhere
returns-then-len-clause-elsewhere c = λ no. absurd cc

pub returns-clause-elsewhere : goal.returns-clause-elsewhere
returns-clause-elsewhere c = c.begins_elsewhere.ensures

pub is_unowned-requires : goal.is_unowned-requires
is_unowned-requires c = c.requires.base

pub begins_elsewhere-requires : goal.begins_elsewhere-requires
begins_elsewhere-requires c = c.requires.frame
