use Rattle.mo_json.proofs.SameData.{same_data}
use Rattle.mo_json.proofs.laws.one_value.Goals as goal

pub returns : goal.returns
returns c = same_data
