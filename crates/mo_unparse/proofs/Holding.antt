-- What holds of the values that tokens spell, of the grammar's laws.
pub use Rattle.mo_grammar.proofs.Holding.{Fact, HoldsEach, HoldsOr, HoldsBy, each_follows, all_left, all_right, holds_by, spelled_holds}
