pub mod Below
pub mod Eaching
pub mod ElementLaw
pub mod Ended
pub mod AllDeclared
pub mod Along
pub mod ArrayBindings
pub mod ResolvedOnce
pub mod SharedExpressions
pub mod Answering
pub mod Arguments
pub mod ByCount
pub mod ByName
pub mod Bare
pub mod Behind
pub mod Declares
pub mod Around
pub mod InTurn
pub mod Asking
pub mod Replaced
pub mod Filled
pub mod Folds
pub mod Joined
pub mod Making
pub mod Knowing
pub mod Places
pub mod Owners
pub mod Prefixed
pub mod Ranged
pub mod Staying
pub mod Tabled
pub mod Turning
pub mod VariablesIn
pub mod Weighed
mod EndLemmas
pub mod EachForm
mod Keeping
mod Numbers
mod Scalars
pub mod SoundLemmas
mod rows
pub mod Replacings
pub mod Numbered
pub mod Anywhere
pub mod Lists
pub mod Sided
pub mod Formed
pub mod Located
pub mod Parted
pub mod Deciding
pub mod Depths
pub mod Branched
pub mod Flowing
pub mod Oversize
pub mod Expanding
pub mod Checked
pub mod Full
