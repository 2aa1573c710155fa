pub mod SoundKinds
