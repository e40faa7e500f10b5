pub mod MoveRefusals
pub mod FitLaws
pub mod MoveLaws
pub mod StatelessLaws
pub mod SoundPlay
pub mod EntryLaws
