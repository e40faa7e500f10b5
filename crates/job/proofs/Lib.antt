-- Lists of refusals
pub mod Refusals
pub mod RefusalNumbers
pub mod FormRules
-- What an accepted file is
pub mod Accepted
pub mod LoadedExactly
-- One file for six bodies
pub mod OneFile
-- The loader's parts in their order
pub mod LoadLaws
pub mod RecordLaws
