-- The contents
pub mod ContentLaws
-- A file and its bodies
pub mod SplitFile
pub mod MadeFile
