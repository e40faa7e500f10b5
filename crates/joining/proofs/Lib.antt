-- Any arena: what is forced and what cannot be avoided, one strategy after another, joining
pub mod EndLaws
pub mod InTurn
pub mod JoinedArena
-- Words set end to end
pub mod Parts
-- Any rule of play, any arena tied to a rule's, the game on words, files
pub mod JoinedRule
pub mod JoinedTied
pub mod JoinedGame
pub mod JoinedFile
-- A cut within an element
pub mod OpenCut
