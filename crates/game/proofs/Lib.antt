-- Any arena: won and lost decided by a test; two arenas won and lost together
pub mod Solve
pub mod Simulate
pub mod AdviceTied
-- The arena of a rule, of the one by which a fetch replaces an element, and the game on words
pub mod RuleGame
pub mod AdviceRule
pub mod HeldGame
pub mod SpelledGame
pub mod Answers
pub mod Determined
pub mod Before
-- The source's own game (SPEC 10)
pub mod ContextFree
