-- Byte order: of forests and their words, and the first word with a property; the first of the shortest replies exists
pub mod OrderLaws
pub mod FirstWord
pub mod FirstExists
-- Loops: stops, goals of an inside and of what follows an element
pub mod StopLaws
pub mod InsideLaws
pub mod ChooseLaws
pub mod OnwardLaws
-- Least lengths by forests; goals, of an element's inside and of what follows it
pub mod LengthLaws
pub mod WantedLaws
-- How a forest is written; from forests to replies
pub mod SpelledLaws
pub mod SpellLaws
pub mod LeastOutsideLaws
pub mod FirstLaws
