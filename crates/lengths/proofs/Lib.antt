-- Forests and their sizes, and how many members a table has
pub mod LeadsLaws
pub mod CountLaws
-- The search: one round, its beginning, and its end
pub mod RoundLaws
pub mod BegunLaws
pub mod SearchLaws
