-- The beginning, and rows that are settled, used and put aside
pub mod StayingLaws
pub mod InsideTurns
pub mod SettlingLaws
pub mod UsingLaws
pub mod ForgettingLaws
