-- The source's own game (SPEC 10), specs/ContextFree.antt: its winning and losing are those of the verdict, by the theorems of Replay.antt.
pub mod Focus
pub mod Ahead
pub mod Depths
pub mod Juliet
pub mod Romeo
pub mod Replay
