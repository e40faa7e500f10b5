pub mod CallsTaken
pub mod Loaded
