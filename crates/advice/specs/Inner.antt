pub mod WonFrom
